use Rattle.std.proofs.Common.{◌∙◌}
use Rattle.mmt_signals.proofs.Sample.{fits_with, names_with}
use Rattle.mmt_signals.proofs.tests.table_of_two.Goals as goal

pub put_pa-requires-clause-fits : goal.put_pa-requires-clause-fits
put_pa-requires-clause-fits c = fits_with c.in_ok-programme.programme c.in_ok-programme-2.field-0 c.in_ok-programme.ensures c.in_ok-programme-2.ensures

pub put_pa-requires-clause-names : goal.put_pa-requires-clause-names
put_pa-requires-clause-names c =
    names_with c.in_ok-programme.programme c.in_ok-programme-2.field-0 c.as_slice.result.now c.in_ok-programme.ensures c.in_ok-programme-2.ensures (c.as_slice.ensures ∙ c.in_ok-names.ensures)
