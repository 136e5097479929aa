use Rattle.std.proofs.Common.{ap, sym, ◌∙◌, map, subst}
use Rattle.mmt_model.specs.Units.{units_of}
use Rattle.mmt_io.specs.Output.{only_written, Puts}
use Rattle.mmt_output.specs.Records.{amount_of, records}
use Rattle.mmt_output.proofs.Putting.{puts_nothing}
use Rattle.mmt_runs.specs.Reading.{heard}
use Rattle.mmt_recv.proofs.Still.{none_due}
use Rattle.mmt_recv.proofs.advancing.hand_out_due.Goals as goal

pub returns-else-is_any_due-clause-put : goal.returns-else-is_any_due-clause-put
returns-else-is_any_due-clause-put g c = λ told.
    subst (λ ds. Puts (g.P.Port.history c.args.port.now) (g.P.Port.history c.args.port.now) (only_written (records ds)))
    (sym (none_due c.args.from.0 c.args.to.0 c.args.names.now.sample_base c.args.names.now.entries (units_of (map heard c.args.pool.now.kept)) (sym c.is_any_due.ensures ∙ c.if-is_any_due.false)))
    (puts_nothing (g.P.Port.history c.args.port.now))

pub returns-else-is_any_due-clause-counts : goal.returns-else-is_any_due-clause-counts
returns-else-is_any_due-clause-counts g c =
    c.nothing.ensures
    ∙ ap amount_of (sym (none_due c.args.from.0 c.args.to.0 c.args.names.now.sample_base c.args.names.now.entries (units_of (map heard c.args.pool.now.kept)) (sym c.is_any_due.ensures ∙ c.if-is_any_due.false)))
