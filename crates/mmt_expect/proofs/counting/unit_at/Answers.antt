use Rattle.std.proofs.Common.{List, get_or, ap, ◌∙◌}
use Rattle.mmt_expect.proofs.Defaults.{same-item}
use Rattle.mmt_model.specs.Carrying.{no_sent_unit, sent_unit}
use Rattle.mmt_model.specs.declared.casts.SentUnit.{SentUnit}
use Rattle.mmt_expect.proofs.counting.unit_at.Goals as goal

pub returns : goal.returns
unfolding sent_unit
returns c =
    ap (λ (xs : List SentUnit). get_or xs c.args.unit _) c.as_slice.ensures ∙ same-item c.args.cast.now.units c.args.unit _ no_sent_unit c.requires
