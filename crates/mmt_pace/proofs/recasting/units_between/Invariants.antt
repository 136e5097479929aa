use Rattle.std.proofs.Common.{◌≡◌, List, length, get_or}
use Rattle.mmt_cast.specs.Casting.{has_unit}
use Rattle.mmt_model.specs.Carrying.{no_sent_unit}
use Rattle.mmt_model.specs.declared.casts.Sent.{Sent}
use Rattle.mmt_pace.proofs.Between.{made_to}
use Rattle.mmt_pace.specs.Recast.{unit_in_packets}
use Rattle.mmt_pace.specs.Spanned.{AreSpans}
use Rattle.mmt_pace.proofs.recasting.units_between.Given as goal

abbrev pub invariant-loop-n : goal.invariant-loop-n
invariant-loop-n l = (packets : List Sent) → AreSpans (length l.fn.units) has_unit packets l.fn.spans → l.between.items ≡ made_to (λ i. unit_in_packets packets i (get_or l.fn.units i no_sent_unit)) l.n
