use Rattle.std.proofs.Common.{◌≡◌, drop}
use Rattle.mmt_model.specs.Delivery.{from_first}
use Rattle.mmt_model.specs.Received.{tunes_at}
use Rattle.mmt_expect.proofs.tuning.first_parameters.Given as goal

abbrev pub invariant-loop-i : goal.invariant-loop-i
invariant-loop-i l = from_first (tunes_at l.cast) l.list ≡ from_first (tunes_at l.cast) (drop l.i l.list)
