use Rattle.std.proofs.Common.{◌≡◌, drop}
use Rattle.mmt_model.specs.Delivery.{from_heard}
use Rattle.mmt_expect.proofs.tuning.first_heard.Given as goal

abbrev pub invariant-loop-i : goal.invariant-loop-i
invariant-loop-i l = from_heard l.full_every l.list ≡ from_heard l.full_every (drop l.i l.list)
