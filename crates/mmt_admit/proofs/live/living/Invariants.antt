use Rattle.std.proofs.Common.{◌≡◌, ◌≤◌}
use Rattle.mmt_admit.proofs.Keys.{live_of}
use Rattle.mmt_admit.proofs.live.living.Given as goal

abbrev pub invariant-loop-m : goal.invariant-loop-m
invariant-loop-m l = (l.count ≡ live_of l.low l.high l.m l.cast.mpus) × (l.count ≤ l.m)
