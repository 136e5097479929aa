use Rattle.std.proofs.Common.{◌≡◌, ◌+◌, ◌*◌, ◌≤◌, drop}
use Rattle.mmt_frag.specs.Cuts.{fitting}
use Rattle.mmt_frag.proofs.cutting.fitting.Given as goal

abbrev pub invariant-loop-length : goal.invariant-loop-length
invariant-loop-length l = (fitting l.header l.limit l.lengths ≡ l.count + fitting l.header l.room (drop l.length-index l.lengths)) × (2 * l.count + l.room ≤ l.limit)
