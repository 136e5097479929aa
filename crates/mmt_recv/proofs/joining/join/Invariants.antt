use Rattle.std.proofs.Common.{◌≡◌, ◌+◌, ◌≤◌, ◌++◌, length, vec_len, vec_capacity}
use Rattle.mmt_model.specs.Units.{joined}
use Rattle.mmt_recv.proofs.joining.join.Given as goal

abbrev pub invariant-parts : goal.invariant-parts
invariant-parts l = record {
  items : l.message.items ++ joined l.parts.left ≡ joined l.fn.parts.left;
  room : vec_len l.message + length (joined l.parts.left) ≤ vec_capacity l.message;
}

abbrev pub decreases-parts : goal.decreases-parts
decreases-parts l = length l.parts.left
