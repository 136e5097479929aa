use Rattle.std.proofs.Common.{◌≡◌, ℕ, ◌<◌, ◌&&◌, nat_le, nat_lt, max, cond, length, get_or}
use Rattle.mmt_expect.proofs.raising.raise.Given as goal

abbrev pub invariant-loop-place : goal.invariant-loop-place
invariant-loop-place l = record {
  long : length l.numbers ≡ length l.fn.numbers;
  each : (u : ℕ) → u < length l.fn.numbers → get_or l.numbers u 0 ≡ cond (nat_le l.from u && nat_lt u l.place) (max (get_or l.fn.numbers u 0) l.least) (get_or l.fn.numbers u 0);
}
