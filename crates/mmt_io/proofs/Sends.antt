-- Calls that put out and do not read, one after another.
use Rattle.std.proofs.Common.{◌≡◌, ℕ, ◌≤◌, List, sym, subst, ◌∙◌, refl, le_refl, arith}
use Rattle.std.specs.Prelude.{Bool, IsTrue}
use Rattle.mmt_io.specs.Port.{OnlySends}

-- no call
pub sends_nothing : {P : Type 0} (tells : P → Bool) (left : P → List ℕ) (reads writes : P → ℕ) (a : P) → OnlySends tells left reads writes a a
sends_nothing tells left reads writes a = record { telling = refl; unread = λ told. refl; reads = refl; writes = le_refl _ }

-- one call and then another
pub sends_both : {P : Type 0} {tells : P → Bool} {left : P → List ℕ} {reads writes : P → ℕ} {a b c : P}
    → OnlySends tells left reads writes a b → OnlySends tells left reads writes b c → OnlySends tells left reads writes a c
sends_both first second = record {
  telling = second.telling ∙ first.telling;
  unread = λ told. second.unread (subst IsTrue (sym first.telling) told) ∙ first.unread told;
  reads = second.reads ∙ first.reads;
  writes = omega (arith, first.writes, second.writes);
}
