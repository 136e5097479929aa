-- The parts of a unit or message follow one another.
use Rattle.std.proofs.Common.{◌≡◌, ℕ, ◌+◌, ◌*◌, ◌<◌, ◌≤◌, ◌==◌, Bool, length, arith, refl, ap, ◌∙◌, if◌then◌else◌}
use Rattle.std.proofs.Math.Nat.{mul-le-mul_right}
use Rattle.std.proofs.lemmas.Bool.{eq-eqb, ne_eqb}
use Rattle.std.proofs.lemmas.Grind.{div_ceil_times}
use Rattle.mmt_frag.proofs.PartsJoined.{joined-parts, parts-enough}
use Rattle.mmt_frag.specs.Cuts.{part_length, parts}
use Rattle.mmt_frag.specs.Fragments.{part_role}
use Rattle.mmt_frag.specs.Laws.{CutsWithoutGap, FollowOn}
use Rattle.mmt_model.specs.Carrying.{role}
use Rattle.mmt_model.specs.declared.keys.Part.TheVariants as part

-- each part begins before the end
begins-below : (n limit k : ℕ) → 1 ≤ limit → k + 1 ≤ parts n limit → k * limit < n
begins-below n limit k some l =
    let m = mul-le-mul_right limit l in
    omega (arith, m, (div_ceil_times n limit (omega arith)).1)

-- the last one reaches it
reaches : (n limit k : ℕ) → 1 ≤ limit → k + 1 ≡ parts n limit → n ≤ k * limit + limit
reaches n limit k some e =
    let m = ap (λ c. c * limit) e in
    omega (arith, m, parts-enough n limit some)

-- and no other
before-end : (n limit k : ℕ) → 1 ≤ limit → k + 1 < parts n limit → k * limit + limit ≤ n
before-end n limit k some l =
    let b = begins-below n limit (k + 1) some (omega arith) in
    omega (arith, b)

pub whole-role : (k count : ℕ) → count ≡ 1 → part_role k count ≡ part.Whole
unfolding part_role
whole-role k count e = ap (λ (t : Bool). if t then part.Whole else role k count) (eq-eqb count 1 e)

pub several-role : (k count : ℕ) → 1 < count → part_role k count ≡ role k count
unfolding part_role
several-role k count l = ap (λ (t : Bool). if t then part.Whole else role k count) (ne_eqb count 1 (λ e. omega arith))

pub first-role : (count : ℕ) → role 0 count ≡ part.First
unfolding role
first-role count = refl

pub later-role : (k count : ℕ) → 0 < k → role k count ≡ (if k + 1 == count then part.Last else part.Middle)
unfolding role
later-role k count l = ap (λ (t : Bool). if t then part.First else (if k + 1 == count then part.Last else part.Middle)) (ne_eqb k 0 (λ e. omega arith))

pub follow-on : (limit n : ℕ) → 1 ≤ limit → 1 ≤ n → FollowOn n limit
unfolding part_length
follow-on limit n some more =
    record {
      first = omega arith;
      next = λ k l. omega (arith, before-end n limit k some l);
      last = λ k e. omega (arith, reaches n limit k some e, begins-below n limit k some (omega (arith, e)));
      full = λ k l. omega (arith, before-end n limit k some l);
      rest = λ k e. (omega (arith, begins-below n limit k some (omega (arith, e))), omega arith);
      whole = λ e. whole-role 0 (parts n limit) e;
      begins = λ l. several-role 0 (parts n limit) l ∙ first-role (parts n limit);
      ends = λ k l e. several-role k (parts n limit) l ∙ (later-role k (parts n limit) (omega (arith, l, e)) ∙ ap (λ (t : Bool). if t then part.Last else part.Middle) (eq-eqb (k + 1) (parts n limit) e));
      inner = λ k above below. several-role k (parts n limit) (omega arith) ∙ (later-role k (parts n limit) above ∙ ap (λ (t : Bool). if t then part.Last else part.Middle) (ne_eqb (k + 1) (parts n limit) (λ e. omega arith)));
    }

pub cuts-without-gap : CutsWithoutGap
cuts-without-gap limit some = ((λ n more. follow-on limit n some more), (λ bytes. joined-parts limit bytes (parts (length bytes) limit) (parts-enough (length bytes) limit some)))
