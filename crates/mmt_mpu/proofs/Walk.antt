-- Going from unit to unit.
use Rattle.std.proofs.Common.{◌≡◌, ℕ, zero, suc, ◌+◌, ◌-◌, ◌<◌, ◌≤◌, Bool, true, false, leb, ◌&&◌, List, [], ◌∷◌, length, Some, None, Result, Ok, Err, refl, ap, ◌∙◌, arith}
use Rattle.std.specs.Int.{w8, w16, w32}
use Rattle.mmt_base.specs.declared.refused.Refused.{Refused}
use Rattle.mmt_fields.specs.Reading.{number_at, bytes_at, check}
use Rattle.mmt_fields.proofs.Codec.{bind_ok, ok_is}
use Rattle.mmt_fields.proofs.Numbers.{number_leaves, bytes_leave}
use Rattle.mmt_mpu.specs.declared.types.MpuWhy.{MpuWhy}
use Rattle.mmt_mpu.specs.declared.types.MpuWhy.TheVariants as why
use Rattle.mmt_mpu.specs.Spelling.{UnitHead, UnitValue, head_length, end_of}
use Rattle.mmt_mpu.specs.Reading.{head_at, unit_at, Walk, go_on, walk, all_units}

abbrev pub HeadRest : Type 0
HeadRest = UnitHead × List ℕ

abbrev pub UnitRest : Type 0
UnitRest = UnitValue × List ℕ

pub head_leaves : (timed : Bool) (at : ℕ) (bytes : List ℕ) (x : HeadRest) → head_at timed at bytes ≡ Ok x → length x.1 + head_length timed ≡ length bytes
unfolding head_at
head_leaves true at bytes x e =
    let a = bind_ok (number_at w32 bytes at why.Short) _ x e in
    let b = bind_ok (number_at w32 a.0.1 (at + 4) why.Short) _ x a.2 in
    let c = bind_ok (number_at w32 b.0.1 (at + 8) why.Short) _ x b.2 in
    let p = bind_ok (number_at w8 c.0.1 (at + 12) why.Short) _ x c.2 in
    let d = bind_ok (number_at w8 p.0.1 (at + 13) why.Short) _ x p.2 in
    let is : length d.0.1 ≡ length x.1 = ap (λ (y : HeadRest). length y.1) (ok_is _ x d.2) in
    omega (arith, number_leaves w32 bytes at why.Short a.0 a.1, number_leaves w32 a.0.1 (at + 4) why.Short b.0 b.1, number_leaves w32 b.0.1 (at + 8) why.Short c.0 c.1, number_leaves w8 c.0.1 (at + 12) why.Short p.0 p.1, number_leaves w8 p.0.1 (at + 13) why.Short d.0 d.1)
head_leaves false at bytes x e =
    let a = bind_ok (number_at w32 bytes at why.Short) _ x e in
    let is : length a.0.1 ≡ length x.1 = ap (λ (y : HeadRest). length y.1) (ok_is _ x a.2) in
    omega (arith, number_leaves w32 bytes at why.Short a.0 a.1)

pub unit_shorter : (timed : Bool) (at : ℕ) (bytes : List ℕ) (x : UnitRest) → unit_at timed at bytes ≡ Ok x → length x.1 < length bytes
unfolding unit_at
unit_shorter timed at bytes x e =
    let a = bind_ok (number_at w16 bytes at why.Short) _ x e in
    let w = bind_ok (check (leb (head_length timed) a.0.0 && leb a.0.0 (length a.0.1)) at why.Overrun) _ x a.2 in
    let h = bind_ok (head_at timed (at + 2) a.0.1) _ x w.2 in
    let b = bind_ok (bytes_at (a.0.0 - head_length timed) h.0.1 (at + 2 + head_length timed) why.Short) _ x h.2 in
    let is : length b.0.1 ≡ length x.1 = ap (λ (y : UnitRest). length y.1) (ok_is _ x b.2) in
    omega (arith, number_leaves w16 bytes at why.Short a.0 a.1, head_leaves timed (at + 2) a.0.1 h.0 h.1, bytes_leave (a.0.0 - head_length timed) h.0.1 (at + 2 + head_length timed) why.Short b.0 b.1)

same_after : (r : Result UnitRest (Refused MpuWhy)) (f g : UnitRest → Walk) → ((u : UnitRest) → r ≡ Ok u → f u ≡ g u) → go_on r f ≡ go_on r g
same_after (Ok u) f g same = ap (λ (w : Walk). go_on (Ok u) (λ _. w)) (same u refl)
same_after (Err d) f g same = refl

-- more turns than bytes change nothing
fuel : (n m : ℕ) (timed : Bool) (at : ℕ) (bytes : List ℕ) → length bytes ≤ n → length bytes ≤ m → walk n timed at bytes ≡ walk m timed at bytes
unfolding walk
fuel zero zero timed at bytes p q = refl
fuel zero (suc m) timed at [] p q = refl
fuel zero (suc m) timed at (b ∷ bytes) p q = absurd (omega arith)
fuel (suc n) zero timed at [] p q = refl
fuel (suc n) zero timed at (b ∷ bytes) p q = absurd (omega arith)
fuel (suc n) (suc m) timed at [] p q = refl
fuel (suc n) (suc m) timed at (b ∷ bytes) p q =
    same_after (unit_at timed at (b ∷ bytes)) (λ u. walk n timed (end_of u.0) u.1) (λ u. walk m timed (end_of u.0) u.1) (λ u e.
    let short = unit_shorter timed at (b ∷ bytes) u e in
    fuel n m timed (end_of u.0) u.1 (omega arith) (omega arith))

pub step : (timed : Bool) (at : ℕ) (bytes : List ℕ) (u : UnitValue) (rest : List ℕ) → 0 < length bytes → unit_at timed at bytes ≡ Ok (u, rest)
    → all_units timed at bytes ≡ record { units = u ∷ (all_units timed (end_of u) rest).units; stop = (all_units timed (end_of u) rest).stop }
unfolding walk
step timed at [] u rest some e = absurd (omega arith)
step timed at (b ∷ bytes) u rest some e =
    let short = unit_shorter timed at (b ∷ bytes) (u, rest) e in
    rw e (ap (λ (w : Walk). go_on (Ok (u, rest)) (λ _. w)) (fuel (length bytes) (length rest) timed (end_of u) rest (omega arith) (omega arith)))

pub stopped : (timed : Bool) (at : ℕ) (bytes : List ℕ) (d : Refused MpuWhy) → 0 < length bytes → unit_at timed at bytes ≡ Err d → all_units timed at bytes ≡ record { units = []; stop = Some d }
unfolding walk
stopped timed at [] d some e = absurd (omega arith)
stopped timed at (b ∷ bytes) d some e = rw e refl

pub ended : (timed : Bool) (at : ℕ) (bytes : List ℕ) → length bytes ≡ 0 → all_units timed at bytes ≡ record { units = []; stop = None }
unfolding walk
ended timed at [] e = refl
ended timed at (b ∷ bytes) e = absurd (omega arith)

-- ---- the units alone, as an iterator goes

pub units_step : (timed : Bool) (at : ℕ) (bytes : List ℕ) (x : UnitRest) → unit_at timed at bytes ≡ Ok x → (all_units timed at bytes).units ≡ x.0 ∷ (all_units timed (end_of x.0) x.1).units
units_step timed at bytes x e =
    let short = unit_shorter timed at bytes x e in
    ap (λ (w : Walk). w.units) (step timed at bytes x.0 x.1 (omega arith) e)

pub units_err : (timed : Bool) (at : ℕ) (bytes : List ℕ) (d : Refused MpuWhy) → unit_at timed at bytes ≡ Err d → (all_units timed at bytes).units ≡ []
units_err timed at [] d e = ap (λ (w : Walk). w.units) (ended timed at [] refl)
units_err timed at (b ∷ bytes) d e = ap (λ (w : Walk). w.units) (stopped timed at (b ∷ bytes) d (omega arith) e)

pub units_none : (timed : Bool) (at : ℕ) (bytes : List ℕ) → length bytes ≡ 0 → (all_units timed at bytes).units ≡ []
units_none timed at bytes e = ap (λ (w : Walk). w.units) (ended timed at bytes e)

-- ---- the refusal alone, and how many units there are, as a loop goes

pub stop_step : (timed : Bool) (at : ℕ) (bytes : List ℕ) (x : UnitRest) → unit_at timed at bytes ≡ Ok x → (all_units timed at bytes).stop ≡ (all_units timed (end_of x.0) x.1).stop
stop_step timed at bytes x e =
    let short = unit_shorter timed at bytes x e in
    ap (λ (w : Walk). w.stop) (step timed at bytes x.0 x.1 (omega arith) e)

pub count_step : (timed : Bool) (at : ℕ) (bytes : List ℕ) (x : UnitRest) → unit_at timed at bytes ≡ Ok x → length (all_units timed at bytes).units ≡ length (all_units timed (end_of x.0) x.1).units + 1
count_step timed at bytes x e = ap length (units_step timed at bytes x e) ∙ omega arith

pub stop_err : (timed : Bool) (at : ℕ) (bytes : List ℕ) (d : Refused MpuWhy) → 0 < length bytes → unit_at timed at bytes ≡ Err d → (all_units timed at bytes).stop ≡ Some d
stop_err timed at bytes d some e = ap (λ (w : Walk). w.stop) (stopped timed at bytes d some e)

pub stop_none : (timed : Bool) (at : ℕ) (bytes : List ℕ) → length bytes ≡ 0 → (all_units timed at bytes).stop ≡ None
stop_none timed at bytes e = ap (λ (w : Walk). w.stop) (ended timed at bytes e)

pub count_none : (timed : Bool) (at : ℕ) (bytes : List ℕ) → length bytes ≡ 0 → length (all_units timed at bytes).units ≡ 0
count_none timed at bytes e = ap length (units_none timed at bytes e)
