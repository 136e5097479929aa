-- What a writer's calls append is read back.
use Rattle.std.proofs.Common.{◌≡◌, ℕ, ◌+◌, ◌^◌, ◌<◌, Bool, true, false, List, [], ◌∷◌, length, refl, sym, ap, ◌∙◌, arith}
use Rattle.std.specs.Prelude.{All}
use Rattle.std.proofs.lemmas.List.{length-append}
use Rattle.std.proofs.lemmas.List.Elements.{All-head, All-tail}
use Rattle.mmt_mpu.specs.Spelling.{UnitValue, Value, HeadFits, UnitsFit, LoneFits, AreUnits, Fits, head_length, unit_bytes, lone_bytes, units_bytes, spelling}
use Rattle.mmt_mpu.specs.Reading.{payload_of}
use Rattle.mmt_mpu.specs.Writing.{written_unit, total_length, bytes_place, placed, IsFull, WrittenIsRead}
use Rattle.mmt_mpu.proofs.Law.{payload_format}
use Rattle.mmt_mpu.proofs.Calls.{units_cons, unit_long, all_long}

-- the place of a unit is no part of its bytes
same_unit : (aggregated timed : Bool) (u : UnitValue) (from : ℕ) → written_unit aggregated timed (record { head = u.head; from = from; bytes = u.bytes }) ≡ written_unit aggregated timed u
unfolding unit_bytes lone_bytes
same_unit true timed u from = refl
same_unit false timed u from = refl

same_units : (aggregated timed : Bool) (at : ℕ) (us : List UnitValue) → units_bytes aggregated timed (placed aggregated timed at us) ≡ units_bytes aggregated timed us
same_units aggregated timed at [] = refl
same_units aggregated timed at (u ∷ us) =
    let from = bytes_place aggregated timed at in
    let here : UnitValue = record { head = u.head; from = from; bytes = u.bytes } in
    let rest = placed aggregated timed (from + length u.bytes) us in
    let later : units_bytes aggregated timed rest ≡ units_bytes aggregated timed us = same_units aggregated timed (from + length u.bytes) us in
    units_cons aggregated timed here rest ∙ rw (same_unit aggregated timed u from, later) (sym (units_cons aggregated timed u us))

all_fit : (timed : Bool) (at : ℕ) (us : List UnitValue) → All (λ u. HeadFits timed u.head) us → length (units_bytes true timed us) < 2 ^ 16 → UnitsFit timed at (placed true timed at us)
all_fit timed at [] heads len = tt
all_fit timed at (u ∷ us) heads len =
    let both : length (units_bytes true timed (u ∷ us)) ≡ length (written_unit true timed u) + length (units_bytes true timed us) = ap length (units_cons true timed u us) ∙ length-append (written_unit true timed u) (units_bytes true timed us) in
    let long : length (written_unit true timed u) ≡ 2 + head_length timed + length u.bytes = unit_long true timed u in
    (record { head = All-head (λ (u : UnitValue). HeadFits timed u.head) u us heads; from = refl; len = omega (arith, both, long, len) }, all_fit timed (at + 2 + head_length timed + length u.bytes) us (All-tail (λ (u : UnitValue). HeadFits timed u.head) u us heads) (omega (arith, both, long, len)))

one_fits : (timed : Bool) (us : List UnitValue) → All (λ u. HeadFits timed u.head) us → length us ≡ 1 → LoneFits timed (placed false timed 8 us)
one_fits timed [] heads one = absurd (omega (arith, one))
one_fits timed (u ∷ []) heads one = (All-head (λ (u : UnitValue). HeadFits timed u.head) u [] heads, refl)
one_fits timed (u ∷ w ∷ us) heads one = absurd (omega (arith, one))

units_fit : (aggregated timed : Bool) (us : List UnitValue) → All (λ u. HeadFits timed u.head) us → IsFull aggregated (length us) → length (units_bytes aggregated timed us) < 2 ^ 16 → AreUnits aggregated timed (placed aggregated timed 8 us)
units_fit true timed us heads full len = all_fit timed 8 us heads len
units_fit false timed us heads full len = one_fits timed us heads full

pub written_is_read : WrittenIsRead
unfolding spelling
written_is_read h us can =
    let same = same_units h.aggregated h.timed 8 us in
    let sum : total_length h us ≡ 8 + length (units_bytes h.aggregated h.timed us) = all_long h 8 us in
    let value : Value = record { head = h; units = placed h.aggregated h.timed 8 us } in
    let fits : Fits value = record { counter = can.counter; mpu = can.mpu; part = can.part; len = rw same (omega (arith, sum, can.len)); units = units_fit h.aggregated h.timed us can.heads can.full (omega (arith, sum, can.len)) } in
    let bytes : spelling value ≡ spelling (record { head = h; units = us }) = rw same refl in
    ap payload_of (sym bytes) ∙ payload_format.again value tt fits
