-- The calls of a writer, one after the other.
use Rattle.std.proofs.Common.{◌≡◌, ℕ, ◌+◌, ◌-◌, Bool, true, false, List, [], ◌∷◌, ◌++◌, length, take, drop, refl, sym, ap, ◌∙◌, append_assoc, arith, fold}
use Rattle.std.specs.Int.{w8, w16, w32}
use Rattle.std.proofs.lemmas.List.{length-append, append-nil, take_at, drop_at}
use Rattle.std.proofs.lemmas.List.Concat.{flat_map-cons}
use Rattle.mmt_fields.specs.Reading.{big_endian}
use Rattle.mmt_fields.proofs.Numbers.{length_big_endian}
use Rattle.mmt_mpu.specs.declared.types.MpuHead.{MpuHead}
use Rattle.mmt_mpu.specs.Spelling.{UnitValue, flags, lone_bytes, unit_bytes, units_bytes, spelling}
use Rattle.mmt_mpu.specs.Writing.{written_unit, unit_length, begun, ended, with_unit, total_length, CallsWriteThePayload}
use Rattle.mmt_mpu.proofs.Law.{head_long}

-- the units' bytes, one after the other
pub units_cons : (aggregated timed : Bool) (u : UnitValue) (us : List UnitValue) → units_bytes aggregated timed (u ∷ us) ≡ written_unit aggregated timed u ++ units_bytes aggregated timed us
unfolding units_bytes
units_cons true timed u us = flat_map-cons (unit_bytes timed) u us
units_cons false timed u us = flat_map-cons (lone_bytes timed) u us

pub units_nil : (aggregated timed : Bool) → units_bytes aggregated timed [] ≡ []
unfolding units_bytes
units_nil true timed = refl
units_nil false timed = refl

pub unit_long : (aggregated timed : Bool) (u : UnitValue) → length (written_unit aggregated timed u) ≡ unit_length aggregated timed u
unfolding unit_bytes lone_bytes
unit_long true timed u = simp (length-append, length_big_endian, head_long) (omega arith)
unit_long false timed u = simp (length-append, head_long) refl

all_written : (h : MpuHead) (out : List ℕ) (us : List UnitValue) → fold (with_unit h) out us ≡ out ++ units_bytes h.aggregated h.timed us
all_written h out [] = sym (rw (units_nil h.aggregated h.timed) (append-nil out))
all_written h out (u ∷ us) = all_written h (with_unit h out u) us ∙ append_assoc out (written_unit h.aggregated h.timed u) (units_bytes h.aggregated h.timed us) ∙ ap (λ (x : List ℕ). out ++ x) (sym (units_cons h.aggregated h.timed u us))

pub all_long : (h : MpuHead) (n : ℕ) (us : List UnitValue) → fold (λ n u. n + unit_length h.aggregated h.timed u) n us ≡ n + length (units_bytes h.aggregated h.timed us)
all_long h n [] = rw (units_nil h.aggregated h.timed) (omega arith)
all_long h n (u ∷ us) = all_long h (n + unit_length h.aggregated h.timed u) us ∙ rw (units_cons h.aggregated h.timed u us) (simp (length-append, unit_long) (omega arith))

pub calls_write : CallsWriteThePayload
unfolding begun ended spelling
calls_write out h us =
    let units = units_bytes h.aggregated h.timed us in
    let rest = big_endian w8 (flags h) ++ (big_endian w8 h.counter ++ (big_endian w32 h.mpu ++ units)) in
    let whole : fold (with_unit h) (out ++ (big_endian w16 0 ++ (big_endian w8 (flags h) ++ (big_endian w8 h.counter ++ big_endian w32 h.mpu)))) us ≡ out ++ (big_endian w16 0 ++ rest) = all_written h _ us ∙ simp append_assoc refl in
    let size : total_length h us - 2 ≡ 6 + length units = rw (all_long h 8 us) (omega arith) in
    let front : take (length out) (out ++ (big_endian w16 0 ++ rest)) ≡ out = take_at out (big_endian w16 0 ++ rest) (length out) refl in
    let two : length (out ++ big_endian w16 0) ≡ length out + 2 = simp (length-append, length_big_endian) refl in
    let back : drop (length out + 2) (out ++ (big_endian w16 0 ++ rest)) ≡ rest = ap (drop (length out + 2)) (sym (append_assoc out (big_endian w16 0) rest)) ∙ drop_at (out ++ big_endian w16 0) rest (length out + 2) two in
    rw (whole, front, back, size) refl
