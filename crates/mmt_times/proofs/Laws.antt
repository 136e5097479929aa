-- What is read as the content of a timestamp descriptor was spelled so, and what is spelled so is read.
use Rattle.std.proofs.Common.{◌≡◌, ℕ, ◌+◌, ◌*◌, ◌/◌, ◌%◌, ◌^◌, ◌<◌, ◌≤◌, Bool, true, false, not, eqb, ltb, List, [], ◌∷◌, ◌++◌, length, Option, Some, None, Ok, refl, sym, subst, append_assoc, arith, eq-eqb}
use Rattle.std.specs.List.{flat_map, All}
use Rattle.std.specs.Option.{is_some}
use Rattle.std.specs.Int.{w8, w16, w32, w64}
use Rattle.std.proofs.lemmas.Bool.{eqb-true, lt-ltb, ltb-true}
use Rattle.std.proofs.lemmas.Bool.Decides.{nat_tests}
use Rattle.std.proofs.lemmas.List.{length-append}
use Rattle.mmt_fields.specs.Reading.{big_endian, optional}
use Rattle.mmt_fields.specs.Items.{items_of}
use Rattle.mmt_fields.proofs.Codec.{Stage, Field, Format, Always, field, field_of, checked, checked_rest, made, last}
use Rattle.mmt_fields.proofs.Numbers.{u8_field, u16_field, u32_field, u64_field, optional_field, length_big_endian}
use Rattle.mmt_lists.proofs.CountedItems.{counted_all, items_all}
use Rattle.mmt_times.specs.declared.times_why.TimesWhy.TheVariants as why
use Rattle.mmt_times.specs.Times.{AuValue}
use Rattle.mmt_times.specs.AuReading.{offset_at, au_at}
use Rattle.mmt_times.specs.Stamps.{PairValue, PairFits, pair_bytes, pair_at, StampsFit, stamps_bytes, stamps_of}
use Rattle.mmt_times.specs.Extended.{ExtendedMpu, ExtendedValue, au_bytes, AuFits, mpu_bytes, MpuFits, extended_bytes, ExtendedFits, IsTimescale, has_each, flag_of}
use Rattle.mmt_times.specs.ExtendedReading.{mpu_at, timescale_at, extended_of}
use Rattle.mmt_times.proofs.Readers.{pair_shorter, mpu_shorter}

-- ---- pairs

abbrev PairRest : Type 0
PairRest = PairValue × List ℕ

pair_stage : (at : ℕ) → Stage {V = PairRest} (λ p. PairFits p.0) Always Always (pair_at at) (λ p. big_endian w32 p.0.mpu ++ (big_endian w64 p.0.time ++ p.1))
unfolding pair_at
pair_stage at =
    field _ (λ p. p.0.mpu) (u32_field 0 why.Length) (λ v c f. f.mpu) (λ mpu mpu_lt.
    field _ (λ p. p.0.time) (u64_field 0 why.Length) (λ v c f. f.time) (λ time time_lt.
    made (λ p. p.1) (λ rest. (record { mpu = mpu; time = time }, rest))
    (λ rest are known. (refl, (refl, (refl, tt)), record { mpu = mpu_lt; time = time_lt }))
    (λ v c f. rw (← c.0, ← c.1.0) refl)))

pub pair_field : (at : ℕ) → Field (pair_at at) pair_bytes PairFits
unfolding pair_bytes
pair_field at = field_of pair_bytes (pair_stage at) (λ v. simp append_assoc)

pairs_length : (ps : List PairValue) → length (flat_map pair_bytes ps) % 12 ≡ 0
unfolding pair_bytes
pairs_length [] = refl
pairs_length (p ∷ ps) = simp (length-append, length_big_endian) (omega (arith, pairs_length ps))

pub stamps_format : Format StampsFit stamps_of stamps_bytes
unfolding stamps_of stamps_bytes
stamps_format =
    let inner = items_all pair_at pair_bytes PairFits pair_shorter pair_field 0 in
    checked_rest (λ bytes. eqb (length bytes % 12) 0) 0 why.Length _ (λ v c f. eq-eqb _ _ (pairs_length v))
    (record { takes = λ bytes v are known e. inner.takes bytes v are tt e; again = inner.again })

-- ---- access units

pub offset_field : Field offset_at (big_endian w16) (λ n. n < 2 ^ 16)
unfolding offset_at
offset_field = u16_field 0 why.Length

abbrev AuRest : Type 0
AuRest = AuValue × List ℕ

au_stage : (each : Bool) (at : ℕ) → Stage {V = AuRest} (λ p. AuFits each p.0) Always Always (au_at each at) (λ p. big_endian w16 p.0.dts_pts ++ (optional (big_endian w16) p.0.pts ++ p.1))
unfolding au_at
au_stage each at =
    field _ (λ p. p.0.dts_pts) offset_field (λ v c f. f.dts_pts) (λ dts_pts dts_pts_lt.
    field _ (λ p. p.0.pts) (optional_field each offset_field) (λ v c f. (f.own, f.pts)) (λ pts pts_fits.
    made (λ p. p.1) (λ rest. (record { dts_pts = dts_pts; pts = pts }, rest))
    (λ rest are known. (refl, (refl, (refl, tt)), record { dts_pts = dts_pts_lt; own = pts_fits.0; pts = pts_fits.1 }))
    (λ v c f. rw (← c.0, ← c.1.0) refl)))

au_field : (each : Bool) (at : ℕ) → Field (au_at each at) au_bytes (AuFits each)
unfolding au_bytes
au_field each at = field_of au_bytes (au_stage each at) (λ v. simp append_assoc)

-- ---- MPUs

abbrev MpuRest : Type 0
MpuRest = ExtendedMpu × List ℕ

mpu_stage : (each : Bool) (at : ℕ) → Stage {V = MpuRest} (λ p. MpuFits each p.0) Always Always (mpu_at each at)
    (λ p. big_endian w32 p.0.mpu ++ (big_endian w8 (64 * p.0.leap + p.0.reserved) ++ (big_endian w16 p.0.offset ++ (big_endian w8 (length p.0.aus) ++ (flat_map au_bytes p.0.aus ++ p.1)))))
unfolding mpu_at
mpu_stage each at =
    field _ (λ p. p.0.mpu) (u32_field 0 why.Length) (λ v c f. f.mpu) (λ mpu mpu_lt.
    field _ (λ p. 64 * p.0.leap + p.0.reserved) (u8_field 0 why.Length) (λ v c f. omega (arith, f.leap, f.reserved)) (λ flags flags_lt.
    field _ (λ p. p.0.offset) offset_field (λ v c f. f.offset) (λ offset offset_lt.
    field _ (λ p. length p.0.aus) (u8_field 0 why.Length) (λ v c f. f.count) (λ count count_lt.
    field _ (λ p. p.0.aus) (counted_all (au_at each) au_bytes (AuFits each) (au_field each) count 0) (λ v c f. (c.0, f.aus)) (λ aus aus_fit.
    made (λ p. p.1) (λ rest. (record { mpu = mpu; leap = flags / 64; reserved = flags % 64; offset = offset; aus = aus }, rest))
    (λ rest are known. (refl, (refl, (aus_fit.0, (refl, (omega arith, (refl, tt))))), record { mpu = mpu_lt; leap = omega arith; reserved = omega arith; offset = offset_lt; count = rw aus_fit.0 count_lt; aus = aus_fit.1 }))
    (λ v c f.
    let is : 64 * v.0.leap + v.0.reserved ≡ flags = c.1.1.1.0 in
    let leap : flags / 64 ≡ v.0.leap = omega (arith, f.leap, f.reserved) in
    let reserved : flags % 64 ≡ v.0.reserved = omega (arith, f.leap, f.reserved) in
    rw (leap, reserved, ← c.0, ← c.1.1.0, ← c.1.1.1.1.0) refl))))))

mpu_field : (each : Bool) (at : ℕ) → Field (mpu_at each at) mpu_bytes (MpuFits each)
unfolding mpu_bytes
mpu_field each at = field_of mpu_bytes (mpu_stage each at) (λ v. simp append_assoc)

-- ---- a content

abbrev NumberRest : Type 0
NumberRest = ℕ × List ℕ

some_is : (n : ℕ) → not (eqb n 0) ≡ true → 1 ≤ n
some_is n e = grind arith

is_some_number : (n : ℕ) → 1 ≤ n → not (eqb n 0) ≡ true
is_some_number n le = grind arith

timescale_stage : Stage {V = NumberRest} (λ p. IsTimescale p.0) Always Always timescale_at (λ p. big_endian w32 p.0 ++ p.1)
unfolding timescale_at
timescale_stage =
    field _ (λ p. p.0) (u32_field 0 why.Length) (λ v c f. f.1) (λ timescale timescale_lt.
    checked (not (eqb timescale 0)) 0 why.TimescaleZero _ (λ v c f. rw (← c.0) (is_some_number v.0 f.0)) (λ some.
    made (λ p. p.1) (λ rest. (timescale, rest))
    (λ rest are known. (refl, (refl, tt), (some_is timescale some, timescale_lt)))
    (λ v c f. rw (← c.0) refl)))

timescale_field : Field timescale_at (big_endian w32) IsTimescale
timescale_field = field_of (big_endian w32) timescale_stage (λ v. refl)

mpus_format : (kind : ℕ) → Format (All (MpuFits (has_each kind))) (items_of (mpu_at (has_each kind)) 0) (flat_map mpu_bytes)
mpus_format kind = items_all (mpu_at (has_each kind)) mpu_bytes (MpuFits (has_each kind)) (mpu_shorter (has_each kind)) (mpu_field (has_each kind)) 0

flag_lt : (o : Option ℕ) → flag_of o < 2
flag_lt None = omega arith
flag_lt (Some n) = omega arith

flag_is : (o : Option ℕ) → is_some o ≡ eqb (flag_of o) 1
flag_is None = refl
flag_is (Some n) = refl

not_one : (m : ℕ) → m < 2 → false ≡ eqb m 1 → 0 ≡ m
not_one m lt e = grind (arith, nat_tests)

flag_by : (n : ℕ) (o : Option ℕ) → is_some o ≡ eqb (n % 2) 1 → flag_of o ≡ n % 2
flag_by n None e = not_one (n % 2) (omega arith) e
flag_by n (Some x) e = sym (eqb-true (n % 2) 1 (sym e))

record Parts (v : ExtendedValue) (flags : ℕ) : Type 0 where
  reserved : flags / 8 ≡ v.reserved
  kind : flags / 2 % 4 ≡ v.kind
  flag : flags % 2 ≡ flag_of v.timescale

parts_of : (v : ExtendedValue) (flags : ℕ) → ExtendedFits v → 8 * v.reserved + 2 * v.kind + flag_of v.timescale ≡ flags → Parts v flags
parts_of v flags f is =
    let lt = flag_lt v.timescale in
    let kind_lt = f.kind in
    record { reserved = omega (arith, f.reserved); kind = omega (arith, f.kind); flag = omega (arith, f.reserved) }

kind_fits : (v : ExtendedValue) (flags : ℕ) → ExtendedFits v → 8 * v.reserved + 2 * v.kind + flag_of v.timescale ≡ flags → ltb (flags / 2 % 4) 3 ≡ true
kind_fits v flags f is = let p = parts_of v flags f is in rw p.kind (lt-ltb v.kind 3 f.kind)

has_timescale : (v : ExtendedValue) (flags : ℕ) → ExtendedFits v → 8 * v.reserved + 2 * v.kind + flag_of v.timescale ≡ flags → is_some v.timescale ≡ eqb (flags % 2) 1
has_timescale v flags f is = let p = parts_of v flags f is in rw p.flag (flag_is v.timescale)

has_default : (v : ExtendedValue) (flags : ℕ) → ExtendedFits v → 8 * v.reserved + 2 * v.kind + flag_of v.timescale ≡ flags → is_some v.default ≡ eqb (flags / 2 % 4) 1
has_default v flags f is = let p = parts_of v flags f is in rw p.kind f.has_default

mpus_fit : (v : ExtendedValue) (flags : ℕ) → ExtendedFits v → 8 * v.reserved + 2 * v.kind + flag_of v.timescale ≡ flags → All (MpuFits (has_each (flags / 2 % 4))) v.mpus
mpus_fit v flags f is = let p = parts_of v flags f is in subst (λ (k : ℕ). All (MpuFits (has_each k)) v.mpus) (sym p.kind) f.mpus

same_content : (v : ExtendedValue) (flags : ℕ) (timescale default : Option ℕ) → ExtendedFits v → 8 * v.reserved + 2 * v.kind + flag_of v.timescale ≡ flags → v.timescale ≡ timescale → v.default ≡ default
    → ◌≡◌ {A = ExtendedValue} (record { reserved = flags / 8; kind = flags / 2 % 4; timescale = timescale; default = default; mpus = v.mpus }) v
same_content v flags timescale default f is t d = let p = parts_of v flags f is in rw (p.reserved, p.kind, ← t, ← d) refl

pub extended_format : Format ExtendedFits extended_of extended_bytes
unfolding extended_of extended_bytes
extended_format =
    field _ (λ v. 8 * v.reserved + 2 * v.kind + flag_of v.timescale) (u8_field 0 why.Length) (λ v c f. omega (arith, f.reserved, f.kind, flag_lt v.timescale)) (λ flags flags_lt.
    checked (ltb (flags / 2 % 4) 3) 0 why.OffsetType _ (λ v c f. kind_fits v flags f c.0) (λ known.
    field _ (λ v. v.timescale) (optional_field (eqb (flags % 2) 1) timescale_field) (λ v c f. (has_timescale v flags f c.0, f.timescale)) (λ timescale timescale_fits.
    field _ (λ v. v.default) (optional_field (eqb (flags / 2 % 4) 1) offset_field) (λ v c f. (has_default v flags f c.1.0, f.default)) (λ default default_fits.
    last (λ mpus. record { reserved = flags / 8; kind = flags / 2 % 4; timescale = timescale; default = default; mpus = mpus }) (λ v. v.mpus) (mpus_format (flags / 2 % 4))
    (λ v c f. mpus_fit v flags f c.1.1.0)
    (λ mpus fit bytes_are. (
      refl,
      (refl, (refl, (omega (arith, flag_by flags timescale timescale_fits.0), tt))),
      record { reserved = omega arith; kind = ltb-true _ _ known; timescale = timescale_fits.1; has_default = default_fits.0; default = default_fits.1; mpus = fit },
    ))
    (λ v c f. same_content v flags timescale default f c.1.1.0 c.1.0 c.0)))))

-- ---- what is written is read back

pub stamps_again : (v : List PairValue) → StampsFit v → stamps_of (stamps_bytes v) ≡ Ok v
stamps_again v fits = let law = stamps_format in law.again v tt fits

pub extended_again : (v : ExtendedValue) → ExtendedFits v → extended_of (extended_bytes v) ≡ Ok v
extended_again v fits = let law = extended_format in law.again v tt fits
