-- Reading pairs, offsets of access units and MPUs' entries one after the other.
use Rattle.std.proofs.Common.{◌≡◌, ℕ, ◌*◌, ◌/◌, ◌%◌, ◌<◌, ◌≤◌, Bool, true, false, List, [], ◌∷◌, length, take, drop, Some, None, Ok, Err, refl, sym, ap, arith, inl, inr, length-drop}
use Rattle.std.specs.Int.{Width, w8, w16, w32, w64, byte_len, from_be_bytes}
use Rattle.std.proofs.lemmas.Bool.{cases_lt, lt-ltb, le-ltb}
use Rattle.std.proofs.lemmas.List.{drop-drop}
use Rattle.mmt_base.specs.declared.refused.Refused.{Refused}
use Rattle.mmt_fields.specs.Reading.{number_at}
use Rattle.mmt_fields.specs.Items.{all_items}
use Rattle.mmt_fields.proofs.Codec.{bind_ok, ok_is}
use Rattle.mmt_fields.proofs.Numbers.{number_leaves}
use Rattle.mmt_fields.proofs.Items.{Shortens}
use Rattle.mmt_lists.specs.Counted.{counted, counted_of}
use Rattle.mmt_lists.proofs.ItemSteps.{items_err, stop_err, stop_none}
use Rattle.mmt_times.specs.declared.times_why.TimesWhy.{TimesWhy}
use Rattle.mmt_times.specs.declared.times_why.TimesWhy.TheVariants as why
use Rattle.mmt_times.specs.Times.{AuValue}
use Rattle.mmt_times.specs.AuReading.{offset_at, au_at, au_size}
use Rattle.mmt_times.specs.Stamps.{PairValue, pair_at, pairs_from}
use Rattle.mmt_times.specs.Extended.{ExtendedMpu}
use Rattle.mmt_times.specs.ExtendedReading.{mpu_at, mpus_from}
use Rattle.mmt_times.proofs.Anywhere.{IsAnywhere, items_anywhere, stop_anywhere}
use Rattle.mmt_times.proofs.Fixed.{IsFixed, fixed_rest, fixed_short, fixed_whole}

-- the refusal of a content that ends before a field does
abbrev pub too_short : Refused TimesWhy
too_short = record { at = 0; why = why.Length }

-- ---- numbers

number_reads : (w : Width) (bytes : List ℕ) → byte_len w ≤ length bytes → number_at w bytes 0 why.Length ≡ Ok (from_be_bytes w (take (byte_len w) bytes), drop (byte_len w) bytes)
unfolding number_at
number_reads w bytes le = rw (le-ltb (length bytes) (byte_len w) le) refl

number_refuses : (w : Width) (bytes : List ℕ) → length bytes < byte_len w → number_at w bytes 0 why.Length ≡ Err too_short
unfolding number_at
number_refuses w bytes lt = rw (lt-ltb (length bytes) (byte_len w) lt) refl

-- ---- pairs

pub pair_anywhere : IsAnywhere pair_at
unfolding pair_at
pair_anywhere p q bytes = refl

pub pair_shorter : Shortens pair_at
unfolding pair_at
pair_shorter at bytes x e =
    let m = bind_ok (number_at w32 bytes 0 why.Length) _ x e in
    let t = bind_ok (number_at w64 m.0.1 0 why.Length) _ x m.2 in
    let is : length t.0.1 ≡ length x.1 = ap (λ (y : PairValue × List ℕ). length y.1) (ok_is _ x t.2) in
    omega (arith, number_leaves w32 bytes 0 why.Length m.0 m.1, number_leaves w64 m.0.1 0 why.Length t.0 t.1)

pair_reads : (at : ℕ) (bytes : List ℕ) → 12 ≤ length bytes → (x : PairValue) × (pair_at at bytes ≡ Ok (x, drop 12 bytes))
unfolding pair_at
pair_reads at bytes le =
    let first = number_reads w32 bytes (omega arith) in
    let later = number_reads w64 (drop 4 bytes) (omega (arith, length-drop 4 bytes)) in
    let p : PairValue = record { mpu = from_be_bytes w32 (take 4 bytes); time = from_be_bytes w64 (take 8 (drop 4 bytes)) } in
    (p, rw (first, later) (ap (λ (rest : List ℕ). Ok (p, rest)) (drop-drop 8 4 bytes)))

pair_refuses : (at : ℕ) (bytes : List ℕ) → length bytes < 12 → pair_at at bytes ≡ Err too_short
unfolding pair_at
pair_refuses at bytes lt = elim (cases_lt (length bytes) 4) [
  | inl less ↦ rw (number_refuses w32 bytes less) refl
  | inr enough ↦
      let first = number_reads w32 bytes enough in
      let later = number_refuses w64 (drop 4 bytes) (omega (arith, length-drop 4 bytes)) in
      rw (first, later) refl
]

pair_fixed : IsFixed pair_at 12 too_short
pair_fixed = record { reads = pair_reads; refuses = pair_refuses }

pub pairs_first : (bytes : List ℕ) (x : PairValue × List ℕ) → pair_at 0 bytes ≡ Ok x → pairs_from bytes ≡ x.0 ∷ pairs_from x.1
pairs_first bytes x e = items_anywhere pair_at pair_anywhere pair_shorter 0 bytes x e

pub pairs_none : (bytes : List ℕ) (d : Refused TimesWhy) → pair_at 0 bytes ≡ Err d → pairs_from bytes ≡ []
pairs_none bytes d e = items_err pair_at 0 bytes d e

pub pairs_whole : (bytes : List ℕ) → length bytes % 12 ≡ 0 → (all_items pair_at 0 bytes).stop ≡ None
pairs_whole bytes e = fixed_whole pair_at 12 too_short pair_fixed pair_shorter (length bytes / 12) 0 bytes (omega arith)

-- ---- the offsets of access units

au_reads : (each : Bool) (at : ℕ) (bytes : List ℕ) → au_size each ≤ length bytes → (x : AuValue) × (au_at each at bytes ≡ Ok (x, drop (au_size each) bytes))
unfolding au_at offset_at
au_reads false at bytes le =
    let first = number_reads w16 bytes le in
    let a : AuValue = record { dts_pts = from_be_bytes w16 (take 2 bytes); pts = None } in
    (a, rw first refl)
au_reads true at bytes le =
    let first = number_reads w16 bytes (omega arith) in
    let later = number_reads w16 (drop 2 bytes) (omega (arith, length-drop 2 bytes)) in
    let a : AuValue = record { dts_pts = from_be_bytes w16 (take 2 bytes); pts = Some (from_be_bytes w16 (take 2 (drop 2 bytes))) } in
    (a, rw (first, later) (ap (λ (rest : List ℕ). Ok (a, rest)) (drop-drop 2 2 bytes)))

au_refuses : (each : Bool) (at : ℕ) (bytes : List ℕ) → length bytes < au_size each → au_at each at bytes ≡ Err too_short
unfolding au_at offset_at
au_refuses false at bytes lt = rw (number_refuses w16 bytes lt) refl
au_refuses true at bytes lt = elim (cases_lt (length bytes) 2) [
  | inl less ↦ rw (number_refuses w16 bytes less) refl
  | inr enough ↦
      let first = number_reads w16 bytes enough in
      let later = number_refuses w16 (drop 2 bytes) (omega (arith, length-drop 2 bytes)) in
      rw (first, later) refl
]

au_fixed : (each : Bool) → IsFixed (au_at each) (au_size each) too_short
au_fixed each = record { reads = au_reads each; refuses = au_refuses each }

pub aus_stop : (each : Bool) (n : ℕ) (bytes : List ℕ) → n * au_size each ≤ length bytes → (counted n (au_at each) 0 bytes).stop ≡ None
aus_stop each n bytes le = let h = fixed_rest (au_at each) (au_size each) too_short (au_fixed each) n 0 (n * au_size each) bytes refl le in h.0

pub aus_rest : (each : Bool) (n : ℕ) (bytes : List ℕ) → n * au_size each ≤ length bytes → drop (n * au_size each) bytes ≡ (counted n (au_at each) 0 bytes).rest
aus_rest each n bytes le = let h = fixed_rest (au_at each) (au_size each) too_short (au_fixed each) n 0 (n * au_size each) bytes refl le in sym h.1

pub aus_short : (each : Bool) (n : ℕ) (bytes : List ℕ) → length bytes < n * au_size each → (counted n (au_at each) 0 bytes).stop ≡ Some too_short
aus_short each n bytes lt = fixed_short (au_at each) (au_size each) too_short (au_fixed each) n 0 bytes lt

aus_leave : (each : Bool) (n : ℕ) (bytes : List ℕ) (x : List AuValue × List ℕ) → counted_of n (au_at each) 0 bytes ≡ Ok x → length x.1 ≤ length bytes
unfolding counted_of
aus_leave each n bytes x e = elim (cases_lt (length bytes) (n * au_size each)) [
  | inl less ↦ absurd (let s = aus_short each n bytes less in cc (rw s at e))
  | inr enough ↦
      let f = rw (aus_stop each n bytes enough, ← aus_rest each n bytes enough) at e in
      let is : length (drop (n * au_size each) bytes) ≡ length x.1 = ap (λ (y : List AuValue × List ℕ). length y.1) (ok_is _ x f) in
      omega (arith, length-drop (n * au_size each) bytes)
]

-- ---- MPUs' entries

pub mpu_anywhere : (each : Bool) → IsAnywhere (mpu_at each)
unfolding mpu_at
mpu_anywhere each p q bytes = refl

pub mpu_shorter : (each : Bool) → Shortens (mpu_at each)
unfolding mpu_at offset_at
mpu_shorter each at bytes x e =
    let m = bind_ok (number_at w32 bytes 0 why.Length) _ x e in
    let f = bind_ok (number_at w8 m.0.1 0 why.Length) _ x m.2 in
    let o = bind_ok (number_at w16 f.0.1 0 why.Length) _ x f.2 in
    let n = bind_ok (number_at w8 o.0.1 0 why.Length) _ x o.2 in
    let a = bind_ok (counted_of n.0.0 (au_at each) 0 n.0.1) _ x n.2 in
    let made : ExtendedMpu × List ℕ = (record { mpu = m.0.0; leap = f.0.0 / 64; reserved = f.0.0 % 64; offset = o.0.0; aus = a.0.0 }, a.0.1) in
    let is : length a.0.1 ≡ length x.1 = ap (λ (y : ExtendedMpu × List ℕ). length y.1) {x = made} (ok_is made x a.2) in
    omega (arith, number_leaves w32 bytes 0 why.Length m.0 m.1, number_leaves w8 m.0.1 0 why.Length f.0 f.1, number_leaves w16 f.0.1 0 why.Length o.0 o.1, number_leaves w8 o.0.1 0 why.Length n.0 n.1, aus_leave each n.0.0 n.0.1 a.0 a.1)

pub mpus_first : (each : Bool) (bytes : List ℕ) (x : ExtendedMpu × List ℕ) → mpu_at each 0 bytes ≡ Ok x → mpus_from each bytes ≡ x.0 ∷ mpus_from each x.1
mpus_first each bytes x e = items_anywhere (mpu_at each) (mpu_anywhere each) (mpu_shorter each) 0 bytes x e

pub mpus_none : (each : Bool) (bytes : List ℕ) (d : Refused TimesWhy) → mpu_at each 0 bytes ≡ Err d → mpus_from each bytes ≡ []
mpus_none each bytes d e = items_err (mpu_at each) 0 bytes d e

pub mpus_stop : (each : Bool) (bytes : List ℕ) (x : ExtendedMpu × List ℕ) → mpu_at each 0 bytes ≡ Ok x → (all_items (mpu_at each) 0 bytes).stop ≡ (all_items (mpu_at each) 0 x.1).stop
mpus_stop each bytes x e = stop_anywhere (mpu_at each) (mpu_anywhere each) (mpu_shorter each) 0 bytes x e

pub mpus_stop_err : (each : Bool) (bytes : List ℕ) (d : Refused TimesWhy) → 0 < length bytes → mpu_at each 0 bytes ≡ Err d → (all_items (mpu_at each) 0 bytes).stop ≡ Some d
mpus_stop_err each bytes d some e = stop_err (mpu_at each) 0 bytes d some e

pub mpus_stop_none : (each : Bool) (bytes : List ℕ) → length bytes ≡ 0 → (all_items (mpu_at each) 0 bytes).stop ≡ None
mpus_stop_none each bytes e = stop_none (mpu_at each) 0 bytes e
