-- The bytes of a table's descriptors, field by field.
use Rattle.std.proofs.Common.{◌≡◌, ℕ, ◌+◌, ◌-◌, ◌*◌, ◌<◌, ◌≤◌, suc, Bool, true, false, nat_lt, cond, List, [], ◌∷◌, ◌++◌, map, length, get_or, take, drop, arith, refl, ap, sym, ◌∙◌, add-one, drop-cons}
use Rattle.std.specs.Int.{div_ceil, w8, w16, w32}
use Rattle.std.specs.List.{flat_map, sum_by}
use Rattle.std.proofs.lemmas.Bool.{ltb-false, ltb-true}
use Rattle.std.proofs.lemmas.List.Concat.{flat_map-append}
use Rattle.std.proofs.lemmas.List.Sums.{sum_by-cons}
use Rattle.mmt_cast.specs.Tables.{descriptors_length, extended_length}
use Rattle.mmt_mpt.specs.Descriptor.{DescriptorValue}
use Rattle.std.proofs.lemmas.List.{append-nil, drop-map, length-append, length-map, take-map}
use Rattle.mmt_cast.proofs.Lengths.{descriptors-long, extended-long, stamps-long}
use Rattle.mmt_cast.specs.Placing.{PlacedMpu}
use Rattle.mmt_cast.specs.SentTables.{extended_of_mpu, pair_of, sent_descriptors, stamps_of_21}
use Rattle.mmt_fields.proofs.Numbers.{length_big_endian}
use Rattle.mmt_model.specs.Carrying.{numbers}
use Rattle.mmt_fields.specs.Reading.{big_endian}
use Rattle.mmt_model.specs.declared.programmes.Asset.{Asset}
use Rattle.mmt_model.specs.declared.programmes.Mpu.{Mpu}
use Rattle.mmt_mpt.specs.Descriptor.{descriptor_bytes, descriptors_bytes, length_width}
use Rattle.mmt_mpt.proofs.Sizes.{asset_long, descriptor_long, location_long}
use Rattle.mmt_mpt.specs.Asset.{asset_bytes, head_bytes}
use Rattle.mmt_mpt.specs.Location.{IsHere, location_bytes}
use Rattle.mmt_signals.specs.Named.{all_stamps, listed_asset, named, named_mpu}
use Rattle.mmt_times.specs.Extended.{extended_bytes, extended_tag, mpu_bytes}
use Rattle.mmt_times.specs.Stamps.{PairValue, stamps_bytes, stamps_tag}
use Rattle.mmt_times.specs.Writing.{written_extended, written_mpu}

pairs-long : (asset : Asset) (names : List (ℕ × ℕ)) → length (map pair_of (named asset names)) ≡ length names
pairs-long asset names = length-map (named asset names) pair_of ∙ length-map names (named_mpu asset)

-- a timestamp descriptor
pub stamps_are : (asset : Asset) (names : List (ℕ × ℕ))
    → descriptor_bytes (record { tag = stamps_tag; bytes = stamps_bytes (map pair_of (named asset names)) })
    ≡ big_endian w16 1 ++ (big_endian w8 (12 * length names) ++ stamps_bytes (map pair_of (named asset names)))
unfolding descriptor_bytes length_width
stamps_are asset names =
    let pairs : List PairValue = map pair_of (named asset names) in
    ap (λ n. big_endian w16 1 ++ (big_endian w8 n ++ stamps_bytes pairs)) (stamps-long pairs ∙ ap (λ n. 12 * n) (pairs-long asset names))

-- an extended descriptor of one MPU
pub extended_are : (timescale : ℕ) (mpu : Mpu)
    → descriptor_bytes (record { tag = extended_tag; bytes = extended_bytes (written_extended timescale mpu) })
    ≡ big_endian w16 32806 ++ (big_endian w8 (13 + 4 * length mpu.aus) ++ (big_endian w8 253 ++ (big_endian w32 timescale ++ mpu_bytes (written_mpu mpu))))
unfolding descriptor_bytes length_width extended_bytes
extended_are timescale mpu =
    let asset : Asset = record { packet_id = 0; id = []; kind = 0; timed = false; timescale = timescale; file = 0; mpus = [] } in
    let m : PlacedMpu = record { asset = 0; mpu = 0; in_asset = asset; value = mpu } in
    ap (λ n. big_endian w16 extended_tag ++ (big_endian w8 n ++ extended_bytes (written_extended timescale mpu))) (extended-long m)
    ∙ ap (λ (l : List ℕ). big_endian w16 extended_tag ++ (big_endian w8 (13 + 4 * length mpu.aus) ++ (big_endian w8 253 ++ (big_endian w32 timescale ++ l)))) (append-nil (mpu_bytes (written_mpu mpu)))

-- ---- the timestamp descriptors that are left

-- a timestamp descriptor holds those MPUs that its names stand for
pub stamps_at : (asset : Asset) (names : List (ℕ × ℕ)) (k : ℕ)
    → stamps_of_21 (named asset names) k ≡ record { tag = stamps_tag; bytes = stamps_bytes (map pair_of (named asset (take 21 (drop (k * 21) names)))) }
unfolding stamps_of_21
stamps_at asset names k =
    ap (λ (l : List PlacedMpu). record { tag = stamps_tag; bytes = stamps_bytes (map pair_of l) })
    (ap (take 21) (drop-map (named_mpu asset) (k * 21) names) ∙ take-map (named_mpu asset) 21 (drop (k * 21) names))

-- how long it is
pub stamps_long : (asset : Asset) (names : List (ℕ × ℕ))
    → length (descriptor_bytes (record { tag = stamps_tag; bytes = stamps_bytes (map pair_of (named asset names)) })) ≡ 3 + 12 * length names
stamps_long asset names = ap length (stamps_are asset names) ∙ simp (length-append, length_big_endian) (omega (arith, stamps-long (map pair_of (named asset names)), pairs-long asset names))

-- the bytes of timestamp descriptors from one on
abbrev pub stamps_from : Asset → List (ℕ × ℕ) → ℕ → ℕ → List ℕ
stamps_from asset names k n = flat_map descriptor_bytes (map (stamps_of_21 (named asset names)) (numbers k n))

pub stamps_left : (asset : Asset) (names : List (ℕ × ℕ)) (k count : ℕ) → k < count
    → stamps_from asset names k (count - k)
    ≡ descriptor_bytes (record { tag = stamps_tag; bytes = stamps_bytes (map pair_of (named asset (take 21 (drop (k * 21) names)))) }) ++ stamps_from asset names (k + 1) (count - (k + 1))
unfolding numbers
stamps_left asset names k count l =
    let s : count - k ≡ suc (count - (k + 1)) = omega arith in
    ap (λ n. stamps_from asset names k n) s
    ∙ ap (λ d. descriptor_bytes d ++ stamps_from asset names (k + 1) (count - (k + 1))) (stamps_at asset names k)

-- ---- extended descriptors

abbrev extended_descriptor : PlacedMpu → DescriptorValue
extended_descriptor m = record { tag = extended_tag; bytes = extended_bytes (written_extended m.in_asset.timescale m.value) }

pub extended_some : (m : PlacedMpu) → 0 < length m.value.aus
    → flat_map descriptor_bytes (extended_of_mpu m) ≡ descriptor_bytes (record { tag = extended_tag; bytes = extended_bytes (written_extended m.in_asset.timescale m.value) })
unfolding extended_of_mpu
extended_some m l = go (nat_lt 0 (length m.value.aus)) refl
  where
    go : (b : Bool) → nat_lt 0 (length m.value.aus) ≡ b
        → flat_map descriptor_bytes (cond b (record { tag = extended_tag; bytes = extended_bytes (written_extended m.in_asset.timescale m.value) } ∷ []) []) ≡ descriptor_bytes (extended_descriptor m)
    go true e = append-nil (descriptor_bytes (extended_descriptor m))
    go false e = absurd (omega (arith, l, ltb-false 0 (length m.value.aus) e))

pub extended_none : (m : PlacedMpu) → length m.value.aus ≤ 0 → flat_map descriptor_bytes (extended_of_mpu m) ≡ []
unfolding extended_of_mpu
extended_none m l = go (nat_lt 0 (length m.value.aus)) refl
  where
    go : (b : Bool) → nat_lt 0 (length m.value.aus) ≡ b → flat_map descriptor_bytes (cond b (record { tag = extended_tag; bytes = extended_bytes (written_extended m.in_asset.timescale m.value) } ∷ []) []) ≡ []
    go true e = absurd (omega (arith, l, ltb-true 0 (length m.value.aus) e))
    go false e = refl

pub extended_size_some : (m : PlacedMpu) → 0 < length m.value.aus → extended_length m ≡ 16 + 4 * length m.value.aus
unfolding extended_length
extended_size_some m l = go (nat_lt 0 (length m.value.aus)) refl
  where
    go : (b : Bool) → nat_lt 0 (length m.value.aus) ≡ b → cond b (16 + 4 * length m.value.aus) 0 ≡ 16 + 4 * length m.value.aus
    go true e = refl
    go false e = absurd (omega (arith, l, ltb-false 0 (length m.value.aus) e))

pub extended_size_none : (m : PlacedMpu) → length m.value.aus ≤ 0 → extended_length m ≡ 0
unfolding extended_length
extended_size_none m l = go (nat_lt 0 (length m.value.aus)) refl
  where
    go : (b : Bool) → nat_lt 0 (length m.value.aus) ≡ b → cond b (16 + 4 * length m.value.aus) 0 ≡ 0
    go true e = absurd (omega (arith, l, ltb-true 0 (length m.value.aus) e))
    go false e = refl

left_step_of : {A B C : Type 0} (f : B → List C) (v : A → B) (xs : List A) (i : ℕ) (x : A) → i < length xs → x ≡ get_or xs i x
    → flat_map f (map v (drop i xs)) ≡ f (v x) ++ flat_map f (map v (drop (i + 1) xs))
left_step_of {A} f v xs i x lt is = rw add-one (
    ap (λ (ys : List A). flat_map f (map v ys)) (drop-cons xs i x lt)
    ∙ ap (λ (y : A). f (v y) ++ flat_map f (map v (drop (suc i) xs))) (sym is))

-- the extended descriptors of the MPUs that are left
pub extended_left : (asset : Asset) (names : List (ℕ × ℕ)) (i : ℕ) (name : ℕ × ℕ) → i < length names → name ≡ get_or names i name
    → flat_map descriptor_bytes (flat_map extended_of_mpu (named asset (drop i names)))
    ≡ flat_map descriptor_bytes (extended_of_mpu (named_mpu asset name)) ++ flat_map descriptor_bytes (flat_map extended_of_mpu (named asset (drop (i + 1) names)))
extended_left asset names i name l is =
    ap (flat_map descriptor_bytes) (left_step_of extended_of_mpu (named_mpu asset) names i name l is)
    ∙ flat_map-append descriptor_bytes (extended_of_mpu (named_mpu asset name)) (flat_map extended_of_mpu (named asset (drop (i + 1) names)))

-- the sizes that are left
pub sizes_left : (asset : Asset) (names : List (ℕ × ℕ)) (i : ℕ) (name : ℕ × ℕ) → i < length names → name ≡ get_or names i name
    → sum_by extended_length (named asset (drop i names)) ≡ extended_length (named_mpu asset name) + sum_by extended_length (named asset (drop (i + 1) names))
sizes_left asset names i name l is = rw add-one (
    ap (λ (ys : List (ℕ × ℕ)). sum_by extended_length (named asset ys)) (drop-cons names i name l)
    ∙ (sum_by-cons extended_length (named_mpu asset (get_or names i name)) (named asset (drop (suc i) names))
    ∙ ap (λ (y : ℕ × ℕ). extended_length (named_mpu asset y) + sum_by extended_length (named asset (drop (suc i) names))) (sym is)))

pub extended_long_some : (m : PlacedMpu) → 0 < length m.value.aus → length (flat_map descriptor_bytes (extended_of_mpu m)) ≡ 16 + 4 * length m.value.aus
unfolding length_width
extended_long_some m l = ap length (extended_some m l) ∙ omega (arith, descriptor_long (extended_descriptor m), extended-long m)

-- what an MPU has, seen by its value
pub of_value : (m : PlacedMpu) (mpu : Mpu) → mpu ≡ m.value → length mpu.aus ≡ length m.value.aus
of_value m mpu e = ap (λ (x : Mpu). length x.aus) e

pub descriptors_start : (asset : Asset) (names : List (ℕ × ℕ)) → 3 * div_ceil (length names) 21 + 12 * length names + sum_by extended_length (named asset names) ≡ descriptors_length (named asset names)
unfolding descriptors_length
descriptors_start asset names = ap (λ n. 3 * div_ceil n 21 + 12 * n + sum_by extended_length (named asset names)) (sym (length-map names (named_mpu asset)))

pub stamps_whole : (asset : Asset) (names : List (ℕ × ℕ)) → stamps_from asset names 0 (div_ceil (length names) 21) ≡ flat_map descriptor_bytes (all_stamps (named asset names))
stamps_whole asset names = ap (λ n. stamps_from asset names 0 (div_ceil n 21)) (sym (length-map names (named_mpu asset)))

pub stamps_none : (asset : Asset) (names : List (ℕ × ℕ)) (k n : ℕ) → n ≤ k → stamps_from asset names k (n - k) ≡ []
unfolding numbers
stamps_none asset names k n l = let z : n - k ≡ 0 = omega arith in ap (λ m. stamps_from asset names k m) z

-- ---- an asset

stamps-then-extended : (mpus : List PlacedMpu) → flat_map descriptor_bytes (sent_descriptors mpus) ≡ flat_map descriptor_bytes (all_stamps mpus) ++ flat_map descriptor_bytes (flat_map extended_of_mpu mpus)
unfolding sent_descriptors
stamps-then-extended mpus = flat_map-append descriptor_bytes (all_stamps mpus) (flat_map extended_of_mpu mpus)

-- what stands before an asset's descriptors
abbrev asset_start : Asset → List ℕ
asset_start asset = head_bytes (record { identifier_type = 0; scheme = 0; id = asset.id; kind = asset.kind; reserved = 127; count = 1 }) ++ location_bytes (IsHere asset.packet_id)

pub asset_are : (asset : Asset) (mpus : List PlacedMpu)
    → asset_bytes (listed_asset asset mpus)
    ≡ head_bytes (record { identifier_type = 0; scheme = 0; id = asset.id; kind = asset.kind; reserved = 127; count = 1 }) ++ (location_bytes (IsHere asset.packet_id)
    ++ (big_endian w16 (descriptors_length mpus) ++ (flat_map descriptor_bytes (all_stamps mpus) ++ flat_map descriptor_bytes (flat_map extended_of_mpu mpus))))
unfolding asset_bytes listed_asset descriptors_bytes
asset_are asset mpus =
    let head : List ℕ = head_bytes (record { identifier_type = 0; scheme = 0; id = asset.id; kind = asset.kind; reserved = 127; count = 1 }) in
    let here : List ℕ = location_bytes (IsHere asset.packet_id) in
    ap (λ (l : List ℕ). head ++ (l ++ (big_endian w16 (length (flat_map descriptor_bytes (sent_descriptors mpus))) ++ flat_map descriptor_bytes (sent_descriptors mpus)))) (append-nil here)
    ∙ (ap (λ n. head ++ (here ++ (big_endian w16 n ++ flat_map descriptor_bytes (sent_descriptors mpus)))) (descriptors-long mpus)
    ∙ ap (λ (l : List ℕ). head ++ (here ++ (big_endian w16 (descriptors_length mpus) ++ l))) (stamps-then-extended mpus))

pub asset_size_is : (asset : Asset) (mpus : List PlacedMpu) → length (asset_bytes (listed_asset asset mpus)) ≡ 17 + length asset.id + descriptors_length mpus
unfolding listed_asset
asset_size_is asset mpus =
    omega (arith, asset_long (listed_asset asset mpus), location_long (IsHere asset.packet_id), length-append (location_bytes (IsHere asset.packet_id)) [], descriptors-long mpus)

pub descriptors_parts : (mpus : List PlacedMpu) → length (flat_map descriptor_bytes (all_stamps mpus)) + length (flat_map descriptor_bytes (flat_map extended_of_mpu mpus)) ≡ descriptors_length mpus
descriptors_parts mpus = sym (length-append (flat_map descriptor_bytes (all_stamps mpus)) (flat_map descriptor_bytes (flat_map extended_of_mpu mpus))) ∙ (ap length (sym (stamps-then-extended mpus)) ∙ descriptors-long mpus)
