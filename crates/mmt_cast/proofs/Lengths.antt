-- How many bytes a table that is sent has.
use Rattle.std.proofs.Common.{◌≡◌, ℕ, ◌+◌, ◌*◌, zero, suc, Bool, true, false, nat_lt, cond, List, [], ◌∷◌, ◌++◌, map, length, take, drop, arith, refl, ap}
use Rattle.std.specs.Int.{div_ceil, w8, w16, w32, w64}
use Rattle.std.specs.List.{flat_map, sum_by}
use Rattle.std.proofs.lemmas.List.{drop-drop, length-append, length-map, take_all}
use Rattle.std.proofs.lemmas.List.Concat.{flat_map-append}
use Rattle.std.proofs.lemmas.List.Sums.{sum_by-cons}
use Rattle.mmt_frag.proofs.PartsJoined.{parts-enough, take-add}
use Rattle.mmt_cast.specs.Placing.{PlacedMpu, map_from}
use Rattle.mmt_cast.specs.SentTables.{extended_of_mpu, pair_of, sent_asset, sent_descriptors, sent_table, stamps_of_21}
use Rattle.mmt_cast.specs.Tables.{asset_length, descriptors_length, extended_length, named_of_asset, table_length}
use Rattle.mmt_fields.proofs.Numbers.{length_big_endian}
use Rattle.mmt_fields.specs.Reading.{big_endian}
use Rattle.mmt_model.specs.Carrying.{numbers}
use Rattle.mmt_model.specs.declared.programmes.Asset.{Asset}
use Rattle.mmt_model.specs.declared.programmes.Au.{Au}
use Rattle.mmt_model.specs.declared.programmes.Programme.{Programme}
use Rattle.mmt_mpt.proofs.Sizes.{asset_long, descriptor_long, inner_long, location_long}
use Rattle.mmt_mpt.specs.Asset.{asset_bytes}
use Rattle.mmt_mpt.specs.Descriptor.{DescriptorValue, descriptor_bytes, length_width}
use Rattle.mmt_mpt.specs.Location.{IsHere, location_bytes}
use Rattle.mmt_mpt.specs.Table.{mpt_id, mpt_inner, mpt_spelling}
use Rattle.mmt_times.specs.Extended.{au_bytes, extended_bytes, extended_tag, mpu_bytes}
use Rattle.mmt_times.specs.Stamps.{PairValue, pair_bytes, stamps_bytes}
use Rattle.mmt_times.specs.Writing.{au_value, written_extended}

pub stamps-long : (ps : List PairValue) → length (stamps_bytes ps) ≡ 12 * length ps
unfolding stamps_bytes pair_bytes
stamps-long [] = refl
stamps-long (p ∷ ps) =
    omega (arith, length-append (big_endian w32 p.mpu ++ big_endian w64 p.time) (flat_map pair_bytes ps), length-append (big_endian w32 p.mpu) (big_endian w64 p.time), length_big_endian w32 p.mpu, length_big_endian w64 p.time, stamps-long ps)

aus-long : (as' : List Au) → length (flat_map au_bytes (map au_value as')) ≡ 4 * length as'
unfolding au_bytes
aus-long [] = refl
aus-long (a ∷ as') =
    omega (arith, length-append (big_endian w16 a.dts_pts ++ big_endian w16 a.pts) (flat_map au_bytes (map au_value as')), length-append (big_endian w16 a.dts_pts) (big_endian w16 a.pts), length_big_endian w16 a.dts_pts, length_big_endian w16 a.pts, aus-long as')

pub extended-long : (m : PlacedMpu) → length (extended_bytes (written_extended m.in_asset.timescale m.value)) ≡ 13 + 4 * length m.value.aus
unfolding extended_bytes mpu_bytes
extended-long m = simp (length-append, length_big_endian, aus-long) (omega arith)

-- ---- descriptors

stamp-long : (named : List PlacedMpu) (k : ℕ) → length (descriptor_bytes (stamps_of_21 named k)) ≡ 3 + 12 * length (take 21 (drop (k * 21) named))
unfolding stamps_of_21 length_width
stamp-long named k =
    omega (arith, descriptor_long (stamps_of_21 named k), stamps-long (map pair_of (take 21 (drop (k * 21) named))), length-map (take 21 (drop (k * 21) named)) pair_of)

stamps-all : (named : List PlacedMpu) (j n : ℕ) → length (flat_map descriptor_bytes (map (stamps_of_21 named) (numbers j n))) ≡ 3 * n + 12 * length (take (n * 21) (drop (j * 21) named))
unfolding numbers
stamps-all named j zero = let z : 0 * 21 ≡ 0 = omega arith in omega (arith, ap (λ m. length (take m (drop (j * 21) named))) z)
stamps-all named j (suc n) =
    let s : 21 + n * 21 ≡ suc n * 21 = omega arith in
    let t : j * 21 + 21 ≡ (j + 1) * 21 = omega arith in
    let rest : List PlacedMpu = drop (j * 21) named in
    let a = ap (λ m. length (take m rest)) s in
    let b = ap length (take-add 21 (n * 21) rest) in
    let c = ap (λ l. length (take (n * 21) l)) (drop-drop 21 (j * 21) named) in
    let d = ap (λ m. length (take (n * 21) (drop m named))) t in
    omega (arith, length-append (descriptor_bytes (stamps_of_21 named j)) (flat_map descriptor_bytes (map (stamps_of_21 named) (numbers (j + 1) n))), stamp-long named j, stamps-all named (j + 1) n, a, b, c, d, length-append (take 21 rest) (take (n * 21) (drop 21 rest)))

extended-one : (m : PlacedMpu) → length (flat_map descriptor_bytes (extended_of_mpu m)) ≡ extended_length m
unfolding extended_of_mpu extended_length length_width
extended-one m = go (nat_lt 0 (length m.value.aus))
  where
    d : DescriptorValue
    d = record { tag = extended_tag; bytes = extended_bytes (written_extended m.in_asset.timescale m.value) }

    go : (b : Bool) → length (flat_map descriptor_bytes (cond b (record { tag = extended_tag; bytes = extended_bytes (written_extended m.in_asset.timescale m.value) } ∷ []) [])) ≡ cond b (16 + 4 * length m.value.aus) 0
    go true = omega (arith, length-append (descriptor_bytes d) [], descriptor_long d, extended-long m)
    go false = refl

extended-all : (ms : List PlacedMpu) → length (flat_map descriptor_bytes (flat_map extended_of_mpu ms)) ≡ sum_by extended_length ms
extended-all [] = refl
extended-all (m ∷ ms) =
    omega (arith, ap length (flat_map-append descriptor_bytes (extended_of_mpu m) (flat_map extended_of_mpu ms)), length-append (flat_map descriptor_bytes (extended_of_mpu m)) (flat_map descriptor_bytes (flat_map extended_of_mpu ms)), extended-one m, extended-all ms, sum_by-cons extended_length m ms)

pub descriptors-long : (named : List PlacedMpu) → length (flat_map descriptor_bytes (sent_descriptors named)) ≡ descriptors_length named
unfolding sent_descriptors descriptors_length
descriptors-long named =
    let n : ℕ = div_ceil (length named) 21 in
    let stamps : List DescriptorValue = map (stamps_of_21 named) (numbers 0 n) in
    let z : 0 * 21 ≡ 0 = omega arith in
    let all = ap (λ m. length (take (n * 21) (drop m named))) z in
    let whole = ap length (take_all (n * 21) named (parts-enough (length named) 21 (omega arith))) in
    omega (arith, ap length (flat_map-append descriptor_bytes stamps (flat_map extended_of_mpu named)), length-append (flat_map descriptor_bytes stamps) (flat_map descriptor_bytes (flat_map extended_of_mpu named)), stamps-all named 0 n, all, whole, extended-all named)

-- ---- assets

asset-one : (names : List (ℕ × ℕ)) (a : ℕ) (asset : Asset) → length (asset_bytes (sent_asset names a asset)) ≡ asset_length names a asset
unfolding sent_asset asset_length
asset-one names a asset =
    omega (arith, asset_long (sent_asset names a asset), location_long (IsHere asset.packet_id), length-append (location_bytes (IsHere asset.packet_id)) [], descriptors-long (named_of_asset names a asset))

assets-all : (names : List (ℕ × ℕ)) (n : ℕ) (assets : List Asset) → length (flat_map asset_bytes (map_from (sent_asset names) n assets)) ≡ sum_by (λ k. k) (map_from (asset_length names) n assets)
unfolding map_from
assets-all names n [] = refl
assets-all names n (x ∷ xs) =
    omega (arith, length-append (asset_bytes (sent_asset names n x)) (flat_map asset_bytes (map_from (sent_asset names) (n + 1) xs)), asset-one names n x, assets-all names (n + 1) xs, sum_by-cons (λ k. k) (asset_length names n x) (map_from (asset_length names) (n + 1) xs))

pub inner-is : (programme : Programme) (version : ℕ) (names : List (ℕ × ℕ)) → 4 + length (mpt_inner (sent_table programme version names)) ≡ table_length programme names
unfolding sent_table table_length
inner-is programme version names = omega (arith, inner_long (sent_table programme version names), assets-all names 0 programme.assets)

pub table-long : (programme : Programme) (version : ℕ) (names : List (ℕ × ℕ)) → length (mpt_spelling (sent_table programme version names)) ≡ table_length programme names
unfolding mpt_spelling
table-long programme version names =
    let inner : List ℕ = mpt_inner (sent_table programme version names) in
    let version' : ℕ = (sent_table programme version names).version in
    omega (
      arith,
      inner-is programme version names,
      length-append (big_endian w8 mpt_id) (big_endian w8 version' ++ (big_endian w16 (length inner) ++ inner)),
      length-append (big_endian w8 version') (big_endian w16 (length inner) ++ inner),
      length-append (big_endian w16 (length inner)) inner,
      length_big_endian w8 mpt_id,
      length_big_endian w8 version',
      length_big_endian w16 (length inner),
    )
