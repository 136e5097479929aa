-- What is read as an asset was spelled so, and what is spelled so is read.
use Rattle.std.proofs.Common.{◌≡◌, ℕ, ◌+◌, ◌-◌, ◌*◌, ◌/◌, ◌%◌, ◌<◌, eqb, List, [], ◌∷◌, ◌++◌, length, None, Result, Ok, Err, refl, sym, ap, subst, ◌∙◌, append_assoc, arith, eq-eqb}
use Rattle.std.specs.List.{flat_map}
use Rattle.std.specs.Int.{w8, w32}
use Rattle.std.proofs.lemmas.Bool.{eqb-true}
use Rattle.std.proofs.lemmas.List.{length-append}
use Rattle.mmt_base.specs.declared.refused.Refused.{Refused}
use Rattle.mmt_fields.specs.Reading.{big_endian}
use Rattle.mmt_fields.proofs.Codec.{IsBytes, IsBytes-rest, Stage, Field, Always, field, field_of, checked, made}
use Rattle.mmt_fields.proofs.Numbers.{u8_field, u32_field, bytes_field, length_big_endian}
use Rattle.mmt_lists.specs.Counted.{counted, counted_of}
use Rattle.mmt_lists.proofs.CountedItems.{counted_all}
use Rattle.mmt_lists.proofs.CountedSteps as steps
use Rattle.mmt_lists.proofs.Variants.{placed_field}
use Rattle.mmt_mpt.specs.declared.location.LocationWhy.{LocationWhy}
use Rattle.mmt_mpt.specs.declared.part_why.PartWhy.{PartWhy}
use Rattle.mmt_mpt.specs.declared.part_why.PartWhy.TheVariants as why
use Rattle.mmt_mpt.specs.Refusals.{as_part}
use Rattle.mmt_mpt.specs.Location.{LocationFits, location_bytes}
use Rattle.mmt_mpt.specs.LocationReading.{location_at}
use Rattle.mmt_mpt.specs.Descriptor.{descriptors_bytes}
use Rattle.mmt_mpt.specs.Asset.{AssetValue, AssetHead, head_of, head_bytes, asset_bytes, HeadFits, AssetFits, placed_assets, descriptors_place}
use Rattle.mmt_mpt.specs.AssetReading.{place_at, head_at, asset_by, asset_at, assets_from}
use Rattle.mmt_mpt.proofs.LocationLaw.{location_field}
use Rattle.mmt_mpt.proofs.DescriptorLaw.{descriptors_field}

-- ---- a location of an asset

part_ok : {A : Type 0} (r : Result A (Refused LocationWhy)) (x : A) → as_part r ≡ Ok x → r ≡ Ok x
part_ok (Ok y) x e = ap Ok (cc)
part_ok (Err d) x e = absurd cc

pub place_field : (at : ℕ) → Field (place_at at) location_bytes LocationFits
unfolding place_at
place_field at =
    let here = location_field at in
    record {
      takes = λ bytes x rest are e. here.takes bytes x rest are (part_ok (location_at at bytes) (x, rest) e);
      again = λ x rest fits. rw (here.again x rest fits) refl;
    }

-- ---- what stands before the locations

abbrev HeadRest : Type 0
HeadRest = AssetHead × List ℕ

head_stage : (at : ℕ) → Stage {V = HeadRest} (λ p. HeadFits p.0) Always Always (head_at at)
    (λ p. big_endian w8 p.0.identifier_type ++ (big_endian w32 p.0.scheme ++ (big_endian w8 (length p.0.id) ++ (p.0.id ++ (big_endian w32 p.0.kind ++ (big_endian w8 (2 * p.0.reserved) ++ (big_endian w8 p.0.count ++ p.1)))))))
unfolding head_at
head_stage at =
    field _ (λ p. p.0.identifier_type) (u8_field at why.Short) (λ v c f. f.identifier_type) (λ identifier identifier_lt.
    field _ (λ p. p.0.scheme) (u32_field (at + 1) why.Short) (λ v c f. f.scheme) (λ scheme scheme_lt.
    field _ (λ p. length p.0.id) (u8_field (at + 5) why.Short) (λ v c f. f.id) (λ len len_lt.
    field _ (λ p. p.0.id) (bytes_field len (at + 6) why.Short) (λ v c f. c.0) (λ id id_len.
    field _ (λ p. p.0.kind) (u32_field (at + 6 + len) why.Short) (λ v c f. f.kind) (λ kind kind_lt.
    field _ (λ p. 2 * p.0.reserved) (u8_field (at + 10 + len) why.Short) (λ v c f. omega (arith, f.reserved)) (λ flags flags_lt.
    checked (eqb (flags % 2) 0) (at + 10 + len) why.ClockRelation _ (λ v c f. let is : 2 * v.0.reserved ≡ flags = c.0 in eq-eqb _ _ (omega arith)) (λ clock.
    field _ (λ p. p.0.count) (u8_field (at + 11 + len) why.Short) (λ v c f. f.count) (λ count count_lt.
    made (λ p. p.1) (λ rest. (record { identifier_type = identifier; scheme = scheme; id = id; kind = kind; reserved = flags / 2; count = count }, rest))
    (λ rest are known.
    let even : flags % 2 ≡ 0 = eqb-true _ _ clock in
    (refl, (refl, (omega arith, (refl, (refl, (id_len, (refl, (refl, tt))))))), record { identifier_type = identifier_lt; scheme = scheme_lt; id = rw id_len len_lt; kind = kind_lt; reserved = omega arith; count = count_lt }))
    (λ v c f.
    let is : 2 * v.0.reserved ≡ flags = c.1.0 in
    let reserved : flags / 2 ≡ v.0.reserved = omega arith in
    rw (reserved, ← c.0, ← c.1.1.0, ← c.1.1.1.0, ← c.1.1.1.1.1.0, ← c.1.1.1.1.1.1.0) refl)))))))))

head_field : (at : ℕ) → Field (head_at at) head_bytes HeadFits
unfolding head_bytes
head_field at = field_of head_bytes (head_stage at) (λ v. simp append_assoc)

-- ---- an asset

abbrev AssetRest : Type 0
AssetRest = AssetValue × List ℕ

asset_stage : (at end : ℕ) → Stage {V = AssetRest} (λ p. AssetFits p.0) Always Always (asset_by at end)
    (λ p. head_bytes (head_of p.0) ++ (flat_map location_bytes p.0.locations ++ (descriptors_bytes p.0.descriptors ++ p.1)))
unfolding asset_by
asset_stage at end =
    field _ (λ p. head_of p.0) (head_field at) (λ v c f. f.head) (λ head head_fits.
    field _ (λ p. p.0.locations) (counted_all place_at location_bytes LocationFits place_field head.count (at + 12 + length head.id)) (λ v c f. (ap (λ (h : AssetHead). h.count) c.0, f.locations)) (λ locations locations_fit.
    field _ (λ p. p.0.descriptors) (placed_field (λ rest. end - length rest) descriptors_field) (λ v c f. f.descriptors) (λ descriptors descriptors_fit.
    made (λ p. p.1) (λ rest. (record { identifier_type = head.identifier_type; scheme = head.scheme; id = head.id; kind = head.kind; reserved = head.reserved; locations = locations; descriptors = descriptors }, rest))
    (λ rest are known.
    let same : ◌≡◌ {A = AssetHead} (record { identifier_type = head.identifier_type; scheme = head.scheme; id = head.id; kind = head.kind; reserved = head.reserved; count = length locations }) head = ap (λ (n : ℕ). record { identifier_type = head.identifier_type; scheme = head.scheme; id = head.id; kind = head.kind; reserved = head.reserved; count = n }) locations_fit.0 in
    (refl, (refl, (refl, (same, tt))), record { head = subst HeadFits (sym same) head_fits; locations = locations_fit.1; descriptors = descriptors_fit }))
    (λ v c f. rw (← c.0, ← c.1.0, ← c.1.1.0) refl))))

asset_by_field : (at end : ℕ) → Field (asset_by at end) asset_bytes AssetFits
unfolding asset_bytes
asset_by_field at end = field_of asset_bytes (asset_stage at end) (λ v. simp append_assoc)

pub asset_field : (at : ℕ) → Field (asset_at at) asset_bytes AssetFits
unfolding asset_at
asset_field at = placed_field (λ bytes. at + length bytes) (asset_by_field at)

-- ---- where an asset's descriptors begin

length-head : (h : AssetHead) → length (head_bytes h) ≡ 12 + length h.id
unfolding head_bytes
length-head h = simp (length-append, length_big_endian) (omega arith)

pub descriptors_begin : (at n : ℕ) (bytes : List ℕ) (head : AssetHead) (locations : List ℕ) (from : ℕ) → IsBytes bytes → head_at at bytes ≡ Ok (head, locations)
    → (counted n place_at from locations).stop ≡ None
    → at + length bytes - length (counted n place_at from locations).rest + 2 ≡ descriptors_place at head.id (counted n place_at from locations).items
unfolding counted_of
descriptors_begin at n bytes head locations from are e stop =
    let here = head_field at in
    let h = here.takes bytes head locations are e in
    let l_are : IsBytes locations = IsBytes-rest (head_bytes head) locations (subst IsBytes h.0 are) in
    let places = counted_all place_at location_bytes LocationFits place_field n from in
    let c = counted n place_at from locations in
    let p = places.takes locations c.items c.rest l_are (rw stop refl) in
    let long : length bytes ≡ length (head_bytes head) + length locations = ap length h.0 ∙ length-append (head_bytes head) locations in
    let all : length locations ≡ length (flat_map location_bytes c.items) + length c.rest = ap length p.0 ∙ length-append (flat_map location_bytes c.items) c.rest in
    omega (arith, length-head head)

-- ---- from asset to asset

pub assets_first : (n at : ℕ) (bytes : List ℕ) (x : AssetRest) → 0 < n → IsBytes bytes → asset_at at bytes ≡ Ok x
    → assets_from n at bytes ≡ record { at = at; asset = x.0 } ∷ assets_from (n - 1) (at + (length bytes - length x.1)) x.1
assets_first n at bytes x some are e =
    let here = asset_field at in
    let h = here.takes bytes x.0 x.1 are e in
    let long : length bytes ≡ length (asset_bytes x.0) + length x.1 = ap length h.0 ∙ length-append (asset_bytes x.0) x.1 in
    let place : at + length (asset_bytes x.0) ≡ at + (length bytes - length x.1) = omega arith in
    ap (placed_assets at) (steps.first_item asset_at n at bytes x some e)
    ∙ ap (λ (p : ℕ). record { at = at; asset = x.0 } ∷ placed_assets p (counted (n - 1) asset_at (at + (length bytes - length x.1)) x.1).items) place

pub no_asset : (n at : ℕ) (bytes : List ℕ) (d : Refused PartWhy) → asset_at at bytes ≡ Err d → assets_from n at bytes ≡ []
no_asset n at bytes d e = ap (placed_assets at) (steps.no_item asset_at n at bytes d e)
