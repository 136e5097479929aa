-- Reading an asset from left to right, up to the first refusal.
use Rattle.std.specs.Prelude.{ℕ, ◌+◌, ◌-◌, ◌/◌, ◌%◌, ◌==◌, List, length, Result, Ok}
use Rattle.std.specs.Int.{w8, w32}
use Rattle.mmt_base.specs.declared.refused.Refused.{Refused}
use Rattle.mmt_fields.specs.Reading.{◌>>=◌, number_at, bytes_at, check}
use Rattle.mmt_lists.specs.Counted.{counted, counted_of}
use Rattle.mmt_mpt.specs.declared.part_why.PartWhy.{PartWhy}
use Rattle.mmt_mpt.specs.declared.part_why.PartWhy.TheVariants as why
use Rattle.mmt_mpt.specs.Refusals.{as_part}
use Rattle.mmt_mpt.specs.Location.{LocationValue}
use Rattle.mmt_mpt.specs.LocationReading.{location_at}
use Rattle.mmt_mpt.specs.DescriptorReading.{descriptors_at}
use Rattle.mmt_mpt.specs.Asset.{AssetHead, AssetValue, PlacedAsset, placed_assets}

-- a location of an asset (ARIB STD-B60)
unfoldable pub place_at : ℕ → List ℕ → Result (LocationValue × List ℕ) (Refused PartWhy)
place_at at bytes = as_part (location_at at bytes)

-- what stands before the locations, field by field (ARIB STD-B60, MMT Package Table)
unfoldable pub head_at : ℕ → List ℕ → Result (AssetHead × List ℕ) (Refused PartWhy)
head_at at bytes = do
  identifier_type ← number_at w8 bytes at why.Short
  scheme ← number_at w32 identifier_type.1 (at + 1) why.Short
  len ← number_at w8 scheme.1 (at + 5) why.Short
  id ← bytes_at len.0 len.1 (at + 6) why.Short
  kind ← number_at w32 id.1 (at + 6 + len.0) why.Short
  flags ← number_at w8 kind.1 (at + 10 + len.0) why.Short
  clock ← check (flags.0 % 2 == 0) (at + 10 + len.0) why.ClockRelation
  count ← number_at w8 flags.1 (at + 11 + len.0) why.Short
  Ok (record { identifier_type = identifier_type.0; scheme = scheme.0; id = id.0; kind = kind.0; reserved = flags.0 / 2; count = count.0 }, count.1)

-- an asset of a table that ends at a place (ARIB STD-B60, MMT Package Table)
unfoldable pub asset_by : ℕ → ℕ → List ℕ → Result (AssetValue × List ℕ) (Refused PartWhy)
asset_by at end bytes = do
  head ← head_at at bytes
  locations ← counted_of head.0.count place_at (at + 12 + length head.0.id) head.1
  descriptors ← descriptors_at (end - length locations.1) locations.1
  Ok (record { identifier_type = head.0.identifier_type; scheme = head.0.scheme; id = head.0.id; kind = head.0.kind; reserved = head.0.reserved; locations = locations.0; descriptors = descriptors.0 }, descriptors.1)

-- an asset, and the bytes after it (ARIB STD-B60, MMT Package Table)
unfoldable pub asset_at : ℕ → List ℕ → Result (AssetValue × List ℕ) (Refused PartWhy)
asset_at at bytes = asset_by at (at + length bytes) bytes

-- so many assets that bytes at a place have left, up to the first that does not fit
abbrev pub assets_from : ℕ → ℕ → List ℕ → List PlacedAsset
assets_from n at bytes = placed_assets at (counted n asset_at at bytes).items
