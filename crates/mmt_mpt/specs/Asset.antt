-- Assets of an MPT (ARIB STD-B60, MMT Package Table), and their one spelling.
use Rattle.std.specs.Prelude.{ℕ, ◌+◌, ◌*◌, ◌^◌, ◌<◌, List, [], ◌∷◌, ◌++◌, length}
use Rattle.std.specs.List.{flat_map, All}
use Rattle.std.specs.Int.{w8, w32}
use Rattle.mmt_fields.specs.Reading.{big_endian}
use Rattle.mmt_mpt.specs.Location.{LocationValue, LocationFits, location_bytes}
use Rattle.mmt_mpt.specs.Descriptor.{DescriptorValue, DescriptorFits, descriptor_bytes, descriptors_bytes}

-- an asset: how it is identified, its type, seven reserved bits, its locations and its descriptors (ARIB STD-B60)
pub record AssetValue : Type 0 where
  pub identifier_type : ℕ
  pub scheme : ℕ
  pub id : List ℕ
  pub kind : ℕ
  pub reserved : ℕ
  pub locations : List LocationValue
  pub descriptors : List DescriptorValue

-- what stands before an asset's locations, with how many there are (ARIB STD-B60)
pub record AssetHead : Type 0 where
  pub identifier_type : ℕ
  pub scheme : ℕ
  pub id : List ℕ
  pub kind : ℕ
  pub reserved : ℕ
  pub count : ℕ

-- the head of an asset
abbrev pub head_of : AssetValue → AssetHead
head_of a = record { identifier_type = a.identifier_type; scheme = a.scheme; id = a.id; kind = a.kind; reserved = a.reserved; count = length a.locations }

-- the bytes before the locations; the last bit of the flags, the clock relation flag, is 0 (ARIB STD-B60)
unfoldable pub head_bytes : AssetHead → List ℕ
head_bytes h = big_endian w8 h.identifier_type ++ (big_endian w32 h.scheme ++ (big_endian w8 (length h.id) ++ (h.id ++ (big_endian w32 h.kind ++ (big_endian w8 (2 * h.reserved) ++ big_endian w8 h.count)))))

-- an asset's bytes (ARIB STD-B60, MMT Package Table)
unfoldable pub asset_bytes : AssetValue → List ℕ
asset_bytes a = head_bytes (head_of a) ++ (flat_map location_bytes a.locations ++ descriptors_bytes a.descriptors)

-- each field of a head fits its bits
pub record HeadFits (h : AssetHead) : Type 0 where
  pub identifier_type : h.identifier_type < 2 ^ 8
  pub scheme : h.scheme < 2 ^ 32
  pub id : length h.id < 2 ^ 8
  pub kind : h.kind < 2 ^ 32
  pub reserved : h.reserved < 2 ^ 7
  pub count : h.count < 2 ^ 8

-- the lists of descriptors that have a spelling
pub record DescriptorsFit (ds : List DescriptorValue) : Type 0 where
  pub len : length (flat_map descriptor_bytes ds) < 2 ^ 16
  pub each : All DescriptorFits ds

-- the assets that have a spelling: each field and list fits its bits
pub record AssetFits (a : AssetValue) : Type 0 where
  pub head : HeadFits (head_of a)
  pub locations : All LocationFits a.locations
  pub descriptors : DescriptorsFit a.descriptors

-- an asset with its place in the table
pub record PlacedAsset : Type 0 where
  pub at : ℕ
  pub asset : AssetValue

-- the assets that follow one another from a place on, each with its place
abbrev pub placed_assets : ℕ → List AssetValue → List PlacedAsset
placed_assets at [] = []
placed_assets at (a ∷ as') = record { at = at; asset = a } ∷ placed_assets (at + length (asset_bytes a)) as'

-- the place of an asset's first descriptor in the table
abbrev pub descriptors_place : ℕ → List ℕ → List LocationValue → ℕ
descriptors_place at id locations = at + 14 + length id + length (flat_map location_bytes locations)
