-- The MMT Package Table (ARIB STD-B60), and its one spelling.
use Rattle.std.specs.Prelude.{ℕ, ◌+◌, ◌*◌, ◌^◌, ◌<◌, List, ◌++◌, length}
use Rattle.std.specs.List.{flat_map, All}
use Rattle.std.specs.Int.{w8, w16}
use Rattle.mmt_fields.specs.Reading.{big_endian}
use Rattle.mmt_mpt.specs.Descriptor.{DescriptorValue, descriptor_bytes, descriptors_bytes}
use Rattle.mmt_mpt.specs.Asset.{AssetValue, AssetFits, DescriptorsFit, asset_bytes}

-- an MPT: version, mode, six reserved bits, package id, descriptors and assets (ARIB STD-B60, MMT Package Table)
pub record MptValue : Type 0 where
  pub version : ℕ
  pub mode : ℕ
  pub reserved : ℕ
  pub package_id : List ℕ
  pub descriptors : List DescriptorValue
  pub assets : List AssetValue

-- the table id of an MPT, 0x20 (ARIB STD-B60)
abbrev pub mpt_id : ℕ
mpt_id = 32

-- the bytes after the table's length (ARIB STD-B60, MMT Package Table)
unfoldable pub mpt_inner : MptValue → List ℕ
mpt_inner v = big_endian w8 (4 * v.reserved + v.mode) ++ (big_endian w8 (length v.package_id) ++ (v.package_id ++ (descriptors_bytes v.descriptors ++ (big_endian w8 (length v.assets) ++ flat_map asset_bytes v.assets))))

-- the table's bytes (ARIB STD-B60, MMT Package Table)
unfoldable pub mpt_spelling : MptValue → List ℕ
mpt_spelling v = big_endian w8 mpt_id ++ (big_endian w8 v.version ++ (big_endian w16 (length (mpt_inner v)) ++ mpt_inner v))

-- the tables whose fields and lists fit, whatever the length of the whole
pub record PartsFit (v : MptValue) : Type 0 where
  pub version : v.version < 2 ^ 8
  pub mode : v.mode < 4
  pub reserved : v.reserved < 64
  pub package_id : length v.package_id < 2 ^ 8
  pub descriptors : DescriptorsFit v.descriptors
  pub count : length v.assets < 2 ^ 8
  pub assets : All AssetFits v.assets

-- the tables that have a spelling
pub record MptFits (v : MptValue) : Type 0 where
  pub parts : PartsFit v
  pub len : length (mpt_inner v) < 2 ^ 16

-- the place of a table's first descriptor, after the package id and the descriptors' length
abbrev pub table_descriptors_place : List ℕ → ℕ
table_descriptors_place package_id = 8 + length package_id

-- the place of a table's first asset
abbrev pub assets_place : List ℕ → List DescriptorValue → ℕ
assets_place package_id ds = 9 + length package_id + length (flat_map descriptor_bytes ds)
