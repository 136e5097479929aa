-- Reading an MPT from left to right, up to the first refusal.
use Rattle.std.specs.Prelude.{ℕ, ◌+◌, ◌-◌, ◌/◌, ◌%◌, ◌==◌, List, length, Result, Ok}
use Rattle.std.specs.Int.{w8, w16}
use Rattle.mmt_base.specs.declared.refused.Refused.{Refused}
use Rattle.mmt_fields.specs.Reading.{◌>>=◌, number_at, bytes_at, check}
use Rattle.mmt_lists.specs.Counted.{counted, counted_of}
use Rattle.mmt_mpt.specs.declared.mpt_why.MptWhy.{MptWhy}
use Rattle.mmt_mpt.specs.declared.mpt_why.MptWhy.TheVariants as why
use Rattle.mmt_mpt.specs.Refusals.{in_table}
use Rattle.mmt_mpt.specs.DescriptorReading.{descriptors_at}
use Rattle.mmt_mpt.specs.Asset.{AssetValue}
use Rattle.mmt_mpt.specs.AssetReading.{asset_at}
use Rattle.mmt_mpt.specs.Table.{MptValue}

-- so many assets; a refusal tells how many assets were read before it (ARIB STD-B60, MMT Package Table)
unfoldable pub assets_of : ℕ → ℕ → List ℕ → Result (List AssetValue × List ℕ) (Refused MptWhy)
assets_of n at bytes = in_table (length (counted n asset_at at bytes).items) (counted_of n asset_at at bytes)

-- an MPT, field by field (ARIB STD-B60, MMT Package Table; the order of the checks is this project's rule)
unfoldable pub mpt_of : List ℕ → Result MptValue (Refused MptWhy)
mpt_of bytes = do
  id ← number_at w8 bytes 0 why.Short
  version ← number_at w8 id.1 1 why.Short
  len ← number_at w16 version.1 2 why.Short
  whole ← check (length len.1 == len.0) 2 why.Length
  flags ← number_at w8 len.1 4 why.Short
  package_len ← number_at w8 flags.1 5 why.Short
  package_id ← bytes_at package_len.0 package_len.1 6 why.Short
  descriptors ← in_table 0 (descriptors_at (6 + package_len.0) package_id.1)
  count ← number_at w8 descriptors.1 (4 + len.0 - length descriptors.1) why.Short
  assets ← assets_of count.0 (4 + len.0 - length count.1) count.1
  ended ← check (length assets.1 == 0) (4 + len.0 - length assets.1) why.Length
  Ok (record { version = version.0; mode = flags.0 % 4; reserved = flags.0 / 4; package_id = package_id.0; descriptors = descriptors.0; assets = assets.0 })
