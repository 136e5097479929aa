-- What contracts see of an MPT and of the iterator over its assets.
use Rattle.mmt_fields.specs.Items.{all_items}
use Rattle.mmt_lists.specs.Counted.{counted}
use Rattle.mmt_mpt.specs.declared.mpt.Mpt.{Mpt}
use Rattle.mmt_mpt.specs.DescriptorReading.{descriptor_at}
use Rattle.mmt_mpt.specs.AssetReading.{asset_at}
use Rattle.mmt_mpt.specs.Table.{MptValue}

-- a table without where it lies in memory
abbrev pub view : Mpt → MptValue
view m = record { version = m.version; mode = m.mode; reserved = m.reserved; package_id = m.package_id.now; descriptors = (all_items descriptor_at m.descriptors_at m.descriptors.now).items; assets = (counted m.count asset_at m.assets_at m.assets.now).items }
