-- What contracts see of an asset.
use Rattle.mmt_fields.specs.Items.{all_items}
use Rattle.mmt_lists.specs.Counted.{counted}
use Rattle.mmt_mpt.specs.declared.asset_view.AssetView.{AssetView}
use Rattle.mmt_mpt.specs.DescriptorReading.{descriptor_at}
use Rattle.mmt_mpt.specs.AssetReading.{place_at}
use Rattle.mmt_mpt.specs.Asset.{AssetValue, PlacedAsset}

-- an asset without where it lies in memory
abbrev pub view_asset : AssetView → AssetValue
view_asset a = record { identifier_type = a.identifier_type; scheme = a.scheme; id = a.id.now; kind = a.kind; reserved = a.reserved; locations = (counted a.count place_at a.locations_at a.locations.now).items; descriptors = (all_items descriptor_at a.descriptors_at a.descriptors.now).items }

-- the same with its place in the table
abbrev pub view_placed : AssetView → PlacedAsset
view_placed a = record { at = a.at; asset = view_asset a }
