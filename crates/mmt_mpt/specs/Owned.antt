-- What contracts see of an MPT in lists of its own: the same value as of one that was read.
use Rattle.std.specs.Prelude.{map}
use Rattle.mmt_mpt.specs.declared.owned.OwnedLocation.{OwnedLocation}
use Rattle.mmt_mpt.specs.declared.owned.OwnedLocation.TheVariants as locations
use Rattle.mmt_mpt.specs.declared.owned.OwnedDescriptor.{OwnedDescriptor}
use Rattle.mmt_mpt.specs.declared.owned.OwnedAsset.{OwnedAsset}
use Rattle.mmt_mpt.specs.declared.owned.OwnedMpt.{OwnedMpt}
use Rattle.mmt_mpt.specs.Location.{LocationValue, IsHere, InIp4, InIp6, InStream, InIp6Stream, AtUrl}
use Rattle.mmt_mpt.specs.Descriptor.{DescriptorValue, PlacedDescriptor}
use Rattle.mmt_mpt.specs.Asset.{AssetValue, PlacedAsset}
use Rattle.mmt_mpt.specs.Table.{MptValue}

-- an owned location as a location
abbrev pub owned_location : OwnedLocation → LocationValue
owned_location (locations.Here id) = IsHere id
owned_location (locations.Ip4 source destination port id) = InIp4 (record { source = source; destination = destination; port = port; packet_id = id })
owned_location (locations.Ip6 source destination port id) = InIp6 (record { source = source; destination = destination; port = port; packet_id = id })
owned_location (locations.Stream network stream reserved pid) = InStream (record { network = network; stream = stream; reserved = reserved; pid = pid })
owned_location (locations.Ip6Stream source destination port reserved pid) = InIp6Stream (record { source = source; destination = destination; port = port; reserved = reserved; pid = pid })
owned_location (locations.Url text) = AtUrl text

-- an owned descriptor as a descriptor
abbrev pub owned_descriptor : OwnedDescriptor → DescriptorValue
owned_descriptor d = record { tag = d.tag; bytes = d.bytes }

-- an owned asset as an asset
abbrev pub owned_asset : OwnedAsset → AssetValue
owned_asset a = record { identifier_type = a.identifier_type; scheme = a.scheme; id = a.id; kind = a.kind; reserved = a.reserved; locations = map owned_location a.locations; descriptors = map owned_descriptor a.descriptors }

-- an owned MPT as an MPT
abbrev pub owned_mpt : OwnedMpt → MptValue
owned_mpt m = record { version = m.version; mode = m.mode; reserved = m.reserved; package_id = m.package; descriptors = map owned_descriptor m.descriptors; assets = map owned_asset m.assets }

-- a descriptor without its place
abbrev pub unplaced : PlacedDescriptor → DescriptorValue
unplaced d = record { tag = d.tag; bytes = d.bytes }

-- an asset without its place
abbrev pub placeless : PlacedAsset → AssetValue
placeless a = a.asset
