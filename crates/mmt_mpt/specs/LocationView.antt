-- What contracts see of a location.
use Rattle.mmt_mpt.specs.declared.location.Location.{Location}
use Rattle.mmt_mpt.specs.declared.location.Location.TheVariants as locations
use Rattle.mmt_mpt.specs.Location.{LocationValue, IsHere, InIp4, InIp6, InStream, InIp6Stream, AtUrl}

-- a location without where it lies in memory
abbrev pub view_location : Location → LocationValue
view_location (locations.Here id) = IsHere id
view_location (locations.Ip4 source destination port id) = InIp4 (record { source = source; destination = destination; port = port; packet_id = id })
view_location (locations.Ip6 source destination port id) = InIp6 (record { source = source; destination = destination; port = port; packet_id = id })
view_location (locations.Stream network stream reserved pid) = InStream (record { network = network; stream = stream; reserved = reserved; pid = pid })
view_location (locations.Ip6Stream source destination port reserved pid) = InIp6Stream (record { source = source; destination = destination; port = port; reserved = reserved; pid = pid })
view_location (locations.Url text) = AtUrl text.now
