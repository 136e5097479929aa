-- What contracts see of what stands before an asset's locations.
use Rattle.mmt_mpt.specs.declared.head.Head.{Head}
use Rattle.mmt_mpt.specs.Asset.{AssetHead}

-- a head without where it lies in memory
abbrev pub view_head : Head → AssetHead
view_head h = record { identifier_type = h.identifier_type; scheme = h.scheme; id = h.id.now; kind = h.kind; reserved = h.reserved; count = h.count }
