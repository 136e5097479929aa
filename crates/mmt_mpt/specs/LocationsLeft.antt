-- The locations that bytes have left, and what contracts see of the iterator over locations.
use Rattle.std.specs.Prelude.{List}
use Rattle.mmt_lists.specs.Counted.{counted}
use Rattle.mmt_mpt.specs.declared.locations.Locations.{Locations}
use Rattle.mmt_mpt.specs.Location.{LocationValue}
use Rattle.mmt_mpt.specs.AssetReading.{place_at}

-- the locations that an iterator has yet to give
abbrev pub locations_left : Locations → List LocationValue
locations_left s = (counted s.left place_at s.at s.rest.now).items
