-- What contracts see of the iterators over the names of an asset.
use Rattle.std.specs.Prelude.{List, [], ◌++◌, Option, Some, None}
use Rattle.std.specs.List.{flat_map}
use Rattle.mmt_mpt.specs.DescriptorsLeft.{descriptors_left}
use Rattle.mmt_times.specs.declared.name_iterators.LocationNames.{LocationNames}
use Rattle.mmt_times.specs.declared.name_iterators.HereNames.{HereNames}
use Rattle.mmt_times.specs.declared.name_iterators.AssetNames.{AssetNames}
use Rattle.mmt_times.specs.NamesOf.{NamedValue, names_of_pair, names_at}
use Rattle.mmt_times.specs.NamesLeft.{ids_left, refusals_left, pairs_left, candidates_left}
use Rattle.mmt_times.specs.TryingLeft.{or_nothing}

-- the names that an iterator has yet to give at its packet id
abbrev pub location_left : LocationNames → List NamedValue
location_left s = or_nothing s.trying ++ flat_map (names_of_pair (candidates_left s.search.whole) s.packet_id) (pairs_left s.pairs)

-- the names that an iterator has yet to give at the packet ids of its asset
abbrev pub here_left : HereNames → List NamedValue
here_left s = location_left s.names ++ flat_map (names_at s.configured (descriptors_left s.descriptors)) (ids_left s.ids)

-- the names that an iterator has yet to give of its asset
abbrev pub asset_left : AssetNames → List NamedValue
asset_left s = refusals_left s.refusals ++ here_left s.names

-- the same, and no name without an asset
abbrev pub asset_or_nothing : Option AssetNames → List NamedValue
asset_or_nothing None = []
asset_or_nothing (Some s) = asset_left s
