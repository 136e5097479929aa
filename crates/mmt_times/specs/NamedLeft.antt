-- What contracts see of the iterator over the names of an MPT.
use Rattle.std.specs.Prelude.{List, ◌++◌}
use Rattle.std.specs.List.{flat_map}
use Rattle.mmt_mpt.specs.AssetsLeft.{assets_left}
use Rattle.mmt_times.specs.declared.entries.Entries.{Entries}
use Rattle.mmt_times.specs.NamesOf.{NamedValue, names_of_asset}
use Rattle.mmt_times.specs.AssetNamesLeft.{asset_or_nothing}

-- the names that an iterator has yet to give
abbrev pub named_left : Entries → List NamedValue
named_left s = asset_or_nothing s.names ++ flat_map (names_of_asset s.configured) (assets_left s.assets)
