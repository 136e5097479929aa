-- How the refusal of a location is named as that of the table.
use Rattle.mmt_mpt.specs.declared.location.LocationWhy.{LocationWhy}
use Rattle.mmt_mpt.specs.declared.location.LocationWhy.TheVariants as locations
use Rattle.mmt_services.specs.declared.plt_why.PltWhy.{PltWhy}
use Rattle.mmt_services.specs.declared.plt_why.PltWhy.TheVariants as tables

-- a location that is refused (this project's rule)
abbrev pub plt_why : LocationWhy → PltWhy
plt_why locations.Short = tables.Short
plt_why (locations.Kind n) = tables.LocationKind n
