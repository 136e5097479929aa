-- What contracts see of a package.
use Rattle.mmt_mpt.specs.LocationView.{view_location}
use Rattle.mmt_services.specs.declared.package.Package.{Package}
use Rattle.mmt_services.specs.Package.{PackageValue}

-- a package without where it lies in memory
abbrev pub view_package : Package → PackageValue
view_package p = record { id = p.id.now; location = view_location p.location }
