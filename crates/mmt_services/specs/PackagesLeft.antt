-- What contracts see of the iterator over packages.
use Rattle.std.specs.Prelude.{List}
use Rattle.mmt_lists.specs.Counted.{counted}
use Rattle.mmt_services.specs.declared.packages.Packages.{Packages}
use Rattle.mmt_services.specs.Package.{PackageValue}
use Rattle.mmt_services.specs.PackageReading.{package_at}

-- the packages that an iterator has yet to give
abbrev pub packages_left : Packages → List PackageValue
packages_left s = (counted s.left package_at s.at s.rest.now).items
