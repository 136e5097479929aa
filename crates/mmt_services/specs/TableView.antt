-- What contracts see of a PLT.
use Rattle.std.specs.Prelude.{ℕ, List}
use Rattle.mmt_lists.specs.Counted.{counted}
use Rattle.mmt_services.specs.declared.plt.Plt.{Plt}
use Rattle.mmt_services.specs.PackageReading.{package_at}
use Rattle.mmt_services.specs.Table.{PltValue}

-- the table of a version whose so many packages, and what follows them, are the bytes (this project's rule)
abbrev pub table_of : ℕ → ℕ → List ℕ → PltValue
table_of version count bytes = record { version = version; packages = (counted count package_at 5 bytes).items; rest = (counted count package_at 5 bytes).rest }

-- a table without where it lies in memory
abbrev pub view : Plt → PltValue
view p = table_of p.version p.count p.packages.now
