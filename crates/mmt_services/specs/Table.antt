-- The table that lists services by their packages (after ARIB STD-B60, Package List Table), and its one spelling.
use Rattle.std.specs.Prelude.{ℕ, ◌^◌, ◌<◌, List, ◌++◌, length}
use Rattle.std.specs.List.{flat_map, All}
use Rattle.std.specs.Int.{w8, w16}
use Rattle.mmt_fields.specs.Reading.{big_endian}
use Rattle.mmt_services.specs.Package.{PackageValue, PackageFits, package_bytes}

-- a PLT: version, packages and the bytes after them
pub record PltValue : Type 0 where
  pub version : ℕ
  pub packages : List PackageValue
  pub rest : List ℕ

-- the table id of a PLT, 0x80 (this project's rule)
abbrev pub plt_id : ℕ
plt_id = 128

-- the bytes after the table's length: number_of_packages, the packages and what follows them (this project's rule)
unfoldable pub plt_inner : PltValue → List ℕ
plt_inner v = big_endian w8 (length v.packages) ++ (flat_map package_bytes v.packages ++ v.rest)

-- the table's bytes (this project's rule)
unfoldable pub plt_spelling : PltValue → List ℕ
plt_spelling v = big_endian w8 plt_id ++ (big_endian w8 v.version ++ (big_endian w16 (length (plt_inner v)) ++ plt_inner v))

-- the tables that have a spelling
pub record PltFits (v : PltValue) : Type 0 where
  pub version : v.version < 2 ^ 8
  pub count : length v.packages < 2 ^ 8
  pub packages : All PackageFits v.packages
  pub len : length (plt_inner v) < 2 ^ 16
