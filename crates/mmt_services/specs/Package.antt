-- Packages that a table lists (after ARIB STD-B60, Package List Table; the layout is this project's rule), and their one spelling.
use Rattle.std.specs.Prelude.{ℕ, ◌^◌, ◌<◌, List, ◌++◌, length}
use Rattle.std.specs.Int.{w8}
use Rattle.mmt_fields.specs.Reading.{big_endian}
use Rattle.mmt_mpt.specs.Location.{LocationValue, LocationFits, location_bytes}

-- a package: its id, and where its MPT is found
pub record PackageValue : Type 0 where
  pub id : List ℕ
  pub location : LocationValue

-- the length of the id in 8 bits, the id and the location (this project's rule)
unfoldable pub package_bytes : PackageValue → List ℕ
package_bytes v = big_endian w8 (length v.id) ++ (v.id ++ location_bytes v.location)

-- the packages that have a spelling
pub record PackageFits (v : PackageValue) : Type 0 where
  pub id : length v.id < 2 ^ 8
  pub location : LocationFits v.location
