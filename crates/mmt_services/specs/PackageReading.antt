-- Reading a package from left to right, up to the first refusal.
use Rattle.std.specs.Prelude.{ℕ, ◌+◌, List, drop, Result, Ok, Err}
use Rattle.std.specs.Int.{w8}
use Rattle.mmt_base.specs.declared.refused.Refused.{Refused}
use Rattle.mmt_fields.specs.Reading.{◌>>=◌, number_at, bytes_at}
use Rattle.mmt_mpt.specs.declared.location.LocationWhy.{LocationWhy}
use Rattle.mmt_mpt.specs.Location.{LocationValue}
use Rattle.mmt_mpt.specs.LocationReading.{location_of}
use Rattle.mmt_services.specs.declared.plt_why.PltWhy.{PltWhy}
use Rattle.mmt_services.specs.declared.plt_why.PltWhy.TheVariants as why
use Rattle.mmt_services.specs.Package.{PackageValue}
use Rattle.mmt_services.specs.Refusals.{plt_why}

-- a location with the number of its bytes, as one of bytes that begin at a place of a table
abbrev pub in_table : ℕ → List ℕ → Result (LocationValue × ℕ) (Refused LocationWhy) → Result (LocationValue × List ℕ) (Refused PltWhy)
in_table at bytes (Ok x) = Ok (x.0, drop x.1 bytes)
in_table at bytes (Err e) = Err (record { at = at + e.at; why = plt_why e.why })

-- the location of a package, and the bytes after it (ARIB STD-B60, MMT_general_location_info)
unfoldable pub place_at : ℕ → List ℕ → Result (LocationValue × List ℕ) (Refused PltWhy)
place_at at bytes = in_table at bytes (location_of bytes)

-- a package, and the bytes after it (this project's rule)
unfoldable pub package_at : ℕ → List ℕ → Result (PackageValue × List ℕ) (Refused PltWhy)
package_at at bytes = do
  len ← number_at w8 bytes at why.Short
  id ← bytes_at len.0 len.1 (at + 1) why.Short
  location ← place_at (at + 1 + len.0) id.1
  Ok (record { id = id.0; location = location.0 }, location.1)
