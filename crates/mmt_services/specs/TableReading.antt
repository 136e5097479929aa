-- Reading a PLT from left to right, up to the first refusal.
use Rattle.std.specs.Prelude.{ℕ, ◌==◌, List, length, Result, Ok}
use Rattle.std.specs.Int.{w8, w16}
use Rattle.mmt_base.specs.declared.refused.Refused.{Refused}
use Rattle.mmt_fields.specs.Reading.{◌>>=◌, number_at, check}
use Rattle.mmt_lists.specs.Counted.{counted_of}
use Rattle.mmt_services.specs.declared.plt_why.PltWhy.{PltWhy}
use Rattle.mmt_services.specs.declared.plt_why.PltWhy.TheVariants as why
use Rattle.mmt_services.specs.PackageReading.{package_at}
use Rattle.mmt_services.specs.Table.{PltValue}

-- a PLT, field by field (the layout and the order of the checks are this project's rule)
unfoldable pub plt_of : List ℕ → Result PltValue (Refused PltWhy)
plt_of bytes = do
  id ← number_at w8 bytes 0 why.Short
  version ← number_at w8 id.1 1 why.Short
  len ← number_at w16 version.1 2 why.Short
  whole ← check (length len.1 == len.0) 2 why.Length
  count ← number_at w8 len.1 4 why.Short
  packages ← counted_of count.0 package_at 5 count.1
  Ok (record { version = version.0; packages = packages.0; rest = packages.1 })
