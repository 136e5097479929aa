-- What a line tells of a table that lists services, which is this project's own.
use Rattle.std.specs.Prelude.{ℕ, List, [], ◌++◌, length, codes, decimal, Result, Ok, Err}
use Rattle.std.specs.List.{flat_map}
use Rattle.mmt_base.specs.declared.refused.Refused.{Refused}
use Rattle.mmt_mpt.specs.Location.{LocationValue, IsHere, InIp4, InIp6, InStream, InIp6Stream, AtUrl}
use Rattle.mmt_services.specs.declared.plt_why.PltWhy.{PltWhy}
use Rattle.mmt_services.specs.declared.plt_why.PltWhy.TheVariants as plt
use Rattle.mmt_services.specs.Package.{PackageValue}
use Rattle.mmt_services.specs.Table.{PltValue}

-- the word of a refused PLT (this project's own word)
unfoldable pub plt_word : PltWhy → List ℕ
plt_word plt.Short = codes "plt-short"
plt_word plt.Length = codes "plt-length"
plt_word (plt.LocationKind kind) = codes "plt-location"

-- a location: the packet id of one in the same flow, and nothing of any other (ARIB STD-B60, location_type)
unfoldable pub place_text : LocationValue → List ℕ
place_text (IsHere id) = codes " " ++ decimal id
place_text (InIp4 f) = []
place_text (InIp6 f) = []
place_text (InStream s) = []
place_text (InIp6Stream s) = []
place_text (AtUrl text) = []

-- a package, by its location (this project's own)
abbrev pub package_text : PackageValue → List ℕ
package_text p = place_text p.location

-- a PLT: how many packages it has and the packet ids of those in the same flow, or its refusal (this project's own)
unfoldable pub plt_text : Result PltValue (Refused PltWhy) → List ℕ
plt_text (Ok v) = codes " [plt " ++ decimal (length v.packages) ++ flat_map package_text v.packages ++ codes "]"
plt_text (Err e) = codes " [refused " ++ plt_word e.why ++ codes "]"
