-- How long a location's spelling is.
use Rattle.std.specs.Prelude.{ℕ, ◌+◌, length}
use Rattle.mmt_mpt.specs.Location.{LocationValue, IsHere, InIp4, InIp6, InStream, InIp6Stream, AtUrl}

-- how many bytes a location has (ARIB STD-B60, MMT_general_location_info)
abbrev pub location_size : LocationValue → ℕ
location_size (IsHere id) = 3
location_size (InIp4 f) = 13
location_size (InIp6 f) = 37
location_size (InStream s) = 7
location_size (InIp6Stream s) = 37
location_size (AtUrl text) = 2 + length text
