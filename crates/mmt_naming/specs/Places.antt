-- Where in a table its refused descriptors lie.
use Rattle.std.specs.Prelude.{◌<◌}
use Rattle.mmt_times.specs.NamesOf.{NamedValue, IsEntry, IsRefused}

-- a refusal lies in a table of at most 65,539 bytes, its header of four bytes and what its length of 16 bits counts (ARIB STD-B60, MMT Package Table)
abbrev pub IsInTable : NamedValue → Type 0
IsInTable (IsEntry e) = Unit {0}
IsInTable (IsRefused at why) = at < 65540
