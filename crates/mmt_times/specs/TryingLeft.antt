-- What contracts see of the trying of a pair.
use Rattle.std.specs.Prelude.{List, [], Option, Some, None}
use Rattle.mmt_times.specs.declared.trying.Trying.{Trying}
use Rattle.mmt_times.specs.ContentView.{view_pair}
use Rattle.mmt_times.specs.NamesOf.{NamedValue, names_of_pair}
use Rattle.mmt_times.specs.NamesLeft.{candidates_left}

-- the names that a trying has yet to give
abbrev pub trying_left : Trying → List NamedValue
trying_left t = names_of_pair (candidates_left t.candidates) t.packet_id (view_pair t.pair)

-- the same, and no name without a trying
abbrev pub or_nothing : Option Trying → List NamedValue
or_nothing None = []
or_nothing (Some t) = trying_left t
