-- What a line tells of the names of an MPT, which is this project's own.
use Rattle.std.specs.Prelude.{ℕ, List, [], ◌∷◌, ◌++◌, codes, decimal}
use Rattle.std.specs.List.{flat_map}
use Rattle.mmt_model.specs.Entries.{Entry}
use Rattle.mmt_times.specs.NamesOf.{NamedValue, IsEntry, IsRefused}

-- the timescale of the extended timestamp descriptors that have none, in units a second (this project's rule)
abbrev pub configured : ℕ
configured = 90000

-- a time of an access unit, in units of 2^-32 second (this project's own)
abbrev pub time_text : ℕ → List ℕ
time_text time = codes " " ++ decimal time

-- the times of access units behind their word, where there are any (this project's own)
abbrev pub times_text : List ℕ → List ℕ
times_text [] = []
times_text (time ∷ times) = codes " times" ++ flat_map time_text (time ∷ times)

-- an entry: its packet id, its MPU, its presentation time and its access unit times (ARIB STD-B60, MPU timestamp descriptor)
unfoldable pub entry_text : Entry → List ℕ
entry_text e = codes " [name " ++ decimal e.packet_id ++ codes " " ++ decimal e.mpu ++ codes " " ++ decimal e.time ++ times_text e.aus ++ codes "]"

-- a name: the entry, and nothing for a descriptor that is refused (this project's rule)
abbrev pub named_text : NamedValue → List ℕ
named_text (IsEntry e) = entry_text e
named_text (IsRefused at why) = []
