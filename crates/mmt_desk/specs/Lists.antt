-- The file of a list of deliveries (this project's rules).
use Rattle.std.specs.Prelude.{◌≡◌, ◌<◌, ◌≤◌, ℕ, List, length, Option, Some, None, Result, Ok, Err}
use Rattle.std.specs.List.{AllByRecursion}
use Rattle.mmt_channel.specs.Lists.{IsListText, IsRefusedAt}
use Rattle.mmt_mux.specs.declared.ends.MuxEnd.{MuxEnd}
use Rattle.mmt_mux.specs.declared.ends.MuxEnd.TheVariants as ends
use Rattle.mmt_plan.specs.declared.ends.PlanPart.TheVariants as parts
use Rattle.mmt_plan.specs.declared.ends.PlanPlace.{PlanPlace}
use Rattle.mmt_plan.specs.declared.ends.Reason.{Reason}
use Rattle.mmt_plan.specs.declared.ends.Reason.TheVariants as reasons

-- the place of a line
abbrev pub line_place : ℕ → PlanPlace
line_place line = record { part = parts.Line; a = line; b = 0; c = 0; field = 0 }

-- each of these places is below this number
abbrev pub AreBelow : ℕ → List ℕ → Type 0
AreBelow sent list = AllByRecursion (λ d. d < sent) list

-- the file is there, has at most 16,777,216 bytes, and is the text of this list of places among `sent` packets
abbrev pub IsListIn : Option (List ℕ) → ℕ → List ℕ → Type 0
IsListIn (Some bytes) sent list = (length bytes ≤ 16777216) × IsListText sent bytes list
IsListIn None sent list = ⊥

-- why a file is no list: it is not there, it is too long, or its first line that is no place
abbrev pub IsNoList : Option (List ℕ) → ℕ → Reason → PlanPlace → Type 0
IsNoList file sent reasons.ListAbsent place = (file ≡ None) × (place ≡ line_place 0)
IsNoList file sent reasons.ListLong place = ((bytes : List ℕ) × (file ≡ Some bytes) × (16777216 < length bytes)) × (place ≡ line_place 0)
IsNoList file sent reasons.ListLine place = (bytes : List ℕ) × (line : ℕ) × (file ≡ Some bytes) × (length bytes ≤ 16777216) × IsRefusedAt sent line bytes × (place ≡ line_place line)
IsNoList file sent reason place = ⊥

-- what is answered of a list, faults and `OutOfMemory` aside
abbrev pub IsListAnswer : Option (List ℕ) → ℕ → Result (List ℕ) MuxEnd → Type 0
IsListAnswer file sent (Ok list) = IsListIn file sent list
IsListAnswer file sent (Err (ends.Refused reason place)) = IsNoList file sent reason place
IsListAnswer file sent (Err (ends.NotAdmitted refusal)) = ⊥
IsListAnswer file sent (Err ends.ReadFault) = Unit {0}
IsListAnswer file sent (Err ends.WriteFault) = ⊥
IsListAnswer file sent (Err ends.OutOfMemory) = Unit {0}
