-- What follows from the history of a port that was written to, and from files that were checked (this project's rules).
use Rattle.std.specs.Prelude.{◌≡◌, ℕ, List, ◌++◌, Option, Ok}
use Rattle.mmt_io.specs.History.{Event, bytes_noted, bytes_read, bytes_written}
use Rattle.mmt_model.specs.Right.{IsRight}
use Rattle.mmt_model.specs.declared.programmes.Programme.{Programme}
use Rattle.mmt_plan.specs.Files.{files_of}
use Rattle.mmt_tlv.specs.Framing.{Packet as Tlv, joined}
use Rattle.mmt_send.specs.Files.{files_on}
use Rattle.mmt_send.specs.Held.{AreWhole}
use Rattle.mmt_send.specs.Writes.{HasBegun, pieces}

-- these bytes were written after what was, and nothing was noted or read
pub record Adds (old new : List Event) (bytes : List ℕ) : Type 0 where
  pub written : bytes_written new ≡ bytes_written old ++ bytes
  pub noted : bytes_noted new ≡ bytes_noted old
  pub read : bytes_read new ≡ bytes_read old

-- the writes of packets write their bytes
abbrev pub StreamsAreBytes : Type 0
StreamsAreBytes = (old : List Event) (packets : List Tlv) → Adds old (old ++ pieces packets) (joined packets)

-- the writes of the first of them, and of a prefix of the next, write a prefix of their bytes
abbrev pub FrontsAreBytes : Type 0
FrontsAreBytes = (old new : List Event) (packets : List Tlv) → HasBegun old new packets → (front rest : List ℕ) × (joined packets ≡ front ++ rest) × Adds old new front

-- no unit is short where the files of a right programme are there and long enough
abbrev pub CheckedFilesAreWhole : Type 0
CheckedFilesAreWhole = (programme : Programme) (file : List ℕ → Option (List ℕ)) → IsRight programme → files_of file programme ≡ Ok tt → AreWhole programme (files_on file programme)
