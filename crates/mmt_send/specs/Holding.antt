-- What the buffer of signalling messages holds (this project's rule).
use Rattle.std.specs.Prelude.{◌≡◌, ℕ, List, length, Option, Some, None}
use Rattle.mmt_model.specs.declared.programmes.Programme.{Programme}
use Rattle.mmt_sent.specs.Messages.{message_bytes}
use Rattle.mmt_send.specs.declared.messages.Spelled.{Spelled}
use Rattle.mmt_send.specs.declared.payloads.Room.{Room}

-- bytes are those of the signalling message of a place, where there is one
abbrev pub AreOf : Programme → Option ℕ → List ℕ → Type 0
AreOf programme None bytes = Unit {0}
AreOf programme (Some place) bytes = bytes ≡ message_bytes programme place

-- the message last spelled is the one of its place
abbrev pub Holds : Programme → Spelled → Type 0
Holds programme spelled = AreOf programme spelled.place spelled.bytes.items

-- the room in which the payloads of a programme are made: as many bytes of a file as go into one packet, and a message of the programme
pub record IsRoom (programme : Programme) (room : Room) : Type 0 where
  pub file : length room.file.items ≡ programme.limit
  pub spelled : Holds programme room.spelled
