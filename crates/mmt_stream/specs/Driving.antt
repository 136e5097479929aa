-- Where the reading of a stream stands, from step to step.
use Rattle.std.specs.Prelude.{◌≡◌, ◌⊎◌, ℕ, ◌≤◌, List, [], ◌++◌, length}
use Rattle.mmt_io.specs.History.{Event, bytes_read}
use Rattle.mmt_tlv.specs.Framing.{Packet, joined, IsOutOfSync, Framed}
use Rattle.mmt_tlv.specs.Cutting.{Cutting, StandsFor}
use Rattle.mmt_io.specs.Output.{Output, nothing, followed, output_of}
use Rattle.mmt_stream.specs.Consuming.{Meaning, Emits, EmitsStart}
use Rattle.mmt_stream.specs.Streaming.{HasEnded, Passed, Streams}
use Rattle.mmt_stream.specs.declared.end.StreamEnd.{StreamEnd}
use Rattle.mmt_stream.specs.declared.end.StreamEnd.TheVariants as end
use Rattle.mmt_io.specs.declared.halt.Halt.{Halt}
use Rattle.mmt_io.specs.declared.halt.Halt.TheVariants as halt
use Rattle.mmt_stream.specs.declared.drive.Served.{Served}
use Rattle.mmt_stream.specs.declared.drive.Served.TheVariants as served

-- the answer of a run that a consumer halts
abbrev pub halted : Halt → StreamEnd
halted halt.WriteFault = end.WriteFault
halted halt.OutOfMemory = end.OutOfMemory

-- Between two calls: what was read is what the cutter has taken and a rest of the last piece, the input goes on,
-- and the consumer stands for the whole packets, of whose output it has gathered what didn't go out.
pub record Turn {C : Type 0} (m : Meaning) (stands : C → List Packet → Type 0) (limit : ℕ) (old now : List Event) (left unread rest : List ℕ) (c : Cutting) (consumer : C) (gathered : Output) : Type 0 where
  pub events : List Event
  pub passed : Passed m old now left unread events
  pub few : length (bytes_read events) ≤ limit
  pub going : HasEnded events → ⊥
  pub taken : List ℕ
  pub packets : List Packet
  pub read : bytes_read events ≡ taken ++ rest
  pub cut : StandsFor taken packets c
  pub stood : stands consumer packets
  pub output : followed (output_of events) gathered ≡ m.so_far packets

-- No more packets are cut: the input has ended, or a byte begins no packet.
pub record Stopped {C : Type 0} (m : Meaning) (stands : C → List Packet → Type 0) (limit : ℕ) (old now : List Event) (left unread : List ℕ) (consumer : C) (gathered : Output) : Type 0 where
  pub events : List Event
  pub passed : Passed m old now left unread events
  pub few : length (bytes_read events) ≤ limit
  pub packets : List Packet
  pub tail : List ℕ
  pub framed : Framed (bytes_read events) packets tail
  pub how : HasEnded events ⊎ IsOutOfSync tail
  pub over : (HasEnded events → ⊥) ⊎ (unread ≡ [])
  pub stood : stands consumer packets
  pub output : followed (output_of events) gathered ≡ m.so_far packets

-- what a piece leaves: a consumer and a cutter that have taken it, a byte that begins no packet, or the end of the run
abbrev pub Serves : {C : Type 0} → Meaning → (C → List Packet → Type 0) → (C → Output) → ℕ → List Event → List Event → List ℕ → List ℕ → Cutting → Served C → Type 0
Serves m stands gathered limit old now left unread c (served.On consumer) = Turn m stands limit old now left unread [] c consumer (gathered consumer)
Serves m stands gathered limit old now left unread c (served.Lost consumer place) =
    (s : Stopped m stands limit old now left unread consumer (gathered consumer)) × IsOutOfSync s.tail × (place ≡ length (joined s.packets))
Serves m stands gathered limit old now left unread c (served.Halted reason) = Streams m limit (halted reason) old now left unread

-- how the end of a stream goes: with the given answer, or by a write that failed
abbrev pub EndsWith : Meaning → Output → List Packet → StreamEnd → List Event → List Event → StreamEnd → Type 0
EndsWith m gathered packets wanted old new outcome =
    ((outcome ≡ wanted) × Emits old new gathered nothing (m.so_far packets) (m.at_end packets))
    ⊎ ((outcome ≡ end.WriteFault) × EmitsStart old new gathered (m.so_far packets) (m.at_end packets))

-- the consumer was given no packets, and has gathered nothing
abbrev pub IsNew : {C : Type 0} → (C → List Packet → Type 0) → (C → Output) → C → Type 0
IsNew stands gathered consumer = stands consumer [] × (gathered consumer ≡ nothing)
