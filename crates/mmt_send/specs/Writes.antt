-- What is written of a stream, and why a stream ended (this project's rules).
use Rattle.std.specs.Prelude.{◌≡◌, ℕ, ◌≤◌, Bool, IsTrue, List, [], ◌∷◌, ◌++◌, map, Option}
use Rattle.mmt_io.specs.History.{Event}
use Rattle.mmt_io.specs.History.Event.{In, Note, Out}
use Rattle.mmt_io.specs.Port.{Rose}
use Rattle.mmt_model.specs.declared.programmes.Programme.{Programme}
use Rattle.mmt_sent.specs.Stream.{addressing_of}
use Rattle.mmt_tlv.specs.Framing.{Packet as Tlv, spelling}
use Rattle.mmt_send.specs.Calls.{FitsLabel, IsAt}
use Rattle.mmt_send.specs.Files.{IsUnitShort, files_on}
use Rattle.mmt_send.specs.Holding.{IsRoom}
use Rattle.mmt_send.specs.declared.ends.SendEnd.{SendEnd}
use Rattle.mmt_send.specs.declared.ends.SendEnd.TheVariants as ends
use Rattle.mmt_send.specs.declared.sending.Sender.{Sender}

-- the writes of these packets: one for each, with its bytes
abbrev pub pieces : List Tlv → List Event
pieces packets = map (λ p. Out (spelling p)) packets

-- nothing, or the write of a prefix of the first of these packets
abbrev pub IsFrontOf : List Event → List Tlv → Type 0
IsFrontOf [] packets = Unit {0}
IsFrontOf (Out bytes ∷ []) (p ∷ packets) = (rest : List ℕ) × (spelling p ≡ bytes ++ rest)
IsFrontOf (Out bytes ∷ []) [] = ⊥
IsFrontOf (In bytes ∷ events) packets = ⊥
IsFrontOf (Note bytes ∷ events) packets = ⊥
IsFrontOf (Out bytes ∷ event ∷ events) packets = ⊥

-- a prefix of the first of these packets was written, or nothing
pub record AddsFront (old new : List Event) (packets : List Tlv) : Type 0 where
  pub last : List Event
  pub history : new ≡ old ++ last
  pub front : IsFrontOf last packets

-- of these packets the first were written, and nothing else passed but perhaps a prefix of the next
pub record HasBegun (old new : List Event) (packets : List Tlv) : Type 0 where
  pub sent : List Tlv
  pub left : List Tlv
  pub last : List Event
  pub all : packets ≡ sent ++ left
  pub history : new ≡ old ++ (pieces sent ++ last)
  pub front : IsFrontOf last left

-- a port tells what it did, nothing of it was read, and its count of failed writes doesn't fall
pub record IsUnread (tells_before tells_now : Bool) (before now : List ℕ) (reads_before reads_now writes_before writes_now : ℕ) : Type 0 where
  pub tells : tells_now ≡ tells_before
  pub left : IsTrue tells_before → now ≡ before
  pub reads : reads_now ≡ reads_before
  pub writes : writes_before ≤ writes_now

-- why a stream ended before all of it was written: a read of a file failed; a write failed; a unit is short, where the shelf tells its files; or out of memory
abbrev pub EndsFor : Programme → Bool → (List ℕ → Option (List ℕ)) → ℕ × ℕ → ℕ × ℕ → SendEnd → Type 0
EndsFor programme tells file reads writes ends.ReadFault = Rose reads.0 reads.1
EndsFor programme tells file reads writes (ends.UnitShort unit len got) = IsTrue tells → IsUnitShort programme (files_on file programme) unit len got
EndsFor programme tells file reads writes ends.WriteFault = Rose writes.0 writes.1
EndsFor programme tells file reads writes ends.OutOfMemory = Unit {0}

-- a sender is ready for the packet at a place of the cast
pub record IsReady (programme : Programme) (place : ℕ) (sender : Sender) : Type 0 where
  pub room : IsRoom programme sender.room
  pub at : IsAt (addressing_of programme) place sender.addresser
  pub label : FitsLabel sender.addresser
