-- What a command does with a stream of packets, for any command that reads one.
use Rattle.std.specs.Prelude.{◌≡◌, ◌≢◌, ◌⊎◌, ℕ, ◌+◌, ◌<◌, ◌≤◌, List, [], ◌∷◌, ◌++◌, length, take}
use Rattle.mmt_io.specs.History.{Event, bytes_read, AtEachRead}
use Rattle.mmt_io.specs.History.Event.{In}
use Rattle.mmt_io.specs.Port.{Rose}
use Rattle.mmt_tlv.specs.Framing.{Packet, joined, IsFront, IsOutOfSync, Framed}
use Rattle.mmt_io.specs.Output.{output_of, IsPrefixOf, NoRead}
use Rattle.mmt_stream.specs.Consuming.{Meaning}
use Rattle.mmt_stream.specs.declared.end.StreamEnd.{StreamEnd}
use Rattle.mmt_stream.specs.declared.end.StreamEnd.TheVariants as end
use Rattle.mmt_stream.specs.declared.end.BrokenKind.TheVariants as kind

-- The bytes read are these packets and a rest, and exactly what belongs to the packets went out.
pub record HasShown (m : Meaning) (events : List Event) (packets : List Packet) (tail : List ℕ) : Type 0 where
  pub framed : Framed (bytes_read events) packets tail
  pub output : output_of events ≡ m.so_far packets

-- the same, and what belongs to the end
pub record HasFinished (m : Meaning) (events : List Event) (packets : List Packet) (tail : List ℕ) : Type 0 where
  pub framed : Framed (bytes_read events) packets tail
  pub output : output_of events ≡ m.at_end packets

-- before each read, what belongs to the whole packets that were read went out
abbrev pub IsPrompt : Meaning → List Event → Type 0
IsPrompt m events = AtEachRead (λ before. (packets : List Packet) × (tail : List ℕ) × HasShown m before packets tail) events

-- a read answered the end of the input
abbrev pub HasEnded : List Event → Type 0
HasEnded events = (before : List Event) × (after : List Event) × (events ≡ before ++ In [] ∷ after)

-- every read but the last one takes at least a byte
abbrev pub EndsOnce : List Event → Type 0
EndsOnce events = (before after : List Event) → events ≡ before ++ In [] ∷ after → NoRead after

-- Of what belongs to the whole packets of the bytes read, a start went out; the end's is among it only where the stream had ended.
abbrev pub HasBegun : Meaning → List Event → Type 0
HasBegun m events = (packets : List Packet) × (tail : List ℕ) × Framed (bytes_read events) packets tail
    × (IsPrefixOf (output_of events) (m.so_far packets) ⊎ (IsPrefixOf (output_of events) (m.at_end packets) × (HasEnded events ⊎ IsOutOfSync tail)))

-- Of what belongs to the whole packets of the bytes read, a prefix went out, and nothing of what belongs to the end.
abbrev pub HasBegunPackets : Meaning → List Event → Type 0
HasBegunPackets m events = (packets : List Packet) × (tail : List ℕ) × Framed (bytes_read events) packets tail × IsPrefixOf (output_of events) (m.so_far packets)

-- where a read answered the end of the input, nothing is unread
abbrev pub IsAllRead : List Event → List ℕ → Type 0
IsAllRead events unread = HasEnded events → unread ≡ []

-- how a run ends, by its answer; at the end of the input nothing is unread
abbrev pub Ends : Meaning → ℕ → StreamEnd → List Event → List ℕ → Type 0
Ends m limit end.Done events unread = (packets : List Packet) × HasFinished m events packets [] × HasEnded events × (unread ≡ []) × (length (bytes_read events) ≤ limit)
Ends m limit (end.Broken kind.Sync place) events unread = (packets : List Packet) × (tail : List ℕ) × HasFinished m events packets tail
    × IsOutOfSync tail × (place ≡ length (joined packets)) × (length (bytes_read events) ≤ limit)
Ends m limit (end.Broken kind.Cut place) events unread = (packets : List Packet) × (tail : List ℕ) × HasFinished m events packets tail
    × IsFront tail × (tail ≢ []) × (place ≡ length (joined packets)) × HasEnded events × (unread ≡ []) × (length (bytes_read events) ≤ limit)
Ends m limit end.TooLong events unread = (packets : List Packet) × (tail : List ℕ) × (seen : List ℕ) × (byte : ℕ)
    × (bytes_read events ≡ seen ++ byte ∷ []) × (length seen ≡ limit) × Framed seen packets tail × IsFront tail
    × (output_of events ≡ m.so_far packets) × (HasEnded events → ⊥)
Ends m limit end.ReadFault events unread = (packets : List Packet) × (tail : List ℕ) × HasShown m events packets tail × IsFront tail × (length (bytes_read events) ≤ limit)
Ends m limit end.WriteFault events unread = HasBegun m events × IsAllRead events unread × (length (bytes_read events) ≤ limit)
Ends m limit end.OutOfMemory events unread = HasBegunPackets m events × IsAllRead events unread × (length (bytes_read events) ≤ limit)

-- What has passed through a port: what was added to its history and what was taken of its bytes, each read in its time.
pub record Passed (m : Meaning) (old now : List Event) (left unread : List ℕ) (events : List Event) : Type 0 where
  pub history : now ≡ old ++ events
  pub taken : left ≡ bytes_read events ++ unread
  pub prompt : IsPrompt m events
  pub once : EndsOnce events

-- a run over a stream: what has passed, and how it ended
pub record Streams (m : Meaning) (limit : ℕ) (outcome : StreamEnd) (old now : List Event) (left unread : List ℕ) : Type 0 where
  pub events : List Event
  pub passed : Passed m old now left unread events
  pub ends : Ends m limit outcome events unread

-- a fault or out of memory ended the run
abbrev pub IsInterrupted : StreamEnd → Type 0
IsInterrupted outcome = (outcome ≡ end.ReadFault) ⊎ ((outcome ≡ end.WriteFault) ⊎ (outcome ≡ end.OutOfMemory))

-- What a run over a stream does, which every command promises that reads one.
pub record Does (m : Meaning) (limit : ℕ) (outcome : StreamEnd) (old new : List Event) (left unread : List ℕ) (reads reads' writes writes' : ℕ) : Type 0 where
  -- what was read, written and noted, and how it ended
  pub streams : Streams m limit outcome old new left unread
  -- at most N bytes and one more are read
  pub few : (events : List Event) → new ≡ old ++ events → length (bytes_read events) ≤ limit + 1
  -- a byte that begins no packet, among the first ones that were read, is told with its place
  pub tells_sync : (events : List Event) (packets : List Packet) (tail : List ℕ) → new ≡ old ++ events → Framed (take limit (bytes_read events)) packets tail
      → IsOutOfSync tail → (outcome ≡ end.Broken kind.Sync (length (joined packets))) ⊎ IsInterrupted outcome
  -- a byte past the limit is told, where no earlier one begins no packet
  pub tells_length : (events : List Event) (packets : List Packet) (tail : List ℕ) → new ≡ old ++ events → Framed (take limit (bytes_read events)) packets tail
      → IsFront tail → limit < length (bytes_read events) → outcome ≡ end.TooLong
  -- an input that ends within a packet is told, with the packet's place
  pub tells_cut : (events : List Event) (packets : List Packet) (tail : List ℕ) → new ≡ old ++ events → Framed (bytes_read events) packets tail
      → IsFront tail → tail ≢ [] → HasEnded events → (outcome ≡ end.Broken kind.Cut (length (joined packets))) ⊎ IsInterrupted outcome
  -- an input that ends after a packet is done
  pub tells_done : (events : List Event) (packets : List Packet) → new ≡ old ++ events → Framed (bytes_read events) packets []
      → HasEnded events → (outcome ≡ end.Done) ⊎ IsInterrupted outcome
  -- whole packets within the limit are read to their end, unless a call failed or memory ran out
  pub complete : (packets : List Packet) → Framed left packets [] → length left ≤ limit → (Rose reads reads' → ⊥) → (Rose writes writes' → ⊥)
      → (outcome ≡ end.Done) ⊎ (outcome ≡ end.OutOfMemory)
