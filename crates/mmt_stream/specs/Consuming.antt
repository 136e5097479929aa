-- What the calls of a consumer of packets do.
use Rattle.std.specs.Prelude.{◌≡◌, List, [], ◌∷◌, ◌++◌, Result, Ok, Err, ⊤}
use Rattle.mmt_io.specs.History.{Event}
use Rattle.mmt_tlv.specs.Framing.{Packet}
use Rattle.mmt_io.specs.Output.{Output, nothing, followed, output_of, IsPrefixOf, NoRead}
use Rattle.mmt_io.specs.declared.halt.Halt.{Halt}

-- what belongs to the packets of a stream: while it goes on, and once it has ended
pub record Meaning : Type 0 where
  pub so_far : List Packet → Output
  pub at_end : List Packet → Output

-- Nothing belongs to no packets, more packets add after what there is, and so does the end.
pub record Grows (m : Meaning) : Type 0 where
  pub none : m.so_far [] ≡ nothing
  pub more : (packets others : List Packet) → IsPrefixOf (m.so_far packets) (m.so_far (packets ++ others))
  pub end : (packets : List Packet) → IsPrefixOf (m.so_far packets) (m.at_end packets)

-- Output was added to the history. With what was gathered before and what is gathered now it takes the one whole to the other.
pub record Emits (old new : List Event) (gathered gathered' whole whole' : Output) : Type 0 where
  pub events : List Event
  pub history : new ≡ old ++ events
  pub outputs : NoRead events
  pub output : (done : Output) → followed done gathered ≡ whole → followed (followed done (output_of events)) gathered' ≡ whole'

-- The same, but only a prefix of the other whole went out.
pub record EmitsStart (old new : List Event) (gathered whole whole' : Output) : Type 0 where
  pub events : List Event
  pub history : new ≡ old ++ events
  pub outputs : NoRead events
  pub output : (done : Output) → followed done gathered ≡ whole → IsPrefixOf (followed done (output_of events)) whole'

-- one more packet
abbrev pub Pushes : {C : Type 0} → Meaning → (C → List Packet → Type 0) → (C → Output) → C → List Packet → Packet → List Event → List Event → Result C Halt → Type 0
Pushes m stands gathered consumer packets packet old new (Ok next) = stands next (packets ++ packet ∷ [])
    × Emits old new (gathered consumer) (gathered next) (m.so_far packets) (m.so_far (packets ++ packet ∷ []))
Pushes m stands gathered consumer packets packet old new (Err reason) = EmitsStart old new (gathered consumer) (m.so_far packets) (m.so_far (packets ++ packet ∷ []))

-- all that is gathered goes out
abbrev pub Settles : {C : Type 0} → Meaning → (C → List Packet → Type 0) → (C → Output) → C → List Packet → List Event → List Event → Result C Halt → Type 0
Settles m stands gathered consumer packets old new (Ok next) = stands next packets × (gathered next ≡ nothing)
    × Emits old new (gathered consumer) nothing (m.so_far packets) (m.so_far packets)
Settles m stands gathered consumer packets old new (Err reason) = EmitsStart old new (gathered consumer) (m.so_far packets) (m.so_far packets)

-- all that is gathered goes out, and what belongs to the end
abbrev pub Finishes : Meaning → Output → List Packet → List Event → List Event → Result ⊤ Halt → Type 0
Finishes m gathered packets old new (Ok done) = Emits old new gathered nothing (m.so_far packets) (m.at_end packets)
Finishes m gathered packets old new (Err reason) = EmitsStart old new gathered (m.so_far packets) (m.at_end packets)
