-- What the packets of a stream become, each decided by the packets up to its own. Earlier packets stand with the newest first.
use Rattle.std.specs.Prelude.{List, [], ◌∷◌, Option, Some, None, Result, Ok, Err}
use Rattle.std.specs.List.{cons_option}
use Rattle.mmt_tlv.specs.Framing.{Packet}

-- the value of a result, or none
abbrev pub given : {T E : Type 0} → Result T E → Option T
given (Ok value) = Some value
given (Err reason) = None

-- what the packets of a stream become after earlier ones, in order, without those that are left out
unfoldable pub image_after : {E : Type 0} → (List Packet → Packet → Result Packet E) → List Packet → List Packet → List Packet
image_after becomes earlier [] = []
image_after becomes earlier (packet ∷ packets) =
    cons_option (given (becomes earlier packet)) (image_after becomes (packet ∷ earlier) packets)

-- what the packets of a stream become, in order
abbrev pub image : {E : Type 0} → (List Packet → Packet → Result Packet E) → List Packet → List Packet
image becomes packets = image_after becomes [] packets
