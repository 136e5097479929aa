-- The parts of a message, packet by packet.
use Rattle.std.specs.Prelude.{◌≡◌, ℕ, zero, suc, ◌+◌, ◌-◌, ◌%◌, ◌^◌, List, [], ◌∷◌, length, Option, Some, None}
use denote.Bor.{Bor}
use Rattle.mmt_model.specs.declared.keys.Part.{Part}
use Rattle.mmt_model.specs.declared.keys.Part.TheVariants as parts
use Rattle.mmt_model.specs.Packets.{Heard, Payload}
use Rattle.mmt_model.specs.Units.{packet_at, next_number, rest_of_run, signal_link, joined}
use Rattle.mmt_packet.specs.declared.packet.Kind.{Kind}
use Rattle.mmt_packet.specs.declared.packet.Kind.TheVariants as kinds
use Rattle.mmt_pool.specs.Holding.{Kept}
use Rattle.mmt_runs.specs.Messages.{PartsLeft}

-- the payload of a packet of kind signalling (ISO/IEC 23008-1, the type of an MMTP packet)
abbrev pub if_signalling : Kind → List ℕ → Option (List ℕ)
if_signalling kinds.Mpu bytes = None
if_signalling kinds.Generic bytes = None
if_signalling kinds.Signalling bytes = Some bytes

-- the payload of a kept packet of kind signalling, where it is there
abbrev pub signalling_at : Option Kept → Option (List ℕ)
signalling_at None = None
signalling_at (Some p) = if_signalling p.kind p.payload

-- the message of a signalling payload that has just one, or the part of one, and which part it is (ISO/IEC 23008-1, the fragmentation indicator)
unfoldable pub lone_part : Payload → Option (Part × List ℕ)
lone_part (Payload.Signalling part (bytes ∷ [])) = Some (part, bytes)
lone_part _ = None

-- the same of a packet, where it is there
unfoldable pub lone_at : Option Heard → Option (Part × List ℕ)
lone_at None = None
lone_at (Some p) = lone_part p.payload

-- the bytes of a part, where it is there
abbrev pub part_bytes : Option (Part × List ℕ) → List ℕ
part_bytes None = []
part_bytes (Some p) = p.1

-- the parts of so many packets from this number on
unfoldable pub parts_from : List Heard → ℕ → ℕ → ℕ → List (List ℕ)
parts_from kept packet_id zero number = []
parts_from kept packet_id (suc n) number = part_bytes (lone_at (packet_at kept packet_id number)) ∷ parts_from kept packet_id n (next_number number)

-- this part, and those of the packets from this number on, so many in all
abbrev pub all_parts : List Heard → ℕ → ℕ → List ℕ → ℕ → List (List ℕ)
all_parts kept packet_id zero bytes number = []
all_parts kept packet_id (suc n) bytes number = bytes ∷ parts_from kept packet_id n number

-- the packet number before this one, modulo 2^32 (ISO/IEC 23008-1, the packet sequence number)
unfoldable pub number_before : ℕ → ℕ
number_before number = (number + (2 ^ 32 - 1)) % 2 ^ 32

-- the first part of a message of which this packet is a middle part goes before it; it may be this one
abbrev pub first_by : ℕ → Option (Part × List ℕ) → Option (ℕ × List ℕ) → Option (ℕ × List ℕ)
first_by number None earlier = None
first_by number (Some (parts.Whole, bytes)) earlier = None
first_by number (Some (parts.First, bytes)) earlier = Some (number, bytes)
first_by number (Some (parts.Middle, bytes)) earlier = earlier
first_by number (Some (parts.Last, bytes)) earlier = None

-- the number and bytes of the nearest first part at this number or before, with middle parts alone after it; at most `most` packets are looked at
unfoldable pub first_before : List Heard → ℕ → ℕ → ℕ → Option (ℕ × List ℕ)
first_before kept packet_id zero number = None
first_before kept packet_id (suc most) number = first_by number (lone_at (packet_at kept packet_id number)) (first_before kept packet_id most (number_before number))

-- the first part of the message that a part belongs to: itself, or an earlier one
abbrev pub first_from : ℕ → Option (Part × List ℕ) → Option (ℕ × List ℕ) → Option (ℕ × List ℕ)
first_from number None earlier = None
first_from number (Some (parts.Whole, bytes)) earlier = None
first_from number (Some (parts.First, bytes)) earlier = Some (number, bytes)
first_from number (Some (parts.Middle, bytes)) earlier = earlier
first_from number (Some (parts.Last, bytes)) earlier = earlier

-- the number and bytes of the first part of the message that the packet of this number belongs to
unfoldable pub first_of : List Heard → ℕ → ℕ → ℕ → Option (ℕ × List ℕ)
first_of kept packet_id most number = first_from number (lone_at (packet_at kept packet_id number)) (first_before kept packet_id most (number_before number))

-- where to look for the first part after a look at this packet: nowhere once it is the first part, or one packet before; `None` where no first part can be found
abbrev pub back_by : ℕ → Option (Part × List ℕ) → Option (Option ℕ)
back_by number None = None
back_by number (Some (parts.Whole, bytes)) = None
back_by number (Some (parts.First, bytes)) = Some None
back_by number (Some (parts.Middle, bytes)) = Some (Some (number_before number))
back_by number (Some (parts.Last, bytes)) = None

-- the same for the packet where to look, if the first part was not reached before
unfoldable pub back_from : List Heard → ℕ → Option ℕ → Option (Option ℕ)
back_from kept packet_id None = Some None
back_from kept packet_id (Some number) = back_by number (lone_at (packet_at kept packet_id number))

-- where to look for the last part after a look at this packet: nowhere once it is the last part, or one packet after; `None` where no last part can be found
abbrev pub on_by : ℕ → Option (Part × List ℕ) → Option (Option ℕ)
on_by number None = None
on_by number (Some (parts.Whole, bytes)) = None
on_by number (Some (parts.First, bytes)) = None
on_by number (Some (parts.Middle, bytes)) = Some (Some (next_number number))
on_by number (Some (parts.Last, bytes)) = Some None

-- the same for the packet where to look, if the last part was not reached before
unfoldable pub on_from : List Heard → ℕ → Option ℕ → Option (Option ℕ)
on_from kept packet_id None = Some None
on_from kept packet_id (Some number) = on_by number (lone_at (packet_at kept packet_id number))

-- where to look for the first part and for the last part of the message that a part belongs to; `None` where the packet is no part
abbrev pub sides_by : ℕ → Option (Part × List ℕ) → Option (Option ℕ × Option ℕ)
sides_by number None = None
sides_by number (Some (parts.Whole, bytes)) = None
sides_by number (Some (parts.First, bytes)) = Some (None, Some (next_number number))
sides_by number (Some (parts.Middle, bytes)) = Some (Some (number_before number), Some (next_number number))
sides_by number (Some (parts.Last, bytes)) = Some (Some (number_before number), None)

-- how many packets the rest of a run has, and how many bytes, or there is no such rest
abbrev pub Ends : List Heard → ℕ → ℕ → ℕ → Option (ℕ × ℕ) → Type 0
Ends kept packet_id most number None = rest_of_run signal_link kept packet_id most number ≡ None
Ends kept packet_id most number (Some r) = (rest_of_run signal_link kept packet_id most number ≡ Some (parts_from kept packet_id r.0 number)) × (r.1 ≡ length (joined (parts_from kept packet_id r.0 number)))

-- the first part that is left was lent, or none is left
abbrev pub Lends : PartsLeft → Option (Bor (List ℕ)) → PartsLeft → Type 0
Lends old None new = (old.left ≡ []) × (new ≡ old)
Lends old (Some bytes) new = old ≡ record new { left = bytes.now ∷ new.left }
