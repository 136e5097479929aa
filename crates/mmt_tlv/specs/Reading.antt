-- What reading the packet at the front answers, and how it goes together with writing.
use Rattle.std.specs.Prelude.{◌≡◌, ℕ, ◌≤◌, List, ◌++◌, length, take}
use Rattle.mmt_tlv.specs.Framing.{Packet, Fits, spelling, IsFront, IsOutOfSync, Framed}
use Rattle.mmt_tlv.specs.declared.Tlv.{Tlv}
use Rattle.mmt_tlv.specs.declared.TlvRead.{TlvRead}
use Rattle.mmt_tlv.specs.declared.TlvRead.TheVariants.{Whole, Short, Sync}

-- what a packet of the program says
abbrev pub packet_of : Tlv → Packet
packet_of tlv = record { kind = tlv.kind; body = tlv.body.now }

-- the answer is true of the bytes: the packet that it gives stands at their front, or they are a proper prefix of one, or begin none
abbrev pub ReadsTlv : TlvRead → List ℕ → Type 0
ReadsTlv (Whole tlv used) bytes = Fits (packet_of tlv) × (used ≤ length bytes) × (take used bytes ≡ spelling (packet_of tlv))
ReadsTlv Short bytes = IsFront bytes
ReadsTlv Sync bytes = IsOutOfSync bytes

-- the answer is this packet, with the number of bytes that it takes
abbrev pub IsWhole : TlvRead → Packet → Type 0
IsWhole (Whole tlv used) packet = (packet_of tlv ≡ packet) × (used ≡ length (spelling packet))
IsWhole Short packet = ⊥
IsWhole Sync packet = ⊥

-- What was written is read back: the bytes of a packet, whatever follows them, are read as this packet and no other answer is true of them.
abbrev pub ReadsBack : Type 0
ReadsBack = (packet : Packet) (rest : List ℕ) (answer : TlvRead) → Fits packet → ReadsTlv answer (spelling packet ++ rest) → IsWhole answer packet

-- What was read, written, gives the bytes: the packet that was read spells the bytes that it used.
abbrev pub WritesBack : Type 0
WritesBack = (tlv : Tlv) (used : ℕ) (bytes : List ℕ) → ReadsTlv (Whole tlv used) bytes → (spelling (packet_of tlv) ≡ take used bytes) × (length (spelling (packet_of tlv)) ≡ used)

-- A byte list has one framing: the packets are determined, and so is the rest.
abbrev pub HasOneFraming : Type 0
HasOneFraming = (bytes : List ℕ) (packets others : List Packet) (rest left : List ℕ) → Framed bytes packets rest → Framed bytes others left → (packets ≡ others) × (rest ≡ left)
