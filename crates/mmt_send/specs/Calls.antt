-- Where an addresser is: before which call (this project's rule).
use Rattle.std.specs.Prelude.{◌≡◌, ◌≢◌, ℕ, ◌<◌, ◌^◌, List, [], ◌++◌}
use Rattle.mmt_ctx.specs.Squeezing.{IsAtCall}
use Rattle.mmt_sent.specs.Packets.{Addressing}
use Rattle.mmt_tlv.specs.Framing.{Packet, spelling}
use Rattle.mmt_send.specs.declared.addressing.Addresser.{Addresser}
use Rattle.mmt_send.specs.declared.addressing.Addresser.TheVariants.{Plain, Squeezed}

-- an addresser is as it is to be before a call: with the headers alone where none is compressed, otherwise a squeezer at that call
abbrev pub IsAt : Addressing → ℕ → Addresser → Type 0
IsAt a call (Plain header) = (a.full_every ≡ 0) × (header ≡ a.header)
IsAt a call (Squeezed squeezer) = (a.full_every ≢ 0) × (squeezer.context ≡ a.context) × (squeezer.full_every ≡ a.full_every) × (squeezer.header ≡ a.header) × IsAtCall call squeezer

-- the flow label of a plain header has its 20 bits (RFC 8200); that of a squeezer has them always
abbrev pub FitsLabel : Addresser → Type 0
FitsLabel (Plain header) = header.flow_label < 2 ^ 20
FitsLabel (Squeezed squeezer) = Unit {0}

-- an addresser is before some call
abbrev pub HasCall : Addresser → Type 0
HasCall addresser = (a : Addressing) × (call : ℕ) × IsAt a call addresser

-- bytes are those of a TLV packet but for its length, which is still 0 (ARIB STD-B32 Part 3, the TLV packet)
abbrev pub IsBegun : List ℕ → Packet → Type 0
IsBegun bytes packet = bytes ≡ spelling (record { kind = packet.kind; body = [] }) ++ packet.body
