-- What a hearer answers and keeps, as the definition of hearing sees it.
use Rattle.std.specs.Prelude.{◌≡◌, ℕ, ◌+◌, ◌<◌, ◌≤◌, ◌^◌, List, Option, length}
use Rattle.mmt_tlv.specs.Framing.{Packet}
use Rattle.mmt_ip.specs.declared.packet.Ip6Header.{Ip6Header}
use Rattle.mmt_ctx.specs.Headers.{HasRead}
use Rattle.mmt_packet.specs.Spelling.{Fits, head_length, view}
use Rattle.mmt_hear.specs.declared.hearer.Heard.{Heard}
use Rattle.mmt_hear.specs.declared.hearer.Heard.TheVariants as heard
use Rattle.mmt_hear.specs.Hearing.{Hearing, compressed_bodies}

-- an answer without where it lies in memory
abbrev pub hearing_of : Heard → Hearing
hearing_of (heard.Packet packet from) = Hearing.Heard (view packet) from
hearing_of heard.NotOurs = Hearing.NotOurs
hearing_of (heard.Refused at why) = Hearing.Refusal at why

-- a table of headers has those that these packets carried, the newest of them first
abbrev pub HasHeard : List Packet → List (Option Ip6Header) → Type 0
HasHeard earlier table = HasRead (compressed_bodies earlier) table

-- the payload of an MMTP packet has fewer than 2^16 bytes
abbrev pub IsShort : Heard → Type 0
IsShort (heard.Packet packet from) = length packet.payload.now < 2 ^ 16
IsShort heard.NotOurs = Unit {0}
IsShort (heard.Refused at why) = Unit {0}

-- of a TLV packet of so many bytes: an MMTP packet's header and payload are all from its place on, and the place of a refusal is at most behind the last byte
abbrev pub LiesIn : ℕ → Heard → Type 0
LiesIn size (heard.Packet packet from) = Fits (view packet) × (from + head_length (view packet) + length packet.payload.now ≡ size)
LiesIn size heard.NotOurs = Unit {0}
LiesIn size (heard.Refused at why) = at ≤ size
