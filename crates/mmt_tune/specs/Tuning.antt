-- Which packet tunes a receiver, with which values, and the packets from it on. Lists of packets have the newest first.
use Rattle.std.specs.Prelude.{ℕ, ◌+◌, Bool, true, false, ◌==◌, nat_le, List, [], ◌∷◌, ◌++◌, map, Option, Some, None, is_some, Result, Ok, Err, if◌then◌else◌}
use Rattle.mmt_base.specs.declared.refused.Refused.{Refused}
use Rattle.mmt_model.specs.declared.programmes.FlowChoice.{FlowChoice}
use Rattle.mmt_model.specs.declared.programmes.Params.{Params}
use Rattle.mmt_model.specs.declared.keys.Part.{Part}
use Rattle.mmt_model.specs.declared.keys.Part.TheVariants as parts
use Rattle.mmt_model.specs.Packets.{Heard}
use Rattle.mmt_tlv.specs.Framing.{Packet as Tlv}
use Rattle.mmt_packet.specs.declared.packet.Kind.{Kind}
use Rattle.mmt_packet.specs.declared.packet.Kind.TheVariants as kinds
use Rattle.mmt_packet.specs.Spelling.{Value as Mmtp}
use Rattle.mmt_sig.specs.declared.head.SigWhy.{SigWhy}
use Rattle.mmt_sig.specs.declared.message.MessageWhy.{MessageWhy}
use Rattle.mmt_sig.specs.Payload.{Payload as Signals}
use Rattle.mmt_sig.specs.PayloadReading.{payload_of as signals_of}
use Rattle.mmt_sig.specs.Message.{MessageValue, PaMessage, HrbmMessage, OtherMessage}
use Rattle.mmt_sig.specs.MessageReading.{message_of}
use Rattle.mmt_hear.specs.Hearing.{Hearing, hearing}
use Rattle.mmt_pool.specs.Holding.{Kept}
use Rattle.mmt_runs.specs.Reading.{heard}
use Rattle.mmt_tune.specs.declared.config.Config.{Config}

-- a TLV packet with its place: the count of bytes before it in the stream
pub record Placed : Type 0 where
  pub place : ℕ
  pub packet : Tlv

-- an MMTP packet that is heard, with the count of bytes before it in the stream
pub record HeardAt : Type 0 where
  pub place : ℕ
  pub packet : Mmtp

-- the packets without their places
abbrev pub packets_of : List Placed → List Tlv
packets_of ps = map (λ p. p.packet) ps

-- the MMTP packet of a TLV packet at a place, where it is heard
abbrev pub heard_at : ℕ → Hearing → List HeardAt
heard_at place (Hearing.Heard p from) = record { place = place + from; packet = p } ∷ []
heard_at place Hearing.NotOurs = []
heard_at place (Hearing.Refusal at why) = []

-- the MMTP packets of a flow that are heard (ARIB STD-B32 Part 3, RFC 8200, RFC 768)
unfoldable pub heard_of : FlowChoice → List Placed → List HeardAt
heard_of flow [] = []
heard_of flow (p ∷ older) = heard_at p.place (hearing flow (packets_of older) p.packet) ++ heard_of flow older

-- an MMTP packet as a receiver keeps it
abbrev pub kept_of : Mmtp → Kept
kept_of p = record { packet_id = p.packet_id; number = p.number; time = p.time; kind = p.kind; payload = p.payload }

-- an MMTP packet with what its payload spells
abbrev pub heard_as : Mmtp → Heard
heard_as p = heard (kept_of p)

-- the first of two, where there is one
abbrev pub or_else : Option Params → Option Params → Option Params
or_else None later = later
or_else (Some values) later = Some values

-- the values of a message that is a buffer message for at most so many bytes (this project's own message and rule)
abbrev pub fitting : ℕ → Result MessageValue (Refused MessageWhy) → Option Params
fitting bound (Ok (HrbmMessage h)) = if nat_le h.params.bound bound then Some h.params else None
fitting bound (Ok (PaMessage p)) = None
fitting bound (Ok (OtherMessage id bytes)) = None
fitting bound (Err e) = None

-- the values of the first such message (this project's rule)
unfoldable pub first_fitting : ℕ → List (List ℕ) → Option Params
first_fitting bound [] = None
first_fitting bound (m ∷ ms) = or_else (fitting bound (message_of m)) (first_fitting bound ms)

-- a payload that is no part of a message
abbrev pub is_whole : Part → Bool
is_whole parts.Whole = true
is_whole parts.First = false
is_whole parts.Middle = false
is_whole parts.Last = false

-- the values of the first such message of a signalling payload with whole messages (this project's rule)
abbrev pub values_in : ℕ → Result Signals (Refused SigWhy) → Option Params
values_in bound (Ok v) = if is_whole v.head.part then first_fitting bound v.messages else None
values_in bound (Err e) = None

-- signalling on packet id 0 (ISO/IEC 23008-1, the type of an MMTP packet)
abbrev pub is_signalling : Kind → ℕ → Bool
is_signalling kinds.Signalling packet_id = packet_id == 0
is_signalling kinds.Mpu packet_id = false
is_signalling kinds.Generic packet_id = false

-- the values with which a packet tunes: the assumed window and delay with the receiver's bound, where there are some; else those of the packet's first buffer message that fits the bound (this project's rule)
abbrev pub values_by : Option (ℕ × ℕ) → ℕ → Mmtp → Option Params
values_by (Some (window, delay)) bound p = Some (record { bound = bound; window = window; delay = delay })
values_by None bound p = if is_signalling p.kind p.packet_id then values_in bound (signals_of p.payload) else None

-- the values with which the first of the heard packets tunes that does (this project's rule)
unfoldable pub tuned : Config → List HeardAt → Option Params
tuned config [] = None
tuned config (h ∷ older) = or_else (tuned config older) (values_by config.assumed config.bound h.packet)

-- the heard packets from the one that tunes on (this project's rule)
unfoldable pub history : Config → List HeardAt → List Heard
history config [] = []
history config (h ∷ older) = if is_some (tuned config (h ∷ older)) then heard_as h.packet ∷ history config older else []

-- the rules of keeping by the values of tuning: their window and delay, and the receiver's own bound (this project's rule)
abbrev pub rules_by : Config → Params → Params
rules_by config values = record { bound = config.bound; window = values.window; delay = values.delay }
