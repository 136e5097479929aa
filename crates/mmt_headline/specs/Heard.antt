-- What a sent packet is read as, and which packets of a delivery are heard.
use Rattle.std.specs.Prelude.{◌≡◌, ◌⊎◌, ℕ, ◌<◌, ◌^◌, true, List, ◌∷◌, map, length, get_or, Ok}
use Rattle.mmt_model.specs.Carrying.{Contents, packets_of, payload_carried}
use Rattle.mmt_model.specs.Delivery.{from_heard, newest_first}
use Rattle.mmt_model.specs.Survival.{AreOf, heard_of, no_packet}
use Rattle.mmt_model.specs.declared.casts.Carries.{Carries}
use Rattle.mmt_model.specs.declared.casts.Cast.{Cast}
use Rattle.mmt_model.specs.declared.programmes.FlowChoice.{FlowChoice}
use Rattle.mmt_packet.specs.Reading.{packet_of as mmtp_of}
use Rattle.mmt_packet.specs.Spelling.{spelling as packet_spelling}
use Rattle.mmt_hear.specs.Hearing.{Hearing, hearing, is_ours}
use Rattle.mmt_tlv.specs.Framing.{Packet as Tlv}
use Rattle.mmt_runs.specs.Reading.{is_opened, payload_by}
use Rattle.mmt_tune.specs.Tuning.{HeardAt, Placed, heard_as, heard_of as heard_in, packets_of as tlv_of}
use Rattle.mmt_ip.specs.Spelling.{HeaderFits}
use Rattle.mmt_sent.specs.Payloads.{CanBeWritten, Message, Units, Written, bytes_of, kind_of, length_of, spelled, written}
use Rattle.mmt_sent.specs.Packets.{Addressing, mmtp_at, tlv_at, written_at}
use Rattle.mmt_hear.specs.declared.why.Why.TheVariants as why

-- a signalling packet has packet id 0 (this project's rule for what is sent)
abbrev pub HasItsId : Written → ℕ → Type 0
HasItsId (Units head units) packet_id = packet_id < 2 ^ 16
HasItsId (Message part counter message) packet_id = packet_id ≡ 0

-- the packet at a place can be written, has the length that the cast says, and fits a UDP datagram
pub record IsSentAt (cast : Cast) (contents : Contents) (n : ℕ) : Type 0 where
  pub can : CanBeWritten (written_at cast contents n)
  pub id : HasItsId (written_at cast contents n) (get_or cast.packets n no_packet).packet_id
  pub number : (get_or cast.packets n no_packet).number < 2 ^ 32
  pub long : (get_or cast.packets n no_packet).length ≡ length_of (written_at cast contents n)
  pub short : (get_or cast.packets n no_packet).length < 65000

-- a sender's addresses fit their bits
pub record AddressFits (a : Addressing) : Type 0 where
  pub header : HeaderFits a.header
  pub context : a.context < 4096

-- a payload that is written is read as what it spells, is opened, and has N bytes
pub record PayloadIs (w : Written) (packet_id : ℕ) : Type 0 where
  pub payload : payload_by (kind_of w) (bytes_of w) ≡ spelled w
  pub opened : is_opened packet_id (kind_of w) (bytes_of w) ≡ true
  pub long : length (bytes_of w) ≡ length_of w

abbrev pub PayloadsAreRead : Type 0
PayloadsAreRead = (w : Written) (packet_id : ℕ) → CanBeWritten w → HasItsId w packet_id → PayloadIs w packet_id

-- the payload of a packet spells what the definitions say that it carries
abbrev pub PayloadsSpell : Type 0
PayloadsSpell = (cast : Cast) (contents : Contents) (c : Carries) → spelled (written cast contents c) ≡ payload_carried cast contents c

-- a sent packet is read from its bytes, and is heard as the one at its place of the cast
pub record PacketIs (cast : Cast) (contents : Contents) (n : ℕ) : Type 0 where
  pub read : mmtp_of (packet_spelling (mmtp_at cast contents n)) ≡ Ok (mmtp_at cast contents n)
  pub heard : heard_as (mmtp_at cast contents n) ≡ heard_of (packets_of cast contents) n

abbrev pub PacketsAreHeard : Type 0
PacketsAreHeard = (cast : Cast) (contents : Contents) (n : ℕ) → IsSentAt cast contents n → PacketIs cast contents n

-- of a delivery the packets are heard from the first that has a full header on, in their order
pub record DeliveryIs (a : Addressing) (cast : Cast) (contents : Contents) (flow : FlowChoice) (delivery : List ℕ) (ps : List Placed) : Type 0 where
  pub packets : List HeardAt
  pub stream : heard_in flow ps ≡ newest_first packets
  pub places : map (λ h. heard_as h.packet) packets ≡ map (heard_of (packets_of cast contents)) (from_heard a.full_every delivery)

abbrev pub DeliveriesAreHeard : Type 0
DeliveriesAreHeard =
    (a : Addressing) (cast : Cast) (contents : Contents) (flow : FlowChoice) (delivery : List ℕ) (ps : List Placed) → AddressFits a → is_ours flow a.header ≡ true
    → ((n : ℕ) → n < length cast.packets → IsSentAt cast contents n) → AreOf cast.packets delivery
    → tlv_of ps ≡ newest_first (map (tlv_at a cast contents) delivery) → DeliveryIs a cast contents flow delivery ps

-- a packet of a delivery is heard, or it is refused since no full header came before
abbrev pub EachIsHeard : Type 0
EachIsHeard =
    (a : Addressing) (cast : Cast) (contents : Contents) (flow : FlowChoice) (hist : List ℕ) (n : ℕ) (older : List Placed) (packet : Tlv) → AddressFits a → is_ours flow a.header ≡ true
    → ((k : ℕ) → k < length cast.packets → IsSentAt cast contents k) → AreOf cast.packets (n ∷ hist) → tlv_of older ≡ map (tlv_at a cast contents) hist → packet ≡ tlv_at a cast contents n
    → ((from : ℕ) × (hearing flow (tlv_of older) packet ≡ Hearing.Heard (mmtp_at cast contents n) from)) ⊎ (hearing flow (tlv_of older) packet ≡ Hearing.Refusal 4 (why.CtxNone a.context))
