-- The packets of a cast, deliveries of them, and what survives. A place is the place of a packet in the cast. A history of a delivery is a list of places, the newest first. Ticks are whole.
use Rattle.std.specs.Prelude.{ℕ, ◌+◌, ◌<◌, Bool, true, false, not, ◌&&◌, ◌||◌, nat_lt, nat_le, ◌==◌, List, [], ◌∷◌, max, length, get_or}
use Rattle.std.specs.List.{filter, sum_by, list_any}
use Rattle.mmt_base.specs.Ticks.{low}
use Rattle.mmt_model.specs.Packets.{Heard, Payload}
use Rattle.mmt_model.specs.declared.casts.Sent.{Sent}
use Rattle.mmt_model.specs.declared.casts.Carries.TheVariants as carries

-- a packet, for places outside a cast
abbrev pub no_packet : Sent
no_packet = record { at = record { 0 = 0 }; packet_id = 0; number = 0; rap = false; length = 0; carries = carries.Parameters 0 }

-- the timestamp of the packet at a place
unfoldable pub sent_at : List Sent → ℕ → ℕ
sent_at packets n = (get_or packets n no_packet).at.0

-- the payload length of the packet at a place
unfoldable pub length_of : List Sent → ℕ → ℕ
length_of packets n = (get_or packets n no_packet).length

-- the packets of a cast with what the payload at each place spells
pub record SentPackets : Type 0 where
  pub sent : List Sent
  pub payload : ℕ → Payload

-- the packet at a place as it is heard: with its timestamp modulo 2^32
unfoldable pub heard_of : SentPackets → ℕ → Heard
heard_of packets n =
    let p = get_or packets.sent n no_packet in
    record { time = low p.at.0; packet_id = p.packet_id; number = p.number; length = p.length; is_opened = true; payload = packets.payload n }

-- the greatest timestamp so far, and `start` before the first packet
unfoldable pub latest : List Sent → ℕ → List ℕ → ℕ
latest packets start [] = start
latest packets start (n ∷ older) = max (latest packets start older) (sent_at packets n)

-- some packet here is more than the delay ahead of the packet at place n
unfoldable pub is_overtaken : List Sent → ℕ → List ℕ → ℕ → Bool
is_overtaken packets delay older n = list_any (λ k. nat_lt (sent_at packets n + delay) (sent_at packets k)) older

-- a place survives where some occurrence of it was not overtaken before it came (this project's rule; it knows no clock, no pool and no state)
unfoldable pub survives : List Sent → ℕ → List ℕ → ℕ → Bool
survives packets delay [] n = false
survives packets delay (k ∷ older) n = ((k == n) && not (is_overtaken packets delay older n)) || survives packets delay older n

-- every place is one of the cast
abbrev pub AreOf : List Sent → List ℕ → Type 0
AreOf packets [] = Unit {0}
AreOf packets (n ∷ older) = (n < length packets) × AreOf packets older

-- the payload bytes of the cast with timestamps in (c - window, c] (this project's rule, after the HRBM of ISO/IEC 23008-1)
unfoldable pub load : List Sent → ℕ → ℕ → ℕ
load packets window c = sum_by (λ p. p.length) (filter (λ p. nat_le p.at.0 c && nat_lt c (p.at.0 + window)) packets)
