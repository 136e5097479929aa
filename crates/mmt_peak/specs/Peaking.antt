-- What `peak` says of a stream: what a receiver's buffer of the given size would have held of it.
use Rattle.std.specs.Prelude.{ℕ, Bool, true, false, not, ◌&&◌, ◌==◌, List, [], ◌∷◌, ◌++◌, length, codes, decimal, count_by}
use Rattle.mmt_model.specs.declared.programmes.FlowChoice.{FlowChoice}
use Rattle.mmt_model.specs.declared.programmes.Params.{Params}
use Rattle.mmt_model.specs.Packets.{Heard, Payload}
use Rattle.mmt_model.specs.Counts.{counted}
use Rattle.mmt_model.specs.Keeping.{is_full, is_late, is_repeated, is_stored, peak}
use Rattle.mmt_model.specs.Sessions.{outcomes, start_of}
use Rattle.mmt_model.specs.Delivery.{newest_first}
use Rattle.mmt_tlv.specs.Framing.{Packet}
use Rattle.mmt_packet.specs.Spelling.{Value as Mmtp}
use Rattle.mmt_pool.specs.Holding.{is_kept_kind}
use Rattle.mmt_hear.specs.Hearing.{Hearing, hearing}
use Rattle.mmt_stream.specs.Output.{nothing}
use Rattle.mmt_stream.specs.Consuming.{Meaning}

-- a heard packet is put into the buffer where its kind is MPU or signalling and its payload is not empty
abbrev pub is_offered : Mmtp → Bool
is_offered p = is_kept_kind p.kind && not (length p.payload == 0)

-- a heard packet as the definition of keeping sees it, which looks at no payload
abbrev pub offered : Mmtp → Heard
offered p = record { time = p.time; packet_id = p.packet_id; number = p.number; length = length p.payload; is_opened = is_offered p; payload = Payload.Other }

-- a packet more, where it is heard
abbrev pub with_hearing : Hearing → List Heard → List Heard
with_hearing (Hearing.Heard p from) history = offered p ∷ history
with_hearing Hearing.NotOurs history = history
with_hearing (Hearing.Refusal at why) history = history

-- the heard packets among the packets of a stream, both with the newest first
abbrev pub heard_packets : FlowChoice → List Packet → List Heard
heard_packets flow [] = []
heard_packets flow (packet ∷ earlier) = with_hearing (hearing flow earlier packet) (heard_packets flow earlier)

abbrev pub is_refusal : Hearing → Bool
is_refusal (Hearing.Heard p from) = false
is_refusal Hearing.NotOurs = false
is_refusal (Hearing.Refusal at why) = true

-- what the packets of a stream are heard as, with the newest first
abbrev pub heard_as : FlowChoice → List Packet → List Hearing
heard_as flow [] = []
heard_as flow (packet ∷ earlier) = hearing flow earlier packet ∷ heard_as flow earlier

-- the numbers of the line
pub record Numbers : Type 0 where
  pub heard : ℕ
  pub stored : ℕ
  pub late : ℕ
  pub repeats : ℕ
  pub full : ℕ
  pub refused : ℕ

-- how many packets were heard, stored, late, repeated, without room and refused
abbrev pub numbers_of : Params → List Heard → List Hearing → Numbers
numbers_of r history hearings = record {
  heard = counted (length history);
  stored = counted (count_by is_stored (outcomes r history));
  late = counted (count_by is_late (outcomes r history));
  repeats = counted (count_by is_repeated (outcomes r history));
  full = counted (count_by is_full (outcomes r history));
  refused = counted (count_by is_refusal hearings);
}

-- the line: the counts, and the most payload bytes that were kept at once
abbrev pub line_of : Numbers → ℕ → List ℕ
line_of n most = codes "heard " ++ decimal n.heard ++ codes " stored " ++ decimal n.stored ++ codes " late " ++ decimal n.late ++ codes " repeat " ++ decimal n.repeats
    ++ codes " full " ++ decimal n.full ++ codes " refused " ++ decimal n.refused ++ codes " peak " ++ decimal most ++ codes "\n"

-- the line of the packets of a stream, the newest first
abbrev pub line_after : FlowChoice → Params → List Packet → List ℕ
line_after flow r packets =
    let history = heard_packets flow packets in
    line_of (numbers_of r history (heard_as flow packets)) (peak r (start_of history) history)

-- the line stands at the end of the stream, and nothing before
abbrev pub peaking : FlowChoice → Params → Meaning
peaking flow r = record { so_far = λ packets. nothing; at_end = λ packets. record { written = line_after flow r (newest_first packets); noted = [] } }
