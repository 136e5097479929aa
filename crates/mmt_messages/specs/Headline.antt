-- The delivery theorem, of programmes with their messages.
use Rattle.std.specs.Prelude.{ℕ, ◌≡◌, Bool, List, map, None}
use Rattle.mmt_cast.specs.Casting.{cast_of}
use Rattle.mmt_cast.specs.Refusing.{refusal}
use Rattle.mmt_cast.specs.Right.{IsRight, contents_of}
use Rattle.mmt_delivery.specs.Laws.{IsReceiver, out_end, reading_of}
use Rattle.mmt_messages.specs.Sent.{FitsBytes}
use Rattle.mmt_sent.specs.Messages.{message_bytes}
use Rattle.mmt_model.specs.Admission.{fault}
use Rattle.mmt_model.specs.Carrying.{broadcast_of, packets_of}
use Rattle.mmt_model.specs.Delivery.{NearDelivery, from_first, from_heard, newest_first, tuned}
use Rattle.mmt_model.specs.Expected.{expected}
use Rattle.mmt_model.specs.Packets.{Heard}
use Rattle.mmt_model.specs.Survival.{AreOf, heard_of}
use Rattle.mmt_model.specs.declared.programmes.Params.{Params}
use Rattle.mmt_model.specs.declared.programmes.Programme.{Programme}
use Rattle.mmt_naming.specs.Findings.{names_in}

-- what comes out of a near delivery of the admitted cast of a right programme that has one are exactly the expected units, each once, in their order, whatever the bytes of its files
abbrev pub SentIsReceived : Type 0
SentIsReceived =
    (programme : Programme) (files : ℕ → List ℕ) (timescale : ℕ) (k : Params) → IsRight programme → FitsBytes programme
    → refusal programme ≡ None → fault (cast_of programme) ≡ None → IsReceiver programme.params k
    → (let cast = cast_of programme in let contents = contents_of programme files (message_bytes programme) in
    (full_every : ℕ) (tunes : Heard → Bool) (delivery : List ℕ) → AreOf cast.packets delivery
    → NearDelivery cast.packets (tuned full_every (λ n. tunes (heard_of (packets_of cast contents) n)) delivery)
    → out_end (reading_of (names_in timescale) (broadcast_of cast contents)) k (from_first tunes (map (heard_of (packets_of cast contents)) (from_heard full_every delivery)))
    ≡ expected (broadcast_of cast contents) cast.params.delay (newest_first (tuned full_every (λ n. tunes (heard_of (packets_of cast contents) n)) delivery)))
