-- The delivery theorem, of programmes.
use Rattle.std.specs.Prelude.{ℕ, ◌≡◌, ◌<◌, Bool, List, length, map, None}
use Rattle.mmt_cast.specs.Casting.{cast_of}
use Rattle.mmt_cast.specs.Refusing.{refusal}
use Rattle.mmt_cast.specs.Right.{IsMessage, IsRight, contents_of, signal_at}
use Rattle.mmt_delivery.specs.Laws.{IsReceiver, out_end, reading_of}
use Rattle.mmt_model.specs.Admission.{fault}
use Rattle.mmt_model.specs.Carrying.{broadcast_of, packets_of}
use Rattle.mmt_model.specs.Delivery.{NearDelivery, from_first, from_heard, newest_first, tuned}
use Rattle.mmt_model.specs.Entries.{Entry}
use Rattle.mmt_model.specs.Expected.{expected}
use Rattle.mmt_model.specs.Packets.{Heard}
use Rattle.mmt_model.specs.Survival.{AreOf, heard_of}
use Rattle.mmt_model.specs.declared.programmes.Params.{Params}
use Rattle.mmt_model.specs.declared.programmes.Programme.{Programme}

-- what comes out of a near delivery of the admitted cast of a right programme that has one are exactly the expected units, each once, in their order
abbrev pub ProgrammesAreDelivered : Type 0
ProgrammesAreDelivered =
    (programme : Programme) (files messages : ℕ → List ℕ) (names_in : List ℕ → List Entry) (k : Params) → IsRight programme
    → ((s : ℕ) → s < length programme.signals → IsMessage programme names_in (signal_at programme s) (messages s))
    → refusal programme ≡ None → fault (cast_of programme) ≡ None → IsReceiver programme.params k
    → (let cast = cast_of programme in let contents = contents_of programme files messages in
    (full_every : ℕ) (tunes : Heard → Bool) (delivery : List ℕ) → AreOf cast.packets delivery
    → NearDelivery cast.packets (tuned full_every (λ n. tunes (heard_of (packets_of cast contents) n)) delivery)
    → out_end (reading_of names_in (broadcast_of cast contents)) k (from_first tunes (map (heard_of (packets_of cast contents)) (from_heard full_every delivery)))
    ≡ expected (broadcast_of cast contents) cast.params.delay (newest_first (tuned full_every (λ n. tunes (heard_of (packets_of cast contents) n)) delivery)))
