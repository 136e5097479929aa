-- What holds of a cast whose packets are sent at other ticks.
use Rattle.std.specs.Prelude.{◌≡◌, ℕ, ◌<◌, ◌≤◌, ◌^◌, Bool, List, length, map, get_or, None, Ok}
use Rattle.mmt_admit.specs.Faults.{IsReadable}
use Rattle.mmt_cast.specs.Casting.{cast_of}
use Rattle.mmt_cast.specs.Refusing.{refusal}
use Rattle.mmt_cast.specs.Right.{IsMessage, IsRight, contents_of, signal_at}
use Rattle.mmt_delivery.specs.Laws.{IsReceiver, out_end, reading_of}
use Rattle.mmt_model.specs.Admission.{fault}
use Rattle.mmt_model.specs.Carrying.{Contents, IsCastOf, broadcast_of, packets_of}
use Rattle.mmt_model.specs.Delivery.{NearDelivery, from_first, from_heard, newest_first, tuned}
use Rattle.mmt_model.specs.Entries.{Entry}
use Rattle.mmt_model.specs.Expected.{expected}
use Rattle.mmt_model.specs.Packets.{Heard}
use Rattle.mmt_model.specs.Right.{IsRight as IsRightProgramme}
use Rattle.mmt_model.specs.Survival.{AreOf, heard_of, no_packet, sent_at}
use Rattle.mmt_model.specs.declared.casts.Cast.{Cast}
use Rattle.mmt_model.specs.declared.casts.Sent.{Sent}
use Rattle.mmt_model.specs.declared.programmes.Params.{Params}
use Rattle.mmt_model.specs.declared.programmes.Programme.{Programme}
use Rattle.mmt_pace.specs.Asked.{AreGiven, CanBePaced, IsRow}
use Rattle.mmt_pace.specs.Pacing.{Paces}
use Rattle.mmt_pace.specs.Recast.{paced_by, recast}
use Rattle.mmt_slots.specs.declared.row.Slots.{Slots}

-- packet id and number tell these packets apart
abbrev pub AreTold : List Sent → Type 0
AreTold packets =
    (m n : ℕ) → m < length packets → n < length packets → (get_or packets m no_packet).packet_id ≡ (get_or packets n no_packet).packet_id → (get_or packets m no_packet).number ≡ (get_or packets n no_packet).number → m ≡ n

-- a cast that goes with its contents, and whose packets are told apart, goes with them at any other ticks too
abbrev pub RecastsAreRight : Type 0
RecastsAreRight =
    (ticks : ℕ → ℕ) (cast : Cast) (contents : Contents) (names_in : List ℕ → List Entry) → AreTold cast.packets → IsCastOf cast contents names_in → IsCastOf (recast ticks cast) contents names_in

-- the packets of the cast of a programme are told apart
abbrev pub CastsAreTold : Type 0
CastsAreTold = (programme : Programme) → AreTold (cast_of programme).packets

-- the cast of a right programme that has one goes with what it is to carry, at any ticks
abbrev pub RecastProgrammesAreRight : Type 0
RecastProgrammesAreRight =
    (ticks : ℕ → ℕ) (programme : Programme) (files messages : ℕ → List ℕ) (names_in : List ℕ → List Entry) → IsRight programme
    → ((s : ℕ) → s < length programme.signals → IsMessage programme names_in (signal_at programme s) (messages s))
    → refusal programme ≡ None
    → IsCastOf (recast ticks (cast_of programme)) (contents_of programme files messages) names_in

-- what comes out of a near delivery of the cast of a right programme at any ticks at which it is admitted, as where it is paced, are exactly the expected units, each once, in their order
abbrev pub RecastProgrammesAreDelivered : Type 0
RecastProgrammesAreDelivered =
    (ticks : ℕ → ℕ) (programme : Programme) (files messages : ℕ → List ℕ) (names_in : List ℕ → List Entry) (k : Params) → IsRight programme
    → ((s : ℕ) → s < length programme.signals → IsMessage programme names_in (signal_at programme s) (messages s))
    → refusal programme ≡ None → fault (recast ticks (cast_of programme)) ≡ None → IsReceiver programme.params k
    → (let cast = recast ticks (cast_of programme) in let contents = contents_of programme files messages in
    (full_every : ℕ) (tunes : Heard → Bool) (delivery : List ℕ) → AreOf cast.packets delivery
    → NearDelivery cast.packets (tuned full_every (λ n. tunes (heard_of (packets_of cast contents) n)) delivery)
    → out_end (reading_of names_in (broadcast_of cast contents)) k (from_first tunes (map (heard_of (packets_of cast contents)) (from_heard full_every delivery)))
    ≡ expected (broadcast_of cast contents) cast.params.delay (newest_first (tuned full_every (λ n. tunes (heard_of (packets_of cast contents) n)) delivery)))

-- admission may be asked about a paced cast
abbrev pub PacedCastsAreReadable : Type 0
PacedCastsAreReadable =
    (slots : Slots) (given : List ℕ) (cast : Cast) → CanBePaced cast → IsRow slots → slots.step < 2 ^ 32 → AreGiven (length cast.packets) slots given → IsReadable (paced_by slots given cast)

-- the cast of a right programme begins at a tick at which slots may start
abbrev pub CastsBeginInTime : Type 0
CastsBeginInTime = (programme : Programme) → IsRightProgramme programme → sent_at (cast_of programme).packets 0 ≤ 2 ^ 48

-- of a cast there is one cast that is paced with a step
abbrev pub PacedCastsAreOne : Type 0
PacedCastsAreOne = (cast : Cast) (step : ℕ) (new other : Cast) → Paces cast step (Ok new) → Paces cast step (Ok other) → new ≡ other
