-- The laws over a broadcast, from what admission and a right cast give.
use Rattle.std.specs.Prelude.{ℕ, ◌+◌, ◌≡◌, Bool, nat_le, if◌then◌else◌, List, [], ◌∷◌, ◌++◌, map}
use Rattle.mmt_base.specs.Ticks.{low}
use Rattle.mmt_delivery.proofs.Admitted.{IsAdmitted, IsWellFormed}
use Rattle.mmt_delivery.specs.Laws.{HoldsExactly, IsReceiver, out_end, reading_of}
use Rattle.mmt_model.specs.Broadcast.{Broadcast}
use Rattle.mmt_model.specs.Delivery.{NearDelivery, from_first, from_heard, newest_first, start_of, tuned}
use Rattle.mmt_model.specs.Entries.{Entry}
use Rattle.mmt_model.specs.Expected.{expected}
use Rattle.mmt_model.specs.Keeping.{Outcome, clock, kept, outcome, still_kept}
use Rattle.mmt_model.specs.Packets.{Heard}
use Rattle.mmt_model.specs.Survival.{AreOf, heard_of, latest, sent_at, survives}
use Rattle.mmt_model.specs.declared.programmes.Params.{Params}

-- at each moment
abbrev pub HoldsIn : Type 0
HoldsIn =
    (names_in : List ℕ → List Entry) (broadcast : Broadcast) (r k : Params) → IsAdmitted broadcast r → IsWellFormed broadcast names_in → IsReceiver r k
    → (ds after : List ℕ) → AreOf broadcast.cast.packets.sent (ds ++ after) → NearDelivery broadcast.cast.packets.sent (ds ++ after) → HoldsExactly names_in broadcast r k (start_of broadcast.cast.packets.sent ds) (newest_first ds)

-- what comes out of any near delivery are the expected units
abbrev pub DeliversIn : Type 0
DeliversIn =
    (names_in : List ℕ → List Entry) (broadcast : Broadcast) (r k : Params) → IsAdmitted broadcast r → IsWellFormed broadcast names_in → IsReceiver r k
    → (full_every : ℕ) (tunes : Heard → Bool) (delivery : List ℕ) → AreOf broadcast.cast.packets.sent delivery
    → NearDelivery broadcast.cast.packets.sent (tuned full_every (λ n. tunes (heard_of broadcast.cast.packets n)) delivery)
    → out_end (reading_of names_in broadcast) k (from_first tunes (map (heard_of broadcast.cast.packets) (from_heard full_every delivery)))
    ≡ expected broadcast r.delay (newest_first (tuned full_every (λ n. tunes (heard_of broadcast.cast.packets n)) delivery))

-- what becomes of the packet at place d, after ds: it is late, or it survived before, or it is stored
abbrev pub OutcomesIn : Type 0
OutcomesIn =
    (names_in : List ℕ → List Entry) (broadcast : Broadcast) (r k : Params) → IsAdmitted broadcast r → IsWellFormed broadcast names_in → IsReceiver r k
    → (ds : List ℕ) (d : ℕ) (after : List ℕ) → AreOf broadcast.cast.packets.sent ((ds ++ d ∷ []) ++ after) → NearDelivery broadcast.cast.packets.sent ((ds ++ d ∷ []) ++ after)
    → (let start = low (start_of broadcast.cast.packets.sent (ds ++ d ∷ [])) in
    let older = map (heard_of broadcast.cast.packets) (newest_first ds) in
    let h = heard_of broadcast.cast.packets d in
    let now = clock start (h ∷ older) in
    outcome k now (still_kept k now (kept k start older)) h)
    ≡ (if nat_le (latest broadcast.cast.packets.sent (start_of broadcast.cast.packets.sent (ds ++ d ∷ [])) (newest_first (ds ++ d ∷ []))) (sent_at broadcast.cast.packets.sent d + r.delay)
    then (if survives broadcast.cast.packets.sent r.delay (newest_first ds) d then Outcome.Repeat else Outcome.Stored)
    else Outcome.Late)
