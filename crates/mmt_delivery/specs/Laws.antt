-- The delivery theorem, and the laws that make it up.
use Rattle.std.specs.Prelude.{ℕ, ◌+◌, ◌≡◌, ◌<◌, ◌≤◌, Bool, ◌&&◌, nat_lt, nat_le, if◌then◌else◌, List, [], ◌∷◌, ◌++◌, length, map, None}
use Rattle.std.specs.List.{sum_by, list_all}
use Rattle.mmt_base.specs.Ticks.{low}
use Rattle.mmt_model.specs.Admission.{fault}
use Rattle.mmt_model.specs.Broadcast.{Broadcast, due_at, entry_of, unit_of}
use Rattle.mmt_model.specs.Carrying.{Contents, IsCastOf, broadcast_of, packets_of}
use Rattle.mmt_model.specs.Counts.{as_number, member, occurrences}
use Rattle.mmt_model.specs.Delivery.{NearDelivery, from_first, from_heard, newest_first, reach, start_of, tuned}
use Rattle.mmt_model.specs.Entries.{Entry, entries}
use Rattle.mmt_model.specs.Expected.{expected, is_named}
use Rattle.mmt_model.specs.Handing.{Presentation, Reading, final, out}
use Rattle.mmt_model.specs.Keeping.{Outcome, clock, kept, outcome, peak, still_kept}
use Rattle.mmt_model.specs.Packets.{Heard}
use Rattle.mmt_model.specs.Survival.{AreOf, heard_of, latest, load, sent_at, survives}
use Rattle.mmt_model.specs.Units.{names_of, units_of}
use Rattle.mmt_model.specs.declared.casts.Cast.{Cast}
use Rattle.mmt_model.specs.declared.casts.Sent.{Sent}
use Rattle.mmt_model.specs.declared.programmes.Params.{Params}

-- a receiver of the broadcast's sample base, that reads tables by names_in
abbrev pub reading_of : (List ℕ → List Entry) → Broadcast → Reading
reading_of names_in broadcast = record { names_by = names_of names_in; units = units_of; sample_base = broadcast.sample_base }

-- the timestamp of the tuning packet
unfoldable pub start_heard : List Heard → ℕ
start_heard [] = 0
start_heard (h ∷ hs) = h.time

-- all that is handed out of these packets in the order of the stream, of which the first is the tuning packet
unfoldable pub out_end : Reading → Params → List Heard → List Presentation
out_end g r hs = out g r (start_heard hs) (newest_first hs) ++ final g r (start_heard hs) (newest_first hs)

-- a receiver's values: the cast's window and delay, and a bound that is no less
pub record IsReceiver (sent receiver : Params) : Type 0 where
  pub window : receiver.window ≡ sent.window
  pub delay : receiver.delay ≡ sent.delay
  pub bound : sent.bound ≤ receiver.bound

-- what a receiver with the values k holds once it heard this history of places, the clock having begun at start. The cast's values are r
pub record HoldsExactly (names_in : List ℕ → List Entry) (broadcast : Broadcast) (r k : Params) (start : ℕ) (hist : List ℕ) : Type 0 where
  -- its clock is the greatest timestamp so far, modulo 2^32
  pub clock_is : clock (low start) (map (heard_of broadcast.cast.packets) hist) ≡ low (latest broadcast.cast.packets.sent start hist)
  -- kept law: it keeps exactly the packets that survived and whose timestamp plus the window is after the clock, each once
  pub packets : List ℕ
  pub kept_is : kept k (low start) (map (heard_of broadcast.cast.packets) hist) ≡ map (heard_of broadcast.cast.packets) packets
  pub kept_once : (n : ℕ) → occurrences n packets
      ≡ as_number (survives broadcast.cast.packets.sent r.delay hist n && nat_lt (latest broadcast.cast.packets.sent start hist) (sent_at broadcast.cast.packets.sent n + r.window))
  -- units law: their media units are exactly the units of the cast all of whose packets are kept, each once
  pub units : List ℕ
  pub units_are : units_of (map (heard_of broadcast.cast.packets) packets) ≡ map (λ u. (unit_of broadcast u).value) units
  pub units_once : (u : ℕ) → occurrences u units ≡ as_number (nat_lt u (length broadcast.units) && list_all (λ n. member n packets) (unit_of broadcast u).members)
  -- entries law: the live entries are exactly those of the MPUs that a copy names whose packets all survived, and whose last due tick is after the clock, each once
  pub mpus : List ℕ
  pub entries_are : entries (names_of names_in) k (low start) (map (heard_of broadcast.cast.packets) hist) ≡ map (entry_of broadcast.cast) mpus
  pub entries_once : (m : ℕ) → occurrences m mpus
      ≡ as_number (is_named broadcast.cast r.delay hist m && nat_lt (latest broadcast.cast.packets.sent start hist) (due_at broadcast.cast m))
  -- sum law: the kept payload bytes are no more than the load at the clock, and so no more than the cast's bound
  pub bytes : sum_by (λ p. p.length) (map (heard_of broadcast.cast.packets) packets) ≤ load broadcast.cast.packets.sent r.window (latest broadcast.cast.packets.sent start hist)
  pub room : sum_by (λ p. p.length) (map (heard_of broadcast.cast.packets) packets) ≤ r.bound

-- at each moment of a near delivery of an admitted cast, the receiver holds exactly that
abbrev pub HoldsAlways : Type 0
HoldsAlways =
    (names_in : List ℕ → List Entry) (cast : Cast) (contents : Contents) (k : Params) → fault cast ≡ None → IsCastOf cast contents names_in → IsReceiver cast.params k
    → (ds after : List ℕ) → AreOf cast.packets (ds ++ after) → NearDelivery cast.packets (ds ++ after)
    → HoldsExactly names_in (broadcast_of cast contents) cast.params k (start_of cast.packets ds) (newest_first ds)

-- what comes out of a near delivery of an admitted cast are exactly the expected units, each once, in their order. Hearing begins where a full header comes (`full_every`), and the first packet that passes `tunes` is the tuning packet
abbrev pub Delivers : Type 0
Delivers =
    (names_in : List ℕ → List Entry) (cast : Cast) (contents : Contents) (k : Params) → fault cast ≡ None → IsCastOf cast contents names_in → IsReceiver cast.params k
    → (full_every : ℕ) (tunes : Heard → Bool) (delivery : List ℕ) → AreOf cast.packets delivery
    → NearDelivery cast.packets (tuned full_every (λ n. tunes (heard_of (packets_of cast contents) n)) delivery)
    → out_end (reading_of names_in (broadcast_of cast contents)) k (from_first tunes (map (heard_of (packets_of cast contents)) (from_heard full_every delivery)))
    ≡ expected (broadcast_of cast contents) cast.params.delay (newest_first (tuned full_every (λ n. tunes (heard_of (packets_of cast contents) n)) delivery))

-- what becomes of the packet at place d, which comes after ds: it is late, or it survived before and is a repeat, or it is stored. So the buffer is never full
abbrev pub OutcomesAre : Type 0
OutcomesAre =
    (names_in : List ℕ → List Entry) (cast : Cast) (contents : Contents) (k : Params) → fault cast ≡ None → IsCastOf cast contents names_in → IsReceiver cast.params k
    → (ds : List ℕ) (d : ℕ) (after : List ℕ) → AreOf cast.packets ((ds ++ d ∷ []) ++ after) → NearDelivery cast.packets ((ds ++ d ∷ []) ++ after)
    → (let start = low (start_of cast.packets (ds ++ d ∷ [])) in
    let older = map (heard_of (packets_of cast contents)) (newest_first ds) in
    let h = heard_of (packets_of cast contents) d in
    let now = clock start (h ∷ older) in
    outcome k now (still_kept k now (kept k start older)) h)
    ≡ (if nat_le (latest cast.packets (start_of cast.packets (ds ++ d ∷ [])) (newest_first (ds ++ d ∷ []))) (sent_at cast.packets d + cast.params.delay)
    then (if survives cast.packets cast.params.delay (newest_first ds) d then Outcome.Repeat else Outcome.Stored)
    else Outcome.Late)

-- the greatest sum of kept payload bytes over a near delivery is no more than the cast's bound
abbrev pub PeakFits : Type 0
PeakFits =
    (names_in : List ℕ → List Entry) (cast : Cast) (contents : Contents) (k : Params) → fault cast ≡ None → IsCastOf cast contents names_in → IsReceiver cast.params k
    → (ds : List ℕ) → AreOf cast.packets ds → NearDelivery cast.packets ds
    → peak k (low (start_of cast.packets ds)) (map (heard_of (packets_of cast contents)) (newest_first ds)) ≤ cast.params.bound

-- where all timestamps lie less than the reach above the first, every delivery is near
abbrev pub ShortIsNear : Type 0
ShortIsNear =
    (packets : List Sent) → ((n : ℕ) → n < length packets → (sent_at packets 0 ≤ sent_at packets n) × (sent_at packets n < sent_at packets 0 + reach))
    → (ds : List ℕ) → AreOf packets ds → NearDelivery packets ds
