-- The delivery theorem.
use Rattle.std.proofs.Common.{◌≡◌, ℕ, ◌+◌, ◌<◌, ◌≤◌, Bool, true, false, ◌&&◌, ◌||◌, ◌==◌, nat_lt, nat_le, cond, max, List, [], ◌∷◌, ◌++◌, map, length, arith, refl, ap, ap₂, sym, ◌∙◌, filter, subst, sum_by, append-nil, ◌%◌}
use Rattle.std.specs.List.{list_any}
use Rattle.std.proofs.lemmas.Bool.{leb-true, lt-ltb}
use Rattle.mmt_base.specs.Ticks.{low}
use Rattle.mmt_delivery.proofs.Admitted.{IsAdmitted, IsWellFormed}
use Rattle.mmt_delivery.proofs.Admitting.{apart, naming, playing, sound}
use Rattle.mmt_delivery.proofs.Finding.{finding, found}
use Rattle.mmt_delivery.proofs.Handing.{IsHistory, IsReading, delivered}
use Rattle.mmt_delivery.proofs.Held.{begins-older, held, occurrences-held, within}
use Rattle.mmt_delivery.proofs.Kept.{clock-low, goes, held_facts, kept-held, latest_some, sum-map_heard, sum_held}
use Rattle.mmt_delivery.proofs.Known.{known, occurrences-known}
use Rattle.mmt_delivery.proofs.Learning.{entries-known}
use Rattle.mmt_delivery.proofs.Outs.{held-once}
use Rattle.mmt_delivery.proofs.Premises.{Begins, IsNear, IsSound}
use Rattle.mmt_delivery.proofs.Statements.{DeliversIn, HoldsIn, OutcomesIn}
use Rattle.mmt_delivery.proofs.Telling.{telling}
use Rattle.mmt_delivery.specs.Laws.{IsReceiver, ShortIsNear, out_end, reading_of, start_heard}
use Rattle.mmt_model.proofs.Counting.{any-occurrences, occurrences-filter}
use Rattle.mmt_model.specs.Broadcast.{Broadcast, due_at}
use Rattle.mmt_model.specs.Counts.{as_number, occurrences}
use Rattle.mmt_model.specs.Delivery.{NearAfter, NearDelivery, from_first, from_heard, newest_first, onto, reach, start_of}
use Rattle.mmt_model.specs.Entries.{Entry}
use Rattle.mmt_model.specs.Expected.{expected, is_named}
use Rattle.mmt_model.specs.Handing.{final, out}
use Rattle.mmt_model.specs.Keeping.{Outcome, outcome}
use Rattle.mmt_model.specs.Survival.{AreOf, SentPackets, heard_of, latest, length_of, load, sent_at, survives}
use Rattle.mmt_model.specs.Units.{names_of}
use Rattle.mmt_model.specs.declared.programmes.Params.{Params}

map-onto : {X Y : Type 0} (f : X → Y) (xs older : List X) → map f (onto xs older) ≡ onto (map f xs) (map f older)
unfolding onto
map-onto f [] older = refl
map-onto f (x ∷ xs) older = map-onto f xs (x ∷ older)

near-onto : (packets : SentPackets) (start : ℕ) (ds : List ℕ) (n : ℕ) (older : List ℕ) → IsNear packets.sent start (n ∷ older) → NearAfter packets.sent (latest packets.sent start (n ∷ older)) ds → IsNear packets.sent start (onto ds (n ∷ older))
unfolding onto
near-onto packets start [] n older near after = near
near-onto packets start (d ∷ ds) n older near after =
    near-onto packets start ds d (n ∷ older) (near, after.0, after.1) (unfold latest in after.2)

begins-onto : (packets : SentPackets) (start : ℕ) (ds : List ℕ) (n : ℕ) (older : List ℕ) → Begins packets.sent start (n ∷ older) → Begins packets.sent start (onto ds (n ∷ older))
unfolding onto
begins-onto packets start [] n older b = b
begins-onto packets start (d ∷ ds) n older b = begins-onto packets start ds d (n ∷ older) b

of-onto : (packets : SentPackets) (ds older : List ℕ) → AreOf packets.sent ds → AreOf packets.sent older → AreOf packets.sent (onto ds older)
unfolding onto
of-onto packets [] older o p = p
of-onto packets (d ∷ ds) older o p = of-onto packets ds (d ∷ older) o.1 (o.0, p)

latest-one : (p : SentPackets) (t : ℕ) → latest p.sent (sent_at p.sent t) (t ∷ []) ≡ sent_at p.sent t
unfolding latest
latest-one p t = omega arith

-- the history of the first packets of a near delivery
pub history : (broadcast : Broadcast) (ds after : List ℕ) → AreOf broadcast.cast.packets.sent (ds ++ after) → NearDelivery broadcast.cast.packets.sent (ds ++ after) → IsHistory broadcast (start_of broadcast.cast.packets.sent ds) (newest_first ds)
unfolding newest_first onto start_of
history broadcast [] after o near = record { of = tt; begins = tt; near = tt }
history broadcast (t ∷ ds) after o near =
    let p : SentPackets = broadcast.cast.packets in
    record {
      of = of-onto p ds (t ∷ []) (front_of p ds after o.1) (o.0, tt);
      begins = begins-onto p (sent_at p.sent t) ds t [] refl;
      near = near-onto p (sent_at p.sent t) ds t [] (tt, unfold latest in (omega arith), unfold latest in (omega arith)) (first p t ds (front_near p (sent_at p.sent t) ds after near));
    }
  where
    front_of : (p : SentPackets) (ds after : List ℕ) → AreOf p.sent (ds ++ after) → AreOf p.sent ds
    front_of p [] after o = tt
    front_of p (d ∷ ds) after o = (o.0, front_of p ds after o.1)

    front_near : (p : SentPackets) (l : ℕ) (ds after : List ℕ) → NearAfter p.sent l (ds ++ after) → NearAfter p.sent l ds
    front_near p l [] after n = tt
    front_near p l (d ∷ ds) after n = (n.0, n.1, front_near p (max l (sent_at p.sent d)) ds after n.2)

    first : (p : SentPackets) (t : ℕ) (ds : List ℕ) → NearAfter p.sent (sent_at p.sent t) ds → NearAfter p.sent (latest p.sent (sent_at p.sent t) (t ∷ [])) ds
    first p t ds n = subst (λ l. NearAfter p.sent l ds) (sym (latest-one p t)) n

-- the reading of an admitted broadcast
reading : (names_in : List ℕ → List Entry) (broadcast : Broadcast) (r k : Params) → IsAdmitted broadcast r → (formed : IsWellFormed broadcast names_in) → IsReceiver r k → IsReading (reading_of names_in broadcast) broadcast k (found broadcast formed.starts)
reading names_in broadcast r k admitted formed receiver =
    record {
      telling = telling broadcast.cast names_in formed.head formed.tail (apart broadcast r admitted) formed.tables;
      set = record {
        finding = finding broadcast formed.starts (apart broadcast r admitted) formed.cut formed.unit_some;
        playing = playing broadcast r k names_in admitted formed receiver.window receiver.delay;
        naming = naming broadcast r k names_in admitted formed receiver.window receiver.delay;
        short = omega (arith, admitted.window, receiver.window, receiver.delay);
      };
      sample_base = refl;
      sound = sound broadcast r k admitted receiver.window receiver.delay receiver.bound;
    }

pub room_of : (broadcast : Broadcast) (r k : Params) (start : ℕ) (hist : List ℕ) → IsAdmitted broadcast r → AreOf broadcast.cast.packets.sent hist → Begins broadcast.cast.packets.sent start hist
    → sum_by (length_of broadcast.cast.packets.sent) (held broadcast.cast.packets k start hist) ≤ load broadcast.cast.packets.sent r.window (latest broadcast.cast.packets.sent start hist) → sum_by (length_of broadcast.cast.packets.sent) (held broadcast.cast.packets k start hist) ≤ r.bound
unfolding held
room_of broadcast r k start [] admitted o b h = omega arith
room_of broadcast r k start (n ∷ older) admitted o b h =
    let m = latest_some broadcast.cast.packets start n older o b in
    omega (arith, h, admitted.loads m.0 m.1, ap (load broadcast.cast.packets.sent r.window) m.2)

-- what a receiver holds after any first packets of a near delivery
pub holds : HoldsIn
holds names_in broadcast r k admitted formed receiver ds after of near =
    let p : SentPackets = broadcast.cast.packets in
    let start : ℕ = start_of p.sent ds in
    let hist : List ℕ = newest_first ds in
    let h = history broadcast ds after of near in
    let g = reading names_in broadcast r k admitted formed receiver in
    let H : List ℕ = held p k start hist in
    let short = g.set.short in
    let below : (n : ℕ) → 0 < occurrences n H → n < length p.sent = λ n l. (held_facts p k start hist n short h.of h.begins l).of in
    let once : (n : ℕ) → occurrences n H ≤ 1 = held-once p k start hist short h.begins in
    let bytes = sum_held p k start hist short h.of h.begins in
    record {
      clock_is = clock-low p start hist h.near;
      packets = H;
      kept_is = kept-held p k start hist g.sound h.of h.begins h.near;
      kept_once = λ n. occurrences-held p k start hist n short h.begins ∙ ap₂ (λ d w. as_number (survives p.sent d hist n && nat_lt (latest p.sent start hist) (sent_at p.sent n + w))) receiver.delay receiver.window;
      units = found broadcast formed.starts H;
      units_are = g.set.finding.values H once below;
      units_once = g.set.finding.once H once below;
      mpus = known broadcast.cast k start hist;
      entries_are = entries-known (names_of names_in) broadcast.cast k start hist g.sound g.set.naming g.telling h.of h.begins h.near;
      entries_once = λ m. occurrences-known broadcast.cast k start hist m short g.set.naming h.of h.begins ∙ ap (λ d. as_number (is_named broadcast.cast d hist m && nat_lt (latest p.sent start hist) (due_at broadcast.cast m))) receiver.delay;
      bytes = omega (arith, sum-map_heard p H, bytes, ap (λ w. load p.sent w (latest p.sent start hist)) receiver.window);
      room = omega (arith, sum-map_heard p H, room_of broadcast r k start hist admitted h.of h.begins (omega (arith, bytes, ap (λ w. load p.sent w (latest p.sent start hist)) receiver.window)));
    }

start-heard : (packets : SentPackets) (ds : List ℕ) → start_heard (map (heard_of packets) ds) ≡ low (start_of packets.sent ds)
unfolding start_heard start_of heard_of sent_at low
start-heard packets [] = refl
start-heard packets (d ∷ ds) = refl

first-map : {X Y : Type 0} (f : X → Y) (test : Y → Bool) (xs : List X) → from_first test (map f xs) ≡ map f (from_first (λ x. test (f x)) xs)
unfolding from_first
first-map f test [] = refl
first-map f test (x ∷ xs) = go (test (f x)) (first-map f test xs)
  where
    go : (b : Bool) → from_first test (map f xs) ≡ map f (from_first (λ x. test (f x)) xs) → cond b (f x ∷ map f xs) (from_first test (map f xs)) ≡ map f (cond b (x ∷ xs) (from_first (λ x. test (f x)) xs))
    go true e = refl
    go false e = e

first-of : (packets : SentPackets) (test : ℕ → Bool) (ds : List ℕ) → AreOf packets.sent ds → AreOf packets.sent (from_first test ds)
unfolding from_first
first-of packets test [] o = tt
first-of packets test (d ∷ ds) o = go (test d) (first-of packets test ds o.1)
  where
    go : (b : Bool) → AreOf packets.sent (from_first test ds) → AreOf packets.sent (cond b (d ∷ ds) (from_first test ds))
    go true r = o
    go false r = r

heard-of : (packets : SentPackets) (full_every : ℕ) (ds : List ℕ) → AreOf packets.sent ds → AreOf packets.sent (from_heard full_every ds)
unfolding from_heard
heard-of packets full_every [] o = tt
heard-of packets full_every (d ∷ ds) o = go ((full_every == 0) || (d % full_every == 0)) (heard-of packets full_every ds o.1)
  where
    go : (b : Bool) → AreOf packets.sent (from_heard full_every ds) → AreOf packets.sent (cond b (d ∷ ds) (from_heard full_every ds))
    go true r = o
    go false r = r

pub of-nothing : (packets : SentPackets) (ds : List ℕ) → AreOf packets.sent ds → AreOf packets.sent (ds ++ [])
of-nothing packets [] o = tt
of-nothing packets (d ∷ ds) o = (o.0, of-nothing packets ds o.1)

pub near-nothing : (packets : SentPackets) (ds : List ℕ) → NearDelivery packets.sent ds → NearDelivery packets.sent (ds ++ [])
near-nothing packets [] n = tt
near-nothing packets (d ∷ ds) n = subst (NearAfter packets.sent (sent_at packets.sent d)) (sym (append-nil ds)) n

map-newest : {X Y : Type 0} (f : X → Y) (xs : List X) → map f (newest_first xs) ≡ newest_first (map f xs)
unfolding newest_first
map-newest f xs = map-onto f xs []

-- what comes out are the expected units
pub delivers : DeliversIn
unfolding out_end
delivers names_in broadcast r k admitted formed receiver full_every tunes delivery of near =
    let p : SentPackets = broadcast.cast.packets in
    let test : ℕ → Bool = λ n. tunes (heard_of p n) in
    let ds : List ℕ = from_first test (from_heard full_every delivery) in
    let hist : List ℕ = newest_first ds in
    let h = history broadcast ds [] (of-nothing p ds (first-of p test (from_heard full_every delivery) (heard-of p full_every delivery of))) (near-nothing p ds near) in
    let g = reading_of names_in broadcast in
    let rd = reading names_in broadcast r k admitted formed receiver in
    let same : from_first tunes (map (heard_of p) (from_heard full_every delivery)) ≡ map (heard_of p) ds = first-map (heard_of p) tunes (from_heard full_every delivery) in
    let turned : newest_first (map (heard_of p) ds) ≡ map (heard_of p) hist = sym (map-newest (heard_of p) ds) in
    ap (λ hs. out g k (start_heard hs) (newest_first hs) ++ final g k (start_heard hs) (newest_first hs)) same
    ∙ ((λ i. out g k (start-heard p ds i) (turned i) ++ final g k (start-heard p ds i) (turned i))
    ∙ (delivered g broadcast k (found broadcast formed.starts) (start_of p.sent ds) hist rd h
    ∙ ap (λ d. expected broadcast d hist) receiver.delay))

onto-push : {X : Type 0} (xs : List X) (x : X) (older : List X) → onto (xs ++ x ∷ []) older ≡ x ∷ onto xs older
unfolding onto
onto-push [] x older = refl
onto-push (y ∷ xs) x older = onto-push xs x (y ∷ older)

-- one more packet is the newest
pub newest-push : {X : Type 0} (xs : List X) (x : X) → newest_first (xs ++ x ∷ []) ≡ x ∷ newest_first xs
unfolding newest_first
newest-push xs x = onto-push xs x []

outcome_at : (broadcast : Broadcast) (r k : Params) (start d : ℕ) (older : List ℕ) → IsReceiver r k → IsSound broadcast.cast.packets k → IsHistory broadcast start (d ∷ older) → (t : Bool) → nat_le (latest broadcast.cast.packets.sent start (d ∷ older)) (sent_at broadcast.cast.packets.sent d + k.delay) ≡ t
    → cond t (cond (list_any (λ j. j == d) (within broadcast.cast.packets k (latest broadcast.cast.packets.sent start (d ∷ older)) (held broadcast.cast.packets k start older))) Outcome.Repeat Outcome.Stored) Outcome.Late
    ≡ cond t (cond (survives broadcast.cast.packets.sent k.delay older d) Outcome.Repeat Outcome.Stored) Outcome.Late
unfolding within
outcome_at broadcast r k start d older receiver sound h true e =
    let p : SentPackets = broadcast.cast.packets in
    let now : ℕ = latest p.sent start (d ∷ older) in
    let L : ℕ = latest p.sent start older in
    let now_is : now ≡ max L (sent_at p.sent d) = unfold latest in refl in
    let le = leb-true now (sent_at p.sent d + k.delay) e in
    let s : Bool = survives p.sent k.delay older d in
    let w : nat_lt now (sent_at p.sent d + k.window) ≡ true = lt-ltb now (sent_at p.sent d + k.window) (omega (arith, sound.short_delay)) in
    let w0 : nat_lt L (sent_at p.sent d + k.window) ≡ true = lt-ltb L (sent_at p.sent d + k.window) (omega (arith, sound.short_delay)) in
    let count : occurrences d (filter (λ j. nat_lt now (sent_at p.sent j + k.window)) (held p k start older)) ≡ as_number (s && true) =
    occurrences-filter d (λ j. nat_lt now (sent_at p.sent j + k.window)) (held p k start older)
    ∙ (ap (λ b. cond b (occurrences d (held p k start older)) 0) w
    ∙ (occurrences-held p k start older d sound.short_delay (begins-older p start d older h.begins) ∙ ap (λ b. as_number (s && b)) w0)) in
    let any : list_any (λ j. j == d) (filter (λ j. nat_lt now (sent_at p.sent j + k.window)) (held p k start older)) ≡ s =
    any-occurrences d (filter (λ j. nat_lt now (sent_at p.sent j + k.window)) (held p k start older)) ∙ (ap (nat_lt 0) count ∙ back s) in
    ap (λ b. cond b Outcome.Repeat Outcome.Stored) any
  where
    back : (b : Bool) → nat_lt 0 (as_number (b && true)) ≡ b
    back true = refl
    back false = refl
outcome_at broadcast r k start d older receiver sound h false e = refl

pub outcomes : OutcomesIn
outcomes names_in broadcast r k admitted formed receiver ds d after of near =
    let p : SentPackets = broadcast.cast.packets in
    let start : ℕ = start_of p.sent (ds ++ d ∷ []) in
    let older : List ℕ = newest_first ds in
    let h = subst (λ l. IsHistory broadcast start l) (newest-push ds d) (history broadcast (ds ++ d ∷ []) after of near) in
    let sd = sound broadcast r k admitted receiver.window receiver.delay receiver.bound in
    let g = goes p k start d older sd h.of h.begins h.near (kept-held p k start older sd h.of.1 (begins-older p start d older h.begins) h.near.0) in
    let c = clock-low p start (d ∷ older) h.near in
    (λ i. outcome k (c i) (g.rest i) (heard_of p d))
    ∙ (g.fated
    ∙ (outcome_at broadcast r k start d older receiver sd h (nat_le (latest p.sent start (d ∷ older)) (sent_at p.sent d + k.delay)) refl
    ∙ (λ i. cond (nat_le (latest p.sent start (sym (newest-push ds d) i)) (sent_at p.sent d + receiver.delay i)) (cond (survives p.sent (receiver.delay i) older d) Outcome.Repeat Outcome.Stored) Outcome.Late)))

pub short_near : ShortIsNear
short_near packets span [] o = tt
short_near packets span (t ∷ ds) o = go ds (sent_at packets t) (span t o.0) o.1
  where
    go : (ds : List ℕ) (l : ℕ) → (sent_at packets 0 ≤ l) × (l < sent_at packets 0 + reach) → AreOf packets ds → NearAfter packets l ds
    go [] l h o = tt
    go (d ∷ ds) l h o =
        let s = span d o.0 in
        (omega (arith, h.0, h.1, s.0, s.1), omega (arith, h.0, h.1, s.0, s.1), go ds (max l (sent_at packets d)) (omega (arith, h.0), omega (arith, h.1, s.1)) o.1)
