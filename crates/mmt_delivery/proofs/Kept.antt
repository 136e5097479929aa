-- The kept list of the 32 bit clock is the kept list of whole ticks.
use Rattle.std.proofs.Common.{◌≡◌, ℕ, ◌+◌, ◌^◌, ◌<◌, ◌≤◌, Bool, true, false, not, ◌&&◌, ◌||◌, ◌==◌, nat_lt, nat_le, cond, max, List, [], ◌∷◌, ◌++◌, map, length, get_or, arith, refl, ap, sym, ◌∙◌, ⊎_elim, filter, sum_by, le_refl, ap₂}
use Rattle.std.specs.List.{list_any}
use Rattle.std.proofs.lemmas.Bool.Decides.{nat_tests}
use Rattle.std.proofs.lemmas.Bool.{cases_eq, eq-eqb, ne_eqb, and_parts, or_cases, ltb-true, le-leb, le-ltb, cases_lt}
use Rattle.std.proofs.lemmas.List.Sums.{sum_by-cons}
use Rattle.mmt_base.proofs.TickLemmas.{advance-low, is_after-low, plus-low}
use Rattle.mmt_base.specs.Ticks.{advance, low}
use Rattle.mmt_delivery.proofs.Held.{begins-older, held, occurrences-held, place_before, within}
use Rattle.mmt_delivery.proofs.Loads.{AllBelow, sum_by-le-passing}
use Rattle.mmt_delivery.proofs.Premises.{Begins, IsNear, IsSound}
use Rattle.mmt_model.proofs.Counting.{occurrences-filter}
use Rattle.mmt_model.proofs.Inserting.{insert-map, sum-insert}
use Rattle.mmt_model.specs.Counts.{as_number, occurrences}
use Rattle.mmt_model.specs.Delivery.{reach}
use Rattle.mmt_model.specs.Keeping.{Outcome, clock, is_in_time, is_in_window, is_kept_before, is_repeat, kept, kept_after, outcome, still_kept}
use Rattle.mmt_model.specs.Packets.{Heard}
use Rattle.mmt_model.specs.Sorted.{insert_by}
use Rattle.mmt_model.specs.Survival.{AreOf, SentPackets, heard_of, is_overtaken, latest, length_of, load, no_packet, sent_at, survives}
use Rattle.mmt_model.specs.declared.programmes.Params.{Params}

pub as_number-true : (b : Bool) → 0 < as_number b → b ≡ true
as_number-true true h = refl
as_number-true false h = absurd (omega arith)

bound_bit : (s w v : Bool) → (s ≡ true → v ≡ true) → as_number (s && w) ≤ as_number (v && w)
bound_bit true w true h = le_refl (as_number w)
bound_bit true w false h = absurd (cc (h refl))
bound_bit false w v h = omega arith

-- what survived was heard
pub survives-latest : (cast : SentPackets) (delay start : ℕ) (hist : List ℕ) (n : ℕ) → survives cast.sent delay hist n ≡ true → sent_at cast.sent n ≤ latest cast.sent start hist
unfolding survives latest
survives-latest cast delay start [] n s = absurd cc
survives-latest cast delay start (k ∷ older) n s =
    ⊎_elim
    (λ (h : ((k == n) && not (is_overtaken cast.sent delay older n)) ≡ true).
    let a : (k == n) ≡ true = (and_parts (k == n) (not (is_overtaken cast.sent delay older n)) h).0 in
    let e : k ≡ n = grind (arith, nat_tests) in
    omega (arith, ap (sent_at cast.sent) e))
    (λ (h : survives cast.sent delay older n ≡ true). omega (arith, survives-latest cast delay start older n h))
    (or_cases ((k == n) && not (is_overtaken cast.sent delay older n)) (survives cast.sent delay older n) s)

pub survives-of : (cast : SentPackets) (delay : ℕ) (hist : List ℕ) (n : ℕ) → AreOf cast.sent hist → survives cast.sent delay hist n ≡ true → n < length cast.sent
unfolding survives
survives-of cast delay [] n o s = absurd cc
survives-of cast delay (k ∷ older) n o s =
    ⊎_elim
    (λ (h : ((k == n) && not (is_overtaken cast.sent delay older n)) ≡ true).
    let a : (k == n) ≡ true = (and_parts (k == n) (not (is_overtaken cast.sent delay older n)) h).0 in
    let e : k ≡ n = grind (arith, nat_tests) in
    omega (arith, o.0))
    (λ (h : survives cast.sent delay older n ≡ true). survives-of cast delay older n o.1 h)
    (or_cases ((k == n) && not (is_overtaken cast.sent delay older n)) (survives cast.sent delay older n) s)

-- what is known of a held place
pub record IsHeld (cast : SentPackets) (r : Params) (start : ℕ) (hist : List ℕ) (n : ℕ) : Type 0 where
  pub survived : survives cast.sent r.delay hist n ≡ true
  pub of : n < length cast.sent
  pub heard : sent_at cast.sent n ≤ latest cast.sent start hist
  pub in_window : latest cast.sent start hist < sent_at cast.sent n + r.window

pub held_facts : (cast : SentPackets) (r : Params) (start : ℕ) (hist : List ℕ) (n : ℕ) → r.delay < r.window → AreOf cast.sent hist → Begins cast.sent start hist
    → 0 < occurrences n (held cast r start hist) → IsHeld cast r start hist n
held_facts cast r start hist n dw o b t =
    let e : (survives cast.sent r.delay hist n && nat_lt (latest cast.sent start hist) (sent_at cast.sent n + r.window)) ≡ true =
    as_number-true (survives cast.sent r.delay hist n && nat_lt (latest cast.sent start hist) (sent_at cast.sent n + r.window)) (omega (arith, occurrences-held cast r start hist n dw b)) in
    let p = and_parts (survives cast.sent r.delay hist n) (nat_lt (latest cast.sent start hist) (sent_at cast.sent n + r.window)) e in
    record {
      survived = p.0;
      of = survives-of cast r.delay hist n o p.0;
      heard = survives-latest cast r.delay start hist n p.0;
      in_window = ltb-true (latest cast.sent start hist) (sent_at cast.sent n + r.window) p.1;
    }

pub below_from_times : (n : ℕ) (ks : List ℕ) → ((k : ℕ) → 0 < occurrences k ks → k < n) → AllBelow n ks
below_from_times n [] h = tt
below_from_times n (j ∷ ks) h =
    (h j (rw (eq-eqb j j refl) (omega arith)), below_from_times n ks (λ k t. h k (omega arith)))

-- the held packets have no more bytes than the load at the clock
pub sum_held : (cast : SentPackets) (r : Params) (start : ℕ) (hist : List ℕ) → r.delay < r.window → AreOf cast.sent hist → Begins cast.sent start hist
    → sum_by (length_of cast.sent) (held cast r start hist) ≤ load cast.sent r.window (latest cast.sent start hist)
unfolding load length_of sent_at
sum_held cast r start hist dw o b =
    sum_by-le-passing (λ p. nat_le p.at.0 (latest cast.sent start hist) && nat_lt (latest cast.sent start hist) (p.at.0 + r.window)) (λ p. p.length) cast.sent no_packet (held cast r start hist)
    (below_from_times (length cast.sent) (held cast r start hist) (λ k t. (held_facts cast r start hist k dw o b t).of))
    (λ k. let e = occurrences-held cast r start hist k dw b in
    let m = bound_bit (survives cast.sent r.delay hist k) (nat_lt (latest cast.sent start hist) (sent_at cast.sent k + r.window)) (nat_le (sent_at cast.sent k) (latest cast.sent start hist)) (λ s. le-leb (sent_at cast.sent k) (latest cast.sent start hist) (survives-latest cast r.delay start hist k s)) in
    rw e m)

-- the clock is that of whole ticks
pub clock-low : (cast : SentPackets) (start : ℕ) (hist : List ℕ) → IsNear cast.sent start hist → clock (low start) (map (heard_of cast) hist) ≡ low (latest cast.sent start hist)
unfolding clock latest heard_of sent_at
clock-low cast start [] near = refl
clock-low cast start (n ∷ older) near =
    ap (λ c. advance c (low (sent_at cast.sent n))) (clock-low cast start older near.0)
    ∙ advance-low (latest cast.sent start older) (sent_at cast.sent n) (omega (arith, near.1)) (omega (arith, near.2))

pub filter-map : {Y : Type 0} (f : ℕ → Y) (p : Y → Bool) (q : ℕ → Bool) (ks : List ℕ) → ((k : ℕ) → 0 < occurrences k ks → p (f k) ≡ q k) → filter p (map f ks) ≡ map f (filter q ks)
filter-map f p q [] h = refl
filter-map f p q (k ∷ ks) h =
    go (q k) refl (filter-map f p q ks (λ j t. h j (omega arith)))
  where
    go : (b : Bool) → q k ≡ b → filter p (map f ks) ≡ map f (filter q ks) → cond (p (f k)) (f k ∷ filter p (map f ks)) (filter p (map f ks)) ≡ map f (cond (q k) (k ∷ filter q ks) (filter q ks))
    go true e ih = rw (h k (rw (eq-eqb k k refl) (omega arith)), e) (ap (λ l. f k ∷ l) ih)
    go false e ih = rw (h k (rw (eq-eqb k k refl) (omega arith)), e) ih

repeat_same : (cast : SentPackets) (r : Params) (j k : ℕ) → IsSound cast r → j < length cast.sent → k < length cast.sent → is_repeat (heard_of cast k) (heard_of cast j) ≡ (j == k)
unfolding is_repeat heard_of
repeat_same cast r j k sound lj lk =
    ⊎_elim
    (λ (e : j ≡ k). rw (eq-eqb j k e, ap (λ i. (get_or cast.sent i no_packet).packet_id) e, ap (λ i. (get_or cast.sent i no_packet).number) e) (grind (arith, nat_tests)))
    (λ (ne : j ≡ k → ⊥). rw (ne_eqb j k ne)
    (different ((get_or cast.sent j no_packet).packet_id) ((get_or cast.sent k no_packet).packet_id) ((get_or cast.sent j no_packet).number) ((get_or cast.sent k no_packet).number) (λ a b. ne (sound.apart j k lj lk a b))))
    (cases_eq j k)
  where
    different : (a b c d : ℕ) → (a ≡ b → c ≡ d → ⊥) → ((a == b) && (c == d)) ≡ false
    different a b c d h = grind (arith, nat_tests)

pub any-map : {Y : Type 0} (f : ℕ → Y) (p : Y → Bool) (q : ℕ → Bool) (ks : List ℕ) → ((k : ℕ) → 0 < occurrences k ks → p (f k) ≡ q k) → list_any p (map f ks) ≡ list_any q ks
any-map f p q [] h = refl
any-map f p q (k ∷ ks) h = ap₂ (λ a b. a || b) (h k (rw (eq-eqb k k refl) (omega arith))) (any-map f p q ks (λ j t. h j (omega arith)))

pub map-push : {Y : Type 0} (f : ℕ → Y) (ks : List ℕ) (k : ℕ) → map f (ks ++ k ∷ []) ≡ map f ks ++ f k ∷ []
map-push f [] k = refl
map-push f (j ∷ ks) k = ap (λ l. f j ∷ l) (map-push f ks k)

pub sum-map_heard : (cast : SentPackets) (ks : List ℕ) → sum_by (λ p. p.length) (map (heard_of cast) ks) ≡ sum_by (length_of cast.sent) ks
unfolding heard_of length_of
sum-map_heard cast [] = refl
sum-map_heard cast (k ∷ ks) = omega (arith, sum_by-cons (λ (p : Heard). p.length) (heard_of cast k) (map (heard_of cast) ks), sum_by-cons (length_of cast.sent) k ks, sum-map_heard cast ks)

-- the greatest timestamp is that of some place
pub latest_some : (cast : SentPackets) (start k : ℕ) (older : List ℕ) → AreOf cast.sent (k ∷ older) → Begins cast.sent start (k ∷ older) → (m : ℕ) × (m < length cast.sent) × (latest cast.sent start (k ∷ older) ≡ sent_at cast.sent m)
unfolding latest
latest_some cast start k [] o b = (k, o.0, omega (arith, b))
latest_some cast start k (j ∷ older) o b =
    let ih = latest_some cast start j older o.1 b in
    ⊎_elim
    (λ (lt : sent_at cast.sent k < latest cast.sent start (j ∷ older)). (ih.0, ih.1, let e : latest cast.sent start (j ∷ older) ≡ sent_at cast.sent ih.0 = ih.2 in omega (arith, e)))
    (λ (le : latest cast.sent start (j ∷ older) ≤ sent_at cast.sent k). (k, o.0, omega arith))
    (cases_lt (sent_at cast.sent k) (latest cast.sent start (j ∷ older)))

-- at most the bound
pub held_fits : (cast : SentPackets) (r : Params) (start : ℕ) (hist : List ℕ) → IsSound cast r → AreOf cast.sent hist → Begins cast.sent start hist → sum_by (length_of cast.sent) (held cast r start hist) ≤ r.bound
unfolding held
held_fits cast r start [] sound o b = omega arith
held_fits cast r start (k ∷ older) sound o b =
    let s = sum_held cast r start (k ∷ older) sound.short_delay o b in
    let m = latest_some cast start k older o b in
    let f = sound.fits m.0 m.1 in
    let e : load cast.sent r.window (latest cast.sent start (k ∷ older)) ≡ load cast.sent r.window (sent_at cast.sent m.0) = ap (load cast.sent r.window) m.2 in
    omega (arith, s, f, e)

-- what becomes of an opened packet, where there is room for it
fate_with_room : (r : Params) (now : ℕ) (rest : List Heard) (h : Heard) (t a : Bool) → h.is_opened ≡ true → is_in_time r now h ≡ t → list_any (is_repeat h) rest ≡ a
    → (t ≡ true → a ≡ false → sum_by (λ p. p.length) rest + h.length ≤ r.bound) → outcome r now rest h ≡ cond t (cond a Outcome.Repeat Outcome.Stored) Outcome.Late
unfolding outcome
fate_with_room r now rest h true true o e f room = rw (e, f, o) refl
fate_with_room r now rest h true false o e f room = rw (e, f, le-ltb r.bound (sum_by (λ p. p.length) rest + h.length) (room refl refl), o) refl
fate_with_room r now rest h false a o e f room = rw (e, o) refl

after_whole : (rest : List Heard) (h : Heard) (t a : Bool) → kept_after (cond t (cond a Outcome.Repeat Outcome.Stored) Outcome.Late) rest h ≡ cond (t && not a) (insert_by is_kept_before h rest) rest
unfolding kept_after
after_whole rest h true true = refl
after_whole rest h true false = refl
after_whole rest h false a = refl

window_same : (cast : SentPackets) (r : Params) (now k : ℕ) → r.window ≤ 2 ^ 24 → sent_at cast.sent k ≤ now → now ≤ sent_at cast.sent k + r.window + 2 ^ 31
    → is_in_window r (low now) (heard_of cast k) ≡ nat_lt now (sent_at cast.sent k + r.window)
unfolding is_in_window heard_of sent_at
window_same cast r now k w l m =
    rw (plus-low (get_or cast.sent k no_packet).at.0 r.window) (is_after-low ((get_or cast.sent k no_packet).at.0 + r.window) now (omega arith) (omega arith))

in_time_same : (cast : SentPackets) (r : Params) (now k : ℕ) → r.delay ≤ 2 ^ 24 → sent_at cast.sent k ≤ now → now < sent_at cast.sent k + reach
    → is_in_time r (low now) (heard_of cast k) ≡ nat_le now (sent_at cast.sent k + r.delay)
unfolding is_in_time heard_of sent_at
in_time_same cast r now k w l m =
    rw (plus-low (get_or cast.sent k no_packet).at.0 r.delay, is_after-low now ((get_or cast.sent k no_packet).at.0 + r.delay) (omega arith) (omega arith)) (grind (arith, nat_tests))

-- what becomes of the next_number packet, and the kept packets after it
pub record Goes (cast : SentPackets) (r : Params) (start k : ℕ) (older : List ℕ) : Type 0 where
  pub rest : still_kept r (clock (low start) (map (heard_of cast) (k ∷ older))) (kept r (low start) (map (heard_of cast) older))
      ≡ map (heard_of cast) (within cast r (latest cast.sent start (k ∷ older)) (held cast r start older))
  pub fated : outcome r (low (latest cast.sent start (k ∷ older))) (map (heard_of cast) (within cast r (latest cast.sent start (k ∷ older)) (held cast r start older))) (heard_of cast k)
      ≡ cond (nat_le (latest cast.sent start (k ∷ older)) (sent_at cast.sent k + r.delay))
      (cond (list_any (λ j. j == k) (within cast r (latest cast.sent start (k ∷ older)) (held cast r start older))) Outcome.Repeat Outcome.Stored)
      Outcome.Late
  pub next_number : kept r (low start) (map (heard_of cast) (k ∷ older)) ≡ map (heard_of cast) (held cast r start (k ∷ older))

pub times_of_filter : (n : ℕ) (p : ℕ → Bool) (ks : List ℕ) → 0 < occurrences n (filter p ks) → 0 < occurrences n ks
times_of_filter n p ks h = let e = occurrences-filter n p ks in go (p n) (rw e at h)
  where
    go : (b : Bool) → 0 < cond b (occurrences n ks) 0 → 0 < occurrences n ks
    go true l = l
    go false l = absurd (omega arith)

pub map-cond : {X Y : Type 0} (f : X → Y) (b : Bool) (xs ys : List X) → map f (cond b xs ys) ≡ cond b (map f xs) (map f ys)
map-cond f true xs ys = refl
map-cond f false xs ys = refl

-- there is room for the next_number packet
room_for : (cast : SentPackets) (r : Params) (start k : ℕ) (older : List ℕ) → IsSound cast r → AreOf cast.sent (k ∷ older) → Begins cast.sent start (k ∷ older)
    → nat_le (latest cast.sent start (k ∷ older)) (sent_at cast.sent k + r.delay) ≡ true
    → list_any (λ j. j == k) (within cast r (latest cast.sent start (k ∷ older)) (held cast r start older)) ≡ false
    → sum_by (length_of cast.sent) (within cast r (latest cast.sent start (k ∷ older)) (held cast r start older)) + length_of cast.sent k ≤ r.bound
room_for cast r start k older sound o b t a =
    let fits = held_fits cast r start (k ∷ older) sound o b in
    let e : held cast r start (k ∷ older) ≡ insert_by (place_before cast) k (within cast r (latest cast.sent start (k ∷ older)) (held cast r start older)) = unfold held in (rw (t, a) refl) in
    omega (arith, ap (sum_by (length_of cast.sent)) e, sum-insert (place_before cast) (length_of cast.sent) k (within cast r (latest cast.sent start (k ∷ older)) (held cast r start older)), fits)

rest_same : (cast : SentPackets) (r : Params) (start k : ℕ) (older : List ℕ) → IsSound cast r → AreOf cast.sent (k ∷ older) → Begins cast.sent start (k ∷ older) → IsNear cast.sent start (k ∷ older)
    → still_kept r (low (latest cast.sent start (k ∷ older))) (map (heard_of cast) (held cast r start older)) ≡ map (heard_of cast) (within cast r (latest cast.sent start (k ∷ older)) (held cast r start older))
unfolding still_kept within latest
rest_same cast r start k older sound o b near =
    let L : ℕ = latest cast.sent start older in
    let now : ℕ = max L (sent_at cast.sent k) in
    filter-map (heard_of cast) (is_in_window r (low now)) (λ j. nat_lt now (sent_at cast.sent j + r.window)) (held cast r start older)
    (λ j p. (let f = held_facts cast r start older j sound.short_delay o.1 (begins-older cast start k older b) p in
    window_same cast r now j sound.short_window (omega (arith, f.heard)) (omega (arith, f.in_window, near.1))))

insert_places : (cast : SentPackets) (ks : List ℕ) (k : ℕ) → insert_by is_kept_before (heard_of cast k) (map (heard_of cast) ks) ≡ map (heard_of cast) (insert_by (place_before cast) k ks)
unfolding place_before
insert_places cast ks k = insert-map is_kept_before (heard_of cast) k ks

pub goes : (cast : SentPackets) (r : Params) (start k : ℕ) (older : List ℕ) → IsSound cast r → AreOf cast.sent (k ∷ older) → Begins cast.sent start (k ∷ older) → IsNear cast.sent start (k ∷ older)
    → kept r (low start) (map (heard_of cast) older) ≡ map (heard_of cast) (held cast r start older) → Goes cast r start k older
unfolding kept held
goes cast r start k older sound o b near ih =
    let L : ℕ = latest cast.sent start older in
    let now : ℕ = latest cast.sent start (k ∷ older) in
    let now_is : now ≡ max L (sent_at cast.sent k) = unfold latest in refl in
    let bo = begins-older cast start k older b in
    let rest' : List ℕ = within cast r now (held cast r start older) in
    let h : Heard = heard_of cast k in
    let t : Bool = nat_le now (sent_at cast.sent k + r.delay) in
    let a : Bool = list_any (λ j. j == k) rest' in
    let c = clock-low cast start (k ∷ older) near in
    let rests : still_kept r (clock (low start) (map (heard_of cast) (k ∷ older))) (kept r (low start) (map (heard_of cast) older)) ≡ map (heard_of cast) rest' =
    ap₂ (still_kept r) c ih ∙ rest_same cast r start k older sound o b near in
    let timely : is_in_time r (low now) h ≡ t = in_time_same cast r now k (omega (arith, sound.short_delay, sound.short_window)) (omega arith) (omega (arith, near.2)) in
    let repeats : list_any (is_repeat h) (map (heard_of cast) rest') ≡ a =
    any-map (heard_of cast) (is_repeat h) (λ j. j == k) rest'
    (λ j p. (let q : 0 < occurrences j (held cast r start older) = unfold within in (times_of_filter j (λ i. nat_lt now (sent_at cast.sent i + r.window)) (held cast r start older) p) in
    repeat_same cast r j k sound (held_facts cast r start older j sound.short_delay o.1 bo q).of o.0)) in
    let fated : outcome r (low now) (map (heard_of cast) rest') h ≡ cond t (cond a Outcome.Repeat Outcome.Stored) Outcome.Late =
    fate_with_room r (low now) (map (heard_of cast) rest') h t a (unfold heard_of in refl) timely repeats
    (λ e f. (let room = room_for cast r start k older sound o b e f in
    let size : h.length ≡ length_of cast.sent k = unfold heard_of length_of in refl in
    omega (arith, room, sum-map_heard cast rest', size))) in
    record {
      rest = rests;
      fated = fated;
      next_number =
          (ap₂ (λ n l. kept_after (outcome r n l h) l h) c rests
          ∙ (ap (λ f. kept_after f (map (heard_of cast) rest') h) fated
          ∙ (after_whole (map (heard_of cast) rest') h t a
          ∙ (ap (λ l. cond (t && not a) l (map (heard_of cast) rest')) (insert_places cast rest' k)
          ∙ sym (map-cond (heard_of cast) (t && not a) (insert_by (place_before cast) k rest') rest')))));
    }

-- the kept packets are the held ones
pub kept-held : (cast : SentPackets) (r : Params) (start : ℕ) (hist : List ℕ) → IsSound cast r → AreOf cast.sent hist → Begins cast.sent start hist → IsNear cast.sent start hist
    → kept r (low start) (map (heard_of cast) hist) ≡ map (heard_of cast) (held cast r start hist)
unfolding kept held
kept-held cast r start [] sound o b near = refl
kept-held cast r start (k ∷ older) sound o b near =
    (goes cast r start k older sound o b near (kept-held cast r start older sound o.1 (begins-older cast start k older b) near.0)).next_number
