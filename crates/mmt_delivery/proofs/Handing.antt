-- What the receiver hands out on its 32 bit clock is what is handed out over whole ticks.
use Rattle.std.proofs.Common.{◌≡◌, ℕ, ◌+◌, ◌^◌, ◌<◌, ◌≤◌, Bool, true, false, ◌&&◌, ◌||◌, ◌==◌, nat_lt, nat_le, cond, max, List, [], ◌∷◌, ◌++◌, map, length, arith, refl, ap, ap₂, sym, ◌∙◌, ⊎_elim, filter, subst}
use Rattle.std.specs.List.{list_any, list_all}
use Rattle.std.proofs.lemmas.Bool.Decides.{nat_tests}
use Rattle.std.proofs.lemmas.Bool.{cases_eq, eq-eqb, eqb-true, ne_eqb, and_parts, or_left, ltb-true}
use Rattle.mmt_base.proofs.TickLemmas.{is_after-low, is_passed-low}
use Rattle.mmt_base.specs.Ticks.{due_of, is_after, is_passed, low}
use Rattle.mmt_delivery.proofs.Held.{begins-older, held}
use Rattle.mmt_delivery.proofs.Kept.{as_number-true, clock-low, filter-map, held_facts, kept-held, times_of_filter}
use Rattle.mmt_delivery.proofs.Known.{known, occurrences-known}
use Rattle.mmt_delivery.proofs.Learning.{IsTelling, entries-known, named_facts}
use Rattle.mmt_delivery.proofs.Outs.{IsSet, hand, held-once, last, named, outs, outs-expected}
use Rattle.mmt_delivery.proofs.Premises.{Begins, IsNaming, IsNear, IsRightUnit, IsSound}
use Rattle.mmt_delivery.proofs.Sorting.{sort-map}
use Rattle.mmt_delivery.proofs.Tests.{each-at, member-occurrences}
use Rattle.mmt_model.specs.Broadcast.{Broadcast, due_at, due_of_unit, entry_of, presentation_of, unit_of}
use Rattle.mmt_model.specs.Counts.{as_number, member, occurrences}
use Rattle.mmt_model.specs.Delivery.{reach}
use Rattle.mmt_model.specs.Entries.{Entry, entries}
use Rattle.mmt_model.specs.Expected.{expected, is_expected, is_named, places}
use Rattle.mmt_model.specs.Handing.{Reading, final, handed, is_presented_before, named_units, out, presentations_by, time_of}
use Rattle.mmt_model.specs.Keeping.{kept}
use Rattle.mmt_model.specs.Sorted.{sort_by}
use Rattle.mmt_model.specs.Survival.{AreOf, SentPackets, heard_of, latest, sent_at}
use Rattle.mmt_model.specs.Units.{MediaUnit}
use Rattle.mmt_model.specs.declared.programmes.Params.{Params}

-- the entry of a unit's MPU, and its time
presentations_by-map : (broadcast : Broadcast) (r : Params) (xs : List ℕ) (u : ℕ) → IsNaming broadcast.cast r → IsRightUnit broadcast r u → ((k : ℕ) → 0 < occurrences k xs → k < length broadcast.cast.mpus)
    → presentations_by broadcast.sample_base (map (entry_of broadcast.cast) xs) (unit_of broadcast u).value ≡ cond (member (unit_of broadcast u).mpu xs) (presentation_of broadcast u ∷ []) []
unfolding presentations_by member presentation_of
presentations_by-map broadcast r [] u naming right below = refl
presentations_by-map broadcast r (k ∷ xs) u naming right below =
    let m : ℕ = (unit_of broadcast u).mpu in
    let v : MediaUnit = (unit_of broadcast u).value in
    let e : Entry = entry_of broadcast.cast k in
    let test : ((e.packet_id == v.packet_id) && (e.mpu == v.mpu)) ≡ (k == m) =
    ⊎_elim
    (λ (s : k ≡ m). ap₂ (λ x y. x && y)
    (eq-eqb e.packet_id v.packet_id (ap (λ i. (entry_of broadcast.cast i).packet_id) s ∙ sym right.same_id))
    (eq-eqb e.mpu v.mpu (ap (λ i. (entry_of broadcast.cast i).mpu) s ∙ sym right.same_mpu)) ∙ sym (eq-eqb k m s))
    (λ (ne : k ≡ m → ⊥). different e.packet_id v.packet_id e.mpu v.mpu
    (λ a b. ne (naming.one_mpu k m (below k (omega (arith, ap as_number (eq-eqb k k refl)))) right.known (a ∙ right.same_id) (b ∙ right.same_mpu))) ∙ sym (ne_eqb k m ne))
    (cases_eq k m) in
    ap (λ b. cond b (record { unit = v; time = time_of broadcast.sample_base e v } ∷ []) (presentations_by broadcast.sample_base (map (entry_of broadcast.cast) xs) v)) test
    ∙ go k (k == m) refl (presentations_by-map broadcast r xs u naming right (λ j l. below j (omega arith)))
  where
    different : (a b c d : ℕ) → (a ≡ b → c ≡ d → ⊥) → ((a == b) && (c == d)) ≡ false
    different a b c d h = grind (arith, nat_tests)

    go : (k : ℕ) (b : Bool) → (k == (unit_of broadcast u).mpu) ≡ b
        → presentations_by broadcast.sample_base (map (entry_of broadcast.cast) xs) (unit_of broadcast u).value ≡ cond (list_any (λ j. j == (unit_of broadcast u).mpu) xs) (presentation_of broadcast u ∷ []) []
        → cond b (record { unit = (unit_of broadcast u).value; time = time_of broadcast.sample_base (entry_of broadcast.cast k) (unit_of broadcast u).value } ∷ []) (presentations_by broadcast.sample_base (map (entry_of broadcast.cast) xs) (unit_of broadcast u).value)
        ≡ cond (b || list_any (λ j. j == (unit_of broadcast u).mpu) xs) (presentation_of broadcast u ∷ []) []
    go k true e ih = ap (λ i. record { unit = (unit_of broadcast u).value; time = time_of broadcast.sample_base (entry_of broadcast.cast i) (unit_of broadcast u).value } ∷ []) (eqb-true k (unit_of broadcast u).mpu e)
    go k false e ih = ih

named-map : (broadcast : Broadcast) (r : Params) (xs us : List ℕ) → IsNaming broadcast.cast r → ((u : ℕ) → 0 < occurrences u us → IsRightUnit broadcast r u) → ((k : ℕ) → 0 < occurrences k xs → k < length broadcast.cast.mpus)
    → named_units broadcast.sample_base (map (entry_of broadcast.cast) xs) (map (λ u. (unit_of broadcast u).value) us) ≡ map (presentation_of broadcast) (filter (λ u. member (unit_of broadcast u).mpu xs) us)
unfolding named_units
named-map broadcast r xs [] naming right below = refl
named-map broadcast r xs (u ∷ us) naming right below =
    ap₂ (λ a b. a ++ b)
    (presentations_by-map broadcast r xs u naming (right u (omega (arith, ap as_number (eq-eqb u u refl)))) below)
    (named-map broadcast r xs us naming (λ v l. right v (omega arith)) below)
    ∙ go (member (unit_of broadcast u).mpu xs)
  where
    go : (b : Bool) → cond b (presentation_of broadcast u ∷ []) [] ++ map (presentation_of broadcast) (filter (λ u. member (unit_of broadcast u).mpu xs) us) ≡ map (presentation_of broadcast) (cond b (u ∷ filter (λ u. member (unit_of broadcast u).mpu xs) us) (filter (λ u. member (unit_of broadcast u).mpu xs) us))
    go true = refl
    go false = refl

-- the receiver's reading fits the broadcast
pub record IsReading (g : Reading) (broadcast : Broadcast) (r : Params) (found : List ℕ → List ℕ) : Type 0 where
  pub telling : IsTelling g.names_by broadcast.cast
  pub set : IsSet g.units broadcast r found
  pub sample_base : g.sample_base ≡ broadcast.sample_base
  pub sound : IsSound broadcast.cast.packets r

-- a history of a near delivery
pub record IsHistory (broadcast : Broadcast) (start : ℕ) (hist : List ℕ) : Type 0 where
  pub of : AreOf broadcast.cast.packets.sent hist
  pub begins : Begins broadcast.cast.packets.sent start hist
  pub near : IsNear broadcast.cast.packets.sent start hist

older_history : (broadcast : Broadcast) (start n : ℕ) (older : List ℕ) → IsHistory broadcast start (n ∷ older) → IsHistory broadcast start older
older_history broadcast start n older h = record { of = h.of.1; begins = begins-older broadcast.cast.packets start n older h.begins; near = h.near.0 }

-- what is known of a unit in the kept packets
record IsFound (broadcast : Broadcast) (r : Params) (start : ℕ) (hist : List ℕ) (u : ℕ) : Type 0 where
  below : u < length broadcast.units
  soon : due_of_unit broadcast u ≤ latest broadcast.cast.packets.sent start hist + 2 ^ 24
  recent : latest broadcast.cast.packets.sent start hist < due_of_unit broadcast u + 2 ^ 24

found_at : (broadcast : Broadcast) (r : Params) (start : ℕ) (hist : List ℕ) (u : ℕ) → r.delay < r.window → r.window ≤ 2 ^ 24 → IsHistory broadcast start hist → u < length broadcast.units → IsRightUnit broadcast r u
    → (ms : List ℕ) → 0 < length ms → (ms ≡ (unit_of broadcast u).members) → list_all (λ k. member k (held broadcast.cast.packets r start hist)) ms ≡ true → IsFound broadcast r start hist u
found_at broadcast r start hist u dw w h lu right [] some same all = absurd (omega arith)
found_at broadcast r start hist u dw w h lu right (k ∷ ms) some same all =
    let p : SentPackets = broadcast.cast.packets in
    let H : List ℕ = held p r start hist in
    let mem : member k (unit_of broadcast u).members ≡ true = subst (λ l. member k l ≡ true) same (unfold member in or_left (k == k) (list_any (λ j. j == k) ms) (eq-eqb k k refl)) in
    let f = held_facts p r start hist k dw h.of h.begins (ltb-true 0 (occurrences k H) (sym (member-occurrences k H) ∙ (and_parts (member k H) (list_all (λ k. member k H) ms) all).0)) in
    let late : sent_at p.sent k + r.delay < due_of_unit broadcast u = each-at (λ n. sent_at p.sent n + r.delay < due_of_unit broadcast u) (unit_of broadcast u).members k right.not_late mem in
    let gone : due_of_unit broadcast u ≤ sent_at p.sent k + r.window = each-at (λ n. due_of_unit broadcast u ≤ sent_at p.sent n + r.window) (unit_of broadcast u).members k right.not_gone mem in
    record { below = lu; soon = omega (arith, f.heard); recent = omega (arith, f.in_window) }

found_facts : (g : Reading) (broadcast : Broadcast) (r : Params) (found : List ℕ → List ℕ) (start : ℕ) (hist : List ℕ) (u : ℕ) → IsReading g broadcast r found → IsHistory broadcast start hist
    → 0 < occurrences u (found (held broadcast.cast.packets r start hist)) → IsFound broadcast r start hist u
found_facts g broadcast r found start hist u reading h l =
    let H : List ℕ = held broadcast.cast.packets r start hist in
    let set = reading.set in
    let b : (nat_lt u (length broadcast.units) && list_all (λ k. member k H) (unit_of broadcast u).members) ≡ true =
    as_number-true (nat_lt u (length broadcast.units) && list_all (λ k. member k H) (unit_of broadcast u).members)
    (omega (arith, l, set.finding.once H (held-once broadcast.cast.packets r start hist set.short h.begins) (λ k t. (held_facts broadcast.cast.packets r start hist k set.short h.of h.begins t).of) u)) in
    let both = and_parts (nat_lt u (length broadcast.units)) (list_all (λ k. member k H) (unit_of broadcast u).members) b in
    let lu = ltb-true u (length broadcast.units) both.0 in
    let right = set.playing.right u lu in
    found_at broadcast r start hist u set.short reading.sound.short_window h lu right (unit_of broadcast u).members right.some refl both.1

named_of_found : (broadcast : Broadcast) (r : Params) (start : ℕ) (hist us : List ℕ) (u : ℕ) → 0 < occurrences u (named broadcast r start hist us) → 0 < occurrences u us
unfolding named
named_of_found broadcast r start hist us u l = times_of_filter u (λ u. member (unit_of broadcast u).mpu (known broadcast.cast r start hist)) us l

known_below : (broadcast : Broadcast) (r : Params) (start : ℕ) (hist : List ℕ) (m : ℕ) → r.delay < r.window → IsNaming broadcast.cast r → IsHistory broadcast start hist → 0 < occurrences m (known broadcast.cast r start hist) → m < length broadcast.cast.mpus
known_below broadcast r start hist m dw naming h l =
    (named_facts broadcast.cast r start hist m naming
    (and_parts (is_named broadcast.cast r.delay hist m) (nat_lt (latest broadcast.cast.packets.sent start hist) (due_at broadcast.cast m))
    (as_number-true (is_named broadcast.cast r.delay hist m && nat_lt (latest broadcast.cast.packets.sent start hist) (due_at broadcast.cast m)) (omega (arith, l, occurrences-known broadcast.cast r start hist m dw naming h.of h.begins)))).0).known

-- the named units of the kept packets
timed : (g : Reading) (broadcast : Broadcast) (r : Params) (found : List ℕ → List ℕ) (start : ℕ) (hist : List ℕ) → IsReading g broadcast r found → IsHistory broadcast start hist
    → named_units g.sample_base (entries g.names_by r (low start) (map (heard_of broadcast.cast.packets) hist)) (g.units (kept r (low start) (map (heard_of broadcast.cast.packets) hist)))
    ≡ map (presentation_of broadcast) (named broadcast r start hist (found (held broadcast.cast.packets r start hist)))
unfolding named
timed g broadcast r found start hist reading h =
    let p : SentPackets = broadcast.cast.packets in
    let H : List ℕ = held p r start hist in
    let set = reading.set in
    let es = entries-known g.names_by broadcast.cast r start hist reading.sound set.naming reading.telling h.of h.begins h.near in
    let ks = kept-held p r start hist reading.sound h.of h.begins h.near in
    let us = set.finding.values H (held-once p r start hist set.short h.begins) (λ k t. (held_facts p r start hist k set.short h.of h.begins t).of) in
    (λ i. named_units (reading.sample_base i) (es i) ((ap g.units ks ∙ us) i))
    ∙ named-map broadcast r (known broadcast.cast r start hist) (found H) set.naming
    (λ u l. set.playing.right u (found_facts g broadcast r found start hist u reading h l).below)
    (λ k l. known_below broadcast r start hist k set.short set.naming h l)

due_passed : (broadcast : Broadcast) (u L now : ℕ) → due_of_unit broadcast u ≤ L + 2 ^ 24 → L < due_of_unit broadcast u + 2 ^ 24 → L ≤ now → now < L + reach
    → is_passed (low (due_of (presentation_of broadcast u).time)) (low L) (low now) ≡ (nat_lt L (due_of_unit broadcast u) && nat_le (due_of_unit broadcast u) now)
unfolding due_of_unit
due_passed broadcast u L now a b c d = is_passed-low (due_of (presentation_of broadcast u).time) L now (omega arith) (omega arith) (omega arith) (omega arith)

due_after : (broadcast : Broadcast) (u now : ℕ) → due_of_unit broadcast u ≤ now + 2 ^ 24 → now < due_of_unit broadcast u + 2 ^ 24
    → is_after (low (due_of (presentation_of broadcast u).time)) (low now) ≡ nat_lt now (due_of_unit broadcast u)
unfolding due_of_unit
due_after broadcast u now a b = is_after-low (due_of (presentation_of broadcast u).time) now (omega arith) (omega arith)

handed-hand : (g : Reading) (broadcast : Broadcast) (r : Params) (found : List ℕ → List ℕ) (start n : ℕ) (older : List ℕ) → IsReading g broadcast r found → IsHistory broadcast start (n ∷ older)
    → handed g r (low start) (heard_of broadcast.cast.packets n) (map (heard_of broadcast.cast.packets) older) ≡ map (presentation_of broadcast) (hand found broadcast r start n older)
unfolding handed hand latest
handed-hand g broadcast r found start n older reading h =
    let p : SentPackets = broadcast.cast.packets in
    let L : ℕ = latest p.sent start older in
    let now : ℕ = max L (sent_at p.sent n) in
    let ho = older_history broadcast start n older h in
    let us : List ℕ = named broadcast r start older (found (held p r start older)) in
    let c0 = clock-low p start older h.near.0 in
    let c1 = clock-low p start (n ∷ older) h.near in
    let test : ℕ → Bool = λ u. nat_lt L (due_of_unit broadcast u) && nat_le (due_of_unit broadcast u) now in
    let filtered : filter (λ d. is_passed (low (due_of d.time)) (low L) (low now)) (map (presentation_of broadcast) us) ≡ map (presentation_of broadcast) (filter test us) =
    filter-map (presentation_of broadcast) (λ d. is_passed (low (due_of d.time)) (low L) (low now)) test us
    (λ u l.
    let f = found_facts g broadcast r found start older u reading ho (named_of_found broadcast r start older (found (held p r start older)) u l) in
    due_passed broadcast u L now f.soon f.recent (omega arith) (omega (arith, h.near.1))) in
    (λ i. sort_by is_presented_before (filter (λ d. is_passed (low (due_of d.time)) (c0 i) (c1 i)) (timed g broadcast r found start older reading ho i)))
    ∙ (ap (sort_by is_presented_before) filtered
    ∙ sort-map is_presented_before (presentation_of broadcast) (filter test us))

final-last : (g : Reading) (broadcast : Broadcast) (r : Params) (found : List ℕ → List ℕ) (start : ℕ) (hist : List ℕ) → IsReading g broadcast r found → IsHistory broadcast start hist
    → final g r (low start) (map (heard_of broadcast.cast.packets) hist) ≡ map (presentation_of broadcast) (last found broadcast r start hist)
unfolding final last
final-last g broadcast r found start hist reading h =
    let p : SentPackets = broadcast.cast.packets in
    let now : ℕ = latest p.sent start hist in
    let us : List ℕ = named broadcast r start hist (found (held p r start hist)) in
    let c = clock-low p start hist h.near in
    let test : ℕ → Bool = λ u. nat_lt now (due_of_unit broadcast u) in
    let filtered : filter (λ d. is_after (low (due_of d.time)) (low now)) (map (presentation_of broadcast) us) ≡ map (presentation_of broadcast) (filter test us) =
    filter-map (presentation_of broadcast) (λ d. is_after (low (due_of d.time)) (low now)) test us
    (λ u l.
    let f = found_facts g broadcast r found start hist u reading h (named_of_found broadcast r start hist (found (held p r start hist)) u l) in
    due_after broadcast u now f.soon f.recent) in
    (λ i. sort_by is_presented_before (filter (λ d. is_after (low (due_of d.time)) (c i)) (timed g broadcast r found start hist reading h i)))
    ∙ (ap (sort_by is_presented_before) filtered
    ∙ sort-map is_presented_before (presentation_of broadcast) (filter test us))

map-append : {X : Type 0} (f : ℕ → X) (xs ys : List ℕ) → map f (xs ++ ys) ≡ map f xs ++ map f ys
map-append f [] ys = refl
map-append f (x ∷ xs) ys = ap (λ l. f x ∷ l) (map-append f xs ys)

out-outs : (g : Reading) (broadcast : Broadcast) (r : Params) (found : List ℕ → List ℕ) (start : ℕ) (hist : List ℕ) → IsReading g broadcast r found → IsHistory broadcast start hist
    → out g r (low start) (map (heard_of broadcast.cast.packets) hist) ≡ map (presentation_of broadcast) (outs found broadcast r start hist)
unfolding out outs
out-outs g broadcast r found start [] reading h = refl
out-outs g broadcast r found start (n ∷ older) reading h =
    ap₂ (λ a b. a ++ b) (out-outs g broadcast r found start older reading (older_history broadcast start n older h)) (handed-hand g broadcast r found start n older reading h)
    ∙ sym (map-append (presentation_of broadcast) (outs found broadcast r start older) (hand found broadcast r start n older))

-- what is handed out are the expected units, each once, in their order
pub delivered : (g : Reading) (broadcast : Broadcast) (r : Params) (found : List ℕ → List ℕ) (start : ℕ) (hist : List ℕ) → IsReading g broadcast r found → IsHistory broadcast start hist
    → out g r (low start) (map (heard_of broadcast.cast.packets) hist) ++ final g r (low start) (map (heard_of broadcast.cast.packets) hist) ≡ expected broadcast r.delay hist
unfolding expected
delivered g broadcast r found start hist reading h =
    ap₂ (λ a b. a ++ b) (out-outs g broadcast r found start hist reading h) (final-last g broadcast r found start hist reading h)
    ∙ (sym (map-append (presentation_of broadcast) (outs found broadcast r start hist) (last found broadcast r start hist))
    ∙ (ap (map (presentation_of broadcast)) (outs-expected g.units broadcast r found start hist reading.set h.of h.begins)
    ∙ sym (sort-map is_presented_before (presentation_of broadcast) (filter (is_expected broadcast r.delay hist) (places (length broadcast.units))))))
