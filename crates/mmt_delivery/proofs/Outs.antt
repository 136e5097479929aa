-- The units that are handed out over whole ticks, as places of the cast's units.
use Rattle.std.proofs.Common.{◌≡◌, ℕ, ◌+◌, ◌<◌, ◌≤◌, Bool, true, false, ◌&&◌, ◌==◌, ◌⊎◌, nat_lt, nat_le, cond, max, List, [], ◌∷◌, ◌++◌, map, length, arith, refl, ap, ap₂, sym, ◌∙◌, ⊎_elim, filter, length-append}
use Rattle.std.specs.List.{list_all}
use Rattle.std.proofs.lemmas.Bool.{and_parts, or_left, cases_Bool, ltb-true, leb-true, lt-ltb, le-ltb, le-leb, lt-leb, cases_lt}
use Rattle.mmt_delivery.proofs.Expecting.{complete-none, due-mono, due_of_unit-le, expected-early, expected-over, is_ready}
use Rattle.mmt_delivery.proofs.Held.{begins-older, held, occurrences-held}
use Rattle.mmt_delivery.proofs.Kept.{as_number-true, held_facts, times_of_filter}
use Rattle.mmt_delivery.proofs.Known.{known, occurrences-known}
use Rattle.mmt_delivery.proofs.Premises.{Begins, IsNaming, IsPlaying, IsRightUnit}
use Rattle.mmt_delivery.proofs.Sorting.{IsOrder, Rising, occurrences-append, occurrences-places, occurrences-sort, rising-append, rising-same, rising-sort}
use Rattle.mmt_delivery.proofs.Tests.{all-at, all-from, each-at, member-occurrences, same_tests}
use Rattle.mmt_model.proofs.Counting.{occurrences-filter}
use Rattle.mmt_model.proofs.Preceding.{before-either, before-one_way, before-through}
use Rattle.mmt_model.specs.Broadcast.{Broadcast, due_at, due_of_unit, presentation_of, unit_of}
use Rattle.mmt_model.specs.Counts.{as_number, member, occurrences}
use Rattle.mmt_model.specs.Expected.{is_complete, is_expected, is_named, places}
use Rattle.mmt_model.specs.Handing.{Presentation, is_presented_before, key_numbers, order_numbers, precedes}
use Rattle.mmt_model.specs.Packets.{Heard}
use Rattle.mmt_model.specs.Sorted.{sort_by}
use Rattle.mmt_model.specs.Survival.{AreOf, SentPackets, heard_of, latest, sent_at, survives}
use Rattle.mmt_model.specs.Units.{MediaUnit}
use Rattle.mmt_model.specs.declared.keys.UnitKey.{UnitKey}
use Rattle.mmt_model.specs.declared.programmes.Params.{Params}
use Rattle.mmt_model.specs.declared.keys.UnitKey.TheVariants as keys

-- a way to find the units in kept packets, as places: each unit all of whose packets are there, once
pub record IsFinding (units : List Heard → List MediaUnit) (broadcast : Broadcast) (found : List ℕ → List ℕ) : Type 0 where
  pub values : (ks : List ℕ) → ((k : ℕ) → occurrences k ks ≤ 1) → ((k : ℕ) → 0 < occurrences k ks → k < length broadcast.cast.packets.sent)
      → units (map (heard_of broadcast.cast.packets) ks) ≡ map (λ u. (unit_of broadcast u).value) (found ks)
  pub once : (ks : List ℕ) → ((k : ℕ) → occurrences k ks ≤ 1) → ((k : ℕ) → 0 < occurrences k ks → k < length broadcast.cast.packets.sent)
      → (u : ℕ) → occurrences u (found ks) ≡ as_number (nat_lt u (length broadcast.units) && list_all (λ k. member k ks) (unit_of broadcast u).members)

unfoldable pub named : Broadcast → Params → ℕ → List ℕ → List ℕ → List ℕ
named broadcast r start hist us = filter (λ u. member (unit_of broadcast u).mpu (known broadcast.cast r start hist)) us

abbrev pub in_order : Broadcast → ℕ → ℕ → Bool
in_order broadcast u v = is_presented_before (presentation_of broadcast u) (presentation_of broadcast v)

unfoldable pub hand : (List ℕ → List ℕ) → Broadcast → Params → ℕ → ℕ → List ℕ → List ℕ
hand found broadcast r start n older =
    sort_by (in_order broadcast)
    (filter (λ u. nat_lt (latest broadcast.cast.packets.sent start older) (due_of_unit broadcast u) && nat_le (due_of_unit broadcast u) (latest broadcast.cast.packets.sent start (n ∷ older)))
    (named broadcast r start older (found (held broadcast.cast.packets r start older))))

unfoldable pub last : (List ℕ → List ℕ) → Broadcast → Params → ℕ → List ℕ → List ℕ
last found broadcast r start hist =
    sort_by (in_order broadcast)
    (filter (λ u. nat_lt (latest broadcast.cast.packets.sent start hist) (due_of_unit broadcast u))
    (named broadcast r start hist (found (held broadcast.cast.packets r start hist))))

unfoldable pub outs : (List ℕ → List ℕ) → Broadcast → Params → ℕ → List ℕ → List ℕ
outs found broadcast r start [] = []
outs found broadcast r start (n ∷ older) = outs found broadcast r start older ++ hand found broadcast r start n older

-- what the proofs below rest on
pub record IsSet (units : List Heard → List MediaUnit) (broadcast : Broadcast) (r : Params) (found : List ℕ → List ℕ) : Type 0 where
  pub finding : IsFinding units broadcast found
  pub playing : IsPlaying broadcast r
  pub naming : IsNaming broadcast.cast r
  pub short : r.delay < r.window

bit_le_one : (b : Bool) → as_number b ≤ 1
bit_le_one true = omega arith
bit_le_one false = omega arith

cond-as_number : (c b : Bool) → cond c (as_number b) 0 ≡ as_number (b && c)
cond-as_number true true = refl
cond-as_number true false = refl
cond-as_number false true = refl
cond-as_number false false = refl

pub held-once : (cast : SentPackets) (r : Params) (start : ℕ) (hist : List ℕ) → r.delay < r.window → Begins cast.sent start hist → (k : ℕ) → occurrences k (held cast r start hist) ≤ 1
held-once cast r start hist dw b k = omega (arith, occurrences-held cast r start hist k dw b, bit_le_one (survives cast.sent r.delay hist k && nat_lt (latest cast.sent start hist) (sent_at cast.sent k + r.window)))

-- a unit that is not yet due at the clock is found and named where it is ready
ready-early : (units : List Heard → List MediaUnit) (broadcast : Broadcast) (r : Params) (found : List ℕ → List ℕ) (start : ℕ) (hist : List ℕ) (u : ℕ) → IsSet units broadcast r found → AreOf broadcast.cast.packets.sent hist → Begins broadcast.cast.packets.sent start hist
    → u < length broadcast.units → latest broadcast.cast.packets.sent start hist < due_of_unit broadcast u
    → ((nat_lt u (length broadcast.units) && list_all (λ k. member k (held broadcast.cast.packets r start hist)) (unit_of broadcast u).members) && member (unit_of broadcast u).mpu (known broadcast.cast r start hist)) ≡ is_ready broadcast r.delay hist u
unfolding is_ready is_complete
ready-early units broadcast r found start hist u set o b lu early =
    let p : SentPackets = broadcast.cast.packets in
    let ms : List ℕ = (unit_of broadcast u).members in
    let m : ℕ = (unit_of broadcast u).mpu in
    let H : List ℕ = held p r start hist in
    let right = set.playing.right u lu in
    let S : ℕ → Bool = survives p.sent r.delay hist in
    let whole : list_all (λ k. member k H) ms ≡ list_all S ms =
    same_tests (list_all (λ k. member k H) ms) (list_all S ms)
    (λ h. all-from S ms (λ k mem. (held_facts p r start hist k set.short o b (ltb-true 0 (occurrences k H) (sym (member-occurrences k H) ∙ all-at (λ k. member k H) ms k h mem))).survived))
    (λ h. all-from (λ k. member k H) ms
    (λ k mem.
    let g : due_of_unit broadcast u ≤ sent_at p.sent k + r.window = each-at (λ n. due_of_unit broadcast u ≤ sent_at p.sent n + r.window) ms k right.not_gone mem in
    let w : nat_lt (latest p.sent start hist) (sent_at p.sent k + r.window) ≡ true = lt-ltb (latest p.sent start hist) (sent_at p.sent k + r.window) (omega arith) in
    let one : occurrences k H ≡ 1 = occurrences-held p r start hist k set.short b ∙ ap₂ (λ x y. as_number (x && y)) (all-at S ms k h mem) w in
    member-occurrences k H ∙ ap (nat_lt 0) one)) in
    let live : nat_lt (latest p.sent start hist) (due_at broadcast.cast m) ≡ true = lt-ltb (latest p.sent start hist) (due_at broadcast.cast m) (omega (arith, due_of_unit-le broadcast u)) in
    let name : member m (known broadcast.cast r start hist) ≡ is_named broadcast.cast r.delay hist m =
    member-occurrences m (known broadcast.cast r start hist)
    ∙ (ap (nat_lt 0) (occurrences-known broadcast.cast r start hist m set.short set.naming o b ∙ ap (λ x. as_number (is_named broadcast.cast r.delay hist m && x)) live)
    ∙ back (is_named broadcast.cast r.delay hist m)) in
    ap₂ (λ x y. (x && list_all (λ k. member k H) ms) && y) (lt-ltb u (length broadcast.units) lu) name ∙ ap (λ x. x && is_named broadcast.cast r.delay hist m) whole
  where
    back : (b : Bool) → nat_lt 0 (as_number (b && true)) ≡ b
    back true = refl
    back false = refl

-- how often a unit stands among those that are found and named
pub occurrences-named : (units : List Heard → List MediaUnit) (broadcast : Broadcast) (r : Params) (found : List ℕ → List ℕ) (start : ℕ) (hist : List ℕ) (u : ℕ) → IsSet units broadcast r found → AreOf broadcast.cast.packets.sent hist → Begins broadcast.cast.packets.sent start hist
    → occurrences u (named broadcast r start hist (found (held broadcast.cast.packets r start hist)))
    ≡ as_number ((nat_lt u (length broadcast.units) && list_all (λ k. member k (held broadcast.cast.packets r start hist)) (unit_of broadcast u).members) && member (unit_of broadcast u).mpu (known broadcast.cast r start hist))
unfolding named
occurrences-named units broadcast r found start hist u set o b =
    occurrences-filter u (λ u. member (unit_of broadcast u).mpu (known broadcast.cast r start hist)) (found (held broadcast.cast.packets r start hist))
    ∙ (ap (λ x. cond (member (unit_of broadcast u).mpu (known broadcast.cast r start hist)) x 0)
    (set.finding.once (held broadcast.cast.packets r start hist) (held-once broadcast.cast.packets r start hist set.short b) (λ k l. (held_facts broadcast.cast.packets r start hist k set.short o b l).of) u)
    ∙ cond-as_number (member (unit_of broadcast u).mpu (known broadcast.cast r start hist)) (nat_lt u (length broadcast.units) && list_all (λ k. member k (held broadcast.cast.packets r start hist)) (unit_of broadcast u).members))

-- of the units with a due tick after the clock, those that a test picks
picked : (units : List Heard → List MediaUnit) (broadcast : Broadcast) (r : Params) (found : List ℕ → List ℕ) (start : ℕ) (hist : List ℕ) (u : ℕ) (test : ℕ → Bool) → IsSet units broadcast r found → AreOf broadcast.cast.packets.sent hist → Begins broadcast.cast.packets.sent start hist
    → (test u ≡ true → latest broadcast.cast.packets.sent start hist < due_of_unit broadcast u)
    → occurrences u (sort_by (in_order broadcast) (filter test (named broadcast r start hist (found (held broadcast.cast.packets r start hist)))))
    ≡ as_number (nat_lt u (length broadcast.units) && (is_ready broadcast r.delay hist u && test u))
picked units broadcast r found start hist u test set o b early =
    let us : List ℕ = named broadcast r start hist (found (held broadcast.cast.packets r start hist)) in
    let A : Bool = list_all (λ k. member k (held broadcast.cast.packets r start hist)) (unit_of broadcast u).members in
    let K : Bool = member (unit_of broadcast u).mpu (known broadcast.cast r start hist) in
    occurrences-sort (in_order broadcast) u (filter test us)
    ∙ (occurrences-filter u test us
    ∙ (ap (λ x. cond (test u) x 0) (occurrences-named units broadcast r found start hist u set o b)
    ∙ (cond-as_number (test u) ((nat_lt u (length broadcast.units) && A) && K)
    ∙ ap as_number (joined (nat_lt u (length broadcast.units)) A K (is_ready broadcast r.delay hist u) (test u)
    (λ lu t. ready-early units broadcast r found start hist u set o b (ltb-true u (length broadcast.units) lu) (early t)) (nat_lt u (length broadcast.units)) refl))))
  where
    joined : (l a k s t : Bool) → (l ≡ true → t ≡ true → ((l && a) && k) ≡ s) → (l' : Bool) → l ≡ l' → (((l && a) && k) && t) ≡ (l && (s && t))
    joined true a k s true h l' e = ap (λ x. x && true) (h refl refl)
    joined true true true s false h l' e = sym (and_false s)
      where
        and_false : (b : Bool) → (b && false) ≡ false
        and_false true = refl
        and_false false = refl
    joined true true false s false h l' e = sym (and_false s)
      where
        and_false : (b : Bool) → (b && false) ≡ false
        and_false true = refl
        and_false false = refl
    joined true false k s false h l' e = sym (and_false s)
      where
        and_false : (b : Bool) → (b && false) ≡ false
        and_false true = refl
        and_false false = refl
    joined false a k s t h l' e = refl

occurrences-hand : (units : List Heard → List MediaUnit) (broadcast : Broadcast) (r : Params) (found : List ℕ → List ℕ) (start n : ℕ) (older : List ℕ) (u : ℕ) → IsSet units broadcast r found → AreOf broadcast.cast.packets.sent older → Begins broadcast.cast.packets.sent start older
    → occurrences u (hand found broadcast r start n older)
    ≡ as_number (nat_lt u (length broadcast.units) && (is_ready broadcast r.delay older u && (nat_lt (latest broadcast.cast.packets.sent start older) (due_of_unit broadcast u) && nat_le (due_of_unit broadcast u) (latest broadcast.cast.packets.sent start (n ∷ older)))))
unfolding hand
occurrences-hand units broadcast r found start n older u set o b =
    picked units broadcast r found start older u
    (λ u. nat_lt (latest broadcast.cast.packets.sent start older) (due_of_unit broadcast u) && nat_le (due_of_unit broadcast u) (latest broadcast.cast.packets.sent start (n ∷ older))) set o b
    (λ t. ltb-true (latest broadcast.cast.packets.sent start older) (due_of_unit broadcast u) (and_parts (nat_lt (latest broadcast.cast.packets.sent start older) (due_of_unit broadcast u)) (nat_le (due_of_unit broadcast u) (latest broadcast.cast.packets.sent start (n ∷ older))) t).0)

occurrences-last : (units : List Heard → List MediaUnit) (broadcast : Broadcast) (r : Params) (found : List ℕ → List ℕ) (start : ℕ) (hist : List ℕ) (u : ℕ) → IsSet units broadcast r found → AreOf broadcast.cast.packets.sent hist → Begins broadcast.cast.packets.sent start hist
    → occurrences u (last found broadcast r start hist) ≡ as_number (nat_lt u (length broadcast.units) && (is_ready broadcast r.delay hist u && nat_lt (latest broadcast.cast.packets.sent start hist) (due_of_unit broadcast u)))
unfolding last
occurrences-last units broadcast r found start hist u set o b =
    picked units broadcast r found start hist u (λ u. nat_lt (latest broadcast.cast.packets.sent start hist) (due_of_unit broadcast u)) set o b
    (λ t. ltb-true (latest broadcast.cast.packets.sent start hist) (due_of_unit broadcast u) t)

ready-none : (broadcast : Broadcast) (r : Params) (u : ℕ) → IsRightUnit broadcast r u → is_ready broadcast r.delay [] u ≡ false
unfolding is_ready
ready-none broadcast r u right = rw (complete-none broadcast r u right) refl

expected-none : (broadcast : Broadcast) (r : Params) (u : ℕ) → IsRightUnit broadcast r u → is_expected broadcast r.delay [] u ≡ false
unfolding is_expected
expected-none broadcast r u right = rw (complete-none broadcast r u right) refl

-- before its due tick a unit is expected where it is ready
ready-expected : (broadcast : Broadcast) (r : Params) (start : ℕ) (hist : List ℕ) (u : ℕ) → Begins broadcast.cast.packets.sent start hist → IsRightUnit broadcast r u → latest broadcast.cast.packets.sent start hist < due_of_unit broadcast u
    → is_ready broadcast r.delay hist u ≡ is_expected broadcast r.delay hist u
ready-expected broadcast r start [] u b right early = ready-none broadcast r u right ∙ sym (expected-none broadcast r u right)
ready-expected broadcast r start (n ∷ older) u b right early = sym (expected-early broadcast r.delay start n older u b early)

-- the bits of one step
step-bits : (e0 e1 s : Bool) (L now d : ℕ) → L ≤ now → (d ≤ now → e1 ≡ e0) → (L < d → d ≤ now → s ≡ e0)
    → as_number (e0 && nat_le d L) + as_number (s && (nat_lt L d && nat_le d now)) ≡ as_number (e1 && nat_le d now)
step-bits e0 e1 s L now d le over early =
    ⊎_elim
    (λ (past : d ≤ L). let e : e1 ≡ e0 = over (omega arith) in
    rw (e, le-leb d L past, le-ltb L d past, le-leb d now (omega arith)) (a e0 s))
    (λ (h : L < d). ⊎_elim
    (λ (due : d ≤ now). let e : e1 ≡ e0 = over due in let f : s ≡ e0 = early h due in
    rw (e, f, lt-leb d L h, lt-ltb L d h, le-leb d now due) (c e0))
    (λ (no : now < d). rw (lt-leb d L h, lt-ltb L d h, lt-leb d now no) (f e0 s e1))
    (cases d now))
    (cases d L)
  where
    cases : (m n : ℕ) → (m ≤ n) ⊎ (n < m)
    cases m n = grind arith

    a : (e s : Bool) → as_number (e && true) + as_number (s && false) ≡ as_number (e && true)
    a true true = refl
    a true false = refl
    a false true = refl
    a false false = refl

    c : (e : Bool) → as_number (e && false) + as_number (e && true) ≡ as_number (e && true)
    c true = refl
    c false = refl

    f : (e s g : Bool) → as_number (e && false) + as_number (s && false) ≡ as_number (g && false)
    f true true true = refl
    f true true false = refl
    f true false true = refl
    f true false false = refl
    f false true true = refl
    f false true false = refl
    f false false true = refl
    f false false false = refl

-- what was handed out by now: the expected units whose due tick has come
occurrences-outs : (units : List Heard → List MediaUnit) (broadcast : Broadcast) (r : Params) (found : List ℕ → List ℕ) (start : ℕ) (hist : List ℕ) (u : ℕ) → IsSet units broadcast r found → AreOf broadcast.cast.packets.sent hist → Begins broadcast.cast.packets.sent start hist
    → occurrences u (outs found broadcast r start hist) ≡ as_number (nat_lt u (length broadcast.units) && (is_expected broadcast r.delay hist u && nat_le (due_of_unit broadcast u) (latest broadcast.cast.packets.sent start hist)))
unfolding outs
occurrences-outs units broadcast r found start [] u set o b =
    ⊎_elim
    (λ (t : nat_lt u (length broadcast.units) ≡ true). rw (expected-none broadcast r u (set.playing.right u (ltb-true u (length broadcast.units) t)), t) refl)
    (λ (f : nat_lt u (length broadcast.units) ≡ false). rw f refl)
    (cases_Bool (nat_lt u (length broadcast.units)))
occurrences-outs units broadcast r found start (n ∷ older) u set o b =
    let p : SentPackets = broadcast.cast.packets in
    let L : ℕ = latest p.sent start older in
    let now : ℕ = latest p.sent start (n ∷ older) in
    let now_is : now ≡ max L (sent_at p.sent n) = unfold latest in refl in
    let bo = begins-older p start n older b in
    let d : ℕ = due_of_unit broadcast u in
    let ih = occurrences-outs units broadcast r found start older u set o.1 bo in
    occurrences-append u (outs found broadcast r start older) (hand found broadcast r start n older)
    ∙ (ap₂ (λ x y. x + y) ih (occurrences-hand units broadcast r found start n older u set o.1 bo)
    ∙ ⊎_elim
    (λ (t : nat_lt u (length broadcast.units) ≡ true).
    let right = set.playing.right u (ltb-true u (length broadcast.units) t) in
    rw t (step-bits (is_expected broadcast r.delay older u) (is_expected broadcast r.delay (n ∷ older) u) (is_ready broadcast r.delay older u) L now d (omega arith)
    (λ over. expected-over broadcast r start n older u b right over)
    (λ early due. ready-expected broadcast r start older u bo right early)))
    (λ (f : nat_lt u (length broadcast.units) ≡ false). rw f refl)
    (cases_Bool (nat_lt u (length broadcast.units))))

-- units stand in the order of their due ticks
in_due_order : (broadcast : Broadcast) (u v : ℕ) → due_of_unit broadcast u < due_of_unit broadcast v → in_order broadcast u v ≡ true
unfolding due_of_unit is_presented_before precedes order_numbers
in_due_order broadcast u v h =
    let time : (presentation_of broadcast u).time < (presentation_of broadcast v).time =
    ⊎_elim (λ (lt : (presentation_of broadcast u).time < (presentation_of broadcast v).time). lt)
    (λ (ge : (presentation_of broadcast v).time ≤ (presentation_of broadcast u).time). absurd (omega (arith, due-mono (presentation_of broadcast v).time (presentation_of broadcast u).time ge, h)))
    (cases_lt (presentation_of broadcast u).time (presentation_of broadcast v).time) in
    or_left (nat_lt (presentation_of broadcast u).time (presentation_of broadcast v).time)
    (((presentation_of broadcast u).time == (presentation_of broadcast v).time) && precedes
    ((presentation_of broadcast u).unit.packet_id ∷ (presentation_of broadcast u).unit.mpu ∷ (key_numbers (presentation_of broadcast u).unit.key ++ (presentation_of broadcast u).unit.number ∷ (presentation_of broadcast u).unit.place ∷ []))
    ((presentation_of broadcast v).unit.packet_id ∷ (presentation_of broadcast v).unit.mpu ∷ (key_numbers (presentation_of broadcast v).unit.key ++ (presentation_of broadcast v).unit.number ∷ (presentation_of broadcast v).unit.place ∷ [])))
    (lt-ltb (presentation_of broadcast u).time (presentation_of broadcast v).time time)

length-keys : (k : UnitKey) → length (key_numbers k) ≡ 4
unfolding key_numbers
length-keys (keys.Item item) = refl
length-keys (keys.Timed f s o) = refl

length-row : (d : Presentation) → length (order_numbers d) ≡ 9
unfolding order_numbers
length-row d = omega (arith, length-keys d.unit.key, length-append (key_numbers d.unit.key) (d.unit.number ∷ d.unit.place ∷ []))

-- the units of a broadcast have an order
pub broadcast-order : (broadcast : Broadcast) (r : Params) → IsPlaying broadcast r → IsOrder (in_order broadcast) (length broadcast.units)
unfolding is_presented_before
broadcast-order broadcast r playing =
    record {
      one_way = λ u v a b. before-one_way (order_numbers (presentation_of broadcast u)) (order_numbers (presentation_of broadcast v)) a b;
      through = λ u v w a b. before-through (order_numbers (presentation_of broadcast u)) (order_numbers (presentation_of broadcast v)) (order_numbers (presentation_of broadcast w)) a b;
      either = λ u v lu lv ne. before-either (order_numbers (presentation_of broadcast u)) (order_numbers (presentation_of broadcast v)) (length-row (presentation_of broadcast u) ∙ sym (length-row (presentation_of broadcast v))) (λ e. ne (playing.apart u v lu lv e));
    }

-- what is known of a unit that was handed out or is being handed out
pub bit_two : (a b c : Bool) → 0 < as_number (a && (b && c)) → (a ≡ true) × (c ≡ true)
bit_two true true true h = (refl, refl)
bit_two true true false h = absurd (omega arith)
bit_two true false c h = absurd (omega arith)
bit_two false b c h = absurd (omega arith)

once-sorted : (units : List Heard → List MediaUnit) (broadcast : Broadcast) (r : Params) (found : List ℕ → List ℕ) (start : ℕ) (hist : List ℕ) (test : ℕ → Bool) → IsSet units broadcast r found → AreOf broadcast.cast.packets.sent hist → Begins broadcast.cast.packets.sent start hist
    → (u : ℕ) → occurrences u (filter test (named broadcast r start hist (found (held broadcast.cast.packets r start hist)))) ≤ 1
once-sorted units broadcast r found start hist test set o b u =
    let us : List ℕ = named broadcast r start hist (found (held broadcast.cast.packets r start hist)) in
    omega (
      arith,
      occurrences-filter u test us,
      drop_le (test u) (occurrences u us),
      occurrences-named units broadcast r found start hist u set o b,
      bit_le_one ((nat_lt u (length broadcast.units) && list_all (λ k. member k (held broadcast.cast.packets r start hist)) (unit_of broadcast u).members) && member (unit_of broadcast u).mpu (known broadcast.cast r start hist)),
    )
  where
    drop_le : (c : Bool) (t : ℕ) → cond c t 0 ≤ t
    drop_le true t = omega arith
    drop_le false t = omega arith

below-sorted : (units : List Heard → List MediaUnit) (broadcast : Broadcast) (r : Params) (found : List ℕ → List ℕ) (start : ℕ) (hist : List ℕ) (test : ℕ → Bool) → IsSet units broadcast r found → AreOf broadcast.cast.packets.sent hist → Begins broadcast.cast.packets.sent start hist
    → (u : ℕ) → 0 < occurrences u (filter test (named broadcast r start hist (found (held broadcast.cast.packets r start hist)))) → u < length broadcast.units
below-sorted units broadcast r found start hist test set o b u l =
    let us : List ℕ = named broadcast r start hist (found (held broadcast.cast.packets r start hist)) in
    let A : Bool = list_all (λ k. member k (held broadcast.cast.packets r start hist)) (unit_of broadcast u).members in
    let K : Bool = member (unit_of broadcast u).mpu (known broadcast.cast r start hist) in
    let t = as_number-true ((nat_lt u (length broadcast.units) && A) && K) (omega (arith, times_of_filter u test us l, occurrences-named units broadcast r found start hist u set o b)) in
    ltb-true u (length broadcast.units) (and_parts (nat_lt u (length broadcast.units)) A (and_parts (nat_lt u (length broadcast.units) && A) K t).0).0

rising-outs : (units : List Heard → List MediaUnit) (broadcast : Broadcast) (r : Params) (found : List ℕ → List ℕ) (start : ℕ) (hist : List ℕ) → IsSet units broadcast r found → AreOf broadcast.cast.packets.sent hist → Begins broadcast.cast.packets.sent start hist
    → Rising (in_order broadcast) (outs found broadcast r start hist)
unfolding outs hand
rising-outs units broadcast r found start [] set o b = tt
rising-outs units broadcast r found start (n ∷ older) set o b =
    let p : SentPackets = broadcast.cast.packets in
    let bo = begins-older p start n older b in
    let test : ℕ → Bool = λ u. nat_lt (latest p.sent start older) (due_of_unit broadcast u) && nat_le (due_of_unit broadcast u) (latest p.sent start (n ∷ older)) in
    rising-append (in_order broadcast) (outs found broadcast r start older) (hand found broadcast r start n older)
    (rising-outs units broadcast r found start older set o.1 bo)
    (rising-sort (in_order broadcast) (length broadcast.units) (filter test (named broadcast r start older (found (held p r start older)))) (broadcast-order broadcast r set.playing) (below-sorted units broadcast r found start older test set o.1 bo) (once-sorted units broadcast r found start older test set o.1 bo))
    (λ x y lx ly.
    let a = bit_two (nat_lt x (length broadcast.units)) (is_expected broadcast r.delay older x) (nat_le (due_of_unit broadcast x) (latest p.sent start older)) (omega (arith, lx, occurrences-outs units broadcast r found start older x set o.1 bo)) in
    let c = bit_two (nat_lt y (length broadcast.units)) (is_ready broadcast r.delay older y) (test y) (omega (arith, ly, occurrences-hand units broadcast r found start n older y set o.1 bo)) in
    let l = leb-true (due_of_unit broadcast x) (latest p.sent start older) a.1 in
    let m = ltb-true (latest p.sent start older) (due_of_unit broadcast y) (and_parts (nat_lt (latest p.sent start older) (due_of_unit broadcast y)) (nat_le (due_of_unit broadcast y) (latest p.sent start (n ∷ older))) c.1).0 in
    in_due_order broadcast x y (omega arith))

rising-last : (units : List Heard → List MediaUnit) (broadcast : Broadcast) (r : Params) (found : List ℕ → List ℕ) (start : ℕ) (hist : List ℕ) → IsSet units broadcast r found → AreOf broadcast.cast.packets.sent hist → Begins broadcast.cast.packets.sent start hist
    → Rising (in_order broadcast) (last found broadcast r start hist)
unfolding last
rising-last units broadcast r found start hist set o b =
    rising-sort (in_order broadcast) (length broadcast.units) (filter (λ u. nat_lt (latest broadcast.cast.packets.sent start hist) (due_of_unit broadcast u)) (named broadcast r start hist (found (held broadcast.cast.packets r start hist))))
    (broadcast-order broadcast r set.playing) (below-sorted units broadcast r found start hist (λ u. nat_lt (latest broadcast.cast.packets.sent start hist) (due_of_unit broadcast u)) set o b)
    (once-sorted units broadcast r found start hist (λ u. nat_lt (latest broadcast.cast.packets.sent start hist) (due_of_unit broadcast u)) set o b)

-- all that is handed out are the expected units, in their order
pub outs-expected : (units : List Heard → List MediaUnit) (broadcast : Broadcast) (r : Params) (found : List ℕ → List ℕ) (start : ℕ) (hist : List ℕ) → IsSet units broadcast r found → AreOf broadcast.cast.packets.sent hist → Begins broadcast.cast.packets.sent start hist
    → outs found broadcast r start hist ++ last found broadcast r start hist ≡ sort_by (in_order broadcast) (filter (is_expected broadcast r.delay hist) (places (length broadcast.units)))
outs-expected units broadcast r found start hist set o b =
    let p : SentPackets = broadcast.cast.packets in
    let now : ℕ = latest p.sent start hist in
    let test : ℕ → Bool = λ u. nat_lt now (due_of_unit broadcast u) in
    let es : List ℕ = filter (is_expected broadcast r.delay hist) (places (length broadcast.units)) in
    rising-same (in_order broadcast) (length broadcast.units) (outs found broadcast r start hist ++ last found broadcast r start hist) (sort_by (in_order broadcast) es) (broadcast-order broadcast r set.playing)
    (rising-append (in_order broadcast) (outs found broadcast r start hist) (last found broadcast r start hist)
    (rising-outs units broadcast r found start hist set o b)
    (rising-last units broadcast r found start hist set o b)
    (λ x y lx ly.
    let a = bit_two (nat_lt x (length broadcast.units)) (is_expected broadcast r.delay hist x) (nat_le (due_of_unit broadcast x) now) (omega (arith, lx, occurrences-outs units broadcast r found start hist x set o b)) in
    let c = bit_two (nat_lt y (length broadcast.units)) (is_ready broadcast r.delay hist y) (test y) (omega (arith, ly, occurrences-last units broadcast r found start hist y set o b)) in
    let l = leb-true (due_of_unit broadcast x) now a.1 in
    let m = ltb-true now (due_of_unit broadcast y) c.1 in
    in_due_order broadcast x y (omega arith)))
    (rising-sort (in_order broadcast) (length broadcast.units) es (broadcast-order broadcast r set.playing)
    (λ u l. ltb-true u (length broadcast.units) (as_number-true (nat_lt u (length broadcast.units)) (omega (arith, times_of_filter u (is_expected broadcast r.delay hist) (places (length broadcast.units)) l, occurrences-places u (length broadcast.units)))))
    (λ u. omega (arith, occurrences-filter u (is_expected broadcast r.delay hist) (places (length broadcast.units)), at_most (is_expected broadcast r.delay hist u) (occurrences u (places (length broadcast.units))), occurrences-places u (length broadcast.units), bit_le_one (nat_lt u (length broadcast.units)))))
    (λ u.
    occurrences-append u (outs found broadcast r start hist) (last found broadcast r start hist)
    ∙ (ap₂ (λ x y. x + y) (occurrences-outs units broadcast r found start hist u set o b) (occurrences-last units broadcast r found start hist u set o b)
    ∙ (⊎_elim
    (λ (t : nat_lt u (length broadcast.units) ≡ true).
    rw t (whole-bits (is_expected broadcast r.delay hist u) (is_ready broadcast r.delay hist u) now (due_of_unit broadcast u)
    (λ early. ready-expected broadcast r start hist u b (set.playing.right u (ltb-true u (length broadcast.units) t)) early)))
    (λ (f : nat_lt u (length broadcast.units) ≡ false). rw f refl)
    (cases_Bool (nat_lt u (length broadcast.units)))
    ∙ sym (occurrences-sort (in_order broadcast) u es ∙ (occurrences-filter u (is_expected broadcast r.delay hist) (places (length broadcast.units))
    ∙ (ap (λ x. cond (is_expected broadcast r.delay hist u) x 0) (occurrences-places u (length broadcast.units))
    ∙ cond-as_number (is_expected broadcast r.delay hist u) (nat_lt u (length broadcast.units))))))))
  where
    at_most : (c : Bool) (t : ℕ) → cond c t 0 ≤ t
    at_most true t = omega arith
    at_most false t = omega arith

    whole-bits : (e s : Bool) (now d : ℕ) → (now < d → s ≡ e) → as_number (e && nat_le d now) + as_number (s && nat_lt now d) ≡ as_number e
    whole-bits e s now d h =
        ⊎_elim
        (λ (early : now < d). let f : s ≡ e = h early in rw (f, lt-leb d now early, lt-ltb now d early) (a e))
        (λ (over : d ≤ now). rw (le-leb d now over, le-ltb now d over) (c e s))
        (cases_lt now d)
      where
        a : (e : Bool) → as_number (e && false) + as_number (e && true) ≡ as_number e
        a true = refl
        a false = refl

        c : (e s : Bool) → as_number (e && true) + as_number (s && false) ≡ as_number e
        c true true = refl
        c true false = refl
        c false true = refl
        c false false = refl
