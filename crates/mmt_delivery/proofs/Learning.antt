-- The entries of the 32 bit clock are those of whole ticks.
use Rattle.std.proofs.Common.{◌≡◌, ℕ, ◌+◌, ◌*◌, ◌^◌, ◌<◌, ◌≤◌, zero, suc, Bool, true, false, not, ◌&&◌, ◌||◌, ◌==◌, nat_lt, nat_le, cond, max, List, [], ◌∷◌, ◌++◌, map, length, arith, refl, ap, sym, ◌∙◌, ⊎_elim, filter, sum_by, true≢false}
use Rattle.std.specs.List.{list_any, list_all}
use Rattle.std.proofs.lemmas.Bool.Decides.{nat_tests}
use Rattle.std.proofs.lemmas.Bool.{cases_eq, eq-eqb, ne_eqb, and_parts, and_from, or_right, or_left, cases_Bool, ltb-true, lt-ltb, le-leb, cases_lt, or_parts}
use Rattle.std.proofs.lemmas.List.Sums.{sum_by-cons}
use Rattle.std.specs.List.{AllByRecursion}
use Rattle.mmt_base.proofs.TickLemmas.{is_after-low, is_passed-low}
use Rattle.mmt_base.specs.Ticks.{is_after, is_passed, low}
use Rattle.mmt_delivery.proofs.Held.{begins-older, held, occurrences-held, place_before, within}
use Rattle.mmt_delivery.proofs.Kept.{any-map, as_number-true, below_from_times, clock-low, filter-map, goes, held_facts, kept-held, map-push, survives-latest}
use Rattle.mmt_delivery.proofs.Known.{is_new, known, learned, occurrences-known, occurrences-learned}
use Rattle.mmt_delivery.proofs.Loads.{AllBelow, sum_by-occurrences, upto, upto-le}
use Rattle.mmt_delivery.proofs.Premises.{Begins, IsNaming, IsNear, IsRightCopy, IsSound, count_below, is_named_from, last_at, names_made_known}
use Rattle.mmt_delivery.proofs.Tests.{all-at, any-mono, any-some, each-at, member-occurrences}
use Rattle.mmt_model.proofs.Counting.{occurrences-push}
use Rattle.mmt_model.proofs.Inserting.{occurrences-insert}
use Rattle.mmt_model.specs.Broadcast.{CopyPlaces, NamedCast, due_at, entry_of}
use Rattle.mmt_model.specs.Counts.{as_number, member, occurrences}
use Rattle.mmt_model.specs.Entries.{Entry, entries, forget, is_of_same_mpu, last_due, learn, learn_one, names_if_stored}
use Rattle.mmt_model.specs.Expected.{is_complete, is_named}
use Rattle.mmt_model.specs.Keeping.{Outcome, clock, kept, outcome, still_kept}
use Rattle.mmt_model.specs.Packets.{Heard}
use Rattle.mmt_model.specs.Sorted.{insert_by}
use Rattle.mmt_model.specs.Survival.{AreOf, SentPackets, heard_of, latest, sent_at, survives}
use Rattle.mmt_model.specs.declared.programmes.Params.{Params}

pub length-map' : {X Y : Type 0} (f : X → Y) (xs : List X) → length (map f xs) ≡ length xs
length-map' f [] = refl
length-map' f (x ∷ xs) = ap suc (length-map' f xs)

-- of those that pass, one with the greatest key
best : {C : Type 0} (P : C → Type 0) (key : C → ℕ) (p : C → Bool) (cs : List C) → AllByRecursion P cs → list_any p cs ≡ true
    → (c : C) × P c × (p c ≡ true) × AllByRecursion (λ d. p d ≡ true → key d ≤ key c) cs
best P key p [] e a = absurd cc
best P key p (c ∷ cs) e a =
    ⊎_elim
    (λ (later : list_any p cs ≡ true).
    let b = best P key p cs e.1 later in
    ⊎_elim
    (λ (lt : key b.0 < key c). ⊎_elim
    (λ (t : p c ≡ true). (c, e.0, t, (λ h. omega arith, weaker P key p cs (key b.0) (key c) (omega arith) b.3)))
    (λ (f : p c ≡ false). (b.0, b.1, b.2, (λ h. absurd (cc (h, f)), b.3)))
    (cases_Bool (p c)))
    (λ (le : key c ≤ key b.0). (b.0, b.1, b.2, (λ h. le, b.3)))
    (cases_lt (key b.0) (key c)))
    (λ (none : list_any p cs ≡ false). (c, e.0, first (p c) a none, (λ h. omega arith, lone P key p cs (key c) none)))
    (cases_Bool (list_any p cs))
  where
    weaker : {C : Type 0} (P : C → Type 0) (key : C → ℕ) (p : C → Bool) (cs : List C) (a b : ℕ) → a ≤ b → AllByRecursion (λ d. p d ≡ true → key d ≤ a) cs → AllByRecursion (λ d. p d ≡ true → key d ≤ b) cs
    weaker P key p [] a b le e = tt
    weaker P key p (d ∷ cs) a b le e = (λ h. (let k = e.0 h in omega arith), weaker P key p cs a b le e.1)

    first : (x : Bool) → (x || list_any p cs) ≡ true → list_any p cs ≡ false → x ≡ true
    first true a n = refl
    first false a n = absurd (cc (a, n))

    lone : {C : Type 0} (P : C → Type 0) (key : C → ℕ) (p : C → Bool) (cs : List C) (b : ℕ) → list_any p cs ≡ false → AllByRecursion (λ d. p d ≡ true → key d ≤ b) cs
    lone P key p [] b n = tt
    lone P key p (d ∷ cs) b n = let q = or_parts (p d) (list_any p cs) n in (λ h. absurd (cc (h, q.0)), lone P key p cs b q.1)

counts : (q : ℕ → Bool) (n : ℕ) → upto (λ k. as_number (q k)) n ≡ count_below q n
unfolding count_below
counts q zero = refl
counts q (suc n) = omega (arith, counts q n, one (q n))
  where
    one : (b : Bool) → as_number b ≡ cond b 1 0
    one true = refl
    one false = refl

pub ones : (xs : List ℕ) → sum_by (λ k. 1) xs ≡ length xs
ones [] = refl
ones (x ∷ xs) = omega (arith, sum_by-cons (λ (k : ℕ). 1) x xs, ones xs)

-- distinct numbers below n that pass are no more than all that pass
length-le-count : (q : ℕ → Bool) (n : ℕ) (xs : List ℕ) → AllBelow n xs → ((k : ℕ) → occurrences k xs ≤ as_number (q k)) → length xs ≤ count_below q n
length-le-count q n xs b h =
    let le : upto (λ k. occurrences k xs * 1) n ≤ upto (λ k. as_number (q k)) n = upto-le (λ k. occurrences k xs * 1) (λ k. as_number (q k)) n (λ k l. omega (arith, h k)) in
    omega (arith, ones xs, sum_by-occurrences (λ k. 1) n xs b, le, counts q n)

as_number-le : (a b : Bool) → (a ≡ true → b ≡ true) → as_number a ≤ as_number b
as_number-le true true h = omega arith
as_number-le true false h = absurd (cc (h refl))
as_number-le false b h = omega arith

last_at-le : (cast : NamedCast) (ks : List ℕ) (b : ℕ) → ((k : ℕ) → member k ks ≡ true → sent_at cast.packets.sent k ≤ b) → last_at cast ks ≤ b
unfolding last_at member
last_at-le cast [] b h = omega arith
last_at-le cast (k ∷ ks) b h = omega (arith, h k (or_left (k == k) (list_any (λ j. j == k) ks) (eq-eqb k k refl)), last_at-le cast ks b (λ j m. h j (or_right (k == j) (list_any (λ i. i == j) ks) m)))

pub first_member : (k : ℕ) (ks : List ℕ) → member k (k ∷ ks) ≡ true
unfolding member
first_member k ks = or_left (k == k) (list_any (λ j. j == k) ks) (eq-eqb k k refl)

-- what is known of a named MPU
pub record IsNamed (cast : NamedCast) (r : Params) (start : ℕ) (hist : List ℕ) (m : ℕ) : Type 0 where
  pub known : m < length cast.mpus
  pub soon : due_at cast m ≤ latest cast.packets.sent start hist + 2 ^ 30
  pub complete : list_any (λ c. is_complete cast r.delay hist c.members) cast.copies ≡ true

pub named_facts : (cast : NamedCast) (r : Params) (start : ℕ) (hist : List ℕ) (m : ℕ) → IsNaming cast r → is_named cast r.delay hist m ≡ true → IsNamed cast r start hist m
unfolding is_named is_complete
named_facts cast r start hist m naming h =
    let w = any-some (IsRightCopy cast r) (λ c. member m c.names && list_all (survives cast.packets.sent r.delay hist) c.members) cast.copies naming.right h in
    let c : CopyPlaces = w.0 in
    let both = and_parts (member m c.names) (list_all (survives cast.packets.sent r.delay hist) c.members) w.2 in
    record {
      known = each-at (λ m. m < length cast.mpus) c.names m w.1.known both.0;
      soon = at_first c.members w.1.some (λ k mem.
          (let s = survives-latest cast.packets r.delay start hist k (all-at (survives cast.packets.sent r.delay hist) c.members k both.1 mem) in
          let d : due_at cast m ≤ sent_at cast.packets.sent k + 2 ^ 30 = each-at (λ m. due_at cast m ≤ sent_at cast.packets.sent k + 2 ^ 30) c.names m (each-at (λ n. AllByRecursion (λ m. due_at cast m ≤ sent_at cast.packets.sent n + 2 ^ 30) c.names) c.members k w.1.soon mem) both.0 in
          omega (arith, s, d)));
      complete = any-mono (IsRightCopy cast r) (λ c. member m c.names && list_all (survives cast.packets.sent r.delay hist) c.members) (λ c. list_all (survives cast.packets.sent r.delay hist) c.members) cast.copies naming.right
          (λ d rt t. (and_parts (member m d.names) (list_all (survives cast.packets.sent r.delay hist) d.members) t).1) h;
    }
  where
    at_first : (ks : List ℕ) → 0 < length ks → ((k : ℕ) → member k ks ≡ true → due_at cast m ≤ latest cast.packets.sent start hist + 2 ^ 30) → due_at cast m ≤ latest cast.packets.sent start hist + 2 ^ 30
    at_first [] l f = absurd (omega arith)
    at_first (k ∷ ks) l f = f k (first_member k ks)

named_from : (cast : NamedCast) (r : Params) (hist : List ℕ) (k tick : ℕ) → AllByRecursion (λ c. is_complete cast r.delay hist c.members ≡ true → last_at cast c.members ≤ tick) cast.copies
    → is_named cast r.delay hist k ≡ true → is_named_from cast tick k ≡ true
unfolding is_named is_named_from
named_from cast r hist k tick e n =
    any-mono (λ c. is_complete cast r.delay hist c.members ≡ true → last_at cast c.members ≤ tick)
    (λ c. member k c.names && is_complete cast r.delay hist c.members) (λ c. member k c.names && nat_le (last_at cast c.members) tick) cast.copies e
    (λ c before t.
    let p = and_parts (member k c.names) (is_complete cast r.delay hist c.members) t in
    and_from (member k c.names) (nat_le (last_at cast c.members) tick) p.0 (le-leb (last_at cast c.members) tick (before p.1)))
    n

some_complete : (cast : NamedCast) (r : Params) (start : ℕ) (hist : List ℕ) (xs : List ℕ) → IsNaming cast r
    → ((k : ℕ) → occurrences k xs ≤ as_number (is_named cast r.delay hist k && nat_lt (latest cast.packets.sent start hist) (due_at cast k)))
    → list_any (λ c. is_complete cast r.delay hist c.members) cast.copies ≡ true → length xs ≤ 1024
some_complete cast r start hist xs naming h t =
    let b = best (IsRightCopy cast r) (λ c. last_at cast c.members) (λ c. is_complete cast r.delay hist c.members) cast.copies naming.right t in
    let tick : ℕ = last_at cast (b.0).members in
    let q : ℕ → Bool = λ m. is_named_from cast tick m && nat_lt tick (due_at cast m) in
    let early : tick ≤ latest cast.packets.sent start hist =
    last_at-le cast (b.0).members (latest cast.packets.sent start hist) (λ k m. survives-latest cast.packets r.delay start hist k (all-at (survives cast.packets.sent r.delay hist) (b.0).members k (unfold is_complete in b.2) m)) in
    let le : (k : ℕ) → occurrences k xs ≤ as_number (q k) = λ k.
    (let parts : (is_named cast r.delay hist k && nat_lt (latest cast.packets.sent start hist) (due_at cast k)) ≡ true → q k ≡ true =
    λ t. (let p = and_parts (is_named cast r.delay hist k) (nat_lt (latest cast.packets.sent start hist) (due_at cast k)) t in
    let l = ltb-true (latest cast.packets.sent start hist) (due_at cast k) p.1 in
    and_from (is_named_from cast tick k) (nat_lt tick (due_at cast k))
    (named_from cast r hist k tick b.3 p.0)
    (lt-ltb tick (due_at cast k) (omega arith))) in
    omega (arith, h k, as_number-le (is_named cast r.delay hist k && nat_lt (latest cast.packets.sent start hist) (due_at cast k)) (q k) parts)) in
    let below : AllBelow (length cast.mpus) xs = below_from_times (length cast.mpus) xs
    (λ k l. (named_facts cast r start hist k naming (and_parts (is_named cast r.delay hist k) (nat_lt (latest cast.packets.sent start hist) (due_at cast k)) (as_number-true (is_named cast r.delay hist k && nat_lt (latest cast.packets.sent start hist) (due_at cast k)) (omega (arith, h k)))).0).known) in
    omega (arith, length-le-count q (length cast.mpus) xs below le, b.1.few)

none_complete : (cast : NamedCast) (r : Params) (start : ℕ) (hist : List ℕ) (xs : List ℕ) → IsNaming cast r
    → ((k : ℕ) → occurrences k xs ≤ as_number (is_named cast r.delay hist k && nat_lt (latest cast.packets.sent start hist) (due_at cast k)))
    → list_any (λ c. is_complete cast r.delay hist c.members) cast.copies ≡ false → length xs ≤ 1024
none_complete cast r start hist [] naming h f = omega arith
none_complete cast r start hist (x ∷ xs) naming h f =
    let one : 0 < occurrences x (x ∷ xs) = rw (eq-eqb x x refl) (omega arith) in
    let t = as_number-true (is_named cast r.delay hist x && nat_lt (latest cast.packets.sent start hist) (due_at cast x)) (omega (arith, h x)) in
    let n = (and_parts (is_named cast r.delay hist x) (nat_lt (latest cast.packets.sent start hist) (due_at cast x)) t).0 in
    absurd (true≢false (sym (named_facts cast r start hist x naming n).complete ∙ f))

-- the live MPUs that survivors name are few
few_live : (cast : NamedCast) (r : Params) (start : ℕ) (hist : List ℕ) (xs : List ℕ) → IsNaming cast r
    → ((k : ℕ) → occurrences k xs ≤ as_number (is_named cast r.delay hist k && nat_lt (latest cast.packets.sent start hist) (due_at cast k))) → length xs ≤ 1024
few_live cast r start hist xs naming h =
    ⊎_elim (λ t. some_complete cast r start hist xs naming h t) (λ f. none_complete cast r start hist xs naming h f)
    (cases_Bool (list_any (λ c. is_complete cast r.delay hist c.members) cast.copies))

-- whether a list of entries has this MPU
pub has_entry : (cast : NamedCast) (r : Params) (m : ℕ) (xs : List ℕ) → IsNaming cast r → m < length cast.mpus → ((k : ℕ) → 0 < occurrences k xs → k < length cast.mpus)
    → list_any (is_of_same_mpu (entry_of cast m)) (map (entry_of cast) xs) ≡ member m xs
unfolding is_of_same_mpu member
has_entry cast r m xs naming lm below =
    any-map (entry_of cast) (is_of_same_mpu (entry_of cast m)) (λ k. k == m) xs
    (λ k l. ⊎_elim
    (λ (e : k ≡ m). rw (eq-eqb k m e, ap (λ i. (entry_of cast i).packet_id) e, ap (λ i. (entry_of cast i).mpu) e) (grind (arith, nat_tests)))
    (λ (ne : k ≡ m → ⊥). rw (ne_eqb k m ne)
    (different (entry_of cast k).packet_id (entry_of cast m).packet_id (entry_of cast k).mpu (entry_of cast m).mpu (λ a b. ne (naming.one_mpu k m (below k l) lm a b))))
    (cases_eq k m))
  where
    different : (a b c d : ℕ) → (a ≡ b → c ≡ d → ⊥) → ((a == b) && (c == d)) ≡ false
    different a b c d h = grind (arith, nat_tests)

pub later_member : (k m : ℕ) (ms : List ℕ) → member k ms ≡ true → member k (m ∷ ms) ≡ true
unfolding member
later_member k m ms h = or_right (m == k) (list_any (λ j. j == k) ms) h

pushed : (live : ℕ → Bool) (xs : List ℕ) (m : ℕ) → ((k : ℕ) → occurrences k xs ≤ as_number (live k)) → live m ≡ true → (k : ℕ) → (b : Bool) → member m xs ≡ b → occurrences k (cond (not b) (xs ++ m ∷ []) xs) ≤ as_number (live k)
pushed live xs m hx lm k true e = hx k
pushed live xs m hx lm k false e =
    let none : nat_lt 0 (occurrences m xs) ≡ false = sym (member-occurrences m xs) ∙ e in
    let zero : occurrences m xs ≡ 0 = grind (arith, nat_tests) in
    ⊎_elim
    (λ (same : m ≡ k). let one : as_number (live k) ≡ 1 = ap as_number (ap live (sym same) ∙ lm) in omega (arith, occurrences-push k xs m, ap (λ i. occurrences i xs) same, ap as_number (eq-eqb m k same)))
    (λ (ne : m ≡ k → ⊥). omega (arith, occurrences-push k xs m, hx k, ap as_number (ne_eqb m k ne)))
    (cases_eq m k)

length-push : (xs : List ℕ) (m : ℕ) → length (xs ++ m ∷ []) ≡ suc (length xs)
length-push [] m = refl
length-push (x ∷ xs) m = ap suc (length-push xs m)

learn_one-map : (cast : NamedCast) (r : Params) (now : ℕ) (live : ℕ → Bool) (xs : List ℕ) (m : ℕ) → IsNaming cast r
    → ((k : ℕ) → live k ≡ true → (k < length cast.mpus) × (is_after (low (due_at cast k)) (low now) ≡ true))
    → ((ys : List ℕ) → ((k : ℕ) → occurrences k ys ≤ as_number (live k)) → length ys ≤ 1024)
    → ((k : ℕ) → occurrences k xs ≤ as_number (live k)) → live m ≡ true → (b : Bool) → member m xs ≡ b
    → learn_one (low now) (map (entry_of cast) xs) (entry_of cast m) ≡ map (entry_of cast) (cond (not b) (xs ++ m ∷ []) xs)
unfolding learn_one due_at
learn_one-map cast r now live xs m naming known few hx lm b e =
    let has : list_any (is_of_same_mpu (entry_of cast m)) (map (entry_of cast) xs) ≡ b =
    has_entry cast r m xs naming (known m lm).0 (λ k l. (known k (as_number-true (live k) (omega (arith, hx k)))).0) ∙ e in
    rw ((known m lm).1, has) (short b e)
  where
    short : (b : Bool) → member m xs ≡ b
        → cond (not b && nat_lt (length (map (entry_of cast) xs)) 1024) (map (entry_of cast) xs ++ entry_of cast m ∷ []) (map (entry_of cast) xs) ≡ map (entry_of cast) (cond (not b) (xs ++ m ∷ []) xs)
    short true e = refl
    short false e =
        let l = few (xs ++ m ∷ []) (λ k. pushed live xs m hx lm k false e) in
        let t : nat_lt (length (map (entry_of cast) xs)) 1024 ≡ true = lt-ltb (length (map (entry_of cast) xs)) 1024 (omega (arith, l, length-push xs m, length-map' (entry_of cast) xs)) in
        rw t (sym (map-push (entry_of cast) xs m))

-- learning live MPUs, of which there are few
learn-map : (cast : NamedCast) (r : Params) (now : ℕ) (live : ℕ → Bool) (xs ms : List ℕ) → IsNaming cast r
    → ((k : ℕ) → live k ≡ true → (k < length cast.mpus) × (is_after (low (due_at cast k)) (low now) ≡ true))
    → ((ys : List ℕ) → ((k : ℕ) → occurrences k ys ≤ as_number (live k)) → length ys ≤ 1024)
    → ((k : ℕ) → occurrences k xs ≤ as_number (live k)) → ((k : ℕ) → member k ms ≡ true → live k ≡ true)
    → learn (low now) (map (entry_of cast) xs) (map (entry_of cast) ms) ≡ map (entry_of cast) (learned xs ms)
unfolding learn learned
learn-map cast r now live xs [] naming known few hx hm = refl
learn-map cast r now live xs (m ∷ ms) naming known few hx hm =
    let lm : live m ≡ true = hm m (first_member m ms) in
    let one : learn_one (low now) (map (entry_of cast) xs) (entry_of cast m) ≡ map (entry_of cast) (cond (not (member m xs)) (xs ++ m ∷ []) xs) =
    learn_one-map cast r now live xs m naming known few hx lm (member m xs) refl in
    let hx' : (k : ℕ) → occurrences k (cond (not (member m xs)) (xs ++ m ∷ []) xs) ≤ as_number (live k) = λ k. pushed live xs m hx lm k (member m xs) refl in
    ap (λ l. learn (low now) l (map (entry_of cast) ms)) one
    ∙ learn-map cast r now live (cond (not (member m xs)) (xs ++ m ∷ []) xs) ms naming known few hx' (λ k h. hm k (later_member k m ms h))

forget-map : (cast : NamedCast) (r : Params) (start n : ℕ) (older : List ℕ) → r.delay < r.window → IsNaming cast r → AreOf cast.packets.sent older → Begins cast.packets.sent start older → IsNear cast.packets.sent start (n ∷ older)
    → forget (low (latest cast.packets.sent start older)) (low (latest cast.packets.sent start (n ∷ older))) (map (entry_of cast) (known cast r start older))
    ≡ map (entry_of cast) (filter (λ m. nat_lt (latest cast.packets.sent start (n ∷ older)) (due_at cast m)) (known cast r start older))
unfolding forget latest last_due due_at
forget-map cast r start n older dw naming o b near =
    let L : ℕ = latest cast.packets.sent start older in
    let now : ℕ = max L (sent_at cast.packets.sent n) in
    filter-map (entry_of cast) (λ e. not (is_passed (low (last_due e)) (low L) (low now))) (λ m. nat_lt now (due_at cast m)) (known cast r start older)
    (λ m t.
    let both = and_parts (is_named cast r.delay older m) (nat_lt L (due_at cast m)) (as_number-true (is_named cast r.delay older m && nat_lt L (due_at cast m)) (omega (arith, occurrences-known cast r start older m dw naming o b))) in
    let l : L < due_at cast m = ltb-true L (due_at cast m) both.1 in
    let s : due_at cast m ≤ L + 2 ^ 30 = (named_facts cast r start older m naming both.0).soon in
    let p : is_passed (low (due_at cast m)) (low L) (low now) ≡ (nat_lt L (due_at cast m) && nat_le (due_at cast m) now) =
    is_passed-low (due_at cast m) L now (omega arith) (omega arith) (omega (arith, near.1)) (omega arith) in
    ap not p ∙ (ap (λ x. not (x && nat_le (due_at cast m) now)) both.1 ∙ turned (due_at cast m) now))
  where
    turned : (d now : ℕ) → not (nat_le d now) ≡ nat_lt now d
    turned d now = grind (arith, nat_tests)

-- what a stored packet names is what its copy names, where all of that copy is kept
pub record IsTelling (names_by : List Heard → Heard → List Entry) (cast : NamedCast) : Type 0 where
  pub told : (ks : List ℕ) (n : ℕ) → ((k : ℕ) → occurrences k ks ≤ 1) → ((k : ℕ) → 0 < occurrences k ks → k < length cast.packets.sent) → member n ks ≡ true
      → names_by (map (heard_of cast.packets) ks) (heard_of cast.packets n) ≡ map (entry_of cast) (names_made_known cast ks n)

names_if_stored-cond : (t a : Bool) (names : List Entry) → names_if_stored (cond t (cond a Outcome.Repeat Outcome.Stored) Outcome.Late) names ≡ cond (t && not a) names []
unfolding names_if_stored
names_if_stored-cond true true names = refl
names_if_stored-cond true false names = refl
names_if_stored-cond false a names = refl

bit_le_one : (b : Bool) → as_number b ≤ 1
bit_le_one true = omega arith
bit_le_one false = omega arith

-- a new packet is held
held-new : (cast : NamedCast) (r : Params) (start n : ℕ) (older : List ℕ) → is_new cast r start n older ≡ true → member n (held cast.packets r start (n ∷ older)) ≡ true
unfolding is_new held
held-new cast r start n older new =
    let rest : List ℕ = within cast.packets r (latest cast.packets.sent start (n ∷ older)) (held cast.packets r start older) in
    let more : List ℕ = insert_by (place_before cast.packets) n rest in
    rw new (member-occurrences n more ∙ lt-ltb 0 (occurrences n more) (omega (arith, occurrences-insert (place_before cast.packets) n n rest, ap as_number (eq-eqb n n refl))))

pub names_by-new : (names_by : List Heard → Heard → List Entry) (cast : NamedCast) (r : Params) (start n : ℕ) (older : List ℕ) → IsTelling names_by cast → r.delay < r.window → AreOf cast.packets.sent (n ∷ older) → Begins cast.packets.sent start (n ∷ older)
    → (new : Bool) → is_new cast r start n older ≡ new
    → cond new (names_by (map (heard_of cast.packets) (held cast.packets r start (n ∷ older))) (heard_of cast.packets n)) []
    ≡ map (entry_of cast) (cond new (names_made_known cast (held cast.packets r start (n ∷ older)) n) [])
names_by-new names_by cast r start n older telling dw o b true e =
    telling.told (held cast.packets r start (n ∷ older)) n
    (λ k. omega (arith, occurrences-held cast.packets r start (n ∷ older) k dw b, bit_le_one (survives cast.packets.sent r.delay (n ∷ older) k && nat_lt (latest cast.packets.sent start (n ∷ older)) (sent_at cast.packets.sent k + r.window))))
    (λ k l. (held_facts cast.packets r start (n ∷ older) k dw o b l).of)
    (held-new cast r start n older e)
names_by-new names_by cast r start n older telling dw o b false e = refl

learned-more : (k : ℕ) (xs ms : List ℕ) → occurrences k xs ≤ occurrences k (learned xs ms)
learned-more k xs ms = rw (occurrences-learned k xs ms) (go (member k ms))
  where
    go : (b : Bool) → occurrences k xs ≤ cond b (max 1 (occurrences k xs)) (occurrences k xs)
    go true = omega arith
    go false = omega arith

learn-known : (cast : NamedCast) (r : Params) (start n : ℕ) (older : List ℕ) → r.delay < r.window → IsNaming cast r → AreOf cast.packets.sent (n ∷ older) → Begins cast.packets.sent start (n ∷ older)
    → learn (low (latest cast.packets.sent start (n ∷ older)))
    (map (entry_of cast) (filter (λ m. nat_lt (latest cast.packets.sent start (n ∷ older)) (due_at cast m)) (known cast r start older)))
    (map (entry_of cast) (cond (is_new cast r start n older) (names_made_known cast (held cast.packets r start (n ∷ older)) n) []))
    ≡ map (entry_of cast) (known cast r start (n ∷ older))
unfolding known
learn-known cast r start n older dw naming o b =
    let now : ℕ = latest cast.packets.sent start (n ∷ older) in
    let left : List ℕ = filter (λ m. nat_lt now (due_at cast m)) (known cast r start older) in
    let ms : List ℕ = cond (is_new cast r start n older) (names_made_known cast (held cast.packets r start (n ∷ older)) n) [] in
    let live : ℕ → Bool = λ k. is_named cast r.delay (n ∷ older) k && nat_lt now (due_at cast k) in
    let all : (k : ℕ) → occurrences k (learned left ms) ≡ as_number (live k) = λ k. occurrences-known cast r start (n ∷ older) k dw naming o b in
    learn-map cast r now live left ms naming
    (λ k t.
    let p = and_parts (is_named cast r.delay (n ∷ older) k) (nat_lt now (due_at cast k)) t in
    let f = named_facts cast r start (n ∷ older) k naming p.0 in
    let l = ltb-true now (due_at cast k) p.1 in
    (f.known, is_after-low (due_at cast k) now (omega (arith, f.soon)) (omega arith) ∙ p.1))
    (λ ys h. few_live cast r start (n ∷ older) ys naming h)
    (λ k. omega (arith, learned-more k left ms, all k))
    (λ k m. as_number-true (live k) (omega (arith, all k, occurrences-learned k left ms, ap (λ x. cond x (max 1 (occurrences k left)) (occurrences k left)) m)))

pub entries-known : (names_by : List Heard → Heard → List Entry) (cast : NamedCast) (r : Params) (start : ℕ) (hist : List ℕ) → IsSound cast.packets r → IsNaming cast r → IsTelling names_by cast
    → AreOf cast.packets.sent hist → Begins cast.packets.sent start hist → IsNear cast.packets.sent start hist
    → entries names_by r (low start) (map (heard_of cast.packets) hist) ≡ map (entry_of cast) (known cast r start hist)
unfolding entries is_new
entries-known names_by cast r start [] sound naming telling o b near = unfold known in refl
entries-known names_by cast r start (n ∷ older) sound naming telling o b near =
    let p : SentPackets = cast.packets in
    let h : Heard = heard_of p n in
    let now : ℕ = latest p.sent start (n ∷ older) in
    let bo = begins-older p start n older b in
    let rest' : List ℕ = within p r now (held p r start older) in
    let t : Bool = nat_le now (sent_at p.sent n + r.delay) in
    let a : Bool = list_any (λ k. k == n) rest' in
    let c0 = clock-low p start older near.0 in
    let c1 = clock-low p start (n ∷ older) near in
    let g = goes p r start n older sound o b near (kept-held p r start older sound o.1 bo near.0) in
    let ih = entries-known names_by cast r start older sound naming telling o.1 bo near.0 in
    let forgotten : forget (clock (low start) (map (heard_of p) older)) (clock (low start) (map (heard_of p) (n ∷ older))) (entries names_by r (low start) (map (heard_of p) older))
    ≡ map (entry_of cast) (filter (λ m. nat_lt now (due_at cast m)) (known cast r start older)) =
    (λ i. forget (c0 i) (c1 i) (ih i)) ∙ forget-map cast r start n older sound.short_delay naming o.1 bo near in
    let told : names_if_stored (outcome r (clock (low start) (map (heard_of p) (n ∷ older))) (still_kept r (clock (low start) (map (heard_of p) (n ∷ older))) (kept r (low start) (map (heard_of p) older))) h) (names_by (kept r (low start) (map (heard_of p) (n ∷ older))) h)
    ≡ map (entry_of cast) (cond (t && not a) (names_made_known cast (held p r start (n ∷ older)) n) []) =
    (λ i. names_if_stored (((λ j. outcome r (c1 j) (g.rest j) h) ∙ g.fated) i) (names_by (g.next_number i) h))
    ∙ (names_if_stored-cond t a (names_by (map (heard_of p) (held p r start (n ∷ older))) h)
    ∙ names_by-new names_by cast r start n older telling sound.short_delay o b (t && not a) refl) in
    (λ i. learn (c1 i) (forgotten i) (told i)) ∙ learn-known cast r start n older sound.short_delay naming o b
