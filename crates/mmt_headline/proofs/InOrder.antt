-- Each packet of a cast once and in its order: what is near, survives and counts.
use Rattle.std.proofs.Common.{◌≡◌, ◌⊎◌, inl, inr, ℕ, zero, suc, ◌+◌, ◌%◌, ◌<◌, ◌≤◌, Bool, true, false, not, ◌&&◌, ◌||◌, ◌==◌, nat_lt, nat_le, cond, max, min, List, [], ◌∷◌, ◌++◌, length, get_or, Option, Some, None, arith, refl, ap, ap₂, sym, subst, ◌∙◌, ⊎_elim, le_refl}
use Rattle.std.specs.List.{AllByRecursion, filter, list_all}
use Rattle.std.proofs.lemmas.Bool.{cases_eq, cases_lt, eq-eqb, eqb-true, and_from, and_parts, ltb-true, leb-true, lt-ltb, le-ltb, or_right}
use Rattle.mmt_cast.proofs.Listing.{each-append, each-weaker}
use Rattle.mmt_model.proofs.Newest.{newest_more}
use Rattle.mmt_model.specs.Admission.{Fault, fault, fault_of_copy, fault_of_gap, fault_of_key, fault_of_live, fault_of_load, fault_of_number, fault_of_params, fault_of_start, fault_of_unit, first_below, first_parameters, has_parameters, or_else, unless}
use Rattle.mmt_model.specs.Broadcast.{NamedCast}
use Rattle.mmt_model.specs.Carrying.{last_of_places, least_with, named_from_of, no_table_copy, numbers}
use Rattle.mmt_model.specs.Counts.{member}
use Rattle.mmt_model.specs.Delivery.{NearAfter, NearDelivery, from_first, from_heard, newest_first, onto}
use Rattle.mmt_model.specs.Expected.{is_complete, is_counted, places}
use Rattle.mmt_model.specs.Received.{tuned_places, tunes_at}
use Rattle.mmt_model.specs.Survival.{AreOf, is_overtaken, no_packet, sent_at, survives}
use Rattle.mmt_model.specs.declared.casts.Cast.{Cast}
use Rattle.mmt_model.specs.declared.casts.Sent.{Sent}
use Rattle.mmt_model.specs.declared.casts.TableCopy.{TableCopy}

-- ---- what admission says of packets in their order

none-first : (a b : Option Fault) → or_else a b ≡ None → a ≡ None
none-first None b e = refl
none-first (Some f) b e = absurd cc

none-later : (a b : Option Fault) → or_else a b ≡ None → b ≡ None
none-later None b e = e
none-later (Some f) b e = absurd cc

pub none-unless : (t : Bool) (rule number found allowed : ℕ) → unless t rule number found allowed ≡ None → t ≡ true
none-unless true rule number found allowed e = refl
none-unless false rule number found allowed e = absurd cc

-- a timestamp is not below the one before it, and less than 2^30 ticks above it
abbrev pub Rise : List Sent → Type 0
Rise packets = (n : ℕ) → n + 1 < length packets → (sent_at packets n ≤ sent_at packets (n + 1)) × (sent_at packets (n + 1) < sent_at packets n + 1073741824)

gap-of : (packets : List Sent) (n : ℕ) → fault_of_gap packets (suc n) ≡ None → (sent_at packets n ≤ sent_at packets (suc n)) × (sent_at packets (suc n) < sent_at packets n + 1073741824)
unfolding fault_of_gap
gap-of packets n e = (
  leb-true (sent_at packets n) (sent_at packets (suc n)) (none-unless (nat_le (sent_at packets n) (sent_at packets (suc n))) 2 (suc n) _ _ (none-first _ _ e)),
  ltb-true (sent_at packets (suc n)) (sent_at packets n + 1073741824) (none-unless (nat_lt (sent_at packets (suc n)) (sent_at packets n + 1073741824)) 2 (suc n) _ _ (none-later _ _ e)),
)

pub rise-of : (packets : List Sent) → ((n : ℕ) → n < length packets → fault_of_gap packets n ≡ None) → Rise packets
rise-of packets gap n l =
    let e : suc n ≡ n + 1 = omega arith in
    subst (λ (k : ℕ). (sent_at packets n ≤ sent_at packets k) × (sent_at packets k < sent_at packets n + 1073741824)) e (gap-of packets n (gap (suc n) (omega (arith, l))))

-- packet 0 is there and carries a buffer message
pub starts : (packets : List Sent) → fault_of_start packets ≡ None → (0 < length packets) × (has_parameters (get_or packets 0 no_packet).carries ≡ true)
unfolding fault_of_start first_parameters
starts [] e = absurd cc
starts (p ∷ ps) e = (omega arith, go (has_parameters p.carries) refl (none-unless (nat_lt 0 (length (p ∷ ps)) && (first_parameters (p ∷ ps) == 0)) 9 0 _ 0 e))
  where
    go : (b : Bool) → has_parameters p.carries ≡ b → (nat_lt 0 (suc (length ps)) && (cond (has_parameters p.carries) 0 (suc (first_parameters ps)) == 0)) ≡ true → has_parameters p.carries ≡ true
    go true is e = is
    go false is e = absurd (let h : (nat_lt 0 (suc (length ps)) && (cond false 0 (suc (first_parameters ps)) == 0)) ≡ true = subst (λ (b : Bool). (nat_lt 0 (suc (length ps)) && (cond b 0 (suc (first_parameters ps)) == 0)) ≡ true) is e in omega (arith, eqb-true (suc (first_parameters ps)) 0 (and_parts (nat_lt 0 (suc (length ps))) (suc (first_parameters ps) == 0) h).1))

pub start-of : (cast : Cast) → fault cast ≡ None → fault_of_start cast.packets ≡ None
unfolding fault
start-of cast e1 =
    let e2 = none-later (fault_of_params cast.params) _ e1 in
    let e3 = none-later (first_below (fault_of_gap cast.packets) (length cast.packets)) _ e2 in
    let e4 = none-later (first_below (fault_of_number cast.packets) (length cast.packets)) _ e3 in
    let e5 = none-later (first_below (fault_of_unit cast) (length cast.units)) _ e4 in
    let e6 = none-later (first_below (fault_of_copy cast) (length cast.copies)) _ e5 in
    let e7 = none-later (first_below (fault_of_load cast) (length cast.packets)) _ e6 in
    let e8 = none-later (first_below (fault_of_live cast) (length cast.copies)) _ e7 in
    let e9 = none-later (first_below (fault_of_key cast) (length cast.units)) _ e8 in
    none-first (fault_of_start cast.packets) _ e9

-- ---- lists of places

numbers-last : (a c : ℕ) → numbers a (suc c) ≡ numbers a c ++ (a + c) ∷ []
unfolding numbers
numbers-last a zero = let e : a + 0 ≡ a = omega arith in ap (λ (k : ℕ). k ∷ []) (sym e)
numbers-last a (suc c) = let e : a + 1 + c ≡ a + suc c = omega arith in ap (λ (l : List ℕ). a ∷ l) (numbers-last (a + 1) c ∙ ap (λ (k : ℕ). numbers (a + 1) c ++ k ∷ []) e)

-- the places below n, the newest first
unfoldable pub down : ℕ → List ℕ
down zero = []
down (suc n) = n ∷ down n

pub down-is : (n : ℕ) → newest_first (numbers 0 n) ≡ down n
unfolding down newest_first onto numbers
down-is zero = refl
down-is (suc n) = let e : 0 + n ≡ n = omega arith in ap newest_first (numbers-last 0 n) ∙ newest_more (numbers 0 n) (0 + n) ∙ ap₂ (λ (k : ℕ) (l : List ℕ). k ∷ l) e (down-is n)

pub numbers-of : (packets : List Sent) (a c : ℕ) → a + c ≤ length packets → AreOf packets (numbers a c)
unfolding numbers
numbers-of packets a zero l = tt
numbers-of packets a (suc c) l = (omega (arith, l), numbers-of packets (a + 1) c (omega (arith, l)))

pub places-below : (n : ℕ) → AllByRecursion (λ (u : ℕ). u < n) (places n)
unfolding places
places-below zero = tt
places-below (suc n) = each-append (λ (u : ℕ). u < suc n) (places n) (n ∷ []) (each-weaker (λ (u : ℕ). u < n) (λ (u : ℕ). u < suc n) (places n) (λ u l. omega (arith, l)) (places-below n)) (omega arith, tt)

pub filter-all : (p : ℕ → Bool) (ns : List ℕ) → AllByRecursion (λ (n : ℕ). p n ≡ true) ns → filter p ns ≡ ns
filter-all p [] h = refl
filter-all p (n ∷ ns) h = rw (h.0, filter-all p ns h.1) refl

-- ---- near

near-after : (packets : List Sent) → Rise packets → (k c : ℕ) → k + c < length packets → NearAfter packets (sent_at packets k) (numbers (k + 1) c)
unfolding numbers
near-after packets rise k zero l = tt
near-after packets rise k (suc c) l =
    let g = rise k (omega (arith, l)) in
    let e : sent_at packets (k + 1) ≡ max (sent_at packets k) (sent_at packets (k + 1)) = omega (arith, g.0) in (
      omega (arith, g.1),
      omega (arith, g.0),
      subst (λ (t : ℕ). NearAfter packets t (numbers (k + 1 + 1) c)) e (near-after packets rise (k + 1) c (omega (arith, l))),
    )

pub near-in-order : (packets : List Sent) → Rise packets → (n : ℕ) → n ≤ length packets → NearDelivery packets (numbers 0 n)
unfolding numbers
near-in-order packets rise zero l = tt
near-in-order packets rise (suc n) l = near-after packets rise 0 n (omega (arith, l))

full-first : (f : ℕ) → ((f == 0) || (0 % f == 0)) ≡ true
full-first zero = refl
full-first (suc f) = let e : 0 % suc f ≡ 0 = grind arith in or_right (suc f == 0) (0 % suc f == 0) (eq-eqb (0 % suc f) 0 e)

pub tuned-in-order : (cast : Cast) (full_every n : ℕ) → 0 < n → has_parameters (get_or cast.packets 0 no_packet).carries ≡ true → tuned_places cast full_every (numbers 0 n) ≡ numbers 0 n
unfolding tuned_places tunes_at from_heard from_first numbers
tuned-in-order cast full_every zero some tunes = absurd (omega (arith, some))
tuned-in-order cast full_every (suc n) some tunes = rw (full-first full_every, tunes) refl

-- ---- survival

pub rises : (packets : List Sent) → Rise packets → (j k : ℕ) → j ≤ k → k < length packets → sent_at packets j ≤ sent_at packets k
rises packets rise j zero l b = let e : 0 ≡ j = omega (arith, l) in subst (λ (i : ℕ). sent_at packets i ≤ sent_at packets 0) e (le_refl (sent_at packets 0))
rises packets rise j (suc k) l b =
    ⊎_elim
    (λ (same : j ≡ suc k). subst (λ (i : ℕ). sent_at packets i ≤ sent_at packets (suc k)) (sym same) (le_refl (sent_at packets (suc k))))
    (λ (ne : j ≡ suc k → ⊥).
    let less : j ≤ k = ⊎_elim (λ (lt : j < suc k). (let h : j ≤ k = omega (arith, lt) in h)) (λ (ge : suc k ≤ j). absurd (ne (omega (arith, ge, l)))) (cases_lt j (suc k)) in
    let e : k + 1 ≡ suc k = omega arith in
    let step : sent_at packets k ≤ sent_at packets (suc k) = subst (λ (i : ℕ). sent_at packets k ≤ sent_at packets i) e (rise k (omega (arith, b))).0 in
    omega (arith, step, rises packets rise j k less (omega (arith, b))))
    (cases_eq j (suc k))

not-overtaken : (packets : List Sent) (delay : ℕ) → Rise packets → (n k : ℕ) → n ≤ k → k < length packets → is_overtaken packets delay (down n) k ≡ false
unfolding is_overtaken down
not-overtaken packets delay rise zero k l b = refl
not-overtaken packets delay rise (suc n) k l b =
    let r = rises packets rise n k (omega (arith, l)) b in
    ap₂ (λ (x y : Bool). x || y) (le-ltb (sent_at packets k + delay) (sent_at packets n) (omega (arith, r))) (not-overtaken packets delay rise n k (omega (arith, l)) b)

survives-down : (packets : List Sent) (delay : ℕ) → Rise packets → (n k : ℕ) → k < n → n ≤ length packets → survives packets delay (down n) k ≡ true
unfolding survives down
survives-down packets delay rise zero k l b = absurd (omega (arith, l))
survives-down packets delay rise (suc n) k l b =
    ⊎_elim
    (λ (same : n ≡ k). let o : is_overtaken packets delay (down n) k ≡ false = not-overtaken packets delay rise n k (omega (arith, same)) (omega (arith, l, b)) in rw (eq-eqb n k same, o) refl)
    (λ (ne : n ≡ k → ⊥).
    let less : k < n = ⊎_elim (λ (lt : k < n). lt) (λ (ge : n ≤ k). absurd (ne (omega (arith, ge, l)))) (cases_lt k n) in
    or_right ((n == k) && not (is_overtaken packets delay (down n) k)) (survives packets delay (down n) k) (survives-down packets delay rise n k less (omega (arith, b))))
    (cases_eq n k)

pub complete-down : (cast : NamedCast) (delay : ℕ) → Rise cast.packets.sent → (n : ℕ) → n ≤ length cast.packets.sent → (ns : List ℕ) → AllByRecursion (λ (k : ℕ). k < n) ns → is_complete cast delay (down n) ns ≡ true
unfolding is_complete
complete-down cast delay rise n b [] h = refl
complete-down cast delay rise n b (k ∷ ns) h = and_from (survives cast.packets.sent delay (down n) k) (list_all (survives cast.packets.sent delay (down n)) ns) (survives-down cast.packets.sent delay rise n k h.0 b) (complete-down cast delay rise n b ns h.1)

-- ---- which copies count

-- the greatest of these places
unfoldable top : List ℕ → ℕ
top [] = 0
top (n ∷ ns) = max n (top ns)

top-over : (ns : List ℕ) (b : ℕ) → top ns ≤ b → AllByRecursion (λ (k : ℕ). k < suc b) ns
unfolding top
top-over [] b l = tt
top-over (n ∷ ns) b l = (omega (arith, l), top-over ns b (omega (arith, l)))

top-below : (ns : List ℕ) (b : ℕ) → 0 < b → AllByRecursion (λ (k : ℕ). k < b) ns → top ns < b
unfolding top
top-below [] b some h = some
top-below (n ∷ ns) b some h = omega (arith, h.0, top-below ns b some h.1)

top-last : (packets : List Sent) (ns : List ℕ) → 0 < length ns → sent_at packets (top ns) ≤ last_of_places packets ns
unfolding top last_of_places
top-last packets [] some = absurd (omega (arith, some))
top-last packets (n ∷ []) some = let e : max n 0 ≡ n = omega arith in subst (λ (i : ℕ). sent_at packets i ≤ max (sent_at packets n) 0) (sym e) (omega arith)
top-last packets (n ∷ m ∷ ns) some = by-order (top-last packets (m ∷ ns) (omega arith)) (cases_lt n (top (m ∷ ns)))
  where
    by-order : sent_at packets (top (m ∷ ns)) ≤ last_of_places packets (m ∷ ns) → (n < top (m ∷ ns)) ⊎ (top (m ∷ ns) ≤ n) → sent_at packets (max n (top (m ∷ ns))) ≤ max (sent_at packets n) (last_of_places packets (m ∷ ns))
    by-order rest (inl lt) =
        let e : max n (top (m ∷ ns)) ≡ top (m ∷ ns) = omega (arith, lt) in
        subst (λ (i : ℕ). sent_at packets i ≤ max (sent_at packets n) (last_of_places packets (m ∷ ns))) (sym e) (omega (arith, rest))
    by-order rest (inr ge) =
        let e : max n (top (m ∷ ns)) ≡ n = omega (arith, ge) in
        subst (λ (i : ℕ). sent_at packets i ≤ max (sent_at packets n) (last_of_places packets (m ∷ ns))) (sym e) (omega arith)

all-before : (packets : List Sent) (due g : ℕ) → Rise packets → g < length packets → sent_at packets g < due → (n : ℕ) → n ≤ suc g → list_all (λ (k : ℕ). nat_lt (sent_at packets k) due) (down n) ≡ true
unfolding down
all-before packets due g rise b early zero l = refl
all-before packets due g rise b early (suc n) l =
    let r = rises packets rise n g (omega (arith, l)) b in
    and_from (nat_lt (sent_at packets n) due) (list_all (λ (k : ℕ). nat_lt (sent_at packets k) due) (down n)) (lt-ltb (sent_at packets n) due (omega (arith, r, early))) (all-before packets due g rise b early n (omega (arith, l)))

counted-on : (cast : NamedCast) (delay due : ℕ) (ms : List ℕ) (g n : ℕ) → g ≤ n → is_counted cast delay (down g) ms due ≡ true → is_counted cast delay (down n) ms due ≡ true
unfolding is_counted down
counted-on cast delay due ms g zero l c = let e : g ≡ 0 = omega (arith, l) in subst (λ (i : ℕ). is_counted cast delay (down i) ms due ≡ true) e c
counted-on cast delay due ms g (suc n) l c =
    ⊎_elim
    (λ (same : g ≡ suc n). subst (λ (i : ℕ). is_counted cast delay (down i) ms due ≡ true) same c)
    (λ (ne : g ≡ suc n → ⊥).
    let less : g ≤ n = ⊎_elim (λ (lt : g < suc n). (let h : g ≤ n = omega (arith, lt) in h)) (λ (ge : suc n ≤ g). absurd (ne (omega (arith, ge, l)))) (cases_lt g (suc n)) in
    or_right (is_complete cast delay (n ∷ down n) ms && list_all (λ (k : ℕ). nat_lt (sent_at cast.packets.sent k) due) (n ∷ down n)) (is_counted cast delay (down n) ms due) (counted-on cast delay due ms g n less c))
    (cases_eq g (suc n))

pub counted-down : (cast : NamedCast) (delay due : ℕ) (ms : List ℕ) → Rise cast.packets.sent → 0 < length ms → AllByRecursion (λ (k : ℕ). k < length cast.packets.sent) ms → last_of_places cast.packets.sent ms < due
    → is_counted cast delay (down (length cast.packets.sent)) ms due ≡ true
unfolding is_counted down
counted-down cast delay due ms rise some of early =
    let packets : List Sent = cast.packets.sent in
    let g : ℕ = top ms in
    let below : g < length packets = top-below ms (length packets) (by-some ms some of) of in
    let last = top-last packets ms some in
    let here : is_counted cast delay (down (suc g)) ms due ≡ true = and-or (is_complete cast delay (g ∷ down g) ms) (list_all (λ (k : ℕ). nat_lt (sent_at packets k) due) (g ∷ down g)) (is_counted cast delay (down g) ms due)
    (complete-down cast delay rise (suc g) (omega (arith, below)) ms (top-over ms g (le_refl g))) (all-before packets due g rise below (omega (arith, last, early)) (suc g) (le_refl (suc g))) in
    counted-on cast delay due ms (suc g) (length packets) (omega (arith, below)) here
  where
    by-some : (ns : List ℕ) → 0 < length ns → AllByRecursion (λ (k : ℕ). k < length cast.packets.sent) ns → 0 < length cast.packets.sent
    by-some [] l h = absurd (omega (arith, l))
    by-some (n ∷ ns) l h = omega (arith, h.0)

    and-or : (a b c : Bool) → a ≡ true → b ≡ true → ((a && b) || c) ≡ true
    and-or true true c h g = refl
    and-or true false c h g = absurd cc
    and-or false b c h g = absurd cc

-- some copy that names an MPU ends at the tick from which it is named
pub record IsNamedAt (m tick : ℕ) (cs : List TableCopy) : Type 0 where
  pub at : ℕ
  pub there : at < length cs
  pub names : member m (get_or cs at no_table_copy).names ≡ true
  pub ends : (get_or cs at no_table_copy).last.0 ≤ tick

pub named-at : (m tick : ℕ) (cs : List TableCopy) → named_from_of m cs ≡ Some tick → IsNamedAt m tick cs
unfolding named_from_of
named-at m tick [] e = absurd cc
named-at m tick (c ∷ cs) e = go (λ t h. named-at m t cs h) (member m c.names) refl (named_from_of m cs) refl e
  where
    later : (t : ℕ) → t ≤ tick → IsNamedAt m t cs → IsNamedAt m tick (c ∷ cs)
    later t l n = record { at = suc n.at; there = omega (arith, n.there); names = n.names; ends = omega (arith, n.ends, l) }

    here : c.last.0 ≤ tick → member m c.names ≡ true → IsNamedAt m tick (c ∷ cs)
    here l is = record { at = 0; there = omega arith; names = is; ends = l }

    number-of : (a b : ℕ) → Some a ≡ Some b → a ≡ b
    number-of a b e = cc

    go : ((t : ℕ) → named_from_of m cs ≡ Some t → IsNamedAt m t cs) → (b : Bool) → member m c.names ≡ b → (o : Option ℕ) → named_from_of m cs ≡ o → cond b (Some (least_with c.last.0 o)) o ≡ Some tick → IsNamedAt m tick (c ∷ cs)
    go among false is o same e = later tick (le_refl tick) (among tick (same ∙ e))
    go among true is None same e = here (let n = number-of c.last.0 tick e in omega (arith, n)) is
    go among true is (Some r) same e =
        let n = number-of (min c.last.0 r) tick e in
        ⊎_elim
        (λ (lt : c.last.0 < r). here (omega (arith, n, lt)) is)
        (λ (ge : r ≤ c.last.0). later r (omega (arith, n, ge)) (among r same))
        (cases_lt c.last.0 r)
