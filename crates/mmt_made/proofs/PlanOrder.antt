-- Packets in the order of a cast: none comes before the one before it, and each packet's number is how many before it have its packet id, where those of a packet id are planned in the order of their ticks.
use Rattle.std.proofs.Common.{◌≡◌, ℕ, ◌+◌, ◌<◌, ◌≤◌, ◌==◌, ◌&&◌, ◌||◌, nat_lt, zero, suc, Bool, true, false, ◌⊎◌, inl, inr, cond, List, [], ◌∷◌, ◌++◌, length, get_or, take, count_by, None, arith, refl, ap, sym, ◌∙◌, ⊎_elim, subst, true≢false, append_assoc}
use Rattle.std.specs.List.{AllByRecursion}
use Rattle.std.proofs.lemmas.Bool.{and_from, and_left, and_right, cases_eq, cases_lt, eq-eqb, eqb-true, le-ltb, lt-ltb, ltb-true, ne_eqb}
use Rattle.std.proofs.lemmas.List.{append-nil}
use Rattle.std.proofs.lemmas.List.Sums.{sum_by-cons}
use Rattle.mmt_cast.proofs.Listing.{IsIn, each-at, each-from, each-in, each-sort, each-weaker}
use Rattle.mmt_cast.proofs.Numbering.{below-all, count-append, flat, from-earlier}
use Rattle.mmt_cast.proofs.Ordering.{Comparable, InOrder, from-sort, order-sort, sent-order}
use Rattle.mmt_cast.specs.Casting.{cast_of, count_of_id, is_sent_before, numbered_after, planned, with_number}
use Rattle.mmt_cast.specs.Sending.{sendings}
use Rattle.mmt_model.proofs.Preceding.{before-either}
use Rattle.mmt_model.specs.Admission.{count_before, fault_of_number, unless}
use Rattle.mmt_model.specs.Handing.{precedes}
use Rattle.mmt_model.specs.Sorted.{insert_by, sort_by}
use Rattle.mmt_model.specs.Survival.{no_packet, sent_at}
use Rattle.mmt_model.specs.declared.casts.Sent.{Sent}
use Rattle.mmt_model.specs.declared.programmes.Programme.{Programme}

-- ---- pairs

-- what holds of each item and each later one
abbrev pub Pairs : {X : Type 0} → (X → X → Type 0) → List X → Type 0
Pairs R [] = Unit {0}
Pairs R (x ∷ xs) = AllByRecursion (R x) xs × Pairs R xs

pub pairs-append : {X : Type 0} (R : X → X → Type 0) (xs ys : List X) → Pairs R xs → Pairs R ys → ((x y : X) → IsIn x xs → IsIn y ys → R x y) → Pairs R (xs ++ ys)
pairs-append R [] ys a b h = b
pairs-append {X} R (x ∷ xs) ys a b h = (both xs ys a.0 (each-from (R x) ys (λ y i. h x y (inl refl) i)), pairs-append R xs ys a.1 b (λ z y i j. h z y (inr i) j))
  where
    both : (xs ys : List X) → AllByRecursion (R x) xs → AllByRecursion (R x) ys → AllByRecursion (R x) (xs ++ ys)
    both [] ys a b = b
    both (z ∷ xs) ys a b = (a.0, both xs ys a.1 b)

pub pairs-weaker : {X : Type 0} (R S : X → X → Type 0) (xs : List X) → ((x y : X) → R x y → S x y) → Pairs R xs → Pairs S xs
pairs-weaker R S [] h p = tt
pairs-weaker R S (x ∷ xs) h p = (each-weaker (R x) (S x) xs (h x) p.0, pairs-weaker R S xs h p.1)

-- of two items one stands before the other, or they are one
pairs-in : {X : Type 0} (R : X → X → Type 0) (xs : List X) (p q : X) → Pairs R xs → IsIn p xs → IsIn q xs → (R p q) ⊎ ((p ≡ q) ⊎ (R q p))
pairs-in R [] p q h i j = absurd i
pairs-in R (x ∷ xs) p q h (inl e) (inl e') = inr (inl (sym e ∙ e'))
pairs-in R (x ∷ xs) p q h (inl e) (inr j) = inl (subst (λ w. R w q) e (each-in (R x) q xs h.0 j))
pairs-in R (x ∷ xs) p q h (inr i) (inl e) = inr (inr (subst (λ w. R w p) e (each-in (R x) p xs h.0 i)))
pairs-in R (x ∷ xs) p q h (inr i) (inr j) = pairs-in R xs p q h.1 i j

pub each-both : {X : Type 0} (P Q : X → Type 0) (xs : List X) → AllByRecursion P xs → AllByRecursion Q xs → AllByRecursion (λ x. P x × Q x) xs
each-both P Q [] a b = tt
each-both P Q (x ∷ xs) a b = ((a.0, b.0), each-both P Q xs a.1 b.1)

-- ---- the order of a cast

pub before-at : (p q : Sent) → is_sent_before p q ≡ true → p.at.0 ≤ q.at.0
unfolding is_sent_before precedes
before-at p q e = go (nat_lt p.at.0 q.at.0) refl (p.at.0 == q.at.0) refl _ e
  where
    go : (a : Bool) → nat_lt p.at.0 q.at.0 ≡ a → (b : Bool) → (p.at.0 == q.at.0) ≡ b → (c : Bool) → (a || (b && c)) ≡ true → p.at.0 ≤ q.at.0
    go true l b e c t = omega (arith, ltb-true p.at.0 q.at.0 l)
    go false l true e c t = omega (arith, eqb-true p.at.0 q.at.0 e)
    go false l false e c t = absurd (true≢false (sym t))

before-by : (p q : Sent) → p.at.0 ≡ q.at.0 → p.packet_id ≡ q.packet_id → p.number < q.number → is_sent_before p q ≡ true
unfolding is_sent_before precedes
before-by p q a i n = go (nat_lt p.at.0 q.at.0) (nat_lt p.packet_id q.packet_id) (eq-eqb p.at.0 q.at.0 a) (eq-eqb p.packet_id q.packet_id i) (lt-ltb p.number q.number n)
  where
    go : (x y : Bool) → (p.at.0 == q.at.0) ≡ true → (p.packet_id == q.packet_id) ≡ true → nat_lt p.number q.number ≡ true
        → (x || ((p.at.0 == q.at.0) && (y || ((p.packet_id == q.packet_id) && (nat_lt p.number q.number || ((p.number == q.number) && false)))))) ≡ true
    go true y ea ei en = refl
    go false true ea ei en = rw ea refl
    go false false ea ei en = rw (ea, ei, en) refl

either-way : (p q : Sent) → (p.packet_id ≡ q.packet_id → p.number < q.number) → (is_sent_before p q ≡ true) ⊎ (is_sent_before q p ≡ true)
unfolding is_sent_before
either-way p q h =
    before-either (p.at.0 ∷ p.packet_id ∷ p.number ∷ []) (q.at.0 ∷ q.packet_id ∷ q.number ∷ []) refl
    (λ e. (let n : p.number ≡ q.number = cc in let i : p.packet_id ≡ q.packet_id = cc in omega (arith, h i, n)))

count-one : (i : ℕ) (x : Sent) → count_of_id i (x ∷ []) ≡ cond (x.packet_id == i) 1 0
unfolding count_of_id
count-one i x = go (x.packet_id == i)
  where
    go : (t : Bool) → 0 + cond t 1 0 ≡ cond t 1 0
    go true = refl
    go false = refl

pub one-own : (i : ℕ) (x : Sent) → x.packet_id ≡ i → count_of_id i (x ∷ []) ≡ 1
one-own i x e = count-one i x ∙ ap (λ (t : Bool). cond t 1 0) (eq-eqb x.packet_id i e)

comparable : (e xs : List Sent) → Comparable is_sent_before (numbered_after e xs)
unfolding numbered_after with_number
comparable e [] = tt
comparable e (x ∷ xs) =
    let first : Sent = with_number x (count_of_id x.packet_id e) in (
      each-weaker (λ q. count_of_id q.packet_id (e ++ x ∷ []) ≤ q.number) (λ q. (is_sent_before first q ≡ true) ⊎ (is_sent_before q first ≡ true)) (numbered_after (e ++ x ∷ []) xs)
          (λ q l. either-way first q (λ i. omega (arith, l, count-append x.packet_id e (x ∷ []), one-own x.packet_id x refl, ap (λ k. count_of_id k (e ++ x ∷ [])) i))) (from-earlier (e ++ x ∷ []) xs),
      comparable (e ++ x ∷ []) xs,
    )

-- the packets of a cast are in order
pub in-order : (programme : Programme) → InOrder is_sent_before (cast_of programme).packets
unfolding cast_of planned
in-order programme = order-sort is_sent_before sent-order (planned programme) (comparable [] (flat programme (sendings programme)))

ordered-at : (ps : List Sent) (n : ℕ) → InOrder is_sent_before ps → suc n < length ps → sent_at ps n ≤ sent_at ps (suc n)
unfolding sent_at
ordered-at [] n o l = absurd (omega arith)
ordered-at (x ∷ []) n o l = absurd (omega arith)
ordered-at (x ∷ y ∷ ps) zero o l = before-at x y o.0.0
ordered-at (x ∷ y ∷ ps) (suc n) o l = ordered-at (y ∷ ps) n o.1 (omega arith)

-- no packet of a cast is sent before the one before it
pub sent-in-order : (programme : Programme) (n : ℕ) → suc n < length (cast_of programme).packets → sent_at (cast_of programme).packets n ≤ sent_at (cast_of programme).packets (suc n)
sent-in-order programme n l = ordered-at (cast_of programme).packets n (in-order programme) l

-- ---- numbers in the order of the plan

-- of two packets of one packet id the first is not sent later
abbrev pub Rising : Sent → Sent → Type 0
Rising p q = p.packet_id ≡ q.packet_id → p.at.0 ≤ q.at.0

abbrev Lower : Sent → Sent → Type 0
Lower p q = p.packet_id ≡ q.packet_id → p.number < q.number

abbrev Climbing : Sent → Sent → Type 0
Climbing p q = p.packet_id ≡ q.packet_id → (p.number < q.number) × (p.at.0 ≤ q.at.0)

pub numbered-each : (P : Sent → Type 0) → ((p : Sent) (n : ℕ) → P p → P (with_number p n)) → (e xs : List Sent) → AllByRecursion P xs → AllByRecursion P (numbered_after e xs)
unfolding numbered_after
numbered-each P keep e [] h = tt
numbered-each P keep e (x ∷ xs) h = (keep x (count_of_id x.packet_id e) h.0, numbered-each P keep (e ++ x ∷ []) xs h.1)

climbing : (e xs : List Sent) → Pairs Rising xs → Pairs Climbing (numbered_after e xs)
unfolding numbered_after with_number
climbing e [] h = tt
climbing e (x ∷ xs) h =
    let first : Sent = with_number x (count_of_id x.packet_id e) in (
      each-weaker (λ q. Rising x q × (count_of_id q.packet_id (e ++ x ∷ []) ≤ q.number)) (Climbing first) (numbered_after (e ++ x ∷ []) xs)
          (λ q both same. (omega (arith, both.1, count-append x.packet_id e (x ∷ []), one-own x.packet_id x refl, ap (λ i. count_of_id i (e ++ x ∷ [])) same), both.0 same))
          (each-both (Rising x) (λ q. count_of_id q.packet_id (e ++ x ∷ []) ≤ q.number) (numbered_after (e ++ x ∷ []) xs)
          (numbered-each (Rising x) (λ p n r. r) (e ++ x ∷ []) xs h.0) (from-earlier (e ++ x ∷ []) xs)),
      climbing (e ++ x ∷ []) xs h.1,
    )

-- ---- counting lower numbers

-- a packet has this packet id and a lower number
abbrev is_lower : ℕ → ℕ → Sent → Bool
is_lower i m p = (p.packet_id == i) && nat_lt p.number m

count-yes : {X : Type 0} (t : X → Bool) (x : X) (xs : List X) → t x ≡ true → count_by t (x ∷ xs) ≡ 1 + count_by t xs
count-yes t x xs e = sum_by-cons (λ y. cond (t y) 1 0) x xs ∙ ap (λ (b : Bool). cond b 1 0 + count_by t xs) e

count-no : {X : Type 0} (t : X → Bool) (x : X) (xs : List X) → t x ≡ false → count_by t (x ∷ xs) ≡ 0 + count_by t xs
count-no t x xs e = sum_by-cons (λ y. cond (t y) 1 0) x xs ∙ ap (λ (b : Bool). cond b 1 0 + count_by t xs) e

none-lower : (i m : ℕ) (xs : List Sent) → AllByRecursion (λ q. q.packet_id ≡ i → m ≤ q.number) xs → count_by (is_lower i m) xs ≡ 0
none-lower i m [] h = refl
none-lower i m (x ∷ xs) h =
    omega (
      arith,
      count-no (is_lower i m) x xs
          (⊎_elim
          (λ (same : x.packet_id ≡ i). and_right (x.packet_id == i) (nat_lt x.number m) (le-ltb x.number m (h.0 same)))
          (λ (ne : x.packet_id ≡ i → ⊥). and_left (x.packet_id == i) (nat_lt x.number m) (ne_eqb x.packet_id i ne))
          (cases_eq x.packet_id i)),
      none-lower i m xs h.1,
    )

count-lower : (i m : ℕ) (e xs : List Sent) → count_of_id i e ≤ m → m ≤ count_of_id i (e ++ xs) → count_of_id i e + count_by (is_lower i m) (numbered_after e xs) ≡ m
unfolding numbered_after with_number
count-lower i m e [] lo hi = omega (arith, lo, hi, ap (count_of_id i) (append-nil e))
count-lower i m e (x ∷ xs) lo hi =
    let first : Sent = with_number x (count_of_id x.packet_id e) in
    let rest : List Sent = numbered_after (e ++ x ∷ []) xs in
    let more : count_of_id i (e ++ x ∷ []) ≡ count_of_id i e + cond (x.packet_id == i) 1 0 = count-append i e (x ∷ []) ∙ ap (λ n. count_of_id i e + n) (count-one i x) in
    let hi' : m ≤ count_of_id i ((e ++ x ∷ []) ++ xs) = subst (λ l. m ≤ count_of_id i l) (sym (append_assoc e (x ∷ []) xs)) hi in
    ⊎_elim
    (λ (same : x.packet_id ≡ i).
    (let one : count_of_id i (e ++ x ∷ []) ≡ count_of_id i e + 1 = more ∙ ap (λ (t : Bool). count_of_id i e + cond t 1 0) (eq-eqb x.packet_id i same) in
    let number : count_of_id x.packet_id e ≡ count_of_id i e = ap (λ k. count_of_id k e) same in
    ⊎_elim
    (λ (lt : count_of_id i e < m).
    omega (
      arith,
      count-yes (is_lower i m) first rest (and_from (x.packet_id == i) (nat_lt (count_of_id x.packet_id e) m) (eq-eqb x.packet_id i same) (lt-ltb (count_of_id x.packet_id e) m (omega (arith, lt, number)))),
      count-lower i m (e ++ x ∷ []) xs (omega (arith, one, lt)) hi',
      one,
    ))
    (λ (ge : m ≤ count_of_id i e).
    omega (
      arith,
      lo,
      ge,
      none-lower i m (first ∷ rest)
          ((λ s. omega (arith, ge, number)), each-weaker (λ q. count_of_id q.packet_id (e ++ x ∷ []) ≤ q.number) (λ q. q.packet_id ≡ i → m ≤ q.number) rest (λ q l s. omega (arith, l, ge, one, ap (λ k. count_of_id k (e ++ x ∷ [])) s)) (from-earlier (e ++ x ∷ []) xs)),
    ))
    (cases_lt (count_of_id i e) m)))
    (λ (ne : x.packet_id ≡ i → ⊥).
    (let none : count_of_id i (e ++ x ∷ []) ≡ count_of_id i e + 0 = more ∙ ap (λ (t : Bool). count_of_id i e + cond t 1 0) (ne_eqb x.packet_id i ne) in
    omega (
      arith,
      count-no (is_lower i m) first rest (and_left (x.packet_id == i) (nat_lt (count_of_id x.packet_id e) m) (ne_eqb x.packet_id i ne)),
      count-lower i m (e ++ x ∷ []) xs (omega (arith, none, lo)) hi',
      none,
    )))
    (cases_eq x.packet_id i)

-- ---- numbers in the order of a cast

lower-from : (programme : Programme) → Pairs Climbing (planned programme) → (ps : List Sent) → InOrder is_sent_before ps → ((p : Sent) → IsIn p ps → IsIn p (planned programme)) → Pairs Lower ps
lower-from programme climb [] o in_plan = tt
lower-from programme climb (x ∷ xs) o in_plan = (
  each-from (Lower x) xs
      (λ q i same.
      (let first : is_sent_before x q ≡ true = each-in (λ w. is_sent_before x w ≡ true) q xs o.0 i in
      ⊎_elim (λ (c : Climbing x q). (c same).0)
      (λ (other : (x ≡ q) ⊎ Climbing q x).
      ⊎_elim (λ (e : x ≡ q). (let loop : is_sent_before x x ≡ true = subst (λ w. is_sent_before x w ≡ true) (sym e) first in absurd (sent-order.one_way x x loop loop)))
      (λ (c : Climbing q x).
      (let up = c (sym same) in
      absurd (sent-order.one_way x q first (before-by q x (omega (arith, up.1, before-at x q first)) (sym same) up.0))))
      other)
      (pairs-in Climbing (planned programme) x q climb (in_plan x (inl refl)) (in_plan q (inr i))))),
  lower-from programme climb xs o.1 (λ p i. in_plan p (inr i)),
)

count-place : (ps : List Sent) (n : ℕ) → Pairs Lower ps → n < length ps
    → count_by (λ (p : Sent). p.packet_id == (get_or ps n no_packet).packet_id) (take n ps) ≡ count_by (is_lower (get_or ps n no_packet).packet_id (get_or ps n no_packet).number) ps
count-place [] n h l = absurd (omega arith)
count-place (x ∷ xs) zero h l =
    sym
    (none-lower x.packet_id x.number (x ∷ xs)
    ((λ s. omega arith), each-weaker (Lower x) (λ q. q.packet_id ≡ x.packet_id → x.number ≤ q.number) xs (λ q low s. omega (arith, low (sym s))) h.0))
count-place (x ∷ xs) (suc n) h l =
    let p : Sent = get_or xs n no_packet in
    let low : Lower x p = each-at (Lower x) xs n no_packet h.0 (omega arith) in
    let ih = count-place xs n h.1 (omega arith) in
    ⊎_elim
    (λ (same : x.packet_id ≡ p.packet_id).
    omega (
      arith,
      ih,
      count-yes (λ (q : Sent). q.packet_id == p.packet_id) x (take n xs) (eq-eqb x.packet_id p.packet_id same),
      count-yes (is_lower p.packet_id p.number) x xs (and_from (x.packet_id == p.packet_id) (nat_lt x.number p.number) (eq-eqb x.packet_id p.packet_id same) (lt-ltb x.number p.number (low same))),
    ))
    (λ (ne : x.packet_id ≡ p.packet_id → ⊥).
    omega (
      arith,
      ih,
      count-no (λ (q : Sent). q.packet_id == p.packet_id) x (take n xs) (ne_eqb x.packet_id p.packet_id ne),
      count-no (is_lower p.packet_id p.number) x xs (and_left (x.packet_id == p.packet_id) (nat_lt x.number p.number) (ne_eqb x.packet_id p.packet_id ne)),
    ))
    (cases_eq x.packet_id p.packet_id)

count-insert : {X : Type 0} (t : X → Bool) (before : X → X → Bool) (x : X) (xs : List X) → count_by t (insert_by before x xs) ≡ count_by t (x ∷ xs)
unfolding insert_by
count-insert t before x [] = refl
count-insert {X} t before x (y ∷ ys) = go (before y x) (count-insert t before x ys)
  where
    go : (b : Bool) → count_by t (insert_by before x ys) ≡ count_by t (x ∷ ys) → count_by t (cond b (y ∷ insert_by before x ys) (x ∷ y ∷ ys)) ≡ count_by t (x ∷ y ∷ ys)
    go true ih =
        omega (
          arith,
          ih,
          sum_by-cons (λ z. cond (t z) 1 0) y (insert_by before x ys),
          sum_by-cons (λ z. cond (t z) 1 0) x ys,
          sum_by-cons (λ z. cond (t z) 1 0) x (y ∷ ys),
          sum_by-cons (λ z. cond (t z) 1 0) y ys,
        )
    go false ih = refl

count-sort : {X : Type 0} (t : X → Bool) (before : X → X → Bool) (xs : List X) → count_by t (sort_by before xs) ≡ count_by t xs
unfolding sort_by
count-sort t before [] = refl
count-sort t before (x ∷ xs) =
    omega (arith, count-insert t before x (sort_by before xs), count-sort t before xs, sum_by-cons (λ z. cond (t z) 1 0) x (sort_by before xs), sum_by-cons (λ z. cond (t z) 1 0) x xs)

pub none-yet : (i : ℕ) → count_of_id i [] ≡ 0
unfolding count_of_id
none-yet i = refl

-- rule 3: where the packets of each packet id are planned in the order of their ticks, each packet's number is the count of earlier packets of its packet id
pub numbers-pass : (programme : Programme) → Pairs Rising (flat programme (sendings programme)) → (n : ℕ) → n < length (cast_of programme).packets → fault_of_number (cast_of programme).packets n ≡ None
unfolding cast_of planned fault_of_number count_before
numbers-pass programme rising n l =
    let xs : List Sent = flat programme (sendings programme) in
    let plan : List Sent = numbered_after [] xs in
    let ps : List Sent = sort_by is_sent_before plan in
    let p : Sent = get_or ps n no_packet in
    let lower : Pairs Lower ps = lower-from programme (climbing [] xs rising) ps (in-order programme) (λ q i. from-sort is_sent_before q plan i) in
    let below : p.number < count_of_id p.packet_id xs = each-at (λ q. q.number < count_of_id q.packet_id xs) ps n no_packet (each-sort (λ q. q.number < count_of_id q.packet_id xs) is_sent_before plan (below-all [] xs)) l in
    let is : p.number ≡ count_by (λ (q : Sent). q.packet_id == p.packet_id) (take n ps) =
    omega (arith, count-place ps n lower l, count-sort (is_lower p.packet_id p.number) is_sent_before plan, count-lower p.packet_id p.number [] xs (omega (arith, none-yet p.packet_id)) (omega (arith, below)), none-yet p.packet_id) in
    ap (λ (t : Bool). unless t 3 n p.number (count_by (λ (q : Sent). q.packet_id == p.packet_id) (take n ps))) (eq-eqb p.number (count_by (λ (q : Sent). q.packet_id == p.packet_id) (take n ps)) is)
