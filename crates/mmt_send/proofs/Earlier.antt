-- The table copies of a cast stand in the order of their messages: how many stand before one, and where its own stands.
use Rattle.std.proofs.Common.{◌≡◌, ℕ, zero, suc, ◌+◌, ◌-◌, ◌<◌, ◌≤◌, ◌^◌, Bool, true, false, cond, ltb, List, [], ◌∷◌, ◌++◌, length, take, get_or, arith, refl, sym, ap, ◌∙◌, subst, ⊎_elim}
use Rattle.std.proofs.lemmas.Bool.{cases_lt, le-ltb, lt-ltb, ltb-false, ltb-true}
use Rattle.std.proofs.lemmas.List.{get_or_default, length-take}
use Rattle.std.proofs.lemmas.List.Sums.{count_by-le-length, sum_by-cons}
use Rattle.std.specs.List.{AllByRecursion, count_by}
use Rattle.std.specs.List.Sorted.{IsNonDecreasingBy, IsPartitionPoint}
use Rattle.mmt_cast.specs.Casting.{cast_of, copies_as_sent, copy_as_sent}
use Rattle.mmt_cast.specs.Placing.{flat_map_from}
use Rattle.mmt_cast.specs.Right.{signal_at}
use Rattle.mmt_cast.proofs.Copies.{table-copied}
use Rattle.mmt_cast.proofs.Listing.{each-at}
use Rattle.mmt_model.specs.Carrying.{copy_place, no_table_copy, table_copy}
use Rattle.mmt_model.specs.Right.{IsRight}
use Rattle.mmt_model.specs.declared.casts.Cast.{Cast}
use Rattle.mmt_model.specs.declared.casts.TableCopy.{TableCopy}
use Rattle.mmt_model.specs.declared.programmes.Programme.{Programme}
use Rattle.mmt_model.specs.declared.programmes.Signal.{Signal}
use Rattle.mmt_model.specs.declared.programmes.Signal.TheVariants as signals
use Rattle.mmt_pace.proofs.Alike.{alike}
use Rattle.mmt_pace.specs.Recast.{IsItsCast}
use Rattle.mmt_sent.specs.Messages.{is_table, tables_before}

-- ---- the copies rise

abbrev Rises : List TableCopy → Type 0
Rises [] = Unit {0}
Rises (x ∷ xs) = AllByRecursion (λ (y : TableCopy). x.signal < y.signal) xs × Rises xs

after-from : (programme : Programme) (n m : ℕ) (xs : List Signal) → n < m → AllByRecursion (λ (y : TableCopy). n < y.signal) (flat_map_from (copy_as_sent programme) m xs)
unfolding flat_map_from copy_as_sent
after-from programme n m [] l = tt
after-from programme n m (signals.Parameters at ∷ xs) l = after-from programme n (m + 1) xs (omega arith)
after-from programme n m (signals.Table at names ∷ xs) l = (l, after-from programme n (m + 1) xs (omega arith))

rises-from : (programme : Programme) (n : ℕ) (xs : List Signal) → Rises (flat_map_from (copy_as_sent programme) n xs)
unfolding flat_map_from copy_as_sent
rises-from programme n [] = tt
rises-from programme n (signals.Parameters at ∷ xs) = rises-from programme (n + 1) xs
rises-from programme n (signals.Table at names ∷ xs) = (after-from programme n (n + 1) xs (omega arith), rises-from programme (n + 1) xs)

rises-at : (cs : List TableCopy) (i j : ℕ) (d : TableCopy) → Rises cs → i < j → j < length cs → (get_or cs i d).signal < (get_or cs j d).signal
rises-at [] i j d r l b = absurd (omega arith)
rises-at (x ∷ xs) i zero d r l b = absurd (omega arith)
rises-at (x ∷ xs) zero (suc j) d r l b = each-at (λ (y : TableCopy). x.signal < y.signal) xs j d r.0 (omega arith)
rises-at (x ∷ xs) (suc i) (suc j) d r l b = rises-at xs i j d r.1 (omega arith) (omega arith)

rises : (programme : Programme) → Rises (copies_as_sent programme)
unfolding copies_as_sent
rises programme = rises-from programme 0 programme.signals

pub rising : (programme : Programme) → IsNonDecreasingBy (λ (c : TableCopy). c.signal) (copies_as_sent programme)
rising programme i j d l b =
    ⊎_elim
    (λ (lt : i < j). (let h = rises-at (copies_as_sent programme) i j d (rises programme) lt b in omega (arith, h)))
    (λ (ge : j ≤ i). (let e : i ≡ j = omega arith in omega (arith, ap (λ (k : ℕ). (get_or (copies_as_sent programme) k d).signal) e)))
    (cases_lt i j)

-- ---- how many stand before a message

count-none : (p : TableCopy → Bool) (cs : List TableCopy) → ((k : ℕ) (d : TableCopy) → k < length cs → p (get_or cs k d) ≡ false) → count_by p cs ≡ 0
count-none p [] h = refl
count-none p (x ∷ xs) h =
    let head : p x ≡ false = h 0 x (omega arith) in
    sum_by-cons (λ (c : TableCopy). cond (p c) 1 0) x xs ∙ ap (λ (t : Bool). cond t 1 0 + count_by p xs) head ∙ (let rest = count-none p xs (λ k d l. h (suc k) d (omega arith)) in omega (arith, rest))

count-point : (p : TableCopy → Bool) (cs : List TableCopy) (i : ℕ) → i ≤ length cs → ((k : ℕ) (d : TableCopy) → k < i → p (get_or cs k d) ≡ true) → ((k : ℕ) (d : TableCopy) → i ≤ k → k < length cs → p (get_or cs k d) ≡ false) → count_by p cs ≡ i
count-point p cs zero l low high = count-none p cs (λ k d b. high k d (omega arith) b)
count-point p [] (suc i) l low high = absurd (omega arith)
count-point p (x ∷ xs) (suc i) l low high =
    let head : p x ≡ true = low 0 x (omega arith) in
    sum_by-cons (λ (c : TableCopy). cond (p c) 1 0) x xs ∙ ap (λ (t : Bool). cond t 1 0 + count_by p xs) head
    ∙ (let rest = count-point p xs i (omega arith) (λ k d b. low (suc k) d (omega arith)) (λ k d a b. high (suc k) d (omega arith) (omega arith)) in omega (arith, rest))

tables-cons : (x : Signal) (xs : List Signal) → count_by is_table (x ∷ xs) ≡ cond (is_table x) 1 0 + count_by is_table xs
tables-cons x xs = sum_by-cons (λ (s : Signal). cond (is_table s) 1 0) x xs

count-head : (s : ℕ) (y : TableCopy) (cs : List TableCopy) (rest : ℕ) → count_by (λ (c : TableCopy). ltb c.signal s) cs ≡ rest → count_by (λ (c : TableCopy). ltb c.signal s) (y ∷ cs) ≡ cond (ltb y.signal s) 1 0 + rest
count-head s y cs rest e = sum_by-cons (λ (c : TableCopy). cond (ltb c.signal s) 1 0) y cs ∙ ap (λ (k : ℕ). cond (ltb y.signal s) 1 0 + k) e

-- one more signalling message
one-counted : (programme : Programme) (s n : ℕ) (x : Signal) (cs : List TableCopy) (rest : ℕ) → count_by (λ (c : TableCopy). ltb c.signal s) cs ≡ rest
    → count_by (λ (c : TableCopy). ltb c.signal s) (copy_as_sent programme n x ++ cs) ≡ cond (ltb n s) (cond (is_table x) 1 0) 0 + rest
unfolding copy_as_sent
one-counted programme s n (signals.Parameters at) cs rest e = e ∙ nothing (ltb n s)
  where
    nothing : (t : Bool) → rest ≡ cond t 0 0 + rest
    nothing true = omega arith
    nothing false = omega arith
one-counted programme s n (signals.Table at names) cs rest e = count-head s (get_or (copy_as_sent programme n (signals.Table at names)) 0 no_table_copy) cs rest e

counted : (programme : Programme) (s n : ℕ) (xs : List Signal) → count_by (λ (c : TableCopy). ltb c.signal s) (flat_map_from (copy_as_sent programme) n xs) ≡ count_by is_table (take (s - n) xs)
unfolding flat_map_from
counted programme s n [] = go (s - n)
  where
    go : (k : ℕ) → 0 ≡ count_by is_table (take k [])
    go zero = refl
    go (suc k) = refl
counted programme s n (x ∷ xs) =
    one-counted programme s n x (flat_map_from (copy_as_sent programme) (n + 1) xs) (count_by is_table (take (s - (n + 1)) xs)) (counted programme s (n + 1) xs)
    ∙ ⊎_elim
    (λ (below : n < s).
    (let e : suc (s - (n + 1)) ≡ s - n = omega arith in
    ap (λ (t : Bool). cond t (cond (is_table x) 1 0) 0 + count_by is_table (take (s - (n + 1)) xs)) (lt-ltb n s below) ∙ sym (tables-cons x (take (s - (n + 1)) xs)) ∙ ap (λ (k : ℕ). count_by is_table (take k (x ∷ xs))) e))
    (λ (past : s ≤ n).
    (let e : s - n ≡ 0 = omega arith in
    let f : s - (n + 1) ≡ 0 = omega arith in
    ap (λ (t : Bool). cond t (cond (is_table x) 1 0) 0 + count_by is_table (take (s - (n + 1)) xs)) (le-ltb n s past) ∙ ap (λ (k : ℕ). 0 + count_by is_table (take k xs)) f ∙ ap (λ (k : ℕ). count_by is_table (take k (x ∷ xs))) (sym e)))
    (cases_lt n s)

-- where a search by the message's place ends
pub point-is : (programme : Programme) (s i : ℕ) → i ≤ length (copies_as_sent programme) → IsPartitionPoint (λ (c : TableCopy). ltb c.signal s ≡ true) (λ (c : TableCopy). ltb c.signal s ≡ false) (copies_as_sent programme) i → i ≡ tables_before programme s
unfolding tables_before copies_as_sent
point-is programme s i l point =
    let e : s - 0 ≡ s = omega arith in
    sym (count-point (λ (c : TableCopy). ltb c.signal s) (flat_map_from (copy_as_sent programme) 0 programme.signals) i l (λ k d b. point.0 k d (omega arith) b) (λ k d a b. point.1 k d a b))
    ∙ counted programme s 0 programme.signals ∙ ap (λ (k : ℕ). count_by is_table (take k programme.signals)) e

pub few-before : (programme : Programme) (s : ℕ) → IsRight programme → tables_before programme s < 2 ^ 32
unfolding tables_before
few-before programme s right = omega (arith, count_by-le-length is_table (take s programme.signals), length-take s programme.signals, right.few_signals)

-- ---- where a table's own copy stands

pub record HasCopy (programme : Programme) (s i : ℕ) : Type 0 where
  pub place : copy_place (copies_as_sent programme) s ≡ i
  pub listed : i < length (copies_as_sent programme)

own-at : (programme : Programme) (s i j : ℕ) (d : TableCopy) → IsPartitionPoint (λ (c : TableCopy). ltb c.signal s ≡ true) (λ (c : TableCopy). ltb c.signal s ≡ false) (copies_as_sent programme) i
    → j < length (copies_as_sent programme) → (get_or (copies_as_sent programme) j d).signal ≡ s → j ≡ i
own-at programme s i j d point b is =
    let cs : List TableCopy = copies_as_sent programme in
    ⊎_elim
    (λ (lt : j < i). (let h = ltb-true (get_or cs j d).signal s (point.0 j d (omega arith) lt) in absurd (omega (arith, h, is))))
    (λ (ge : i ≤ j).
    ⊎_elim (λ (gt : i < j). (let h = ltb-false (get_or cs i d).signal s (point.1 i d (omega arith) (omega arith)) in let r = rises-at cs i j d (rises programme) gt b in absurd (omega (arith, h, r, is))))
    (λ (le : j ≤ i). omega arith) (cases_lt i j))
    (cases_lt j i)

table-at : (programme : Programme) (s : ℕ) (signal : Signal) → signal_at programme s ≡ signal → is_table signal ≡ true → s < length programme.signals
    → (copy_place (copies_as_sent programme) s < length (copies_as_sent programme)) × ((get_or (copies_as_sent programme) (copy_place (copies_as_sent programme) s) no_table_copy).signal ≡ s)
table-at programme s (signals.Parameters at) e t l = cc
table-at programme s (signals.Table at names) e t l = let c = table-copied programme s at names l e in (c.0, ap (λ (y : TableCopy). y.signal) c.1)

pub has-copy : (programme : Programme) (s i : ℕ) → IsPartitionPoint (λ (c : TableCopy). ltb c.signal s ≡ true) (λ (c : TableCopy). ltb c.signal s ≡ false) (copies_as_sent programme) i
    → is_table (signal_at programme s) ≡ true → s < length programme.signals → HasCopy programme s i
has-copy programme s i point t l =
    let at = table-at programme s (signal_at programme s) refl t l in
    let j : ℕ = copy_place (copies_as_sent programme) s in
    let e : j ≡ i = own-at programme s i j no_table_copy point at.0 at.1 in
    record { place = e; listed = omega (arith, e, at.0) }

-- the table copies of a cast are those of the programme's, but for the ticks
pub record AreCopies (programme : Programme) (slice : List TableCopy) : Type 0 where
  pub many : length slice ≡ length (copies_as_sent programme)
  pub copy : (c : ℕ) (d : TableCopy) → (get_or slice c d).signal ≡ (get_or (copies_as_sent programme) c d).signal
  pub own : (s : ℕ) → copy_place slice s ≡ copy_place (copies_as_sent programme) s

pub slice-is : (programme : Programme) (cast : Cast) (slice : List TableCopy) → IsItsCast programme cast → slice ≡ cast.copies → AreCopies programme slice
unfolding cast_of
slice-is programme cast slice is e =
    let a = alike programme cast is in
    subst (AreCopies programme) (sym e) (record { many = a.copies; copy = λ c d. (a.copy c d).signal; own = a.place })

-- so they stand in order, and a search in them ends where one in the programme's does
pub slice-rises : (programme : Programme) (slice : List TableCopy) → AreCopies programme slice → IsNonDecreasingBy (λ (c : TableCopy). c.signal) slice
slice-rises programme slice are i j d l b = (let h = rising programme i j d l (omega (arith, b, are.many)) in omega (arith, h, are.copy i d, are.copy j d))

pub slice-point : (programme : Programme) (slice : List TableCopy) (s i : ℕ) → AreCopies programme slice
    → IsPartitionPoint (λ (c : TableCopy). ltb c.signal s ≡ true) (λ (c : TableCopy). ltb c.signal s ≡ false) slice i
    → IsPartitionPoint (λ (c : TableCopy). ltb c.signal s ≡ true) (λ (c : TableCopy). ltb c.signal s ≡ false) (copies_as_sent programme) i
slice-point programme slice s i are point = (
  λ k d a b. ap (λ (n : ℕ). ltb n s) (sym (are.copy k d)) ∙ point.0 k d a b,
  λ k d a b. ap (λ (n : ℕ). ltb n s) (sym (are.copy k d)) ∙ point.1 k d a (omega (arith, b, are.many)),
)

-- in how many parts a table is sent, by its copy
pub parts-are : (cast : Cast) (slice : List TableCopy) (place s : ℕ) (d : TableCopy) → slice ≡ cast.copies → copy_place cast.copies s ≡ place → place < length cast.copies → (get_or slice place d).count ≡ (table_copy cast (copy_place cast.copies s)).count
unfolding table_copy
parts-are cast slice place s d e own listed =
    ap (λ (xs : List TableCopy). (get_or xs place d).count) e ∙ ap (λ (y : TableCopy). y.count) (get_or_default cast.copies place d no_table_copy listed) ∙ ap (λ (k : ℕ). (get_or cast.copies k no_table_copy).count) (sym own)
