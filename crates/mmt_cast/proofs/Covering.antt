-- Each unit and each table is sent once.
use Rattle.std.proofs.Common.{◌≡◌, ℕ, ◌+◌, ◌-◌, ◌<◌, ◌≤◌, zero, suc, Bool, true, false, ◌==◌, ◌&&◌, ◌⊎◌, inl, inr, cond, nat_le, nat_lt, List, [], ◌∷◌, ◌++◌, length, arith, refl, ap, ap₂, ◌∙◌, ⊎_elim}
use Rattle.std.specs.List.{AllByRecursion, count_by}
use Rattle.std.proofs.lemmas.Bool.{and_from, and_left, and_right, cases_Bool, cases_eq, cases_lt, eq-eqb, le-leb, le-ltb, lt-leb, lt-ltb, ltb-false, ne_eqb}
use Rattle.std.proofs.lemmas.List.Sums.{sum_by-append, sum_by-cons}
use Rattle.mmt_cast.proofs.Grouping.{group-le, group-some}
use Rattle.mmt_cast.specs.Placing.{PlacedUnit, all_units, map_from}
use Rattle.mmt_cast.specs.Sending.{Sending, group_size, sending_of_signal, sending_of_units, sendings, sendings_of_units}
use Rattle.mmt_model.specs.declared.programmes.Programme.{Programme}
use Rattle.mmt_model.specs.declared.programmes.Signal.{Signal}
use Rattle.mmt_model.specs.declared.programmes.Signal.TheVariants as signals

-- a sending is of a unit
abbrev pub covers_unit : ℕ → Sending → Bool
covers_unit u (Sending.Parameters s at) = false
covers_unit u (Sending.Table s at bytes) = false
covers_unit u (Sending.Alone v x) = v == u
covers_unit u (Sending.Group f c x bytes) = nat_le f u && nat_lt u (f + c)

-- a sending is of a table
abbrev pub covers_table : ℕ → Sending → Bool
covers_table t (Sending.Parameters s at) = false
covers_table t (Sending.Table s at bytes) = s == t
covers_table t (Sending.Alone v x) = false
covers_table t (Sending.Group f c x bytes) = false

-- ---- counting those that pass

count-yes : {X : Type 0} (p : X → Bool) (x : X) (xs : List X) → p x ≡ true → count_by p (x ∷ xs) ≡ 1 + count_by p xs
count-yes p x xs e = sum_by-cons (λ y. cond (p y) 1 0) x xs ∙ ap (λ (t : Bool). cond t 1 0 + count_by p xs) e

count-no : {X : Type 0} (p : X → Bool) (x : X) (xs : List X) → p x ≡ false → count_by p (x ∷ xs) ≡ 0 + count_by p xs
count-no p x xs e = sum_by-cons (λ y. cond (p y) 1 0) x xs ∙ ap (λ (t : Bool). cond t 1 0 + count_by p xs) e

none-each : {X : Type 0} (p : X → Bool) (xs : List X) → count_by p xs ≡ 0 → AllByRecursion (λ x. p x ≡ false) xs
none-each p [] e = tt
none-each p (x ∷ xs) e =
    ⊎_elim
    (λ (t : p x ≡ true). absurd (omega (arith, e, count-yes p x xs t)))
    (λ (f : p x ≡ false). (f, none-each p xs (omega (arith, e, count-no p x xs f))))
    (cases_Bool (p x))

-- where no more than one passes, the others fail
pub others : {X : Type 0} (p : X → Bool) (a b : List X) (x : X) → count_by p (a ++ x ∷ b) ≤ 1 → p x ≡ true → AllByRecursion (λ y. p y ≡ false) a × AllByRecursion (λ y. p y ≡ false) b
others p a b x l t =
    let s = sum_by-append (λ y. cond (p y) 1 0) a (x ∷ b) in
    (none-each p a (omega (arith, l, s, count-yes p x b t)), none-each p b (omega (arith, l, s, count-yes p x b t)))

-- where one passes, the list splits at it
pub record IsSplit {X : Type 0} (p : X → Bool) (xs : List X) : Type 0 where
  pub front : List X
  pub item : X
  pub back : List X
  pub is : xs ≡ front ++ item ∷ back
  pub passes : p item ≡ true

pub splits : {X : Type 0} (p : X → Bool) (xs : List X) → 1 ≤ count_by p xs → IsSplit p xs
splits p [] l = absurd (omega arith)
splits p (x ∷ xs) l =
    ⊎_elim
    (λ (t : p x ≡ true). record { front = []; item = x; back = xs; is = refl; passes = t })
    (λ (f : p x ≡ false). (let s = splits p xs (omega (arith, l, count-no p x xs f)) in record { front = x ∷ s.front; item = s.item; back = s.back; is = ap (λ l. x ∷ l) s.is; passes = s.passes }))
    (cases_Bool (p x))

-- ---- units

head-covers : (u w size : ℕ) (x : PlacedUnit) (rest : List PlacedUnit) → 1 ≤ size → w ≤ u → u < w + size → covers_unit u (sending_of_units w size x rest) ≡ true
unfolding sending_of_units
head-covers u w size x rest some a b = go _ (nat_lt 1 size) refl
  where
    go : (bytes : ℕ) (t : Bool) → nat_lt 1 size ≡ t → covers_unit u (cond t (Sending.Group w size x bytes) (Sending.Alone w x)) ≡ true
    go bytes true e = and_from (nat_le w u) (nat_lt u (w + size)) (le-leb w u a) (lt-ltb u (w + size) b)
    go bytes false e = eq-eqb w u (omega (arith, ltb-false 1 size e))

head-misses : (u w size : ℕ) (x : PlacedUnit) (rest : List PlacedUnit) → 1 ≤ size → (u < w) ⊎ (w + size ≤ u) → covers_unit u (sending_of_units w size x rest) ≡ false
unfolding sending_of_units
head-misses u w size x rest some o = go _ (nat_lt 1 size) refl o
  where
    go : (bytes : ℕ) (t : Bool) → nat_lt 1 size ≡ t → (u < w) ⊎ (w + size ≤ u) → covers_unit u (cond t (Sending.Group w size x bytes) (Sending.Alone w x)) ≡ false
    go bytes true e (inl a) = and_left (nat_le w u) (nat_lt u (w + size)) (lt-leb w u a)
    go bytes true e (inr b) = and_right (nat_le w u) (nat_lt u (w + size)) (le-ltb u (w + size) b)
    go bytes false e (inl a) = ne_eqb w u (λ same. omega arith)
    go bytes false e (inr b) = ne_eqb w u (λ same. omega arith)

none-before : (programme : Programme) (sent w u : ℕ) (xs : List PlacedUnit) → u < w + sent → count_by (covers_unit u) (sendings_of_units programme sent w xs) ≡ 0
unfolding sendings_of_units
none-before programme sent w u [] l = refl
none-before programme (suc sent) w u (x ∷ rest) l = none-before programme sent (w + 1) u rest (omega arith)
none-before programme zero w u (x ∷ rest) l =
    let size : ℕ = group_size programme x rest in
    count-no (covers_unit u) (sending_of_units w size x rest) (sendings_of_units programme (size - 1) (w + 1) rest) (head-misses u w size x rest (group-some programme x rest) (inl (omega arith)))
    ∙ ap (λ n. 0 + n) (none-before programme (size - 1) (w + 1) u rest (omega arith))

none-behind : (programme : Programme) (sent w u : ℕ) (xs : List PlacedUnit) → w + length xs ≤ u → count_by (covers_unit u) (sendings_of_units programme sent w xs) ≡ 0
unfolding sendings_of_units
none-behind programme sent w u [] l = refl
none-behind programme (suc sent) w u (x ∷ rest) l = none-behind programme sent (w + 1) u rest (omega arith)
none-behind programme zero w u (x ∷ rest) l =
    let size : ℕ = group_size programme x rest in
    count-no (covers_unit u) (sending_of_units w size x rest) (sendings_of_units programme (size - 1) (w + 1) rest) (head-misses u w size x rest (group-some programme x rest) (inr (omega (arith, group-le programme x rest))))
    ∙ ap (λ n. 0 + n) (none-behind programme (size - 1) (w + 1) u rest (omega arith))

once : (programme : Programme) (sent w u : ℕ) (xs : List PlacedUnit) → w + sent ≤ u → u < w + length xs → count_by (covers_unit u) (sendings_of_units programme sent w xs) ≡ 1
unfolding sendings_of_units
once programme sent w u [] a b = absurd (omega arith)
once programme (suc sent) w u (x ∷ rest) a b = once programme sent (w + 1) u rest (omega arith) (omega arith)
once programme zero w u (x ∷ rest) a b =
    let size : ℕ = group_size programme x rest in
    let head : Sending = sending_of_units w size x rest in
    let tail : List Sending = sendings_of_units programme (size - 1) (w + 1) rest in
    let some = group-some programme x rest in
    ⊎_elim
    (λ (lt : u < w + size). count-yes (covers_unit u) head tail (head-covers u w size x rest some (omega arith) lt) ∙ ap (λ n. 1 + n) (none-before programme (size - 1) (w + 1) u rest (omega (arith, some))))
    (λ (ge : w + size ≤ u). count-no (covers_unit u) head tail (head-misses u w size x rest some (inr ge)) ∙ ap (λ n. 0 + n) (once programme (size - 1) (w + 1) u rest (omega (arith, some)) (omega arith)))
    (cases_lt u (w + size))

no-units : (programme : Programme) (u n : ℕ) (xs : List Signal) → count_by (covers_unit u) (map_from (sending_of_signal programme) n xs) ≡ 0
unfolding map_from sending_of_signal
no-units programme u n [] = refl
no-units programme u n (signals.Parameters at ∷ xs) = count-no (covers_unit u) (Sending.Parameters n at.0) (map_from (sending_of_signal programme) (n + 1) xs) refl ∙ ap (λ m. 0 + m) (no-units programme u (n + 1) xs)
no-units programme u n (signals.Table at names ∷ xs) = count-no (covers_unit u) (sending_of_signal programme n (signals.Table at names)) (map_from (sending_of_signal programme) (n + 1) xs) refl ∙ ap (λ m. 0 + m) (no-units programme u (n + 1) xs)

-- each unit of a programme is sent once, and no other
pub unit-once : (programme : Programme) (u : ℕ) → u < length (all_units programme) → count_by (covers_unit u) (sendings programme) ≡ 1
unfolding sendings
unit-once programme u l =
    sum_by-append (λ y. cond (covers_unit u y) 1 0) (map_from (sending_of_signal programme) 0 programme.signals) (sendings_of_units programme 0 0 (all_units programme))
    ∙ ap₂ (λ m n. m + n) (no-units programme u 0 programme.signals) (once programme 0 0 u (all_units programme) (omega arith) (omega arith))

pub unit-at_most_once : (programme : Programme) (u : ℕ) → count_by (covers_unit u) (sendings programme) ≤ 1
unfolding sendings
unit-at_most_once programme u =
    ⊎_elim
    (λ (lt : u < length (all_units programme)). omega (arith, unit-once programme u lt))
    (λ (ge : length (all_units programme) ≤ u).
    omega (
      arith,
      sum_by-append (λ y. cond (covers_unit u y) 1 0) (map_from (sending_of_signal programme) 0 programme.signals) (sendings_of_units programme 0 0 (all_units programme)),
      no-units programme u 0 programme.signals,
      none-behind programme 0 0 u (all_units programme) (omega arith),
    ))
    (cases_lt u (length (all_units programme)))

-- ---- tables

no-tables : (programme : Programme) (t sent w : ℕ) (xs : List PlacedUnit) → count_by (covers_table t) (sendings_of_units programme sent w xs) ≡ 0
unfolding sendings_of_units sending_of_units
no-tables programme t sent w [] = refl
no-tables programme t (suc sent) w (x ∷ rest) = no-tables programme t sent (w + 1) rest
no-tables programme t zero w (x ∷ rest) =
    count-no (covers_table t) (sending_of_units w (group_size programme x rest) x rest) (sendings_of_units programme (group_size programme x rest - 1) (w + 1) rest) (go _ (nat_lt 1 (group_size programme x rest)))
    ∙ ap (λ n. 0 + n) (no-tables programme t (group_size programme x rest - 1) (w + 1) rest)
  where
    go : (bytes : ℕ) (b : Bool) → covers_table t (cond b (Sending.Group w (group_size programme x rest) x bytes) (Sending.Alone w x)) ≡ false
    go bytes true = refl
    go bytes false = refl

none-earlier : (programme : Programme) (t n : ℕ) (xs : List Signal) → t < n → count_by (covers_table t) (map_from (sending_of_signal programme) n xs) ≡ 0
unfolding map_from sending_of_signal
none-earlier programme t n [] l = refl
none-earlier programme t n (signals.Parameters at ∷ xs) l = count-no (covers_table t) (Sending.Parameters n at.0) (map_from (sending_of_signal programme) (n + 1) xs) refl ∙ ap (λ m. 0 + m) (none-earlier programme t (n + 1) xs (omega arith))
none-earlier programme t n (signals.Table at names ∷ xs) l =
    count-no (covers_table t) (sending_of_signal programme n (signals.Table at names)) (map_from (sending_of_signal programme) (n + 1) xs) (ne_eqb n t (λ same. omega arith)) ∙ ap (λ m. 0 + m) (none-earlier programme t (n + 1) xs (omega arith))

one-table : (programme : Programme) (t n : ℕ) (xs : List Signal) → count_by (covers_table t) (map_from (sending_of_signal programme) n xs) ≤ 1
unfolding map_from sending_of_signal
one-table programme t n [] = omega arith
one-table programme t n (signals.Parameters at ∷ xs) = omega (arith, count-no (covers_table t) (Sending.Parameters n at.0) (map_from (sending_of_signal programme) (n + 1) xs) refl, one-table programme t (n + 1) xs)
one-table programme t n (signals.Table at names ∷ xs) =
    ⊎_elim
    (λ (same : n ≡ t). omega (arith, count-yes (covers_table t) (sending_of_signal programme n (signals.Table at names)) (map_from (sending_of_signal programme) (n + 1) xs) (eq-eqb n t same), none-earlier programme t (n + 1) xs (omega arith)))
    (λ (ne : n ≡ t → ⊥). omega (arith, count-no (covers_table t) (sending_of_signal programme n (signals.Table at names)) (map_from (sending_of_signal programme) (n + 1) xs) (ne_eqb n t ne), one-table programme t (n + 1) xs))
    (cases_eq n t)

pub table-at_most_once : (programme : Programme) (t : ℕ) → count_by (covers_table t) (sendings programme) ≤ 1
unfolding sendings
table-at_most_once programme t =
    omega (
      arith,
      sum_by-append (λ y. cond (covers_table t y) 1 0) (map_from (sending_of_signal programme) 0 programme.signals) (sendings_of_units programme 0 0 (all_units programme)),
      one-table programme t 0 programme.signals,
      no-tables programme t 0 0 (all_units programme),
    )
