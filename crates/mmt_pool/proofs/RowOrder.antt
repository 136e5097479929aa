-- The row of packets that came in the order of time.
use Rattle.std.proofs.Common.{◌≡◌, ℕ, zero, suc, ◌<◌, ◌≤◌, ◌^◌, Bool, true, false, ◌||◌, cond, List, [], ◌∷◌, ◌++◌, length, slice_index_or, refl, arith, ap, sym, ◌∙◌, Option, Some, None}
use Rattle.std.specs.List.{AllByRecursion, remove}
use Rattle.std.specs.Ordering.{is_eq}
use Rattle.std.proofs.lemmas.Bool.Decides.{nat_tests}
use Rattle.mmt_pool.specs.declared.types.Span.{Span}
use Rattle.mmt_pool.specs.declared.queue.Queued.{Queued}
use Rattle.mmt_pool.specs.Queue.{order, has, IsRow, ComesAfter, StandsAt}
use Rattle.mmt_pool.proofs.QueueOrder.{Apart, Same, Other, apart}

pub or_true : (x : Bool) → (x || true) ≡ true
or_true true = refl
or_true false = refl

-- a packet is itself
pub itself : (q : Queued) → is_eq (order q q) ≡ true
itself q = grind (arith, nat_tests)

-- whether two are the same does not depend on which comes first
pub other_way : (p q : Queued) → is_eq (order p q) ≡ false → is_eq (order q p) ≡ false
other_way p q e = go (apart q p)
  where
    go : Apart q p → is_eq (order q p) ≡ false
    go (Same f here) = let same : is_eq (order p q) ≡ true = rw here (itself p) in absurd cc
    go (Other f n) = f

stands-next : (p : Queued) (row : List Queued) (i : ℕ) (q : Queued) → StandsAt row i q → StandsAt (p ∷ row) (suc i) q
stands-next p row i q s = record { within = omega (arith, s.within); is = s.is }

stands-before : (p : Queued) (row : List Queued) (i : ℕ) (q : Queued) → StandsAt (p ∷ row) (suc i) q → StandsAt row i q
stands-before p row i q s = record { within = omega (arith, s.within); is = s.is }

-- where a packet of the row stands
pub record Found (row : List Queued) (r : Queued) : Type 0 where
  pub place : ℕ
  pub at : StandsAt row place r

pub found : (row : List Queued) (r : Queued) → has row r ≡ true → Found row r
found [] r h = absurd cc
found (q ∷ row) r h = go (apart r q) (λ g. found row r g) h
  where
    go : Apart r q → (has row r ≡ true → Found row r) → (is_eq (order r q) || has row r) ≡ true → Found (q ∷ row) r
    go (Same e here) rest h = record { place = 0; at = record { within = omega arith; is = here } }
    go (Other e n) rest h = let f : Found row r = rest (rw e at h) in record { place = suc f.place; at = stands-next q row f.place r f.at }

-- what stands at a place within
pub stands-at : (row : List Queued) (i : ℕ) (d : Queued) → i < length row → StandsAt row i (slice_index_or row i d)
stands-at [] i d l = absurd (omega arith)
stands-at (p ∷ row) zero d l = record { within = l; is = refl }
stands-at (p ∷ row) (suc i) d l = stands-next p row i (slice_index_or row i d) (stands-at row i d (omega arith))

-- what holds of each packet of the row holds of the one at a place
pub each_stands : (P : Queued → Type 0) (row : List Queued) (i : ℕ) (q : Queued) → AllByRecursion P row → StandsAt row i q → P q
each_stands P [] i q h s = let w = s.within in absurd (omega arith)
each_stands P (p ∷ row) zero q h s = rw s.is h.0
each_stands P (p ∷ row) (suc i) q h s = each_stands P row i q h.1 (stands-before p row i q s)

-- a packet that stands in the row is one of it
pub has-stands : (row : List Queued) (i : ℕ) (q : Queued) → StandsAt row i q → has row q ≡ true
has-stands [] i q s = let w = s.within in absurd (omega arith)
has-stands (p ∷ row) zero q s = let same : q ≡ p = s.is in rw (same, itself p) refl
has-stands (p ∷ row) (suc i) q s = rw (has-stands row i q (stands-before p row i q s)) (or_true (is_eq (order q p)))

-- the timestamps do not fall
pub rising : (row : List Queued) (i j : ℕ) (q r : Queued) → IsRow row → StandsAt row i q → StandsAt row j r → i ≤ j → q.time ≤ r.time
unfolding IsRow
rising [] i j q r h s t l = let w = s.within in absurd (omega arith)
rising (p ∷ row) zero zero q r h s t l = let a : q ≡ p = s.is in let b : r ≡ p = t.is in rw (a, b) (omega arith)
rising (p ∷ row) zero (suc j) q r h s t l = let a : q ≡ p = s.is in rw a (each_stands (ComesAfter p) row j r h.0 (stands-before p row j r t)).later
rising (p ∷ row) (suc i) zero q r h s t l = absurd (omega arith)
rising (p ∷ row) (suc i) (suc j) q r h s t l = rising row i j q r h.1 (stands-before p row i q s) (stands-before p row j r t) (omega arith)

-- one more packet at the end
each-push : (P : Queued → Type 0) (row : List Queued) (q : Queued) → AllByRecursion P row → P q → AllByRecursion P (row ++ q ∷ [])
each-push P [] q h a = (a, tt)
each-push P (p ∷ row) q h a = (h.0, each-push P row q h.1 a)

or_left : (x y : Bool) → (x || y) ≡ false → x ≡ false
or_left true y e = e
or_left false y e = refl

or_right : (x y : Bool) → (x || y) ≡ false → y ≡ false
or_right true y e = absurd cc
or_right false y e = e

pub row-push : (row : List Queued) (q : Queued) → IsRow row → ((r : Queued) → has row r ≡ true → r.time ≤ q.time) → has row q ≡ false → IsRow (row ++ q ∷ [])
unfolding IsRow
row-push [] q h last n = (tt, tt)
row-push (p ∷ row) q h last n =
    let first : has (p ∷ row) p ≡ true = rw (itself p) refl in
    let f : ComesAfter p q = record { later = last p first; other = other_way q p (or_left (is_eq (order q p)) (has row q) n) } in
    (each-push (ComesAfter p) row q h.0 f, row-push row q h.1 (λ r k. last r (rw k (or_true (is_eq (order r p))))) (or_right (is_eq (order q p)) (has row q) n))

pub has-push : (row : List Queued) (q r : Queued) → has (row ++ q ∷ []) r ≡ cond (is_eq (order q r)) true (has row r)
has-push [] q r = go (apart q r)
  where
    go : Apart q r → (is_eq (order r q) || false) ≡ cond (is_eq (order q r)) true false
    go (Same e here) = rw (here, itself r) refl
    go (Other e n) = rw (e, other_way q r e) refl
has-push (p ∷ row) q r = rw (has-push row q r) (go (is_eq (order r p)) (is_eq (order q r)) (has row r))
  where
    go : (x b y : Bool) → (x || cond b true y) ≡ cond b true (x || y)
    go x true y = or_true x
    go x false y = refl

-- one packet fewer
each-remove : (P : Queued → Type 0) (row : List Queued) (i : ℕ) → i < length row → AllByRecursion P row → AllByRecursion P (remove row i)
each-remove P [] i l h = absurd (omega arith)
each-remove P (p ∷ row) zero l h = h.1
each-remove P (p ∷ row) (suc i) l h = (h.0, each-remove P row i (omega arith) h.1)

pub row-remove : (row : List Queued) (i : ℕ) → i < length row → IsRow row → IsRow (remove row i)
unfolding IsRow
row-remove [] i l h = absurd (omega arith)
row-remove (p ∷ row) zero l h = h.1
row-remove (p ∷ row) (suc i) l h = (each-remove (ComesAfter p) row i (omega arith) h.0, row-remove row i (omega arith) h.1)

-- a packet is none of those that follow it
none-follows : (p : Queued) (row : List Queued) → AllByRecursion (ComesAfter p) row → has row p ≡ false
none-follows p [] h = refl
none-follows p (q ∷ row) h = rw (h.0.other, none-follows p row h.1) refl

pub has-remove : (row : List Queued) (i : ℕ) (q r : Queued) → IsRow row → StandsAt row i q → has (remove row i) r ≡ cond (is_eq (order q r)) false (has row r)
unfolding IsRow
has-remove [] i q r h s = let w = s.within in absurd (omega arith)
has-remove (p ∷ row) zero q r h s = go (apart q r) s.is
  where
    go : Apart q r → q ≡ p → has row r ≡ cond (is_eq (order q r)) false (is_eq (order r p) || has row r)
    go (Same e here) is = rw (e, ← here, is) (none-follows p row h.0)
    go (Other e n) is = rw e (rw (← is, other_way q r e) refl)
has-remove (p ∷ row) (suc i) q r h s = rw (has-remove row i q r h.1 (stands-before p row i q s)) (go (apart q r) (other_way p q (each_stands (ComesAfter p) row i q h.0 (stands-before p row i q s)).other))
  where
    go : Apart q r → is_eq (order q p) ≡ false → (is_eq (order r p) || cond (is_eq (order q r)) false (has row r)) ≡ cond (is_eq (order q r)) false (is_eq (order r p) || has row r)
    go (Same e here) o = rw (e, ← here, o) refl
    go (Other e n) o = rw e refl

-- one packet stands at a place
pub only : (row : List Queued) (i : ℕ) (q r : Queued) → StandsAt row i q → StandsAt row i r → q ≡ r
only [] i q r s t = let w = s.within in absurd (omega arith)
only (p ∷ row) zero q r s t = s.is ∙ sym t.is
only (p ∷ row) (suc i) q r s t = only row i q r (stands-before p row i q s) (stands-before p row i r t)
