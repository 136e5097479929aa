-- The order of the index.
use Rattle.std.proofs.Common.{◌≡◌, ℕ, Bool, true, false, ◌||◌, ◌&&◌, ◌==◌, nat_lt, not, cond, List, [], ◌∷◌, refl, ap, ap₂, sym, ◌∙◌, arith, filter, subst, ◌⊎◌, inl, inr, ◌<◌, length, slice_index}
use Rattle.std.specs.List.{AllByRecursion, list_any}
use Rattle.std.specs.List.Sorted.{IsStrictlySortedBy}
use Rattle.std.specs.Ordering.{is_eq, is_lt, nat_cmp, ordering_then}
use Rattle.std.specs.Cmp.Lexicographic.{slice_cmp}
use Rattle.std.specs.BTreeMap.Range.{range_contains}
use Rattle.std.specs.declared.cmp.Ordering.{Ordering}
use Rattle.std.specs.declared.cmp.Ordering.TheVariants.{Less, Equal, Greater}
use Rattle.std.specs.declared.ops.Bound.TheVariants.{Excluded, Unbounded}
use Rattle.std.proofs.lemmas.Bool.{eq-eqb, le-ltb, lt-ltb}
use Rattle.std.proofs.lemmas.Map.Lookups.{exact_bytes}
use Rattle.mmt_model.specs.Handing.{precedes}
use Rattle.mmt_pool.specs.declared.types.Span.{Span}
use Rattle.mmt_pool.proofs.Entries.{same_order, Stands, Here, Before, After, stands}
use Rattle.mmt_pool.proofs.Entries.{order as span_order}
use Rattle.mmt_runs.specs.declared.index.Due.{Due}
use Rattle.mmt_runs.specs.contracts.index.DueOrd.TheImpl.Laws.{total-law}
use Rattle.mmt_runs.specs.Index.{order, IsIn, Keeps, KeepsOthers}

-- two spans are the same, or not
pub data Either (s t : Span) : Type 0 where
  Alike : is_eq (span_order s t) ≡ true → s ≡ t → Either s t
  Unlike : is_eq (span_order s t) ≡ false → (t ≡ s → ⊥) → Either s t

apart-order : (s t : Span) → is_eq (span_order s t) ≡ false → t ≡ s → ⊥
apart-order s t e same = let i : is_eq (span_order s s) ≡ true = same_order s in let j = rw same at e in cc

pub either : (s t : Span) → Either s t
either s t = go (stands s t)
  where
    go : Stands s t → Either s t
    go (Here o same) = Alike (rw o refl) same
    go (Before o b a) = Unlike (rw o refl) (apart-order s t (rw o refl))
    go (After o b a) = Unlike (rw o refl) (apart-order s t (rw o refl))

same_due : (q r : Due) → q.numbers ≡ r.numbers → q.span ≡ r.span → q ≡ r
same_due q r t s = let due = λ (a : List ℕ) (b : Span). (let x : Due = record { numbers = a; span = b } in x) in ap₂ due t s

-- two are the same, or their order is not equal
pub data Apart (q r : Due) : Type 0 where
  Same : is_eq (order q r) ≡ true → q ≡ r → Apart q r
  Other : is_eq (order q r) ≡ false → (q ≡ r → ⊥) → Apart q r

self-equal : (xs : List ℕ) → slice_cmp nat_cmp xs xs ≡ Equal
self-equal [] = refl
self-equal (x ∷ xs) = rw (le-ltb x x (omega arith), eq-eqb x x refl) (self-equal xs)

pub same-due : (q : Due) → is_eq (order q q) ≡ true
same-due q = rw (self-equal q.numbers) (same_order q.span)

pub apart : (q r : Due) → Apart q r
apart q r = by_numbers (slice_cmp nat_cmp q.numbers r.numbers) refl
  where
    by_span : slice_cmp nat_cmp q.numbers r.numbers ≡ Equal → Either q.span r.span → Apart q r
    by_span e (Alike f s) = Same (rw e f) (same_due q r (exact_bytes q.numbers r.numbers e) s)
    by_span e (Unlike f n) = Other (rw e f) (λ x. n (ap (λ (y : Due). y.span) (sym x)))

    differ : (o : Ordering) → slice_cmp nat_cmp q.numbers r.numbers ≡ o → (o ≡ Equal → ⊥) → q ≡ r → ⊥
    differ o e n x = n (sym e ∙ (ap (λ (y : Due). slice_cmp nat_cmp q.numbers y.numbers) (sym x) ∙ self-equal q.numbers))

    by_numbers : (o : Ordering) → slice_cmp nat_cmp q.numbers r.numbers ≡ o → Apart q r
    by_numbers Less e = Other (rw e refl) (differ Less e (λ y. cc))
    by_numbers Equal e = by_span e (either q.span r.span)
    by_numbers Greater e = Other (rw e refl) (differ Greater e (λ y. cc))

-- what is in the index is in each part of it that has it
pub in-part : (p : Due → Bool) (q : Due) (ds : List Due) → p q ≡ true → IsIn ds q → IsIn (filter p ds) q
in-part p q [] l h = h
in-part p q (d ∷ ds) l h = go (apart q d) (p d) refl (in-part p q ds l) h
  where
    here : q ≡ d → p d ≡ true
    here s = rw (← s) l

    go : Apart q d → (b : Bool) → p d ≡ b → (IsIn ds q → IsIn (filter p ds) q) → (is_eq (order q d) || list_any (λ e. is_eq (order q e)) ds) ≡ true
        → list_any (λ e. is_eq (order q e)) (cond b (d ∷ filter p ds) (filter p ds)) ≡ true
    go (Same e s) true r ih h = rw e refl
    go (Same e s) false r ih h = absurd (let g = here s in let x = rw r at g in cc)
    go (Other e s) true r ih h = rw e (ih (rw e at h))
    go (Other e s) false r ih h = ih (rw e at h)

pub in-all : (q : Due) (ds : List Due) → IsIn ds q → IsIn (filter (range_contains order Unbounded Unbounded) ds) q
in-all q [] h = h
in-all q (d ∷ ds) h = go (is_eq (order q d)) h (in-all q ds)
  where
    go : (b : Bool) → (b || list_any (λ e. is_eq (order q e)) ds) ≡ true → (IsIn ds q → IsIn (filter (range_contains order Unbounded Unbounded) ds) q) → (b || list_any (λ e. is_eq (order q e)) (filter (range_contains order Unbounded Unbounded) ds)) ≡ true
    go true h ih = refl
    go false h ih = ih h

each-less : (d : Due) (p : Due → Bool) (ds : List Due) → AllByRecursion (λ e. order d e ≡ Less) ds → AllByRecursion (λ e. order d e ≡ Less) (filter p ds)
each-less d p [] h = tt
each-less d p (e ∷ ds) h = go (p e) (each-less d p ds h.1)
  where
    go : (b : Bool) → AllByRecursion (λ f. order d f ≡ Less) (filter p ds) → AllByRecursion (λ f. order d f ≡ Less) (cond b (e ∷ filter p ds) (filter p ds))
    go true ih = (h.0, ih)
    go false ih = ih

-- a part of the index is in order as the index is
pub sorted-part : (p : Due → Bool) (ds : List Due) → IsStrictlySortedBy order ds → IsStrictlySortedBy order (filter p ds)
unfolding IsStrictlySortedBy
sorted-part p [] h = tt
sorted-part p (d ∷ ds) h = go (p d) (sorted-part p ds h.1)
  where
    go : (b : Bool) → IsStrictlySortedBy order (filter p ds) → IsStrictlySortedBy order (cond b (d ∷ filter p ds) (filter p ds))
    go true ih = (each-less d p ds h.0, ih)
    go false ih = ih

pub sorted-rest : (d : Due) (ds : List Due) → IsStrictlySortedBy order (d ∷ ds) → IsStrictlySortedBy order ds
unfolding IsStrictlySortedBy
sorted-rest d ds h = h.1

-- the first of what is in order comes after no other
pub first-least : (d q : Due) (ds : List Due) → IsStrictlySortedBy order (d ∷ ds) → IsIn (d ∷ ds) q → (q ≡ d) ⊎ (order d q ≡ Less)
unfolding IsStrictlySortedBy
first-least d q ds a h = go (apart q d) h (λ i. inr (among ds a.0 i))
  where
    among : (es : List Due) → AllByRecursion (λ e. order d e ≡ Less) es → IsIn es q → order d q ≡ Less
    among [] g i = absurd cc
    among (e ∷ es) g i = by (apart q e) i (λ k. among es g.1 k)
      where
        by : Apart q e → (is_eq (order q e) || list_any (λ f. is_eq (order q f)) es) ≡ true → (IsIn es q → order d q ≡ Less) → order d q ≡ Less
        by (Same f s) i ih = rw s g.0
        by (Other f s) i ih = ih (rw f at i)

    go : Apart q d → (is_eq (order q d) || list_any (λ f. is_eq (order q f)) ds) ≡ true → (IsIn ds q → (q ≡ d) ⊎ (order d q ≡ Less)) → (q ≡ d) ⊎ (order d q ≡ Less)
    go (Same e s) i ih = inl s
    go (Other e s) i ih = ih (rw e at i)

-- ---- the order of the numbers

-- numbers that precede others come before them
precedes-less : (xs ys : List ℕ) → precedes xs ys ≡ true → slice_cmp nat_cmp xs ys ≡ Less
unfolding precedes
precedes-less [] ys h = absurd cc
precedes-less (x ∷ xs) [] h = absurd cc
precedes-less (x ∷ xs) (y ∷ ys) h = go (nat_lt x y) (x == y) h (λ k. precedes-less xs ys k)
  where
    go : (a b : Bool) → (a || (b && precedes xs ys)) ≡ true → (precedes xs ys ≡ true → slice_cmp nat_cmp xs ys ≡ Less) → ordering_then (cond a Less (cond b Equal Greater)) (slice_cmp nat_cmp xs ys) ≡ Less
    go true b h ih = refl
    go false true h ih = ih h
    go false false h ih = absurd cc

pub before-less : (q r : Due) → precedes q.numbers r.numbers ≡ true → order q r ≡ Less
before-less q r h = rw (precedes-less q.numbers r.numbers h) refl

-- numbers of which the first is less precede others
pub first-precedes : (xs ys : List ℕ) → 0 < length xs → slice_index xs 0 < slice_index ys 0 → precedes xs ys ≡ true
unfolding precedes
first-precedes [] ys some l = absurd (omega arith)
first-precedes (x ∷ xs) [] some l = absurd (omega arith)
first-precedes (x ∷ xs) (y ∷ ys) some l = rw (lt-ltb x y l) refl

-- one at or behind another does not stand before it
pub not-before : (head q : Due) → (q ≡ head) ⊎ (order head q ≡ Less) → precedes q.numbers head.numbers ≡ true → ⊥
not-before head q (inl s) h = let l : order q head ≡ Less = before-less q head h in let e : is_eq (order q q) ≡ true = same-due q in let m : order q q ≡ Less = subst (λ x. order q x ≡ Less) (sym s) l in (let n = rw m at e in cc)
not-before head q (inr s) h = let l : order q head ≡ Less = before-less q head h in let a = total-law.antisymm head q in (let b = rw (s, l) at a in cc)

-- of what is left one is the first, or it is in the rest
pub first-or : (d q : Due) (ds : List Due) → IsIn (d ∷ ds) q → (q ≡ d) ⊎ IsIn ds q
first-or d q ds h = go (apart q d) h
  where
    go : Apart q d → (is_eq (order q d) || list_any (λ f. is_eq (order q f)) ds) ≡ true → (q ≡ d) ⊎ IsIn ds q
    go (Same e s) i = inl s
    go (Other e s) i = inr (rw e at i)

-- a time put in
pub put-in : (old new : List Due) (d : Due) → ((q : Due) → list_any (λ e. is_eq (order q e)) new ≡ cond (is_eq (order d q)) true (list_any (λ e. is_eq (order q e)) old)) → IsIn new d × Keeps old new
put-in old new d t = (rw (t d, same-due d) refl, λ q h. go q (is_eq (order d q)) refl h)
  where
    go : (q : Due) (b : Bool) → is_eq (order d q) ≡ b → IsIn old q → IsIn new q
    go q true e h = rw (t q, e) refl
    go q false e h = rw (t q, e) h

-- a time of a packet taken out
pub taken-out : (old new : List Due) (d : Due) (span : Span) → d.span ≡ span → ((q : Due) → list_any (λ e. is_eq (order q e)) new ≡ cond (is_eq (order d q)) false (list_any (λ e. is_eq (order q e)) old)) → KeepsOthers old new span
taken-out old new d span s t q n h = go (apart d q)
  where
    go : Apart d q → IsIn new q
    go (Same e same) = absurd (n (ap (λ (x : Due). x.span) (sym same) ∙ s))
    go (Other e a) = rw (t q, e) h
