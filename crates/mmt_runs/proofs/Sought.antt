-- The first of the units that are looked for, from packet to packet.
use Rattle.std.proofs.Common.{◌≡◌, ℕ, ◌≤◌, ◌<◌, Bool, true, false, ◌&&◌, ◌||◌, ◌==◌, List, [], ◌∷◌, ◌⊎◌, inl, inr, ⊎_elim, map, cond, refl, ap, sym, ◌∙◌, arith, subst, Option, Some, None, filter, slice_index, length}
use Rattle.std.specs.List.{flat_map}
use Rattle.std.specs.BTreeMap.Range.{range_contains}
use Rattle.std.specs.List.Sorted.{IsStrictlySortedBy}
use Rattle.std.specs.declared.cmp.Ordering.TheVariants.{Less, Greater}
use Rattle.std.specs.declared.ops.Bound.TheVariants.{Excluded, Unbounded}
use Rattle.std.proofs.lemmas.Bool.Decides.{nat_tests}
use Rattle.std.proofs.lemmas.Bool.{and_parts, eqb-true, cases_lt}
use Rattle.mmt_base.specs.Ticks.{low, is_passed, due_of}
use Rattle.mmt_model.specs.Handing.{Presentation, is_presented_before, order_numbers, precedes, named_units, due_units}
use Rattle.mmt_model.specs.Units.{units_of}
use Rattle.mmt_pool.specs.declared.types.Span.{Span}
use Rattle.mmt_pool.specs.Holding.{Kept, IsInOrder, is_at}
use Rattle.mmt_pool.specs.Holding.{packet_at as kept_at}
use Rattle.mmt_pool.specs.Doing.{span_of}
use Rattle.mmt_times.specs.Known.{Known}
use Rattle.mmt_runs.specs.declared.order.UnitOrder.{UnitOrder}
use Rattle.mmt_runs.specs.declared.index.Due.{Due}
use Rattle.mmt_runs.specs.Index.{IsIn, order}
use Rattle.mmt_runs.specs.Order.{stands_after, numbers_of}
use Rattle.mmt_runs.specs.Reading.{heard}
use Rattle.mmt_runs.specs.Leading.{first, rest_after}
use Rattle.mmt_runs.specs.Choosing.{is_sought, best, named_at, named_in}
use Rattle.mmt_runs.specs.Seeking.{Among, named_of, IsBehind, IsNamed, Passes, PassesAt, IsPast, IsRest, StandsBefore, LieIn}
use Rattle.mmt_runs.specs.declared.stretch.Stretch.{Stretch}
use Rattle.mmt_runs.specs.Stretch.{HoldsDue}
use Rattle.mmt_runs.specs.contracts.index.DueOrd.TheImpl.Laws.{total-law}
use Rattle.std.specs.Ordering.{is_gt, is_lt}
use Rattle.mmt_runs.specs.Told.{IsTold, Tracked}
use Rattle.mmt_runs.proofs.FirstFound.{Found, best_found, false_of, itself, found_first}
use Rattle.mmt_model.proofs.Preceding.{before-through}
use Rattle.mmt_runs.proofs.DueOrder.{in-part, first-precedes, in-all, sorted-part, before-less, not-before, first-least, first-or}
use Rattle.mmt_runs.proofs.LeastDue.{named_kept}
use Rattle.mmt_runs.proofs.Naming.{among_append, among_left, among_right, named_indexed, named_begun}

-- the units that are named and no better than the best so far
abbrev Beaten : (Presentation → Bool) → Known → List Kept → Option Presentation → Presentation → Type 0
Beaten p known kept o d = ((s : Span) × Among d (named_of known kept s)) × (p d ≡ true → IsBehind o d)

beaten : (p : Presentation → Bool) (known : Known) (kept : List Kept) (o : Option Presentation) → IsNamed p known kept o → Found p (Beaten p known kept o) o
beaten p known kept None n = λ d s. false_of (p d) (λ t. s.1 t)
beaten p known kept (Some m) n = record { inside = (n.1, λ t. itself m); passing = n.0; least = λ d s t. s.1 t }

-- one more packet
pub record Stepped (p : Presentation → Bool) (known : Known) (kept : List Kept) (o new : Option Presentation) (s : Span) : Type 0 where
  pub named : IsNamed p known kept new
  pub keeps : (d : Presentation) (t : Span) → Among d (named_of known kept t) → p d ≡ true → IsBehind o d → IsBehind new d
  pub passes : Passes p known kept new s

stepped_by : (p : Presentation → Bool) (known : Known) (kept : List Kept) (o new : Option Presentation) (s : Span) → Found p (λ d. Beaten p known kept o d ⊎ Among d (named_of known kept s)) new → Stepped p known kept o new s
stepped_by p known kept o None s f = record {
  named = tt;
  keeps = λ d t a e b. let n : p d ≡ false = f d (inl ((t, a), λ x. b)) in absurd cc;
  passes = λ d a e. let n : p d ≡ false = f d (inr a) in absurd cc;
}
stepped_by p known kept o (Some m) s f = record {
  named = (f.passing, ⊎_elim (λ (b : Beaten p known kept o m). b.0) (λ (a : Among m (named_of known kept s)). (s, a)) f.inside);
  keeps = λ d t a e b. f.least d (inl ((t, a), λ x. b)) e;
  passes = λ d a e. f.least d (inr a) e;
}

pub stepped : (p : Presentation → Bool) (known : Known) (kept : List Kept) (o new : Option Presentation) (s : Span) → IsNamed p known kept o → new ≡ best p o (named_of known kept s) → Stepped p known kept o new s
stepped p known kept o new s n e = stepped_by p known kept o new s (subst (λ x. Found p (λ d. Beaten p known kept o d ⊎ Among d (named_of known kept s)) x) (sym e) (best_found p (Beaten p known kept o) o (named_of known kept s) (beaten p known kept o n)))

-- a packet at a place that is not due is passed by
pub record Tried (p : Presentation → Bool) (known : Known) (kept : List Kept) (o new : Option Presentation) (q : Due) : Type 0 where
  pub named : IsNamed p known kept new
  pub keeps : (d : Presentation) (t : Span) → Among d (named_of known kept t) → p d ≡ true → IsBehind o d → IsBehind new d
  pub passes : PassesAt p known kept new q

first_number : (d : Presentation) (numbers : List ℕ) → order_numbers d ≡ numbers → d.time ≡ slice_index numbers 0
unfolding order_numbers
first_number d numbers e = ap (λ ns. slice_index ns 0) e

pub tried : (known : Known) (kept : List Kept) (after : Option UnitOrder) (from to : ℕ) (o new : Option Presentation) (q : Due) → IsNamed (is_sought after from to) known kept o
    → new ≡ cond (is_passed (low (due_of (slice_index q.numbers 0))) from to) (best (is_sought after from to) o (named_of known kept q.span)) o → Tried (is_sought after from to) known kept o new q
unfolding is_sought
tried known kept after from to o new q n e = go (is_passed (low (due_of (slice_index q.numbers 0))) from to) refl e
  where
    go : (b : Bool) → is_passed (low (due_of (slice_index q.numbers 0))) from to ≡ b → new ≡ cond b (best (is_sought after from to) o (named_of known kept q.span)) o → Tried (is_sought after from to) known kept o new q
    go true f e = let s = stepped (is_sought after from to) known kept o new q.span n e in record { named = s.named; keeps = s.keeps; passes = λ d a t. s.passes d a }
    go false f e = record {
      named = subst (λ x. IsNamed (is_sought after from to) known kept x) (sym e) n;
      keeps = λ d t a g b. subst (λ x. IsBehind x d) (sym e) b;
      passes = λ d a t g. absurd (let h = (and_parts (is_passed (low (due_of d.time)) from to) (stands_after after d) g).0 in let i = rw (first_number d q.numbers t) at h in cc);
    }

-- ---- the places of those that are looked for

-- what stands at a place behind that of the best, or behind another such place, does not stand before the best
pub past_behind : (o : Option Presentation) (d : Presentation) (head q : Due) → IsPast o head.numbers → order_numbers d ≡ q.numbers → (q ≡ head) ⊎ (order head q ≡ Less) → IsBehind o d
unfolding is_presented_before
past_behind None d head q h e l = h
past_behind (Some b) d head q h e l = false_of (precedes (order_numbers d) (order_numbers b)) (λ t. not-before head q l (before-through q.numbers (order_numbers b) head.numbers (rw e at t) h))

pub sought_after : (after : Option UnitOrder) (from to : ℕ) (d : Presentation) → is_sought after from to d ≡ true → stands_after after d ≡ true
unfolding is_sought
sought_after after from to d h = (and_parts (is_passed (low (due_of d.time)) from to) (stands_after after d) h).1

-- what stands after a place lies behind it in the index
behind-key : (after : UnitOrder) (key q : Due) (d : Presentation) → key.numbers ≡ numbers_of after → order_numbers d ≡ q.numbers → stands_after (Some after) d ≡ true → range_contains order (Excluded key) Unbounded q ≡ true
unfolding stands_after
behind-key after key q d n m t = rw (before-less key q (rw (n, ← m) t)) refl

-- the part of the index behind a place has each unit that stands after it
pub rest_behind : (after : UnitOrder) (key : Due) (from to : ℕ) (index rest : List Due) → key.numbers ≡ numbers_of after → IsStrictlySortedBy order index → rest ≡ filter (range_contains order (Excluded key) Unbounded) index → IsRest index (Some after) from to rest
rest_behind after key from to index rest n s e = record {
  ordered = rw e (sorted-part (range_contains order (Excluded key) Unbounded) index s);
  has = λ q d h m t. rw e (in-part (range_contains order (Excluded key) Unbounded) q index (behind-key after key q d n m (sought_after (Some after) from to d t)) h);
}

pub rest_all : (from to : ℕ) (index rest : List Due) → IsStrictlySortedBy order index → rest ≡ filter (range_contains order Unbounded Unbounded) index → IsRest index None from to rest
rest_all from to index rest s e = record { ordered = rw e (sorted-part (range_contains order Unbounded Unbounded) index s); has = λ q d h m t. rw e (in-all q index h) }

-- ---- the stretch of time in which units are due

sought_passed : (after : Option UnitOrder) (from to : ℕ) (d : Presentation) → is_sought after from to d ≡ true → is_passed (low (due_of d.time)) from to ≡ true
unfolding is_sought
sought_passed after from to d h = (and_parts (is_passed (low (due_of d.time)) from to) (stands_after after d) h).0

some_numbers : (d : Presentation) → 0 < length (order_numbers d)
unfolding order_numbers
some_numbers d = omega arith

-- a place of a time stands before each unit that is later
pub time-less : (key q : Due) (d : Presentation) (time : ℕ) → 0 < length key.numbers → slice_index key.numbers 0 ≡ time → order_numbers d ≡ q.numbers → time < d.time → order key q ≡ Less
time-less key q d time some is m l = before-less key q (first-precedes key.numbers q.numbers some (omega (arith, is, l, first_number d q.numbers m)))

-- and after each unit that is earlier
pub less-time : (key q : Due) (d : Presentation) → order_numbers d ≡ q.numbers → d.time < slice_index key.numbers 0 → order q key ≡ Less
less-time key q d m l = before-less q key (first-precedes q.numbers key.numbers (subst (λ ns. 0 < length ns) m (some_numbers d)) (omega (arith, l, first_number d q.numbers m)))

pub starts_after : (after : UnitOrder) (time : ℕ) (key : Due) → key.numbers ≡ numbers_of after → StandsBefore (Some after) time key
unfolding stands_after
starts_after after time key n = λ q d m t l. before-less key q (rw (n, ← m) t)

pub starts_at : (after : Option UnitOrder) (time : ℕ) (key : Due) → 0 < length key.numbers → slice_index key.numbers 0 ≡ time → StandsBefore after time key
starts_at after time key some is = λ q d m t l. time-less key q d time some is m l

pub some_order : (o : UnitOrder) (ns : List ℕ) → ns ≡ numbers_of o → 0 < length ns
unfolding numbers_of
some_order o ns e = rw e (omega arith)

-- what stands before a place has it behind itself
turned : (p q : Due) → order q p ≡ Less → order p q ≡ Greater
turned p q l = let a = total-law.antisymm p q in rw l at a

-- the least and the greatest place of the index have the least and the greatest time
pub at_least : (least q : Due) (d : Presentation) → is_gt (order least q) ≡ false → order_numbers d ≡ q.numbers → slice_index least.numbers 0 ≤ d.time
at_least least q d h m = elim (cases_lt d.time (slice_index least.numbers 0)) [
  | inl lt ↦ absurd (let l = less-time least q d m lt in let g = turned least q l in let n = rw g at h in cc)
  | inr ge ↦ ge
]

pub at_most : (greatest q : Due) (d : Presentation) → 0 < length greatest.numbers → is_lt (order greatest q) ≡ false → order_numbers d ≡ q.numbers → d.time ≤ slice_index greatest.numbers 0
at_most greatest q d some h m = elim (cases_lt (slice_index greatest.numbers 0) d.time) [
  | inl lt ↦ absurd (let l = time-less greatest q d (slice_index greatest.numbers 0) some refl m lt in let n = rw l at h in cc)
  | inr ge ↦ ge
]

-- all units of the index that are due lie in a stretch that holds what is due from its least time to its greatest
pub lies_in : (index : List Due) (least greatest : Due) (from to : ℕ) (s : Stretch) → 0 < length greatest.numbers → ((q : Due) → IsIn index q → is_gt (order least q) ≡ false) → ((q : Due) → IsIn index q → is_lt (order greatest q) ≡ false)
    → HoldsDue (slice_index least.numbers 0) (slice_index greatest.numbers 0) from to s → LieIn index from to s
lies_in index least greatest from to s some low high holds = λ q d h m p. holds d.time (at_least least q d (low q h) m) (at_most greatest q d some (high q h) m) p

-- the part of the index between two places has all units in the stretch between them
pub rest_between : (after : Option UnitOrder) (start end : Due) (from to : ℕ) (index rest : List Due) (s : Stretch) → LieIn index from to s → StandsBefore after s.after start → slice_index end.numbers 0 ≡ s.before
    → IsStrictlySortedBy order index → rest ≡ filter (range_contains order (Excluded start) (Excluded end)) index → IsRest index after from to rest
rest_between after start end from to index rest s lie before is sorted e = record {
  ordered = rw e (sorted-part (range_contains order (Excluded start) (Excluded end)) index sorted);
  has = λ q d h m t.
      let l = lie q d h m (sought_passed after from to d t) in
      let a : order start q ≡ Less = before q d m (sought_after after from to d t) l.0 in
      let b : order q end ≡ Less = less-time end q d m (omega (arith, l.1, is)) in
      rw e (in-part (range_contains order (Excluded start) (Excluded end)) q index (rw (a, turned end q b) refl) h);
}

-- ---- all units

in_some : (known : Known) (kept : List Kept) (d : Presentation) (ss : List Span) → Among d (flat_map (λ s. named_of known kept s) ss) → (s : Span) × Among d (named_of known kept s)
in_some known kept d [] a = absurd a
in_some known kept d (s ∷ ss) a = ⊎_elim (λ (b : Among d (named_of known kept s)). (s, b)) (λ (b : Among d (flat_map (λ s. named_of known kept s) ss)). in_some known kept d ss b) (among_append d (named_of known kept s) (flat_map (λ s. named_of known kept s) ss) a)

in_all : (known : Known) (kept ps : List Kept) (s : Span) (d : Presentation) (p : Kept) → kept_at ps s.packet_id s.number ≡ Some p → Among d (named_of known kept s) → Among d (flat_map (λ s. named_of known kept s) (map span_of ps))
unfolding is_at
in_all known kept [] s d p e a = absurd cc
in_all known kept (q ∷ ps) s d p e a = go ((q.packet_id == s.packet_id) && (q.number == s.number)) refl e (λ f. in_all known kept ps s d p f a)
  where
    here : ((q.packet_id == s.packet_id) && (q.number == s.number)) ≡ true → Among d (named_of known kept (span_of q))
    here t = let h = and_parts (q.packet_id == s.packet_id) (q.number == s.number) t in rw (eqb-true q.packet_id s.packet_id h.0, eqb-true q.number s.number h.1) a

    go : (b : Bool) → ((q.packet_id == s.packet_id) && (q.number == s.number)) ≡ b → cond b (Some q) (kept_at ps s.packet_id s.number) ≡ Some p → (kept_at ps s.packet_id s.number ≡ Some p → Among d (flat_map (λ s. named_of known kept s) (map span_of ps)))
        → Among d (flat_map (λ s. named_of known kept s) (map span_of (q ∷ ps)))
    go true t f ih = among_left d (named_of known kept (span_of q)) (flat_map (λ s. named_of known kept s) (map span_of ps)) (here t)
    go false t f ih = among_right d (named_of known kept (span_of q)) (flat_map (λ s. named_of known kept s) (map span_of ps)) (ih f)

kept_there : (known : Known) (kept : List Kept) (s : Span) (d : Presentation) → Among d (named_of known kept s) → (p : Kept) × (kept_at kept s.packet_id s.number ≡ Some p)
unfolding named_at
kept_there known kept s d a = go (kept_at kept s.packet_id s.number) refl a
  where
    go : (o : Option Kept) → kept_at kept s.packet_id s.number ≡ o → Among d (named_at known (map heard kept) o) → (p : Kept) × (kept_at kept s.packet_id s.number ≡ Some p)
    go None e a = absurd a
    go (Some p) e a = (p, e)

-- the best that was found is the first of all that are looked for
pub all_passed : (known : Known) (kept : List Kept) (after : Option UnitOrder) (from to : ℕ) (o : Option Presentation) → IsInOrder kept → IsNamed (is_sought after from to) known kept o
    → ((s : Span) (d : Presentation) → Among d (named_of known kept s) → is_sought after from to d ≡ true → IsBehind o d)
    → o ≡ first (rest_after after (due_units known.sample_base known.entries (units_of (map heard kept)) from to))
all_passed known kept after from to o order n f = found_first known kept after from to o order (found o n f)
  where
    some_of : (d : Presentation) → Among d (named_units known.sample_base known.entries (units_of (map heard kept))) → (s : Span) × Among d (named_of known kept s)
    some_of d a = in_some known kept d (map span_of kept) (subst (λ l. Among d l) (sym (named_kept known kept order)) a)

    of_some : (d : Presentation) (s : Span) → Among d (named_of known kept s) → Among d (named_units known.sample_base known.entries (units_of (map heard kept)))
    of_some d s a = let k = kept_there known kept s d a in subst (λ l. Among d l) (named_kept known kept order) (in_all known kept kept s d k.0 k.1 a)

    found : (o : Option Presentation) → IsNamed (is_sought after from to) known kept o → ((s : Span) (d : Presentation) → Among d (named_of known kept s) → is_sought after from to d ≡ true → IsBehind o d)
        → Found (is_sought after from to) (λ d. Among d (named_units known.sample_base known.entries (units_of (map heard kept)))) o
    found None n f = λ d a. let s = some_of d a in false_of (is_sought after from to d) (λ t. f s.0 d s.1 t)
    found (Some m) n f = record { inside = of_some m n.1.0 n.1.1; passing = n.0; least = λ d a t. let s = some_of d a in f s.0 d s.1 t }

-- ---- the walk through the index

-- where the walk begins, what it leaves out is not looked for
pub begun_walk : (known : Known) (kept : List Kept) (after : Option UnitOrder) (from to : ℕ) (index rest : List Due) (q : Due) → IsRest index after from to rest → IsIn index q
    → (d : Presentation) → Among d (named_of known kept q.span) → order_numbers d ≡ q.numbers → is_sought after from to d ≡ true → IsIn rest q
begun_walk known kept after from to index rest q r h d a m t = r.has q d h m t

-- each unit at this place that is looked for is passed by, or is left
abbrev pub IsLeft : (Presentation → Bool) → Known → List Kept → Option Presentation → List Due → Due → Type 0
IsLeft p known kept o rest q = (d : Presentation) → Among d (named_of known kept q.span) → order_numbers d ≡ q.numbers → p d ≡ true → IsBehind o d ⊎ IsIn rest q

-- where the best stands before the next place
pub left_past : (p : Presentation → Bool) (known : Known) (kept : List Kept) (o : Option Presentation) (head q : Due) (rest all : List Due) → all ≡ head ∷ rest → IsStrictlySortedBy order all → IsPast o head.numbers → IsLeft p known kept o all q → PassesAt p known kept o q
left_past p known kept o head q rest all e s past l = λ d a m t.
    ⊎_elim (λ (b : IsBehind o d). b) (λ (b : IsIn all q). past_behind o d head q past m (first-least head q rest (subst (IsStrictlySortedBy order) e s) (subst (λ ds. IsIn ds q) e b))) (l d a m t)

-- where the next place was tried
pub left_next : (p : Presentation → Bool) (known : Known) (kept : List Kept) (o new : Option Presentation) (head q : Due) (rest all : List Due) → all ≡ head ∷ rest → Tried p known kept o new head → IsLeft p known kept o all q → IsLeft p known kept new rest q
left_next p known kept o new head q rest all e s l = λ d a m t.
    ⊎_elim
    (λ (b : IsBehind o d). inl (s.keeps d q.span a t b))
    (λ (b : IsIn all q).
    ⊎_elim
    (λ (f : q ≡ head). inl (s.passes d (subst (λ (x : Due). Among d (named_of known kept x.span)) f a) (m ∙ ap (λ (x : Due). x.numbers) f) t))
    (λ (r : IsIn rest q). inr r)
    (first-or head q rest (subst (λ ds. IsIn ds q) e b)))
    (l d a m t)

-- where none is left
pub left_none : (p : Presentation → Bool) (known : Known) (kept : List Kept) (o : Option Presentation) (q : Due) (all : List Due) → all ≡ [] → IsLeft p known kept o all q → PassesAt p known kept o q
left_none p known kept o q all e l = λ d a m t. ⊎_elim (λ (b : IsBehind o d). b) (λ (b : IsIn all q). absurd (let n = subst (λ ds. IsIn ds q) e b in cc)) (l d a m t)
