-- The queue as its row and its strays come to have one packet more or less.
use Rattle.std.proofs.Common.{◌≡◌, ℕ, ◌<◌, ◌≤◌, ◌-◌, ◌^◌, Bool, true, false, ◌||◌, cond, List, [], ◌∷◌, ◌++◌, length, ◌⊎◌, inl, inr, refl, arith, ap, sym, ◌∙◌, Option, Some, None}
use Rattle.std.specs.List.{remove}
use Rattle.std.specs.List.Sorted.{IsNonDecreasingBy}
use Rattle.std.specs.Ordering.{is_eq}
use Rattle.std.proofs.lemmas.List.Folds.{list_any-append}
use Rattle.std.proofs.lemmas.Bool.{cases_lt}
use Rattle.mmt_base.specs.Ticks.{ahead_of, is_after, plus}
use Rattle.mmt_pool.specs.declared.queue.Queued.{Queued}
use Rattle.mmt_pool.specs.Queue.{order, has, IsShort, IsRow, EndsBy, IsQueue, Puts, TakesOut, StandsAt, StandsFrom, FindsPlaceBetween, FindsPlaceOut}
use Rattle.mmt_pool.proofs.QueueOrder.{Apart, Same, Other, apart}
use Rattle.mmt_pool.proofs.RowOrder.{Found, found, rising, has-stands, stands-at, only, row-push, has-push, row-remove, has-remove, or_true, itself}
use Rattle.mmt_pool.proofs.Ticks.{out_between, out_from, out_up_to, in_outside_first, in_outside_last, in_between}

-- a packet of the queue is in the row or among the strays
pub has-both : (row strays : List Queued) (r : Queued) → has (row ++ strays) r ≡ (has row r || has strays r)
has-both row strays r = list_any-append (λ k. is_eq (order r k)) row strays

-- the strays with one packet more or less
abbrev pub Turns : List Queued → List Queued → Queued → Bool → Type 0
Turns old new q b = (r : Queued) → has new r ≡ cond (is_eq (order q r)) b (has old r)

no_row : (row strays : List Queued) (q : Queued) → has (row ++ strays) q ≡ false → (has row q ≡ false) × (has strays q ≡ false)
no_row row strays q n = go (has row q) (has strays q) (sym (has-both row strays q) ∙ n)
  where
    go : (x y : Bool) → (x || y) ≡ false → (x ≡ false) × (y ≡ false)
    go true y e = absurd cc
    go false y e = (refl, e)

-- a packet is not both of two lists that have none in common
not_row : (row strays : List Queued) (q : Queued) → ((r : Queued) → has row r ≡ true → has strays r ≡ false) → has strays q ≡ true → has row q ≡ false
not_row row strays q a h = go (has row q) refl
  where
    go : (b : Bool) → has row q ≡ b → has row q ≡ false
    go true e = let n : has strays q ≡ false = a q e in absurd cc
    go false e = e

-- a packet at the end of the row
pub puts-row : (row strays : List Queued) (q : Queued) → Puts (row ++ strays) q ((row ++ q ∷ []) ++ strays)
puts-row row strays q = λ r. rw (has-both (row ++ q ∷ []) strays r, has-both row strays r, has-push row q r) (go (is_eq (order q r)) (has row r) (has strays r))
  where
    go : (b x y : Bool) → (cond b true x || y) ≡ cond b true (x || y)
    go true x y = refl
    go false x y = refl

pub queue-row : (row strays : List Queued) (q : Queued) → IsQueue row strays → q.time < 2 ^ 32 → EndsBy row q.time → has (row ++ strays) q ≡ false → IsQueue (row ++ q ∷ []) strays
queue-row row strays q i s last n =
    let none : (has row q ≡ false) × (has strays q ≡ false) = no_row row strays q n in
    record {
      rising = row-push row q i.rising last none.0;
      apart = λ r h. away r (apart q r) none.1 (sym (has-push row q r) ∙ h);
      row_short = λ r h. short r (apart q r) (sym (has-push row q r) ∙ h);
      strays_short = i.strays_short;
    }
  where
    away : (r : Queued) → Apart q r → has strays q ≡ false → cond (is_eq (order q r)) true (has row r) ≡ true → has strays r ≡ false
    away r (Same e here) m h = rw (← here) m
    away r (Other e o) m h = i.apart r (rw e at h)

    short : (r : Queued) → Apart q r → cond (is_eq (order q r)) true (has row r) ≡ true → r.time < 2 ^ 32
    short r (Same e here) h = rw (← here) s
    short r (Other e o) h = i.row_short r (rw e at h)

-- a packet among the strays
pub puts-stray : (row old new : List Queued) (q : Queued) → Turns old new q true → Puts (row ++ old) q (row ++ new)
puts-stray row old new q t = λ r. rw (has-both row new r, has-both row old r, t r) (go (is_eq (order q r)) (has row r) (has old r))
  where
    go : (b x y : Bool) → (x || cond b true y) ≡ cond b true (x || y)
    go true x y = or_true x
    go false x y = refl

pub queue-stray : (row old new : List Queued) (q : Queued) → IsQueue row old → q.time < 2 ^ 32 → Turns old new q true → has (row ++ old) q ≡ false → IsQueue row new
queue-stray row old new q i s t n =
    let none : (has row q ≡ false) × (has old q ≡ false) = no_row row old q n in
    record {
      rising = i.rising;
      apart = λ r h. t r ∙ away r (apart q r) none.0 h;
      row_short = i.row_short;
      strays_short = λ r h. short r (apart q r) (sym (t r) ∙ h);
    }
  where
    away : (r : Queued) → Apart q r → has row q ≡ false → has row r ≡ true → cond (is_eq (order q r)) true (has old r) ≡ false
    away r (Same e here) m h = let no : has row q ≡ true = rw here h in absurd cc
    away r (Other e o) m h = rw e (i.apart r h)

    short : (r : Queued) → Apart q r → cond (is_eq (order q r)) true (has old r) ≡ true → r.time < 2 ^ 32
    short r (Same e here) h = rw (← here) s
    short r (Other e o) h = i.strays_short r (rw e at h)

-- a packet out of the row
pub takes-row : (row strays : List Queued) (place : ℕ) (q : Queued) (clock window : ℕ) → IsQueue row strays → StandsAt row place q → is_after (plus q.time window) clock ≡ false → TakesOut (row ++ strays) clock window (Some q) (remove row place ++ strays)
takes-row row strays place q clock window i s e =
    let here : has row q ≡ true = has-stands row place q s in
    (rw (has-both row strays q, here) refl, e, λ r. rw (has-both (remove row place) strays r, has-both row strays r, has-remove row place q r i.rising s) (go r (apart q r) (i.apart q here)))
  where
    go : (r : Queued) → Apart q r → has strays q ≡ false → (cond (is_eq (order q r)) false (has row r) || has strays r) ≡ cond (is_eq (order q r)) false (has row r || has strays r)
    go r (Same e here) n = rw (e, ← here, n) refl
    go r (Other e o) n = rw e refl

pub queue-less : (row strays : List Queued) (place : ℕ) (q : Queued) → IsQueue row strays → StandsAt row place q → IsQueue (remove row place) strays
queue-less row strays place q i s =
    record {
      rising = row-remove row place s.within i.rising;
      apart = λ r h. i.apart r (was r (apart q r) (sym (has-remove row place q r i.rising s) ∙ h));
      row_short = λ r h. i.row_short r (was r (apart q r) (sym (has-remove row place q r i.rising s) ∙ h));
      strays_short = i.strays_short;
    }
  where
    was : (r : Queued) → Apart q r → cond (is_eq (order q r)) false (has row r) ≡ true → has row r ≡ true
    was r (Same e here) h = let no : false ≡ true = rw e at h in absurd cc
    was r (Other e o) h = rw e at h

-- a packet out of the strays
pub takes-stray : (row old new : List Queued) (q : Queued) (clock window : ℕ) → IsQueue row old → has old q ≡ true → is_after (plus q.time window) clock ≡ false → Turns old new q false → TakesOut (row ++ old) clock window (Some q) (row ++ new)
takes-stray row old new q clock window i h e t =
    (rw (has-both row old q, h) (or_true (has row q)), e, λ r. rw (has-both row new r, has-both row old r, t r) (go r (apart q r) (not_row row old q i.apart h)))
  where
    go : (r : Queued) → Apart q r → has row q ≡ false → (has row r || cond (is_eq (order q r)) false (has old r)) ≡ cond (is_eq (order q r)) false (has row r || has old r)
    go r (Same e here) n = rw (e, ← here, n) refl
    go r (Other e o) n = rw e refl

pub queue-fewer : (row old new : List Queued) (q : Queued) → IsQueue row old → Turns old new q false → IsQueue row new
queue-fewer row old new q i t =
    record {
      rising = i.rising;
      apart = λ r h. t r ∙ away r (is_eq (order q r)) (i.apart r h);
      row_short = i.row_short;
      strays_short = λ r h. i.strays_short r (was r (is_eq (order q r)) (sym (t r) ∙ h));
    }
  where
    away : (r : Queued) (b : Bool) → has old r ≡ false → cond b false (has old r) ≡ false
    away r true h = refl
    away r false h = h

    was : (r : Queued) (b : Bool) → cond b false (has old r) ≡ true → has old r ≡ true
    was r true h = absurd cc
    was r false h = h

-- none in either
pub takes-none : (row strays : List Queued) (clock window : ℕ) → FindsPlaceOut row clock window None → ((q : Queued) → has strays q ≡ true → is_after (plus q.time window) clock ≡ true) → TakesOut (row ++ strays) clock window None (row ++ strays)
takes-none row strays clock window f g = (λ q h. go q (has row q) refl (sym (has-both row strays q) ∙ h), refl)
  where
    go : (q : Queued) (b : Bool) → has row q ≡ b → (has row q || has strays q) ≡ true → is_after (plus q.time window) clock ≡ true
    go q true e h = f q e
    go q false e h = g q (rw e at h)

-- the last packet of a row is none before another
pub up_to_last : (row : List Queued) (q : Queued) → IsRow row → StandsAt row (length row - 1) q → (r : Queued) → has row r ≡ true → r.time ≤ q.time
up_to_last row q i s r h = let f : Found row r = found row r h in rising row f.place (length row - 1) r q i f.at s (let w = f.at.within in omega arith)

-- and the first none after another
pub from_first : (row : List Queued) (q : Queued) → IsRow row → StandsAt row 0 q → (r : Queued) → has row r ≡ true → q.time ≤ r.time
from_first row q i s r h = let f : Found row r = found row r h in rising row 0 f.place q r i s f.at (omega arith)

-- where the interval that is out of the window does not wrap round
pub straight_out : (row : List Queued) (clock window last first : ℕ) (o : Option ℕ) → IsShort row → window < 2 ^ 32 → clock < 2 ^ 32 → last ≡ ahead_of clock window → first ≡ plus last (2 ^ 31) → first ≤ last → FindsPlaceBetween row first last o → FindsPlaceOut row clock window o
straight_out row clock window last first (Some place) s w c l f o u = (u.0, λ q a. out_between q.time window clock last first (s q (has-stands row place q a)) w c l f o (u.1 q a).0 (u.1 q a).1)
straight_out row clock window last first None s w c l f o u = λ r h. go r h (cases_lt r.time first)
  where
    go : (r : Queued) → has row r ≡ true → (r.time < first) ⊎ (first ≤ r.time) → is_after (plus r.time window) clock ≡ true
    go r h (inl m) = in_outside_first r.time window clock last first (s r h) w c l f o m
    go r h (inr m) = in_outside_last r.time window clock last first (s r h) w c l f o (u r h m)

-- where it does: the last packet of the row is out of it
pub wrapped_out : (row : List Queued) (clock window last first place : ℕ) (g : Queued) → IsShort row → window < 2 ^ 32 → clock < 2 ^ 32 → last ≡ ahead_of clock window → first ≡ plus last (2 ^ 31) → last < first → StandsAt row place g → first ≤ g.time → FindsPlaceOut row clock window (Some place)
wrapped_out row clock window last first place g s w c l f o a h = (a.within, λ q b. out_from q.time window clock last first (s q (has-stands row place q b)) w c l f o (let same : q ≡ g = only row place q g b a in rw same h))

-- or none of the row is, since its first packet and its last are not
pub wrapped_in : (row : List Queued) (clock window last first : ℕ) (q g : Queued) → IsRow row → IsShort row → window < 2 ^ 32 → clock < 2 ^ 32 → last ≡ ahead_of clock window → first ≡ plus last (2 ^ 31) → last < first
    → StandsAt row 0 q → is_after (plus q.time window) clock ≡ true → StandsAt row (length row - 1) g → g.time < first → FindsPlaceOut row clock window None
wrapped_in row clock window last first q g i s w c l f o a e b h = λ r k. in_between r.time window clock last first (s r k) w c l f o (let later : last < q.time = by (cases_lt last q.time) in omega (arith, from_first row q i a r k)) (omega (arith, up_to_last row g i b r k))
  where
    by : (last < q.time) ⊎ (q.time ≤ last) → last < q.time
    by (inl m) = m
    by (inr m) = let out : is_after (plus q.time window) clock ≡ false = out_up_to q.time window clock last first (s q (has-stands row 0 q a)) w c l f o m in absurd cc

-- the timestamps from a place on are above the last one asked for, where that of the place is
pub none_after_place : (row : List Queued) (first last place : ℕ) (p : Queued) → IsRow row → StandsFrom row first place → StandsAt row place p → last < p.time → FindsPlaceBetween row first last None
none_after_place row first last place p i s a l = λ q h k. let f : Found row q = found row q h in go q f k (cases_lt f.place place)
  where
    go : (q : Queued) (f : Found row q) → first ≤ q.time → (f.place < place) ⊎ (place ≤ f.place) → last < q.time
    go q f k (inl m) = absurd (let b : q.time < first = s.before f.place q f.at m in omega arith)
    go q f k (inr m) = omega (arith, rising row place f.place p q i a f.at m)

-- where no packet stands from the place on, no timestamp is so great
pub none_from_place : (row : List Queued) (first last place : ℕ) → StandsFrom row first place → (place < length row → ⊥) → FindsPlaceBetween row first last None
none_from_place row first last place s n = λ q h k. let f : Found row q = found row q h in absurd (let w = f.at.within in let b : q.time < first = s.before f.place q f.at (go (cases_lt f.place place) w) in omega arith)
  where
    go : {i : ℕ} → (i < place) ⊎ (place ≤ i) → i < length row → i < place
    go (inl m) w = m
    go (inr m) w = absurd (n (omega arith))

-- the timestamps of the row in the words of the standard library
pub rising_by : (row : List Queued) → IsRow row → IsNonDecreasingBy (λ q. q.time) row
rising_by row h = λ i j d le l. rising row i j _ _ h (stands-at row i d (omega arith)) (stands-at row j d l) le
