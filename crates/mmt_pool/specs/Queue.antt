-- The queue of kept packets.
use Rattle.std.specs.Prelude.{◌≡◌, ℕ, ◌<◌, ◌≤◌, ◌^◌, Bool, true, false, ◌||◌, cond, List, [], ◌∷◌, ◌++◌, length, slice_index_or, Option, Some, None, ⊤}
use Rattle.std.specs.List.{AllByRecursion, list_any}
use Rattle.std.specs.Ordering.{is_eq}
use Rattle.std.specs.declared.cmp.Ordering.{Ordering}
use Rattle.mmt_base.specs.Ticks.{is_after, plus}
use Rattle.mmt_pool.specs.declared.queue.Queued.{Queued}
use Rattle.mmt_pool.specs.contracts.queue.QueuedOrd.TheImpl.{cmp-value as queue_order}

-- the order of the timestamp as a number, then packet id and number (this project's rule)
abbrev pub order : Queued → Queued → Ordering
order q r = queue_order.it q r

-- the packet is among these (this project's rule)
abbrev pub has : List Queued → Queued → Bool
has queue q = list_any (λ k. is_eq (order q k)) queue

-- each timestamp has 32 bits (ISO/IEC 23008-1, the MMTP packet header)
abbrev pub IsShort : List Queued → Type 0
IsShort queue = (q : Queued) → has queue q ≡ true → q.time < 2 ^ 32

-- the second packet is another than the first, of a timestamp that is, as a number, at least the first's (this project's rule)
pub record ComesAfter (q r : Queued) : Type 0 where
  pub later : q.time ≤ r.time
  pub other : is_eq (order q r) ≡ false

-- no packet stands twice, and the timestamps, as numbers, do not fall (this project's rule)
unfoldable pub IsRow : List Queued → Type 0
IsRow [] = ⊤
IsRow (q ∷ row) = AllByRecursion (ComesAfter q) row × IsRow row

-- no timestamp of the row is, as a number, greater than this one (this project's rule)
abbrev pub EndsBy : List Queued → ℕ → Type 0
EndsBy row time = (q : Queued) → has row q ≡ true → q.time ≤ time

-- what is true of every queue: its row and its strays have no packet in common, and all timestamps have 32 bits (this project's rule)
pub record IsQueue (row strays : List Queued) : Type 0 where
  pub rising : IsRow row
  pub apart : (q : Queued) → has row q ≡ true → has strays q ≡ false
  pub row_short : IsShort row
  pub strays_short : IsShort strays

-- one more packet is in the queue (this project's rule)
abbrev pub Puts : List Queued → Queued → List Queued → Type 0
Puts old q new = (r : Queued) → has new r ≡ cond (is_eq (order q r)) true (has old r)

-- a packet out of the window is taken out, and it alone, or where there is none the queue is as it was (this project's rule)
abbrev pub TakesOut : List Queued → ℕ → ℕ → Option Queued → List Queued → Type 0
TakesOut old clock window (Some q) new = (has old q ≡ true) × (is_after (plus q.time window) clock ≡ false) × ((r : Queued) → has new r ≡ cond (is_eq (order q r)) false (has old r))
TakesOut old clock window None new = ((q : Queued) → has old q ≡ true → is_after (plus q.time window) clock ≡ true) × (new ≡ old)

-- the packet stands in the row at this place (this project's rule)
pub record StandsAt (row : List Queued) (place : ℕ) (q : Queued) : Type 0 where
  pub within : place < length row
  pub is : q ≡ slice_index_or row place q

-- from this place on the timestamps are, as numbers, at least this one, and before it they are less (this project's rule)
pub record StandsFrom (row : List Queued) (first place : ℕ) : Type 0 where
  pub before : (i : ℕ) (q : Queued) → StandsAt row i q → i < place → q.time < first
  pub after : (i : ℕ) (q : Queued) → StandsAt row i q → place ≤ i → first ≤ q.time

-- the place of a packet of a timestamp from the one to the other, or there is none (this project's rule)
abbrev pub FindsPlaceBetween : List Queued → ℕ → ℕ → Option ℕ → Type 0
FindsPlaceBetween row first last (Some place) = (place < length row) × ((q : Queued) → StandsAt row place q → (first ≤ q.time) × (q.time ≤ last))
FindsPlaceBetween row first last None = (q : Queued) → has row q ≡ true → first ≤ q.time → last < q.time

-- the place of a packet of the row that is out of the window, or where there is none all are in it (this project's rule)
abbrev pub FindsPlaceOut : List Queued → ℕ → ℕ → Option ℕ → Type 0
FindsPlaceOut row clock window (Some place) = (place < length row) × ((q : Queued) → StandsAt row place q → is_after (plus q.time window) clock ≡ false)
FindsPlaceOut row clock window None = (q : Queued) → has row q ≡ true → is_after (plus q.time window) clock ≡ true

-- the packet of the least timestamp of at least this one, or there is none (this project's rule)
abbrev pub FindsFrom : List Queued → ℕ → Option Queued → Type 0
FindsFrom strays time (Some q) = (has strays q ≡ true) × (time ≤ q.time) × ((r : Queued) → has strays r ≡ true → time ≤ r.time → q.time ≤ r.time)
FindsFrom strays time None = (r : Queued) → has strays r ≡ true → r.time < time

-- the packet of the least timestamp, or none where there is no packet (this project's rule)
abbrev pub FindsLeast : List Queued → Option Queued → Type 0
FindsLeast strays (Some q) = (has strays q ≡ true) × ((r : Queued) → has strays r ≡ true → q.time ≤ r.time)
FindsLeast strays None = (r : Queued) → has strays r ≡ true → ⊥

-- the packet of the greatest timestamp, or none where there is no packet (this project's rule)
abbrev pub FindsGreatest : List Queued → Option Queued → Type 0
FindsGreatest strays (Some q) = (has strays q ≡ true) × ((r : Queued) → has strays r ≡ true → r.time ≤ q.time)
FindsGreatest strays None = (r : Queued) → has strays r ≡ true → ⊥

-- a packet of a timestamp of at least this one, or there is none (this project's rule)
abbrev pub FindsOneFrom : List Queued → ℕ → Option Queued → Type 0
FindsOneFrom strays first (Some q) = (has strays q ≡ true) × (first ≤ q.time)
FindsOneFrom strays first None = (r : Queued) → has strays r ≡ true → r.time < first

-- a packet of a timestamp from the one to the other, or there is none (this project's rule)
abbrev pub FindsBetween : List Queued → ℕ → ℕ → Option Queued → Type 0
FindsBetween strays first last (Some q) = (has strays q ≡ true) × (first ≤ q.time) × (q.time ≤ last)
FindsBetween strays first last None = (r : Queued) → has strays r ≡ true → first ≤ r.time → last < r.time

-- a packet that is out of the window, or where there is none all are in it (this project's rule)
abbrev pub FindsOut : List Queued → ℕ → ℕ → Option Queued → Type 0
FindsOut strays clock window (Some q) = (has strays q ≡ true) × (is_after (plus q.time window) clock ≡ false)
FindsOut strays clock window None = (q : Queued) → has strays q ≡ true → is_after (plus q.time window) clock ≡ true
