-- The first of the units that are looked for, found among the times in the index.
use Rattle.std.specs.Prelude.{◌≡◌, ◌⊎◌, ◌<◌, false, true, Bool, ℕ, List, [], ◌∷◌, map, Option, Some, None, IfSome}
use Rattle.std.specs.List.Sorted.{IsStrictlySortedBy}
use Rattle.mmt_model.specs.Handing.{Presentation, is_presented_before, order_numbers, precedes}
use Rattle.mmt_times.specs.Known.{Known}
use Rattle.mmt_pool.specs.declared.types.Span.{Span}
use Rattle.mmt_pool.specs.Holding.{Kept, packet_at}
use Rattle.mmt_runs.specs.declared.index.Due.{Due}
use Rattle.mmt_runs.specs.Index.{IsIn, order}
use Rattle.mmt_runs.specs.Reading.{heard}
use Rattle.mmt_runs.specs.declared.order.UnitOrder.{UnitOrder}
use Rattle.mmt_runs.specs.Choosing.{named_at, is_sought}
use Rattle.std.specs.declared.cmp.Ordering.TheVariants.{Less}
use Rattle.mmt_base.specs.Ticks.{low, is_passed, due_of}
use Rattle.mmt_runs.specs.Order.{stands_after}
use Rattle.mmt_runs.specs.declared.stretch.Stretch.{Stretch}

-- the unit is one of these
abbrev pub Among : Presentation → List Presentation → Type 0
Among d [] = ⊥
Among d (x ∷ xs) = (x ≡ d) ⊎ Among d xs

-- the named units that begin in the packet of a span (this project's rule)
abbrev pub named_of : Known → List Kept → Span → List Presentation
named_of known kept s = named_at known (map heard kept) (packet_at kept s.packet_id s.number)

-- the unit does not stand before the best so far, of which there is one
abbrev pub IsBehind : Option Presentation → Presentation → Type 0
IsBehind None d = ⊥
IsBehind (Some b) d = is_presented_before d b ≡ false

-- the best so far, if there is one, is looked for and begins in some packet
abbrev pub IsNamed : (Presentation → Bool) → Known → List Kept → Option Presentation → Type 0
IsNamed p known kept o = IfSome o (λ b. (p b ≡ true) × ((s : Span) × Among b (named_of known kept s)))

-- no unit that is looked for and begins in this packet stands before the best so far
abbrev pub Passes : (Presentation → Bool) → Known → List Kept → Option Presentation → Span → Type 0
Passes p known kept o s = (d : Presentation) → Among d (named_of known kept s) → p d ≡ true → IsBehind o d

-- the same of the one at this place
abbrev pub PassesAt : (Presentation → Bool) → Known → List Kept → Option Presentation → Due → Type 0
PassesAt p known kept o q = (d : Presentation) → Among d (named_of known kept q.span) → order_numbers d ≡ q.numbers → p d ≡ true → IsBehind o d

-- the best so far stands before this place
abbrev pub IsPast : Option Presentation → List ℕ → Type 0
IsPast None numbers = ⊥
IsPast (Some b) numbers = precedes (order_numbers b) numbers ≡ true

-- a part of the index in its order, with each unit that is due between two ticks and stands after the given one, where one is given
pub record IsRest (index : List Due) (after : Option UnitOrder) (from to : ℕ) (rest : List Due) : Type 0 where
  pub ordered : IsStrictlySortedBy order rest
  pub has : (q : Due) (d : Presentation) → IsIn index q → order_numbers d ≡ q.numbers → is_sought after from to d ≡ true → IsIn rest q

-- a place that stands before each unit that is later than the time and stands after the given one, where one is given
abbrev pub StandsBefore : Option UnitOrder → ℕ → Due → Type 0
StandsBefore after time key = (q : Due) (d : Presentation) → order_numbers d ≡ q.numbers → stands_after after d ≡ true → time < d.time → order key q ≡ Less

-- all units of the index that are due between two ticks lie in the stretch of time
abbrev pub LieIn : List Due → ℕ → ℕ → Stretch → Type 0
LieIn index from to s = (q : Due) (d : Presentation) → IsIn index q → order_numbers d ≡ q.numbers → is_passed (low (due_of d.time)) from to ≡ true → (s.after < d.time) × (d.time < s.before)
