-- The jobs that have no slot yet, in line for one.
use Rattle.std.specs.Prelude.{◌≡◌, ℕ, ◌+◌, ◌-◌, ◌<◌, ◌≤◌, ◌&&◌, ◌==◌, nat_le, List, [], ◌∷◌, ◌++◌, map, drop, Option, Some, None, ◌⊎◌}
use Rattle.std.specs.List.{All, Contains, count_by}
use Rattle.std.specs.List.Sorted.{IsPermutation, IsNonDecreasingBy}
use Rattle.std.specs.BinaryHeap.{IsHeap, heap_items}
use Rattle.std.specs.declared.cmp.Ordering.{Ordering}
use Rattle.std.specs.Ordering.{nat_cmp, ordering_then}
use Rattle.mmt_slots.specs.declared.row.Job.{Job}
use Rattle.mmt_slots.specs.declared.row.Slots.{Slots}
use Rattle.mmt_slots.specs.declared.line.Waiting.{Waiting}
use Rattle.mmt_slots.specs.declared.line.Line.{Line}
use Rattle.mmt_slots.specs.declared.row.NoSchedule.{NoSchedule}
use Rattle.mmt_slots.specs.declared.row.NoSchedule.TheVariants.{Overfull, OutOfMemory}
use Rattle.mmt_slots.specs.Row.{first_at, end_at}

-- jobs with their places, from a place on
abbrev pub named : ℕ → List Job → List Waiting
named n [] = []
named n (job ∷ jobs) = record { deadline = job.deadline; place = n; release = job.release } ∷ named (n + 1) jobs

-- the first slot in which a job can stand
abbrev pub first_of : Slots → Waiting → ℕ
first_of slots w = first_at slots w.release

-- the jobs in line
abbrev pub in_line : Line → List Waiting
in_line line = map (λ r. r.0) (heap_items line.released) ++ drop line.at line.order.items

-- by deadline, then by place
abbrev pub order_of : Waiting → Waiting → Ordering
order_of x y = ordering_then (nat_cmp x.deadline y.deadline) (ordering_then (nat_cmp x.place y.place) (nat_cmp x.release y.release))

-- the jobs that are not released yet stand in the order of their releases, and those that are with the first to go on top
pub record IsSound (line : Line) : Type 0 where
  pub sorted : IsNonDecreasingBy (λ w. w.release) line.order.items
  pub on_top : IsHeap (λ x y. order_of y.0 x.0) (heap_items line.released)

-- the released jobs can stand in a slot
abbrev pub AreReleased : Slots → ℕ → Line → Type 0
AreReleased slots slot line = All (λ r. first_of slots r.0 ≤ slot) (heap_items line.released)

-- some job can stand in a slot, or there is none
abbrev pub CanStand : Slots → ℕ → List Waiting → Type 0
CanStand slots slot all = (all ≡ []) ⊎ ((w : Waiting) × Contains all w × (first_of slots w ≤ slot))

-- a job goes before another, or is the same
abbrev pub IsNoLater : Waiting → Waiting → Type 0
IsNoLater x y = (x.deadline < y.deadline) ⊎ ((x.deadline ≡ y.deadline) × (x.place ≤ y.place))

-- a job is taken out of line, with the first slot from a slot on in which some job can stand, and it goes first of those that can stand there
pub record IsTaken (slots : Slots) (from slot : ℕ) (job : Waiting) (old new : List Waiting) : Type 0 where
  pub taken : IsPermutation old (job ∷ new)
  pub later : from ≤ slot
  pub can : first_of slots job ≤ slot
  pub earliest : All (λ w. first_of slots w ≤ slot → IsNoLater job w) new
  pub skipped : from < slot → All (λ w. slot ≤ first_of slots w) old

-- so for the next job, and where there is none the line is empty
abbrev pub Takes : Slots → ℕ → Line → Option (ℕ × Waiting) → Line → Type 0
Takes slots from old None new = in_line old ≡ []
Takes slots from old (Some job) new = IsTaken slots from job.0 job.1 (in_line old) (in_line new) × IsSound new × AreReleased slots job.0 new

-- how many jobs are released at `from` or later and due at `to` or before
abbrev pub waiting_within : List Waiting → ℕ → ℕ → ℕ
waiting_within order from to = count_by (λ w. nat_le from w.release && nat_le w.deadline to) order

-- how many jobs can stand no earlier than in a slot and are due at `to` or before
abbrev pub crowd : Slots → ℕ → ℕ → List Waiting → ℕ
crowd slots slot to order = count_by (λ w. nat_le slot (first_of slots w) && nat_le w.deadline to) order

-- some job that can stand no earlier than in a slot is due at `to`, and with it more jobs are due by then than slots are left
pub record IsCrowded (slots : Slots) (slot to : ℕ) (order : List Waiting) : Type 0 where
  pub crowded : end_at slots to - slot < crowd slots slot to order
  pub last : 0 < count_by (λ w. nat_le slot (first_of slots w) && (w.deadline == to)) order

-- what is true of the interval that is found
pub record IsFound (slots : Slots) (order : List Waiting) (from to : ℕ) : Type 0 where
  pub overfull : end_at slots to - first_at slots from < waiting_within order from to
  pub first : 0 < count_by (λ w. (w.release == from) && nat_le w.deadline to) order
  pub last : 0 < count_by (λ w. nat_le from w.release && (w.deadline == to)) order

-- so it is refused with that interval and its counts
abbrev pub IsRefusal : Slots → List Waiting → NoSchedule → Type 0
IsRefusal slots order (Overfull from to found room) = IsFound slots order from to × (found ≡ waiting_within order from to) × (room ≡ end_at slots to - first_at slots from)
IsRefusal slots order OutOfMemory = ⊥
