-- A port and a shelf at one moment.
use Rattle.std.specs.Prelude.{ℕ, List}
use Rattle.mmt_io.specs.History.{Event}

-- what a port tells at one moment: what has passed, what is unread, and how often a read and a write have failed
pub record Moment : Type 0 where
  pub history : List Event
  pub left : List ℕ
  pub reads : ℕ
  pub writes : ℕ

-- the moment of these four
abbrev pub moment : List Event → List ℕ → ℕ → ℕ → Moment
moment history left reads writes = record { history = history; left = left; reads = reads; writes = writes }

-- how often a read and a write of the port and a read of the shelf have failed
pub record Faults : Type 0 where
  pub reads : ℕ
  pub writes : ℕ
  pub shelf : ℕ

-- the counts of these three
abbrev pub faults : ℕ → ℕ → ℕ → Faults
faults reads writes shelf = record { reads = reads; writes = writes; shelf = shelf }
