-- The stretch of time in which units are due.
use Rattle.std.specs.Prelude.{◌≡◌, ℕ, ◌<◌, ◌≤◌, true}
use Rattle.mmt_base.specs.Ticks.{low, is_passed, due_of}
use Rattle.mmt_runs.specs.declared.stretch.Stretch.{Stretch}

-- all times from the least to the greatest whose due tick is passed on the way from one tick to another lie in the stretch (this project's rule)
abbrev pub HoldsDue : ℕ → ℕ → ℕ → ℕ → Stretch → Type 0
HoldsDue least greatest from to s = (t : ℕ) → least ≤ t → t ≤ greatest → is_passed (low (due_of t)) from to ≡ true → (s.after < t) × (t < s.before)
