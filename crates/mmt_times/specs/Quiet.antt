-- Ticks after a clock in which no known time is due.
use Rattle.std.specs.Prelude.{◌≡◌, ◌≤◌, ℕ, Bool, false, ◌&&◌, nat_le, List, ◌∷◌}
use Rattle.std.specs.List.{list_any}
use Rattle.mmt_base.specs.Ticks.{ahead_of, due_of, low}
use Rattle.mmt_model.specs.Entries.{Entry}

-- a time is due in so many ticks after the clock, modulo 2^32 (this project's rule)
abbrev pub is_soon : ℕ → ℕ → ℕ → Bool
is_soon clock ticks t = nat_le 1 (ahead_of (low (due_of t)) clock) && nat_le (ahead_of (low (due_of t)) clock) ticks

-- a time of the entry is
abbrev pub has_soon : ℕ → ℕ → Entry → Bool
has_soon clock ticks e = list_any (is_soon clock ticks) (e.time ∷ e.aus)

-- no time of these entries is
abbrev pub IsQuiet : ℕ → ℕ → List Entry → Type 0
IsQuiet clock ticks es = list_any (has_soon clock ticks) es ≡ false

-- a clock that goes from one tick to another stays within so many ticks after the start (this project's rule)
pub record Within (start ticks from to : ℕ) : Type 0 where
  pub from_first : ahead_of from start ≤ ahead_of to start
  pub to_last : ahead_of to start ≤ ticks
