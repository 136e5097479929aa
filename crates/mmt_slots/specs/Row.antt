-- Slots by their numbers.
use Rattle.std.specs.Prelude.{ℕ, ◌+◌, ◌-◌, ◌/◌, min, nat_lt, if◌then◌else◌}
use Rattle.std.specs.Int.{div_ceil}
use Rattle.mmt_slots.specs.declared.row.Slots.{Slots}

-- the first slot at or after a tick, in a row that has no end
unfoldable pub first_at : Slots → ℕ → ℕ
first_at slots tick = div_ceil (tick - slots.start) slots.step

-- how many slots of the row stand at or before a tick
unfoldable pub end_at : Slots → ℕ → ℕ
end_at slots tick = if nat_lt tick slots.start then 0 else min slots.count ((tick - slots.start) / slots.step + 1)
