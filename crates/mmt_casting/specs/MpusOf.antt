-- The due ticks of units that are sent.
use Rattle.std.specs.Prelude.{ℕ}
use Rattle.mmt_model.specs.declared.casts.SentUnit.{SentUnit}

-- when a unit that is sent is due
abbrev pub due_tick : SentUnit → ℕ
due_tick unit = unit.due.0
