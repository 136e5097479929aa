-- The counts of the program as the definitions see them.
use Rattle.std.specs.Prelude.{ℕ, Option, Some, None}
use Rattle.mmt_base.specs.declared.ticks.Tick.{Tick}
use Rattle.mmt_peak.specs.declared.tally.Counts.{Counts}
use Rattle.mmt_peak.specs.Buffers.{Tally}

abbrev pub tally_in : Counts → Tally
tally_in c = record { stored = c.stored; late = c.late; repeats = c.repeats; full = c.full }

abbrev pub tick_in : Option Tick → Option ℕ
tick_in None = None
tick_in (Some tick) = Some tick.0
