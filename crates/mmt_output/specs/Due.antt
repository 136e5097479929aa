-- The units that a receiver hands out as its clock goes on.
use Rattle.std.specs.Prelude.{ℕ, List, map}
use Rattle.mmt_model.specs.Handing.{Presentation, due_units}
use Rattle.mmt_model.specs.Units.{units_of}
use Rattle.mmt_pool.specs.Holding.{Kept}
use Rattle.mmt_times.specs.Known.{Known}
use Rattle.mmt_runs.specs.Reading.{heard}

-- the units of kept packets that are due while the clock goes from one tick to another, by the names that are known
abbrev pub due_among : Known → List Kept → ℕ → ℕ → List Presentation
due_among names kept from to = due_units names.sample_base names.entries (units_of (map heard kept)) from to
