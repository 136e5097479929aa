-- What contracts see of the iterator over the times of access units.
use Rattle.std.specs.Prelude.{ℕ, List, Option}
use Rattle.mmt_base.specs.declared.ticks.Ntp.{Ntp}
use Rattle.mmt_times.specs.declared.times.Times.{Times}
use Rattle.mmt_times.specs.Times.{unit_times, in_range}
use Rattle.mmt_times.specs.AuReading.{aus_from}

-- a time as a number of units of 2^-32 second
abbrev pub view_time : Ntp → ℕ
view_time t = t.0

-- the times of the access units that are left, each there where it is in range
abbrev pub units_left : Times → List (Option ℕ)
units_left t = unit_times t.time.0 t.offset t.timescale t.default t.before (aus_from t.each t.left t.rest.now)

-- the times that an iterator has yet to give
abbrev pub times_left : Times → List ℕ
times_left t = in_range (units_left t)
