-- A payload of the program as a value, and the units that its iterator has still to give.
use Rattle.std.specs.Prelude.{not, List}
use Rattle.mmt_mpu.specs.declared.payload.MpuPayload.{MpuPayload}
use Rattle.mmt_mpu.specs.declared.units.Units.{Units}
use Rattle.mmt_mpu.specs.Spelling.{UnitValue, Value}
use Rattle.mmt_mpu.specs.Left.{left}

-- a payload of the program as a value
abbrev pub view : MpuPayload → Value
view p = record { head = p.head; units = left (not p.head.aggregated) p.head.timed 8 p.body.now }

-- the units that an iterator has still to give, in their order
abbrev pub units_left : Units → List UnitValue
units_left s = left s.lone s.timed s.at s.rest.now
