-- Units and their headers of the program as values.
use Rattle.mmt_mpu.specs.declared.types.DataUnit.{DataUnit}
use Rattle.mmt_mpu.specs.declared.head.Head.{Head}
use Rattle.mmt_mpu.specs.Spelling.{UnitHead, UnitValue}

-- a unit's header of the program as a value
abbrev pub view_head : Head → UnitHead
view_head h = record { key = h.key; priority = h.priority; dependency = h.dependency }

-- a unit of the program as a value
abbrev pub view_unit : DataUnit → UnitValue
view_unit u = record { head = record { key = u.key; priority = u.priority; dependency = u.dependency }; from = u.from; bytes = u.bytes.now }
