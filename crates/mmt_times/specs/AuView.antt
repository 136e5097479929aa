-- What contracts see of the offsets of an access unit.
use Rattle.mmt_times.specs.declared.au_offsets.AuOffsets.{AuOffsets}
use Rattle.mmt_times.specs.Times.{AuValue}

-- the offsets of an access unit of the program as a value
abbrev pub view_au : AuOffsets → AuValue
view_au a = record { dts_pts = a.dts_pts; pts = a.pts }
