-- What contracts see of pairs, of MPUs' entries and of the contents of extended descriptors.
use Rattle.std.specs.Prelude.{◌/◌, ◌%◌, Bool}
use Rattle.mmt_times.specs.declared.pair.Pair.{Pair}
use Rattle.mmt_times.specs.declared.extended.MpuOffsets.{MpuOffsets}
use Rattle.mmt_times.specs.declared.extended.Extended.{Extended}
use Rattle.mmt_times.specs.AuReading.{aus_from}
use Rattle.mmt_times.specs.Stamps.{PairValue}
use Rattle.mmt_times.specs.Extended.{ExtendedMpu, ExtendedValue, has_each}
use Rattle.mmt_times.specs.ExtendedReading.{mpus_from}

-- a pair of the program as a value
abbrev pub view_pair : Pair → PairValue
view_pair p = record { mpu = p.mpu; time = p.time.0 }

-- an MPU's entry of the program as a value
abbrev pub view_mpu : Bool → MpuOffsets → ExtendedMpu
view_mpu each m = record { mpu = m.mpu; leap = m.flags / 64; reserved = m.flags % 64; offset = m.offset; aus = aus_from each m.count m.aus.now }

-- a content of the program as a value
abbrev pub view_extended : Extended → ExtendedValue
view_extended e = record { reserved = e.flags / 8; kind = e.flags / 2 % 4; timescale = e.timescale; default = e.default; mpus = mpus_from (has_each (e.flags / 2 % 4)) e.mpus.now }
