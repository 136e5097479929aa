-- What the writers append.
use Rattle.std.specs.Prelude.{ℕ, [], ◌∷◌, map, Some, None}
use Rattle.mmt_base.specs.declared.ticks.Ntp.{Ntp}
use Rattle.mmt_model.specs.declared.programmes.Au.{Au}
use Rattle.mmt_model.specs.declared.programmes.Mpu.{Mpu}
use Rattle.mmt_times.specs.Times.{AuValue}
use Rattle.mmt_times.specs.Stamps.{PairValue}
use Rattle.mmt_times.specs.Extended.{ExtendedMpu, ExtendedValue}

-- an MPU's number and its time as a pair of a descriptor (ARIB STD-B60, MPU timestamp descriptor)
abbrev pub pair_value : ℕ × Ntp → PairValue
pair_value p = record { mpu = p.0; time = p.1.0 }

-- an access unit with both its offsets (this project's extended timestamp descriptor)
abbrev pub au_value : Au → AuValue
au_value a = record { dts_pts = a.dts_pts; pts = Some a.pts }

-- an MPU's entry with leap indicator 0 and reserved bits 1 (this project's rule for what is sent)
abbrev pub written_mpu : Mpu → ExtendedMpu
written_mpu m = record { mpu = m.number; leap = 0; reserved = 63; offset = m.decoding_offset; aus = map au_value m.aus }

-- the content of an extended descriptor for one MPU: type 2, with its timescale, and reserved bits 1 (this project's rule for what is sent)
abbrev pub written_extended : ℕ → Mpu → ExtendedValue
written_extended timescale m = record { reserved = 31; kind = 2; timescale = Some timescale; default = None; mpus = written_mpu m ∷ [] }
