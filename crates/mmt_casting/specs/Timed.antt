-- The times of an MPU's units.
use Rattle.std.specs.Prelude.{◌≡◌, ℕ, ◌-◌, ◌&&◌, nat_le, nat_lt, List, map, length, get_or, Option, None, if◌then◌else◌}
use Rattle.mmt_cast.specs.Refusing.{out_of_range}
use Rattle.mmt_model.specs.declared.programmes.Mpu.{Mpu}
use Rattle.mmt_times.specs.Times.{in_range, unit_times}
use Rattle.mmt_times.specs.Writing.{au_value}

-- the times of an MPU's access units by a timescale, each there where it is in range
abbrev pub times_of : Mpu → ℕ → List (Option ℕ)
times_of mpu timescale = unit_times mpu.time.0 mpu.decoding_offset timescale 0 0 (map au_value mpu.aus)

-- none of them is out of range
abbrev pub IsTimed : Mpu → ℕ → Type 0
IsTimed mpu timescale = out_of_range 0 (times_of mpu timescale) ≡ None

-- the time of a unit of a sample, sample 1 being the first access unit
abbrev pub sample_time : Mpu → ℕ → ℕ → ℕ
sample_time mpu timescale sample =
    if nat_le 1 sample && nat_lt (sample - 1) (length (in_range (times_of mpu timescale))) then get_or (in_range (times_of mpu timescale)) (sample - 1) mpu.time.0 else mpu.time.0
