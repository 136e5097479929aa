-- Reading the content of an MPU extended timestamp descriptor from left to right, up to the first refusal. Every refusal is at the content's first byte.
use Rattle.std.specs.Prelude.{ℕ, ◌/◌, ◌%◌, ◌==◌, nat_lt, Bool, not, List, Result, Ok}
use Rattle.std.specs.Int.{w8, w32}
use Rattle.mmt_base.specs.declared.refused.Refused.{Refused}
use Rattle.mmt_fields.specs.Reading.{◌>>=◌, number_at, optional_at, check}
use Rattle.mmt_fields.specs.Items.{all_items, items_of}
use Rattle.mmt_lists.specs.Counted.{counted_of}
use Rattle.mmt_times.specs.declared.times_why.TimesWhy.{TimesWhy}
use Rattle.mmt_times.specs.declared.times_why.TimesWhy.TheVariants as why
use Rattle.mmt_times.specs.AuReading.{offset_at, au_at}
use Rattle.mmt_times.specs.Extended.{ExtendedMpu, ExtendedValue, has_each}

-- an MPU's entry, field by field (this project's extended timestamp descriptor)
unfoldable pub mpu_at : Bool → ℕ → List ℕ → Result (ExtendedMpu × List ℕ) (Refused TimesWhy)
mpu_at each at bytes = do
  mpu ← number_at w32 bytes 0 why.Length
  flags ← number_at w8 mpu.1 0 why.Length
  offset ← offset_at flags.1
  count ← number_at w8 offset.1 0 why.Length
  aus ← counted_of count.0 (au_at each) 0 count.1
  Ok (record { mpu = mpu.0; leap = flags.0 / 64; reserved = flags.0 % 64; offset = offset.0; aus = aus.0 }, aus.1)

-- a timescale, which is not 0 (this project's extended timestamp descriptor)
unfoldable pub timescale_at : List ℕ → Result (ℕ × List ℕ) (Refused TimesWhy)
timescale_at bytes = do
  timescale ← number_at w32 bytes 0 why.Length
  some ← check (not (timescale.0 == 0)) 0 why.TimescaleZero
  Ok (timescale.0, timescale.1)

-- a content, field by field (this project's extended timestamp descriptor)
unfoldable pub extended_of : List ℕ → Result ExtendedValue (Refused TimesWhy)
extended_of bytes = do
  flags ← number_at w8 bytes 0 why.Length
  known ← check (nat_lt (flags.0 / 2 % 4) 3) 0 why.OffsetType
  timescale ← optional_at (flags.0 % 2 == 1) timescale_at flags.1
  default ← optional_at (flags.0 / 2 % 4 == 1) offset_at timescale.1
  mpus ← items_of (mpu_at (has_each (flags.0 / 2 % 4))) 0 default.1
  Ok (record { reserved = flags.0 / 8; kind = flags.0 / 2 % 4; timescale = timescale.0; default = default.0; mpus = mpus })

-- the MPUs' entries that bytes have left (this project's extended timestamp descriptor)
abbrev pub mpus_from : Bool → List ℕ → List ExtendedMpu
mpus_from each bytes = (all_items (mpu_at each) 0 bytes).items
