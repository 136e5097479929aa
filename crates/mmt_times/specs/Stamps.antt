-- The content of an MPU timestamp descriptor (ARIB STD-B60), its one spelling and its reading. Every refusal is at the content's first byte.
use Rattle.std.specs.Prelude.{ℕ, ◌%◌, ◌^◌, ◌<◌, ◌==◌, List, ◌++◌, length, Result, Ok}
use Rattle.std.specs.List.{flat_map, All}
use Rattle.std.specs.Int.{w32, w64}
use Rattle.mmt_base.specs.declared.refused.Refused.{Refused}
use Rattle.mmt_fields.specs.Reading.{◌>>=◌, number_at, check, big_endian}
use Rattle.mmt_fields.specs.Items.{all_items, items_of}
use Rattle.mmt_times.specs.declared.times_why.TimesWhy.{TimesWhy}
use Rattle.mmt_times.specs.declared.times_why.TimesWhy.TheVariants as why

-- the tag of an MPU timestamp descriptor, 0x0001 (ARIB STD-B60)
abbrev pub stamps_tag : ℕ
stamps_tag = 1

-- an MPU's sequence number and its presentation time in units of 2^-32 second (ARIB STD-B60, MPU timestamp descriptor)
pub record PairValue : Type 0 where
  pub mpu : ℕ
  pub time : ℕ

-- a pair's bytes (ARIB STD-B60, MPU timestamp descriptor)
unfoldable pub pair_bytes : PairValue → List ℕ
pair_bytes p = big_endian w32 p.mpu ++ big_endian w64 p.time

-- each field of a pair fits its bits (ARIB STD-B60, MPU timestamp descriptor)
pub record PairFits (p : PairValue) : Type 0 where
  pub mpu : p.mpu < 2 ^ 32
  pub time : p.time < 2 ^ 64

-- the content's bytes: the pairs one after the other (ARIB STD-B60, MPU timestamp descriptor)
unfoldable pub stamps_bytes : List PairValue → List ℕ
stamps_bytes pairs = flat_map pair_bytes pairs

-- the pairs that have a spelling (ARIB STD-B60, MPU timestamp descriptor)
abbrev pub StampsFit : List PairValue → Type 0
StampsFit pairs = All PairFits pairs

-- a pair, field by field (ARIB STD-B60, MPU timestamp descriptor)
unfoldable pub pair_at : ℕ → List ℕ → Result (PairValue × List ℕ) (Refused TimesWhy)
pair_at at bytes = do
  mpu ← number_at w32 bytes 0 why.Length
  time ← number_at w64 mpu.1 0 why.Length
  Ok (record { mpu = mpu.0; time = time.0 }, time.1)

-- the pairs of a content, whose length is a multiple of 12 (ARIB STD-B60, MPU timestamp descriptor)
unfoldable pub stamps_of : List ℕ → Result (List PairValue) (Refused TimesWhy)
stamps_of bytes = do
  whole ← check (length bytes % 12 == 0) 0 why.Length
  items_of pair_at 0 bytes

-- the pairs that bytes have left (ARIB STD-B60, MPU timestamp descriptor)
abbrev pub pairs_from : List ℕ → List PairValue
pairs_from bytes = (all_items pair_at 0 bytes).items
