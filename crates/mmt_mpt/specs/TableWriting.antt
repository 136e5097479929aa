-- Why a table stays unwritten.
use Rattle.std.specs.Prelude.{◌≡◌, ◌^◌, ◌<◌, ◌≤◌, length}
use Rattle.mmt_mpt.specs.declared.unwritten.Unwritten.{Unwritten}
use Rattle.mmt_mpt.specs.declared.unwritten.Unwritten.TheVariants as unwritten
use Rattle.mmt_mpt.specs.Table.{MptValue, mpt_inner}

-- a table's length that its field cannot say, with that length; memory is asked for only where the field can (ARIB STD-B60, the 16 bits of the length)
abbrev pub StaysUnwritten : MptValue → Unwritten → Type 0
StaysUnwritten v (unwritten.TooLong n) = (n ≡ length (mpt_inner v)) × (2 ^ 16 ≤ n)
StaysUnwritten v unwritten.OutOfMemory = length (mpt_inner v) < 2 ^ 16
