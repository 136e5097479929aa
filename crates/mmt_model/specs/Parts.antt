-- The fragmentation indicator f_i of MPU and signalling payloads (ISO/IEC 23008-1).
use Rattle.std.specs.Prelude.{◌≡◌, ℕ, zero, suc, Bool, true, false}
use Rattle.mmt_model.specs.declared.keys.Part.{Part}
use Rattle.mmt_model.specs.declared.keys.Part.TheVariants as parts

-- the number f_i of a part, of two bits
abbrev pub part_number : Part → ℕ
part_number parts.Whole = 0
part_number parts.First = 1
part_number parts.Middle = 2
part_number parts.Last = 3

-- the part that a number f_i below 4 stands for
abbrev pub part_of : ℕ → Part
part_of zero = parts.Whole
part_of (suc zero) = parts.First
part_of (suc (suc zero)) = parts.Middle
part_of (suc (suc (suc n))) = parts.Last

-- where the aggregation flag is set, no unit or message is in parts
abbrev pub IsWholeIf : Bool → Part → Type 0
IsWholeIf true part = part ≡ parts.Whole
IsWholeIf false part = Unit {0}
