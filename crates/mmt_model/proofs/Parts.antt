-- A part and its fragmentation indicator, both ways.
use Rattle.std.proofs.Common.{◌≡◌, ℕ, zero, suc, ◌<◌, arith, refl}
use Rattle.mmt_model.specs.declared.keys.Part.{Part}
use Rattle.mmt_model.specs.declared.keys.Part.TheVariants as parts
use Rattle.mmt_model.specs.Parts.{part_number, part_of}

pub part_below : (p : Part) → part_number p < 4
part_below parts.Whole = omega arith
part_below parts.First = omega arith
part_below parts.Middle = omega arith
part_below parts.Last = omega arith

pub part_again : (p : Part) → part_of (part_number p) ≡ p
part_again parts.Whole = refl
part_again parts.First = refl
part_again parts.Middle = refl
part_again parts.Last = refl

pub number_again : (n : ℕ) → n < 4 → part_number (part_of n) ≡ n
number_again zero lt = refl
number_again (suc zero) lt = refl
number_again (suc (suc zero)) lt = refl
number_again (suc (suc (suc zero))) lt = refl
number_again (suc (suc (suc (suc n)))) lt = absurd (omega arith)
