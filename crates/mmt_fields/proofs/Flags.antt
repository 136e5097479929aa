-- A flag as one bit, both ways.
use Rattle.std.proofs.Common.{◌≡◌, ℕ, zero, suc, ◌<◌, Bool, true, false, eqb, refl, arith}
use Rattle.std.specs.Int.{from_bool}

pub bit_below : (b : Bool) → from_bool b < 2
bit_below true = omega arith
bit_below false = omega arith

pub is_bit : (b : Bool) (m : ℕ) → m ≡ from_bool b → eqb m 1 ≡ b
is_bit true m e = rw e refl
is_bit false m e = rw e refl

pub bit_is : (m : ℕ) → m < 2 → from_bool (eqb m 1) ≡ m
bit_is zero lt = refl
bit_is (suc zero) lt = refl
bit_is (suc (suc m)) lt = absurd (omega arith)
