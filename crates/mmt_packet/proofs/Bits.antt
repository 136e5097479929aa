-- The two bytes of flags, taken apart and put together.
use Rattle.std.proofs.Common.{◌≡◌, ℕ, zero, suc, ◌+◌, ◌*◌, ◌/◌, ◌%◌, ◌^◌, ◌<◌, Bool, true, eqb, ltb, refl, arith, eq-eqb}
use Rattle.std.proofs.lemmas.Bool.{lt-ltb, ltb-true, eqb-true}
use Rattle.std.specs.Int.{from_bool}
use Rattle.mmt_fields.proofs.Flags.{bit_below, is_bit, bit_is}
use Rattle.mmt_packet.specs.declared.packet.Kind.{Kind}
use Rattle.mmt_packet.specs.declared.packet.Kind.TheVariants as kinds
use Rattle.mmt_packet.specs.Spelling.{code_of}
use Rattle.mmt_packet.specs.Reading.{kind_of}

-- flags c, x and r, and reserved bits n
abbrev pub one : Bool → Bool → Bool → ℕ → ℕ
one c x r n = 32 * from_bool c + 4 * (n / 4) + 2 * from_bool x + from_bool r

abbrev pub two : Kind → ℕ → ℕ
two k n = 64 * (n % 4) + code_of k

pub one_below : (c x r : Bool) (n : ℕ) → n < 8 → one c x r n < 2 ^ 8
one_below c x r n lt = omega (arith, bit_below c, bit_below x, bit_below r)

pub one_version : (c x r : Bool) (n : ℕ) → n < 8 → eqb (one c x r n / 64) 0 ≡ true
one_version c x r n lt = eq-eqb _ _ (omega (arith, bit_below c, bit_below x, bit_below r))

pub one_fec : (c x r : Bool) (n : ℕ) → n < 8 → eqb (one c x r n / 8 % 4) 0 ≡ true
one_fec c x r n lt = eq-eqb _ _ (omega (arith, bit_below c, bit_below x, bit_below r))

pub one_counter : (c x r : Bool) (n : ℕ) → n < 8 → eqb (one c x r n / 32 % 2) 1 ≡ c
one_counter c x r n lt = is_bit c (one c x r n / 32 % 2) (omega (arith, bit_below c, bit_below x, bit_below r))

pub one_extension : (c x r : Bool) (n : ℕ) → n < 8 → eqb (one c x r n / 2 % 2) 1 ≡ x
one_extension c x r n lt = is_bit x (one c x r n / 2 % 2) (omega (arith, bit_below c, bit_below x, bit_below r))

pub one_rap : (c x r : Bool) (n : ℕ) → n < 8 → eqb (one c x r n % 2) 1 ≡ r
one_rap c x r n lt = is_bit r (one c x r n % 2) (omega (arith, bit_below c, bit_below x, bit_below r))

pub one_reserved : (c x r : Bool) (n : ℕ) → n < 8 → one c x r n / 4 % 2 ≡ n / 4
one_reserved c x r n lt = omega (arith, bit_below c, bit_below x, bit_below r)

pub code_below : (k : Kind) → code_of k < 3
code_below kinds.Mpu = omega arith
code_below kinds.Generic = omega arith
code_below kinds.Signalling = omega arith

pub kind_again : (k : Kind) → kind_of (code_of k) ≡ k
kind_again kinds.Mpu = refl
kind_again kinds.Generic = refl
kind_again kinds.Signalling = refl

pub code_again : (n : ℕ) → n < 3 → code_of (kind_of n) ≡ n
code_again zero lt = refl
code_again (suc zero) lt = refl
code_again (suc (suc zero)) lt = refl
code_again (suc (suc (suc n))) lt = absurd (omega arith)

pub two_below : (k : Kind) (n : ℕ) → two k n < 2 ^ 8
two_below k n = omega (arith, code_below k)

pub two_known : (k : Kind) (n : ℕ) → ltb (two k n % 64) 3 ≡ true
two_known k n = lt-ltb _ _ (omega (arith, code_below k))

pub two_kind : (k : Kind) (n : ℕ) → kind_of (two k n % 64) ≡ k
two_kind k n = let e : two k n % 64 ≡ code_of k = omega (arith, code_below k) in rw e (kind_again k)

pub reserved_again : (c x r : Bool) (k : Kind) (n : ℕ) → n < 8 → 4 * (one c x r n / 4 % 2) + two k n / 64 ≡ n
reserved_again c x r k n lt = omega (arith, bit_below c, bit_below x, bit_below r, code_below k)

-- the bytes that were read are made of what they were taken apart to
pub one_again : (a b : ℕ) → a < 2 ^ 8 → b < 2 ^ 8 → eqb (a / 64) 0 ≡ true → eqb (a / 8 % 4) 0 ≡ true
    → one (eqb (a / 32 % 2) 1) (eqb (a / 2 % 2) 1) (eqb (a % 2) 1) (4 * (a / 4 % 2) + b / 64) ≡ a
one_again a b al bl version fec =
    let v : a / 64 ≡ 0 = eqb-true _ _ version in
    let f : a / 8 % 4 ≡ 0 = eqb-true _ _ fec in
    rw (bit_is (a / 32 % 2) (omega arith), bit_is (a / 2 % 2) (omega arith), bit_is (a % 2) (omega arith)) (omega arith)

pub two_again : (a b : ℕ) → b < 2 ^ 8 → ltb (b % 64) 3 ≡ true → two (kind_of (b % 64)) (4 * (a / 4 % 2) + b / 64) ≡ b
two_again a b bl known =
    let lt : b % 64 < 3 = ltb-true _ _ known in
    rw (code_again (b % 64) lt) (omega arith)

pub reserved_below : (a b : ℕ) → b < 2 ^ 8 → 4 * (a / 4 % 2) + b / 64 < 8
reserved_below a b bl = omega arith
