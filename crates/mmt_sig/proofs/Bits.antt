-- The byte of flags, taken apart and put together.
use Rattle.std.proofs.Common.{◌≡◌, ℕ, zero, suc, ◌+◌, ◌*◌, ◌/◌, ◌%◌, ◌^◌, ◌<◌, Bool, true, false, ◌||◌, eqb, refl, ap, arith, eq-eqb}
use Rattle.std.specs.Int.{from_bool}
use Rattle.std.proofs.lemmas.Bool.{eqb-true, or_left, or_right}
use Rattle.mmt_fields.proofs.Flags.{bit_below, bit_is, is_bit}
use Rattle.mmt_model.specs.declared.keys.Part.{Part}
use Rattle.mmt_model.specs.Parts.{part_number, part_of, IsWholeIf}
use Rattle.mmt_model.proofs.Parts.{number_again, part_again, part_below}
use Rattle.mmt_sig.specs.declared.head.SigHead.{SigHead}
use Rattle.mmt_sig.specs.Payload.{flags}

pub flags_below : (h : SigHead) → h.reserved < 16 → flags h < 2 ^ 8
flags_below h lt = omega (arith, bit_below h.long, bit_below h.aggregated, part_below h.part)

pub flags_long : (h : SigHead) → h.reserved < 16 → eqb (flags h / 2 % 2) 1 ≡ h.long
flags_long h lt = is_bit h.long _ (omega (arith, bit_below h.long, bit_below h.aggregated))

pub flags_aggregated : (h : SigHead) → h.reserved < 16 → eqb (flags h % 2) 1 ≡ h.aggregated
flags_aggregated h lt = is_bit h.aggregated _ (omega (arith, bit_below h.long, bit_below h.aggregated))

pub flags_reserved : (h : SigHead) → h.reserved < 16 → flags h / 4 % 16 ≡ h.reserved
flags_reserved h lt = omega (arith, bit_below h.long, bit_below h.aggregated)

flags_number : (h : SigHead) → h.reserved < 16 → flags h / 64 ≡ part_number h.part
flags_number h lt = omega (arith, bit_below h.long, bit_below h.aggregated)

pub flags_part : (h : SigHead) → h.reserved < 16 → part_of (flags h / 64) ≡ h.part
flags_part h lt = rw (flags_number h lt) (part_again h.part)

pub whole_right : (h : SigHead) → h.reserved < 16 → IsWholeIf h.aggregated h.part → (eqb (flags h % 2) 0 || eqb (flags h / 64) 0) ≡ true
whole_right h lt f = of h.aggregated h.part h.long (flags h) refl f
  where
    of : (a : Bool) (p : Part) (l : Bool) (n : ℕ) → n ≡ 64 * part_number p + 4 * h.reserved + 2 * from_bool l + from_bool a → IsWholeIf a p → (eqb (n % 2) 0 || eqb (n / 64) 0) ≡ true
    of false p l n e f = or_left (eqb (n % 2) 0) (eqb (n / 64) 0) (eq-eqb _ _ (omega (arith, bit_below l)))
    of true p l n e f = let z : part_number p ≡ 0 = ap part_number f in or_right (eqb (n % 2) 0) (eqb (n / 64) 0) (eq-eqb _ _ (omega (arith, bit_below l)))

pub whole_back : (a : ℕ) → (eqb (a % 2) 0 || eqb (a / 64) 0) ≡ true → IsWholeIf (eqb (a % 2) 1) (part_of (a / 64))
whole_back a e = of (a % 2) (a / 64) (omega arith) e
  where
    of : (m n : ℕ) → m < 2 → (eqb m 0 || eqb n 0) ≡ true → IsWholeIf (eqb m 1) (part_of n)
    of zero n lt e = tt
    of (suc zero) n lt e = ap part_of (eqb-true n 0 e)
    of (suc (suc m)) n lt e = absurd (omega arith)

pub flags_again : (a : ℕ) → a < 2 ^ 8 → 64 * part_number (part_of (a / 64)) + 4 * (a / 4 % 16) + 2 * from_bool (eqb (a / 2 % 2) 1) + from_bool (eqb (a % 2) 1) ≡ a
flags_again a lt = rw (bit_is (a / 2 % 2) (omega arith), bit_is (a % 2) (omega arith), number_again (a / 64) (omega arith)) (omega arith)
