-- The number of four characters.
use Rattle.std.proofs.Common.{◌≡◌, ℕ, ◌+◌, ◌*◌, ◌/◌, ◌%◌, true, sym, subst, arith}
use Rattle.std.proofs.lemmas.Bool.Decides.{nat_tests}
use Rattle.mmt_model.specs.Right.{IsKind, IsPrinted}
use Rattle.mmt_plan.specs.Assets.{is_printed}

printed : (n : ℕ) → is_printed n ≡ true → IsPrinted n
printed n h = (grind (arith, nat_tests), grind (arith, nat_tests))

-- four characters that are printed give a number that is theirs
pub four : (a b c d : ℕ) → is_printed a ≡ true → is_printed b ≡ true → is_printed c ≡ true → is_printed d ≡ true → IsKind (a * 16777216 + b * 65536 + c * 256 + d)
four a b c d p q r s =
    let la = printed a p in
    let lb = printed b q in
    let lc = printed c r in
    let ld = printed d s in
    let ea : (a * 16777216 + b * 65536 + c * 256 + d) / 16777216 ≡ a = omega arith in
    let eb : (a * 16777216 + b * 65536 + c * 256 + d) / 65536 % 256 ≡ b = omega arith in
    let ec : (a * 16777216 + b * 65536 + c * 256 + d) / 256 % 256 ≡ c = omega arith in
    let ed : (a * 16777216 + b * 65536 + c * 256 + d) % 256 ≡ d = omega arith in
    (subst IsPrinted (sym ea) la, subst IsPrinted (sym eb) lb, subst IsPrinted (sym ec) lc, subst IsPrinted (sym ed) ld)
