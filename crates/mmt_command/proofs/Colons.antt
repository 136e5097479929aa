-- A text with a colon between two numbers is read back as those two.
use Rattle.std.proofs.Common.{◌≡◌, ◌≢◌, ℕ, suc, ◌*◌, ◌+◌, ◌-◌, ◌<◌, ◌^◌, true, List, [], ◌∷◌, ◌++◌, length, get_or, drop, decimal, refl, ap, sym, ◌∙◌, arith, rules}
use Rattle.std.specs.Str.{all_ascii_digits}
use Rattle.std.proofs.lemmas.Fmt.{decimal_injective, digits_decimal}
use Rattle.std.proofs.lemmas.Str.Parse.{IsNumeralModel, numerals_by_fold, not_in_digits}
use Rattle.mmt_command.specs.TakeWords.{assumed_text, HasAssumedRange}

abbrev read_on : ℕ → List ℕ → ℕ
read_on n [] = n
read_on n (c ∷ cs) = read_on (10 * n + (c - 48)) cs

own : IsNumeralModel (λ ds. all_ascii_digits ds ≡ true) (read_on 0)
own = numerals_by_fold _ (search rules) read_on (search rules)

-- a number's digits hold no colon
pub no_colon : (n : ℕ) → n < 2 ^ 64 → (i : ℕ) → i < length (decimal n) → get_or (decimal n) i 0 ≢ 58
no_colon n small = not_in_digits own (decimal n) 58 (digits_decimal own n small) (λ r. omega arith)

-- the first place of a number in a list is one
first_once : (c : ℕ) (xs ys us vs : List ℕ) → ((i : ℕ) → i < length xs → get_or xs i 0 ≢ c) → ((i : ℕ) → i < length us → get_or us i 0 ≢ c) → xs ++ (c ∷ ys) ≡ us ++ (c ∷ vs) → (xs ≡ us) × (ys ≡ vs)
first_once c [] ys [] vs f g e = (refl, ap (λ l. drop 1 l) e)
first_once c [] ys (u ∷ us) vs f g e = absurd (g 0 (omega arith) (sym (ap (λ l. get_or l 0 0) e)))
first_once c (x ∷ xs) ys [] vs f g e = absurd (f 0 (omega arith) (ap (λ l. get_or l 0 0) e))
first_once c (x ∷ xs) ys (u ∷ us) vs f g e =
    let r = first_once c xs ys us vs (λ i lt. f (suc i) (omega arith)) (λ i lt. g (suc i) (omega arith)) (ap (λ l. drop 1 l) e) in
    (ap (λ k. k ∷ xs) (ap (λ l. get_or l 0 0) e) ∙ ap (λ l. u ∷ l) r.0, r.1)

-- the text of a window and a delay has one of each
pub assumed_once : (w d v c : ℕ) → HasAssumedRange w d → HasAssumedRange v c → assumed_text w d ≡ assumed_text v c → (w ≡ v) × (d ≡ c)
assumed_once w d v c x y e =
    let r = first_once 58 (decimal w) (decimal d) (decimal v) (decimal c) (no_colon w (omega arith)) (no_colon v (omega arith)) e in
    (decimal_injective w v (omega arith) (omega arith) r.0, decimal_injective d c (omega arith) (omega arith) r.1)
