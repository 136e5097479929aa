-- A list of known length by its items.
use Rattle.std.proofs.Common.{◌≡◌, ◌≤◌, ◌<◌, ◌+◌, ℕ, zero, suc, List, [], ◌∷◌, ◌++◌, length, get_or, take, drop, refl, ap, ◌∙◌, arith, drop-cons}
use Rattle.std.proofs.lemmas.List.{take_all}

-- N items from a place on
abbrev pub items : List ℕ → ℕ → ℕ → List ℕ
items xs i zero = []
items xs i (suc n) = get_or xs i 0 ∷ items xs (suc i) n

items_are : (xs : List ℕ) (i n : ℕ) → i + n ≤ length xs → items xs i n ≡ take n (drop i xs)
items_are xs i zero long = refl
items_are xs i (suc n) long =
    let here : i < length xs = omega arith in
    rw (drop-cons xs i 0) (ap (λ l. get_or xs i 0 ∷ l) (items_are xs (suc i) n (omega arith)))

pub whole_items : (xs : List ℕ) (n : ℕ) → length xs ≡ n → items xs 0 n ≡ xs
whole_items xs n is = items_are xs 0 n (omega arith) ∙ take_all n xs (omega arith)

-- two bytes, two texts, two bytes and a text
pub header_is : (t t' : ℕ) (A B C a b c : List ℕ) (p d : ℕ) → t ≡ t' → length A ≡ 14 → length B ≡ 12 → length C ≡ 4 → A ≡ a → B ≡ b → C ≡ c
    → 85 ∷ t ∷ (items A 0 14 ++ items B 0 12 ++ p ∷ d ∷ items C 0 4) ≡ 85 ∷ t' ∷ (a ++ b ++ p ∷ d ∷ c)
header_is t t' A B C a b c p d mark la lb lc ea eb ec =
    let make : ℕ → List ℕ → List ℕ → List ℕ → List ℕ = λ m x y z. 85 ∷ m ∷ (x ++ y ++ p ∷ d ∷ z) in
    ap (λ x. make t x (items B 0 12) (items C 0 4)) (whole_items A 14 la ∙ ea)
    ∙ (ap (λ y. make t a y (items C 0 4)) (whole_items B 12 lb ∙ eb) ∙ (ap (λ z. make t a b z) (whole_items C 4 lc ∙ ec) ∙ ap (λ m. make m a b c) mark))
