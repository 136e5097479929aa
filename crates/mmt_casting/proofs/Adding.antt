-- Lists made of consecutive numbers, item by item.
use Rattle.std.proofs.Common.{◌≡◌, ℕ, ◌+◌, suc, zero, List, [], ◌∷◌, ◌++◌, map, length, get_or, arith, refl, ap, ap₂, sym, ◌∙◌, append_assoc}
use Rattle.std.proofs.lemmas.List.{append-nil, map-append}
use Rattle.mmt_cast.specs.Placing.{map_from}
use Rattle.mmt_model.specs.Carrying.{numbers}

pub numbers-add : (j n k : ℕ) → numbers j (n + k) ≡ numbers j n ++ numbers (j + n) k
unfolding numbers
numbers-add j zero k = let z : 0 + k ≡ k = omega arith in let y : j ≡ j + 0 = omega arith in ap (numbers j) z ∙ ap (λ i. numbers i k) y
numbers-add j (suc n) k =
    let s : suc n + k ≡ suc (n + k) = omega arith in
    let t : j + 1 + n ≡ j + suc n = omega arith in
    ap (numbers j) s ∙ ap (λ l. j ∷ l) (numbers-add (j + 1) n k ∙ ap (λ i. numbers (j + 1) n ++ numbers i k) t)

pub one-number : (j : ℕ) → numbers j 1 ≡ j ∷ []
unfolding numbers
one-number j = refl

pub added-none : {X : Type 0} (f : ℕ → X) (j : ℕ) (items : List X) → items ≡ items ++ map f (numbers j 0)
unfolding numbers
added-none f j items = sym (append-nil items)

pub added-more : {X : Type 0} (f : ℕ → X) (j k : ℕ) (start items items' : List X) (p : X) → items ≡ start ++ map f (numbers j k) → items' ≡ items ++ p ∷ [] → p ≡ f (j + k) → items' ≡ start ++ map f (numbers j (k + 1))
added-more f j k start items items' p before push is =
    let last : map f (numbers j (k + 1)) ≡ map f (numbers j k) ++ f (j + k) ∷ [] = ap (map f) (numbers-add j k 1 ∙ ap (λ l. numbers j k ++ l) (one-number (j + k))) ∙ map-append f (numbers j k) ((j + k) ∷ []) in
    push ∙ (ap₂ (λ xs x. xs ++ x ∷ []) before is ∙ (append_assoc start (map f (numbers j k)) (f (j + k) ∷ []) ∙ ap (λ xs. start ++ xs) (sym last)))

-- a list made with places is that of its places
shifted : {X Y : Type 0} (f : ℕ → X → Y) (n : ℕ) (x : X) (xs : List X) (d : X) (k j : ℕ) → map (λ i. f (n + 1 + i) (get_or xs i d)) (numbers j k) ≡ map (λ i. f (n + i) (get_or (x ∷ xs) i d)) (numbers (j + 1) k)
unfolding numbers
shifted f n x xs d zero j = refl
shifted f n x xs d (suc k) j =
    let s : n + 1 + j ≡ n + suc j = omega arith in
    let t : suc j ≡ j + 1 = omega arith in
    ap₂ (λ y ys. y ∷ ys) (ap (λ m. f m (get_or xs j d)) s ∙ ap (λ i. f (n + i) (get_or (x ∷ xs) i d)) t) (shifted f n x xs d k (j + 1))

pub by-places : {X Y : Type 0} (f : ℕ → X → Y) (xs : List X) (n : ℕ) (d : X) → map_from f n xs ≡ map (λ i. f (n + i) (get_or xs i d)) (numbers 0 (length xs))
unfolding map_from numbers
by-places f [] n d = refl
by-places f (x ∷ xs) n d =
    let z : n ≡ n + 0 = omega arith in
    ap₂ (λ y ys. y ∷ ys) (ap (λ m. f m x) z) (by-places f xs (n + 1) d ∙ shifted f n x xs d (length xs) 0)
