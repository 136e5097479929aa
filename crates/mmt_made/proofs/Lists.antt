-- Lists made of consecutive numbers.
use Rattle.std.proofs.Common.{◌≡◌, ℕ, ◌+◌, ◌*◌, ◌<◌, ◌≤◌, suc, zero, List, [], ◌∷◌, ◌++◌, map, length, arith, refl, ap, ap₂, sym, ◌∙◌}
use Rattle.std.specs.List.{AllByRecursion, flat_map, sum_by}
use Rattle.std.proofs.lemmas.List.{append-nil, length-append}
use Rattle.std.proofs.lemmas.List.Concat.{flat_map-append}
use Rattle.std.proofs.lemmas.List.Elements.{All-from_recursion}
use Rattle.std.proofs.lemmas.List.Sums.{sum_by-cons}
use Rattle.mmt_cast.proofs.Listing.{each-append, each-numbers}
use Rattle.mmt_casting.proofs.Adding.{added-more, numbers-add, one-number}
use Rattle.mmt_model.specs.Carrying.{numbers}
use Rattle.mmt_model.specs.Right.{AreDifferent}

pub no-numbers : {X : Type 0} (f : ℕ → X) (j : ℕ) → map f (numbers j 0) ≡ []
unfolding numbers
no-numbers f j = refl

-- one item more
pub one-more : {X : Type 0} (f : ℕ → X) (j k n : ℕ) (items next : List X) (x : X) → items ≡ map f (numbers j k) → next ≡ items ++ x ∷ [] → n ≡ j + k → x ≡ f n → next ≡ map f (numbers j (k + 1))
one-more f j k n items next x before push at is = added-more f j k [] items next x before push (is ∙ ap f at)

pub flat-none : {X : Type 0} (f : ℕ → List X) (j : ℕ) → flat_map f (numbers j 0) ≡ []
unfolding numbers
flat-none f j = refl

-- the items of one number more
pub flat-more : {X : Type 0} (f : ℕ → List X) (j k : ℕ) → flat_map f (numbers j (k + 1)) ≡ flat_map f (numbers j k) ++ f (j + k)
flat-more f j k =
    ap (flat_map f) (numbers-add j k 1 ∙ ap (λ l. numbers j k ++ l) (one-number (j + k)))
    ∙ (flat_map-append f (numbers j k) ((j + k) ∷ []) ∙ ap (λ l. flat_map f (numbers j k) ++ l) (append-nil (f (j + k))))

pub flat-next : {X : Type 0} (f : ℕ → List X) (k : ℕ) (items next more : List X) → items ≡ flat_map f (numbers 0 k) → next ≡ items ++ more → more ≡ f k → next ≡ flat_map f (numbers 0 (k + 1))
flat-next f k items next more before push is =
    let z : 0 + k ≡ k = omega arith in
    push ∙ (ap₂ (λ a b. a ++ b) before (is ∙ ap f (sym z)) ∙ sym (flat-more f 0 k))

pub each-flat : {X : Type 0} (P : X → Type 0) (f : ℕ → List X) (j n : ℕ) → ((k : ℕ) → j ≤ k → k < j + n → AllByRecursion P (f k)) → AllByRecursion P (flat_map f (numbers j n))
unfolding numbers
each-flat P f j zero h = tt
each-flat P f j (suc n) h = each-append P (f j) (flat_map f (numbers (j + 1) n)) (h j (omega arith) (omega arith)) (each-flat P f (j + 1) n (λ k a b. h k (omega arith) (omega arith)))

pub flat-long : {X : Type 0} (f : ℕ → List X) (c j n : ℕ) → ((k : ℕ) → length (f k) ≡ c) → length (flat_map f (numbers j n)) ≡ n * c
unfolding numbers
flat-long f c j zero h = let none : 0 ≡ 0 * c = omega arith in none
flat-long f c j (suc n) h = omega (arith, length-append (f j) (flat_map f (numbers (j + 1) n)), h j, flat-long f c (j + 1) n h)

pub sum-same : {X : Type 0} (g : X → ℕ) (f : ℕ → X) (c j n : ℕ) → ((k : ℕ) → g (f k) ≡ c) → sum_by g (map f (numbers j n)) ≡ n * c
unfolding numbers
sum-same g f c j zero h = let none : 0 ≡ 0 * c = omega arith in none
sum-same g f c j (suc n) h = omega (arith, sum_by-cons g (f j) (map f (numbers (j + 1) n)), h j, sum-same g f c (j + 1) n h)

pub different : (j n : ℕ) → AreDifferent (numbers j n)
unfolding numbers
different j zero = tt
different j (suc n) =
    (All-from_recursion (λ (m : ℕ). m ≡ j → ⊥) (numbers (j + 1) n) (each-numbers (λ (m : ℕ). m ≡ j → ⊥) (j + 1) n (λ k a b e. omega (arith, a, e))), different (j + 1) n)
