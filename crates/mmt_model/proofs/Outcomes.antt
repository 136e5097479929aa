-- One outcome more, in counts of 64 bits.
use Rattle.std.proofs.Common.{◌≡◌, ℕ, ◌+◌, Bool, true, false, cond, List, ◌∷◌, ap, sym, ◌∙◌, arith, zero-add}
use Rattle.std.specs.Prelude.{count_by}
use Rattle.std.proofs.lemmas.List.Sums.{sum_by-cons}
use Rattle.mmt_model.specs.Counts.{counted}

count_cons : {X : Type 0} (p : X → Bool) (x : X) (xs : List X) → count_by p (x ∷ xs) ≡ cond (p x) 1 0 + count_by p xs
count_cons p x xs = sum_by-cons (λ y. cond (p y) 1 0) x xs

-- an item that fails the test changes nothing
pub no_more : {X : Type 0} (p : X → Bool) (x : X) (xs : List X) → p x ≡ false → counted (count_by p xs) ≡ counted (count_by p (x ∷ xs))
no_more p x xs fails =
    let e : count_by p (x ∷ xs) ≡ 0 + count_by p xs = count_cons p x xs ∙ ap (λ (b : Bool). cond b 1 0 + count_by p xs) fails in
    ap counted (sym (e ∙ zero-add (count_by p xs)))

-- an item that passes it is one more
pub one_more : {X : Type 0} (p : X → Bool) (x : X) (xs : List X) → p x ≡ true → counted (counted (count_by p xs) + 1) ≡ counted (count_by p (x ∷ xs))
one_more p x xs holds =
    let e : count_by p (x ∷ xs) ≡ 1 + count_by p xs = count_cons p x xs ∙ ap (λ (b : Bool). cond b 1 0 + count_by p xs) holds in
    rw e (more (count_by p xs))
  where
    more : (n : ℕ) → counted (counted n + 1) ≡ counted (1 + n)
    more n = omega arith
