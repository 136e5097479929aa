-- The least and the greatest of several numbers.
use Rattle.std.proofs.Common.{◌≡◌, ℕ, ◌<◌, ◌≤◌, min, max, inl, inr, List, [], ◌∷◌, ◌++◌, length, arith, refl, subst, ⊎_elim}
use Rattle.std.proofs.lemmas.Bool.{cases_lt}
use Rattle.mmt_cast.proofs.Listing.{IsIn}
use Rattle.mmt_cast.specs.Casting.{greatest, least}

pub least-le : (x : ℕ) (xs : List ℕ) → IsIn x xs → least xs ≤ x
unfolding least
least-le x [] i = absurd i
least-le x (n ∷ []) (inl e) = omega (arith, e)
least-le x (n ∷ []) (inr i) = absurd i
least-le x (n ∷ m ∷ ns) (inl e) = omega (arith, e)
least-le x (n ∷ m ∷ ns) (inr i) = omega (arith, least-le x (m ∷ ns) i)

pub least-in : (n : ℕ) (ns : List ℕ) → IsIn (least (n ∷ ns)) (n ∷ ns)
unfolding least
least-in n [] = inl refl
least-in n (m ∷ ms) =
    ⊎_elim
    (λ (lt : n < least (m ∷ ms)). (let e : n ≡ min n (least (m ∷ ms)) = omega (arith, lt) in inl e))
    (λ (ge : least (m ∷ ms) ≤ n). (let e : least (m ∷ ms) ≡ min n (least (m ∷ ms)) = omega (arith, ge) in inr (subst (λ k. IsIn k (m ∷ ms)) e (least-in m ms))))
    (cases_lt n (least (m ∷ ms)))

pub greatest-ge : (x : ℕ) (xs : List ℕ) → IsIn x xs → x ≤ greatest xs
unfolding greatest
greatest-ge x [] i = absurd i
greatest-ge x (n ∷ ns) (inl e) = omega (arith, e)
greatest-ge x (n ∷ ns) (inr i) = omega (arith, greatest-ge x ns i)

pub greatest-in : (n : ℕ) (ns : List ℕ) → IsIn (greatest (n ∷ ns)) (n ∷ ns)
unfolding greatest
greatest-in n [] = (let e : n ≡ max n 0 = omega arith in inl e)
greatest-in n (m ∷ ms) =
    ⊎_elim
    (λ (lt : n < greatest (m ∷ ms)). (let e : greatest (m ∷ ms) ≡ max n (greatest (m ∷ ms)) = omega (arith, lt) in inr (subst (λ k. IsIn k (m ∷ ms)) e (greatest-in m ms))))
    (λ (ge : greatest (m ∷ ms) ≤ n). (let e : n ≡ max n (greatest (m ∷ ms)) = omega (arith, ge) in inl e))
    (cases_lt n (greatest (m ∷ ms)))

-- two lists with the same numbers have one least and one greatest
pub same-least : (xs ys : List ℕ) → ((z : ℕ) → IsIn z xs → IsIn z ys) → ((z : ℕ) → IsIn z ys → IsIn z xs) → least xs ≡ least ys
same-least [] [] f g = refl
same-least [] (y ∷ ys) f g = absurd (g y (inl refl))
same-least (x ∷ xs) [] f g = absurd (f x (inl refl))
same-least (x ∷ xs) (y ∷ ys) f g =
    let a : least (x ∷ xs) ≤ least (y ∷ ys) = least-le (least (y ∷ ys)) (x ∷ xs) (g (least (y ∷ ys)) (least-in y ys)) in
    let b : least (y ∷ ys) ≤ least (x ∷ xs) = least-le (least (x ∷ xs)) (y ∷ ys) (f (least (x ∷ xs)) (least-in x xs)) in
    omega (arith, a, b)

pub same-greatest : (xs ys : List ℕ) → ((z : ℕ) → IsIn z xs → IsIn z ys) → ((z : ℕ) → IsIn z ys → IsIn z xs) → greatest xs ≡ greatest ys
same-greatest [] [] f g = refl
same-greatest [] (y ∷ ys) f g = absurd (g y (inl refl))
same-greatest (x ∷ xs) [] f g = absurd (f x (inl refl))
same-greatest (x ∷ xs) (y ∷ ys) f g =
    let a : greatest (x ∷ xs) ≤ greatest (y ∷ ys) = greatest-ge (greatest (x ∷ xs)) (y ∷ ys) (f (greatest (x ∷ xs)) (greatest-in x xs)) in
    let b : greatest (y ∷ ys) ≤ greatest (x ∷ xs) = greatest-ge (greatest (y ∷ ys)) (x ∷ xs) (g (greatest (y ∷ ys)) (greatest-in y ys)) in
    omega (arith, a, b)

-- one more number at the end
least-last : (n : ℕ) (ns : List ℕ) (x : ℕ) → least ((n ∷ ns) ++ x ∷ []) ≡ min (least (n ∷ ns)) x
unfolding least
least-last n [] x = refl
least-last n (m ∷ ms) x = omega (arith, least-last m ms x)

pub least-push : (ns : List ℕ) (x : ℕ) → 1 ≤ length ns → least (ns ++ x ∷ []) ≡ min (least ns) x
least-push [] x l = absurd (omega arith)
least-push (n ∷ ns) x l = least-last n ns x
