-- Names that rise stand asset by asset, so that those of each asset are a run of what is left.
use Rattle.std.proofs.Common.{◌≡◌, ℕ, ◌+◌, ◌<◌, ◌≤◌, zero, suc, Bool, true, false, ◌==◌, inl, inr, cond, List, [], ◌∷◌, take, drop, arith, refl, ap, sym, ◌∙◌}
use Rattle.std.specs.List.{AllByRecursion, prefix_len}
use Rattle.std.proofs.lemmas.Bool.{eqb-false, eqb-true, ne_eqb}
use Rattle.std.proofs.lemmas.List.Elements.{recursion_from_All}
use Rattle.mmt_cast.proofs.Listing.{each-weaker}
use Rattle.mmt_model.specs.Right.{AreRising, IsBefore}
use Rattle.mmt_signals.specs.Named.{is_of, names_of}

-- what is left of rising names from an asset on: the names of this asset and the later ones
pub record IsRest (names : List (ℕ × ℕ)) (a : ℕ) (rest : List (ℕ × ℕ)) : Type 0 where
  pub same : (b : ℕ) → a ≤ b → names_of b rest ≡ names_of b names
  pub from : AllByRecursion (λ n. a ≤ n.0) rest
  pub rising : AreRising rest

from-zero : (names : List (ℕ × ℕ)) → AllByRecursion (λ (n : ℕ × ℕ). 0 ≤ n.0) names
from-zero [] = tt
from-zero (x ∷ xs) = (omega arith, from-zero xs)

-- at first all names are left
pub rest_whole : (names : List (ℕ × ℕ)) → AreRising names → IsRest names 0 names
rest_whole names rising = record { same = λ b l. refl; from = from-zero names; rising = rising }

rising-drop : (n : ℕ) (xs : List (ℕ × ℕ)) → AreRising xs → AreRising (drop n xs)
rising-drop zero xs r = r
rising-drop (suc n) [] r = r
rising-drop (suc n) (x ∷ xs) r = rising-drop n xs r.1

none-of : (a : ℕ) (xs : List (ℕ × ℕ)) → AllByRecursion (λ (n : ℕ × ℕ). a < n.0) xs → names_of a xs ≡ []
none-of a [] e = refl
none-of a (x ∷ xs) e = ap (λ (t : Bool). cond t (x ∷ names_of a xs) (names_of a xs)) (ne_eqb x.0 a (λ s. omega (arith, e.0, s))) ∙ none-of a xs e.1

not-before : (a : ℕ) (p q : ℕ × ℕ) → a < p.0 → IsBefore p q → a < q.0
not-before a p q l (inl b) = omega (arith, l, b)
not-before a p q l (inr b) = omega (arith, l, b.0)

-- where the first name is of a later asset, so are all
later : (a : ℕ) (x : ℕ × ℕ) (xs : List (ℕ × ℕ)) → a < x.0 → AreRising (x ∷ xs) → AllByRecursion (λ (n : ℕ × ℕ). a < n.0) (x ∷ xs)
later a x xs l r = (l, each-weaker (IsBefore x) (λ (n : ℕ × ℕ). a < n.0) xs (λ y b. not-before a x y l b) (recursion_from_All (IsBefore x) xs r.0))

-- the names of an asset are a run
run-is : (a : ℕ) (xs : List (ℕ × ℕ)) → AllByRecursion (λ (n : ℕ × ℕ). a ≤ n.0) xs → AreRising xs → take (prefix_len (is_of a) xs) xs ≡ names_of a xs
run-is a [] f r = refl
run-is a (x ∷ xs) f r = go (x.0 == a) refl (run-is a xs f.1 r.1)
  where
    go : (t : Bool) → (x.0 == a) ≡ t → take (prefix_len (is_of a) xs) xs ≡ names_of a xs → take (cond t (1 + prefix_len (is_of a) xs) 0) (x ∷ xs) ≡ cond t (x ∷ names_of a xs) (names_of a xs)
    go true e ih = let s : 1 + prefix_len (is_of a) xs ≡ suc (prefix_len (is_of a) xs) = omega arith in ap (λ n. take n (x ∷ xs)) s ∙ ap (λ l. x ∷ l) ih
    go false e ih = sym (none-of a xs (later a x xs (omega (arith, f.0, eqb-false x.0 a e)) r).1)

-- after it stand the names of later assets
run-after : (a : ℕ) (xs : List (ℕ × ℕ)) → AllByRecursion (λ (n : ℕ × ℕ). a ≤ n.0) xs → AreRising xs → AllByRecursion (λ (n : ℕ × ℕ). a + 1 ≤ n.0) (drop (prefix_len (is_of a) xs) xs)
run-after a [] f r = tt
run-after a (x ∷ xs) f r = go (x.0 == a) refl (run-after a xs f.1 r.1)
  where
    go : (t : Bool) → (x.0 == a) ≡ t → AllByRecursion (λ (n : ℕ × ℕ). a + 1 ≤ n.0) (drop (prefix_len (is_of a) xs) xs) → AllByRecursion (λ (n : ℕ × ℕ). a + 1 ≤ n.0) (drop (cond t (1 + prefix_len (is_of a) xs) 0) (x ∷ xs))
    go true e ih = let s : 1 + prefix_len (is_of a) xs ≡ suc (prefix_len (is_of a) xs) = omega arith in rw s ih
    go false e ih = each-weaker (λ (n : ℕ × ℕ). a < n.0) (λ (n : ℕ × ℕ). a + 1 ≤ n.0) (x ∷ xs) (λ y l. omega (arith, l)) (later a x xs (omega (arith, f.0, eqb-false x.0 a e)) r)

run-others : (a b : ℕ) (xs : List (ℕ × ℕ)) → a + 1 ≤ b → names_of b (drop (prefix_len (is_of a) xs) xs) ≡ names_of b xs
run-others a b [] l = refl
run-others a b (x ∷ xs) l = go (x.0 == a) refl (run-others a b xs l)
  where
    go : (t : Bool) → (x.0 == a) ≡ t → names_of b (drop (prefix_len (is_of a) xs) xs) ≡ names_of b xs → names_of b (drop (cond t (1 + prefix_len (is_of a) xs) 0) (x ∷ xs)) ≡ names_of b (x ∷ xs)
    go true e ih =
        let s : 1 + prefix_len (is_of a) xs ≡ suc (prefix_len (is_of a) xs) = omega arith in
        ap (λ n. names_of b (drop n (x ∷ xs))) s
        ∙ (ih ∙ sym (ap (λ (t : Bool). cond t (x ∷ names_of b xs) (names_of b xs)) (ne_eqb x.0 b (λ z. omega (arith, l, z, eqb-true x.0 a e)))))
    go false e ih = refl

-- the run of an asset, and what is left after it
pub run_of : (names : List (ℕ × ℕ)) (a : ℕ) (rest : List (ℕ × ℕ)) → IsRest names a rest → take (prefix_len (is_of a) rest) rest ≡ names_of a names
run_of names a rest is = run-is a rest is.from is.rising ∙ is.same a (omega arith)

pub rest_after : (names : List (ℕ × ℕ)) (a : ℕ) (rest : List (ℕ × ℕ)) → IsRest names a rest → IsRest names (a + 1) (drop (prefix_len (is_of a) rest) rest)
rest_after names a rest is =
    record {
      same = λ b l. run-others a b rest l ∙ is.same b (omega (arith, l));
      from = run-after a rest is.from is.rising;
      rising = rising-drop (prefix_len (is_of a) rest) rest is.rising;
    }
