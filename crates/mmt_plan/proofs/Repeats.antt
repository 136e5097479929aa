-- Numbers that are looked at one by one, until one stood before.
use Rattle.std.proofs.Common.{◌≡◌, ℕ, ◌+◌, ◌<◌, ◌≤◌, Bool, true, false, not, nat_eq, List, [], ◌∷◌, ◌++◌, length, get_or, drop, map, Some, None, if◌then◌else◌, refl, sym, ap, ◌∙◌}
use Rattle.std.proofs.lemmas.List.{at_drop_more, at_drop_all}
use Rattle.std.specs.List.{list_any}
use Rattle.indexmap.specs.IndexSet.{insert_key}
use Rattle.mmt_plan.specs.Twice.{first_twice}

-- none of N numbers stood before, and these are they
pub record HasSeen {A : Type 0} (f : A → ℕ) (xs : List A) (seen : List ℕ) (n : ℕ) : Type 0 where
  pub is : first_twice [] 0 (map f xs) ≡ first_twice seen n (map f (drop n xs))

module _ {A : Type 0} (f : A → ℕ) (xs : List A) where
  pub begins : HasSeen f xs [] 0
  begins = record { is = refl }

  first_of : (seen : List ℕ) (n x : ℕ) (ys : List ℕ) → first_twice seen n (x ∷ ys) ≡ (if list_any (nat_eq x) seen then Some n else first_twice (seen ++ x ∷ []) (n + 1) ys)
  unfolding first_twice
  first_of seen n x ys = refl

  none_of : (seen : List ℕ) (n : ℕ) → first_twice seen n [] ≡ None
  unfolding first_twice
  none_of seen n = refl

  stepped : (seen : List ℕ) (n : ℕ) (x : A) → HasSeen f xs seen n → n < length xs → x ≡ get_or xs n x
      → first_twice [] 0 (map f xs) ≡ (if list_any (nat_eq (f x)) seen then Some n else first_twice (seen ++ f x ∷ []) (n + 1) (map f (drop (n + 1) xs)))
  stepped seen n x h lt is =
      h.is ∙ at_drop_more (λ ys. first_twice seen n (map f ys)) xs n x lt ∙ ap (λ y. first_twice seen n (f y ∷ map f (drop (n + 1) xs))) (sym is) ∙ first_of seen n (f x) (map f (drop (n + 1) xs))

  pub finds : (seen : List ℕ) (n : ℕ) (x : A) → HasSeen f xs seen n → n < length xs → x ≡ get_or xs n x → list_any (nat_eq (f x)) seen ≡ true → Some n ≡ first_twice [] 0 (map f xs)
  finds seen n x h lt is e = sym (stepped seen n x h lt is ∙ ap (λ b. if b then Some n else first_twice (seen ++ f x ∷ []) (n + 1) (map f (drop (n + 1) xs))) e)

  pub goes_on : (seen next : List ℕ) (n : ℕ) (x : A) → HasSeen f xs seen n → n < length xs → x ≡ get_or xs n x → list_any (nat_eq (f x)) seen ≡ false → next ≡ insert_key nat_eq seen (f x) → HasSeen f xs next (n + 1)
  goes_on seen next n x h lt is e k = record {
    is = stepped seen n x h lt is ∙ ap (λ b. if b then Some n else first_twice (seen ++ f x ∷ []) (n + 1) (map f (drop (n + 1) xs))) e
        ∙ ap (λ keys. first_twice keys (n + 1) (map f (drop (n + 1) xs))) (sym (k ∙ ap (λ b. if b then seen else seen ++ f x ∷ []) e));
  }

  pub ends : (seen : List ℕ) (n : ℕ) → HasSeen f xs seen n → length xs ≤ n → None ≡ first_twice [] 0 (map f xs)
  ends seen n h le = sym (h.is ∙ at_drop_all (λ ys. first_twice seen n (map f ys)) xs n le ∙ none_of seen n)

-- what was not added stood there
pub stood : (added there : Bool) → added ≡ not there → not added ≡ true → there ≡ true
stood true there e h = cc
stood false true e h = refl
stood false false e h = cc

-- what was added did not
pub stood_not : (added there : Bool) → added ≡ not there → not added ≡ false → there ≡ false
stood_not false there e h = cc
stood_not true true e h = cc
stood_not true false e h = refl
