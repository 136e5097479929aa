-- Going over the items that each element of a list gives.
use Rattle.std.proofs.Common.{◌≡◌, List, [], ◌∷◌, ◌++◌, sym, ap, ◌∙◌}
use Rattle.std.specs.List.{flat_map}
use Rattle.std.proofs.lemmas.List.Concat.{flat_map-cons}

-- an element that gives nothing
pub skipped : {X A : Type 0} (f : X → List A) (xs more : List X) (x : X) → xs ≡ x ∷ more → f x ≡ [] → flat_map f xs ≡ flat_map f more
skipped {X} {A} f xs more x e none = ap (flat_map f) e ∙ flat_map-cons f x more ∙ ap (λ (a : List A). a ++ flat_map f more) none

-- an element that gives one item
pub given : {X A : Type 0} (f : X → List A) (xs more : List X) (x : X) (a : A) → xs ≡ x ∷ more → f x ≡ a ∷ [] → flat_map f xs ≡ a ∷ flat_map f more
given {X} {A} f xs more x a e one = ap (flat_map f) e ∙ flat_map-cons f x more ∙ ap (λ (b : List A). b ++ flat_map f more) one

-- no element
pub no_more : {X A : Type 0} (f : X → List A) (xs : List X) → xs ≡ [] → flat_map f xs ≡ []
no_more {X} {A} f xs e = ap (flat_map f) e

-- the first item of those at hand
pub at_hand : {X A : Type 0} (f : X → List A) (here after : List A) (xs : List X) (a : A) → here ≡ a ∷ after → here ++ flat_map f xs ≡ a ∷ (after ++ flat_map f xs)
at_hand {X} {A} f here after xs a e = ap (λ (b : List A). b ++ flat_map f xs) e

-- the next element, where no item is at hand
pub taken_up : {X A : Type 0} (f : X → List A) (here next : List A) (xs more : List X) (x : X) → here ≡ [] → xs ≡ x ∷ more → next ≡ f x → here ++ flat_map f xs ≡ next ++ flat_map f more
taken_up {X} {A} f here next xs more x none e is =
    ap (λ (b : List A). b ++ flat_map f xs) none ∙ ap (flat_map f) e ∙ flat_map-cons f x more ∙ ap (λ (b : List A). b ++ flat_map f more) (sym is)

-- no item at hand, and no element
pub all_done : {X A : Type 0} (f : X → List A) (here : List A) (xs : List X) → here ≡ [] → xs ≡ [] → here ++ flat_map f xs ≡ []
all_done {X} {A} f here xs none e = ap (λ (b : List A). b ++ flat_map f xs) none ∙ no_more f xs e
