-- Lists in the order of the stream, and turned.
use Rattle.std.proofs.Common.{◌≡◌, Bool, true, false, List, [], ◌∷◌, map, refl}
use Rattle.mmt_model.specs.Delivery.{from_first, onto}

pub onto-map : {X Y : Type 0} (f : X → Y) (xs older : List X) → map f (onto xs older) ≡ onto (map f xs) (map f older)
unfolding onto
onto-map f [] older = refl
onto-map f (x ∷ xs) older = onto-map f xs (x ∷ older)

pub first-passes : {X : Type 0} (test : X → Bool) (x : X) (xs : List X) → test x ≡ true → from_first test (x ∷ xs) ≡ x ∷ xs
unfolding from_first
first-passes test x xs e = rw e refl

pub first-fails : {X : Type 0} (test : X → Bool) (x : X) (xs : List X) → test x ≡ false → from_first test (x ∷ xs) ≡ from_first test xs
unfolding from_first
first-fails test x xs e = rw e refl
