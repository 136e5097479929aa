-- A stream in its order, and as a list with the newest first.
use Rattle.std.proofs.Common.{◌≡◌, List, [], ◌∷◌, ◌++◌, refl}
use Rattle.mmt_model.specs.Delivery.{onto, newest_first}

-- one item more is the newest
onto_more : {X : Type 0} (xs older : List X) (x : X) → onto (xs ++ x ∷ []) older ≡ x ∷ onto xs older
unfolding onto
onto_more [] older x = refl
onto_more (y ∷ ys) older x = onto_more ys (y ∷ older) x

pub newest_more : {X : Type 0} (xs : List X) (x : X) → newest_first (xs ++ x ∷ []) ≡ x ∷ newest_first xs
unfolding newest_first
newest_more xs x = onto_more xs [] x
