-- Lists that rise strictly in an order.
use Rattle.std.proofs.Common.{◌≡◌, Bool, true, List, [], ◌∷◌}
use Rattle.std.specs.List.{AllByRecursion}
use Rattle.mmt_pool.specs.Holding.{Kept, is_before, IsInOrder}

-- all items of a list
abbrev pub Each : {X : Type 0} → (X → Type 0) → List X → Type 0
Each P xs = AllByRecursion P xs

-- each item stands before all that follow it
abbrev pub Rising : {X : Type 0} → (X → X → Bool) → List X → Type 0
Rising b [] = Unit {0}
Rising b (x ∷ xs) = AllByRecursion (λ y. b x y ≡ true) xs × Rising b xs

pub order_rising : (kept : List Kept) → IsInOrder kept → Rising is_before kept
unfolding IsInOrder
order_rising [] o = tt
order_rising (p ∷ kept) o = (o.0, order_rising kept o.1)
