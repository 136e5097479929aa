-- The first of the units that are due after a place.
use Rattle.std.specs.Prelude.{List, [], ◌∷◌, Option, Some, None}
use Rattle.std.specs.List.{filter}
use Rattle.mmt_model.specs.Handing.{Presentation}
use Rattle.mmt_runs.specs.declared.order.UnitOrder.{UnitOrder}
use Rattle.mmt_runs.specs.Order.{stands_after}

-- those of the units that stand after the given place (this project's rule)
abbrev pub rest_after : Option UnitOrder → List Presentation → List Presentation
rest_after after ds = filter (stands_after after) ds

-- the first item of a list, if it has one
abbrev pub first : {X : Type 0} → List X → Option X
first [] = None
first (x ∷ xs) = Some x
