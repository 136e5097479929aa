-- The place of a unit in the order in which units are handed out.
use Rattle.std.specs.Prelude.{ℕ, Bool, true, List, [], ◌∷◌, ◌++◌, Option, Some, None}
use denote.Bor.{Bor}
use Rattle.mmt_model.specs.Handing.{Presentation, key_numbers, order_numbers, precedes}
use Rattle.mmt_runs.specs.declared.order.UnitOrder.{UnitOrder}

-- a place as the numbers that units are put in order by (this project's rule)
unfoldable pub numbers_of : UnitOrder → List ℕ
numbers_of o = o.time.0 ∷ o.packet_id ∷ o.mpu ∷ (key_numbers o.key ++ o.first_number ∷ o.place ∷ [])

-- a unit stands after the given place; each does where none is given (this project's rule)
unfoldable pub stands_after : Option UnitOrder → Presentation → Bool
stands_after None d = true
stands_after (Some o) d = precedes (numbers_of o) (order_numbers d)

-- a place stands after the given one (this project's rule)
abbrev pub follows : Option UnitOrder → UnitOrder → Bool
follows None p = true
follows (Some o) p = precedes (numbers_of o) (numbers_of p)

-- the place behind a reference that was lent
abbrev pub order_now : Option (Bor UnitOrder) → Option UnitOrder
order_now None = None
order_now (Some o) = Some o.now
