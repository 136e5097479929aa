-- Places in a plan (this project's rules).
use Rattle.std.specs.Prelude.{ℕ}
use Rattle.mmt_plan.specs.declared.ends.PlanPart.{PlanPart}
use Rattle.mmt_plan.specs.declared.ends.PlanPart.TheVariants.{Top, Signal, Asset, Mpu, Au, Unit, Line}
use Rattle.mmt_plan.specs.declared.ends.PlanPlace.{PlanPlace}
use Rattle.mmt_plan.specs.declared.ends.Reason.{Reason}
use Rattle.mmt_plan.specs.declared.ends.Refusal.{Refusal}
use Rattle.mmt_plan.specs.declared.spots.Spot.{Spot}

-- the place of a member, by its number
abbrev pub at_field : ℕ → PlanPlace → PlanPlace
at_field field place = record place { field = field }

-- the place of the object of a kind and number in the object at a place
abbrev pub inner : PlanPart → ℕ → PlanPlace → PlanPlace
inner Top n p = record { part = Top; a = 0; b = 0; c = 0; field = 0 }
inner Signal n p = record { part = Signal; a = n; b = 0; c = 0; field = 0 }
inner Asset n p = record { part = Asset; a = n; b = 0; c = 0; field = 0 }
inner Line n p = record { part = Line; a = n; b = 0; c = 0; field = 0 }
inner Mpu n p = record { part = Mpu; a = p.a; b = n; c = 0; field = 0 }
inner Au n p = record { part = Au; a = p.a; b = p.b; c = n; field = 0 }
inner Unit n p = record { part = Unit; a = p.a; b = p.b; c = n; field = 0 }

-- the spot of that object
abbrev pub spot_of : PlanPart → ℕ → Spot → Spot
spot_of part n s = record s { place = inner part n s.place }

-- why the member of a number is refused
abbrev pub refused : Reason → ℕ → Spot → Refusal
refused reason field s = record { reason = reason; place = at_field field s.place }
