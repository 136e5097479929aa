-- The least of the units that are looked for.
use Rattle.std.specs.Prelude.{◌≡◌, ℕ, Bool, ◌&&◌, List, [], ◌∷◌, true, Option, Some, None, map, if◌then◌else◌}
use Rattle.std.specs.List.{flat_map}
use Rattle.mmt_base.specs.Ticks.{low, is_passed, due_of}
use Rattle.mmt_model.specs.Packets.{Heard}
use Rattle.mmt_model.specs.Handing.{Presentation, is_presented_before, named_units, presentations_by, order_numbers, precedes}
use Rattle.mmt_model.specs.Units.{MediaUnit, units_by}
use Rattle.mmt_pool.specs.declared.types.Span.{Span}
use Rattle.mmt_pool.specs.Holding.{Kept, packet_at}
use Rattle.mmt_times.specs.Known.{Known}
use Rattle.mmt_runs.specs.declared.order.UnitOrder.{UnitOrder}
use Rattle.mmt_runs.specs.Reading.{heard}
use Rattle.mmt_runs.specs.Order.{numbers_of, stands_after}

-- the unit's due tick is passed on the way from one tick to another, and it stands after the given place (this project's rule)
unfoldable pub is_sought : Option UnitOrder → ℕ → ℕ → Presentation → Bool
is_sought after from to d = is_passed (low (due_of d.time)) from to && stands_after after d

-- of the best unit so far and one more, the one that stands before the other among those that are looked for (this project's rule)
unfoldable pub better : (Presentation → Bool) → Option Presentation → Presentation → Option Presentation
better p None d = if p d then Some d else None
better p (Some b) d = if p d && is_presented_before d b then Some d else Some b

-- the best of several units and of the best so far (this project's rule)
unfoldable pub best : (Presentation → Bool) → Option Presentation → List Presentation → Option Presentation
best p b [] = b
best p b (d ∷ ds) = best p (better p b d) ds

-- a place stands before the best unit so far, where there is one (this project's rule)
abbrev pub leads : Option Presentation → UnitOrder → Bool
leads None o = true
leads (Some b) o = precedes (numbers_of o) (order_numbers b)

-- the named units that begin in a packet, where it is there (this project's rule)
unfoldable pub named_at : Known → List Heard → Option Kept → List Presentation
named_at known all None = []
named_at known all (Some p) = named_units known.sample_base known.entries (units_by all (heard p) (heard p).payload)

-- the named units that begin in the packets of these spans (this project's rule)
unfoldable pub named_in : Known → List Kept → List Span → List Presentation
named_in known kept spans = flat_map (λ s. named_at known (map heard kept) (packet_at kept s.packet_id s.number)) spans

-- the unit is one of this place, whatever its time and bytes
pub record IsOf (o : UnitOrder) (u : MediaUnit) : Type 0 where
  pub packet_id : u.packet_id ≡ o.packet_id
  pub mpu : u.mpu ≡ o.mpu
  pub key : u.key ≡ o.key
  pub number : u.number ≡ o.first_number
  pub place : u.place ≡ o.place

-- a unit of this place is now the best, with this time, or the best is still the one so far (this project's rule)
abbrev pub Improves : Known → (Presentation → Bool) → Option Presentation → UnitOrder → Option UnitOrder → Type 0
Improves known p b o (Some found) = (found ≡ record o { time = found.time }) × ((u : MediaUnit) → IsOf o u → best p b (presentations_by known.sample_base known.entries u) ≡ Some (record { unit = u; time = found.time.0 }))
Improves known p b o None = (u : MediaUnit) → IsOf o u → best p b (presentations_by known.sample_base known.entries u) ≡ b
