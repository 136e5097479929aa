-- Where a walk over the units of a programme stands, and what is sent from there on.
use Rattle.std.specs.Prelude.{◌≡◌, ℕ, ◌+◌, ◌-◌, ◌<◌, ◌≤◌, ◌==◌, ◌&&◌, nat_le, nat_lt, suc, max, Bool, List, [], ◌∷◌, ◌++◌, length, get_or, drop, if◌then◌else◌}
use Rattle.mmt_cast.specs.Placing.{PlacedMpu, PlacedUnit, all_mpus, all_units, flat_map_from, map_from, mpus_of, units_of}
use Rattle.mmt_cast.specs.Right.{no_mpu, unit_at}
use Rattle.mmt_cast.specs.Sending.{Sending, group_size, sending_of_units, sendings_of_units}
use Rattle.mmt_casting.specs.declared.groups.Group.{Group}
use Rattle.mmt_casting.specs.declared.places.Spot.{Spot}
use Rattle.mmt_model.specs.Right.{no_asset}
use Rattle.mmt_model.specs.declared.programmes.Asset.{Asset}
use Rattle.mmt_model.specs.declared.programmes.Mpu.{Mpu}
use Rattle.mmt_model.specs.declared.programmes.Programme.{Programme}
use Rattle.mmt_model.specs.declared.programmes.Unit.{Unit as PlannedUnit}

-- an MPU and a unit with where they stand
abbrev pub placed_in : ℕ → Asset → ℕ → Mpu → PlacedMpu
placed_in a asset b mpu = record { asset = a; mpu = b; in_asset = asset; value = mpu }

abbrev pub unit_in : ℕ → PlacedMpu → ℕ → PlannedUnit → PlacedUnit
unit_in m placed c unit = record { mpu_place = m; in_mpu = placed; unit = c; value = unit }

-- the asset at a place, and an asset's MPU at a place
abbrev pub asset_at : Programme → ℕ → Asset
asset_at programme a = get_or programme.assets a no_asset

abbrev pub mpu_in : Asset → ℕ → Mpu
mpu_in asset b = get_or asset.mpus b no_mpu

-- the MPUs from MPU b of asset a on
unfoldable pub mpus_from : Programme → ℕ → ℕ → List PlacedMpu
mpus_from programme a b = map_from (placed_in a (asset_at programme a)) b (drop b (asset_at programme a).mpus) ++ flat_map_from mpus_of (a + 1) (drop (a + 1) programme.assets)

-- the MPU of a spot
abbrev pub placed_at : Programme → Spot → PlacedMpu
placed_at programme s = placed_in s.asset (asset_at programme s.asset) s.mpu (mpu_in (asset_at programme s.asset) s.mpu)

-- the units from a spot on
unfoldable pub units_from : Programme → Spot → List PlacedUnit
units_from programme s =
    map_from (unit_in s.mpu_place (placed_at programme s)) s.unit (drop s.unit (placed_at programme s).value.units)
    ++ flat_map_from units_of (s.mpu_place + 1) (mpus_from programme s.asset (s.mpu + 1))

-- a spot is that of a unit of the programme, or after the last asset
pub record IsSpot (programme : Programme) (s : Spot) : Type 0 where
  pub left : drop s.unit_place (all_units programme) ≡ units_from programme s
  pub mpus : drop s.mpu_place (all_mpus programme) ≡ mpus_from programme s.asset s.mpu
  pub inside : s.asset < length programme.assets → (s.mpu < length (asset_at programme s.asset).mpus) × (s.unit < length (placed_at programme s).value.units)

-- the first spot after an MPU of an asset with N
abbrev pub spot_behind : Spot → ℕ → ℕ → Spot
spot_behind s mpus u =
    if nat_lt (s.mpu + 1) mpus
    then record { asset = s.asset; mpu = s.mpu + 1; unit = 0; mpu_place = s.mpu_place + 1; unit_place = u }
    else record { asset = s.asset + 1; mpu = 0; unit = 0; mpu_place = s.mpu_place + 1; unit_place = u }

-- a spot is at the first unit of the MPU after that of another
abbrev pub BeginsNext : Spot → Spot → Type 0
BeginsNext s next = (next.unit ≡ 0) × (next.mpu_place ≡ s.mpu_place + 1)

-- ---- groups

-- how many units a unit of a programme begins a group of
unfoldable pub size_at : Programme → ℕ → ℕ
size_at programme u = group_size programme (unit_at programme u) (drop (u + 1) (all_units programme))

-- the sending that a unit of a programme begins
unfoldable pub sending_at : Programme → ℕ → Sending
sending_at programme u = sending_of_units u (size_at programme u) (unit_at programme u) (drop (u + 1) (all_units programme))

-- the sendings of the units from one on that begins a sending
unfoldable pub sendings_from : Programme → ℕ → List Sending
sendings_from programme u = sendings_of_units programme 0 u (drop u (all_units programme))

-- a unit may go into so much room, of those that are sent at a tick
abbrev pub goes_in : ℕ → ℕ → ℕ → ℕ → PlannedUnit → Bool
goes_in header limit at room y = (y.at.0 == at) && (nat_le y.length limit && nat_le (2 + header + y.length) room)

-- how many of these units go into so much room
unfoldable pub fits : ℕ → ℕ → ℕ → ℕ → List PlannedUnit → ℕ
fits header limit at room [] = 0
fits header limit at room (y ∷ ys) = if goes_in header limit at room y then suc (fits header limit at (room - (2 + header + y.length)) ys) else 0

-- what room they leave
unfoldable pub room_left : ℕ → ℕ → ℕ → ℕ → List PlannedUnit → ℕ
room_left header limit at room [] = room
room_left header limit at room (y ∷ ys) = if goes_in header limit at room y then room_left header limit at (room - (2 + header + y.length)) ys else room

-- how many units the first of these begins a group of, and their bytes
unfoldable pub size_of : ℕ → ℕ → List PlannedUnit → ℕ
size_of header limit [] = 1
size_of header limit (x ∷ xs) = if nat_le x.length limit then max 1 (fits header limit x.at.0 limit (x ∷ xs)) else 1

unfoldable pub bytes_of : ℕ → ℕ → List PlannedUnit → ℕ
bytes_of header limit [] = 0
bytes_of header limit (x ∷ xs) = if nat_le x.length limit then limit - room_left header limit x.at.0 limit (x ∷ xs) else 0

-- the sending of a group
abbrev pub sending_by : ℕ → PlacedUnit → Group → Sending
sending_by u x g = if nat_lt 1 g.size then Sending.Group u g.size x g.bytes else Sending.Alone u x

-- a group is the one that the unit of a spot begins
pub record IsGroup (programme : Programme) (s : Spot) (g : Group) : Type 0 where
  pub size : g.size ≡ size_at programme s.unit_place
  pub sending : sending_at programme s.unit_place ≡ sending_by s.unit_place (unit_at programme s.unit_place) g
  pub some : 1 ≤ g.size
  pub within : s.unit + g.size ≤ length (placed_at programme s).value.units
  pub short : g.bytes ≤ programme.limit
