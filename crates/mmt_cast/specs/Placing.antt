-- The MPUs and the units of a programme, in the order of the plan, each with where it stands, and the entries of MPUs.
use Rattle.std.specs.Prelude.{ℕ, ◌+◌, List, [], ◌∷◌, ◌++◌, map}
use Rattle.mmt_model.specs.Entries.{Entry}
use Rattle.mmt_model.specs.declared.programmes.Asset.{Asset}
use Rattle.mmt_model.specs.declared.programmes.Mpu.{Mpu}
use Rattle.mmt_model.specs.declared.programmes.Programme.{Programme}
use Rattle.mmt_model.specs.declared.programmes.Unit.{Unit as PlannedUnit}
use Rattle.mmt_times.specs.Times.{in_range, unit_times}
use Rattle.mmt_times.specs.Writing.{au_value}

-- an MPU with where it stands: the place of its asset, its place there, its asset and itself
pub record PlacedMpu : Type 0 where
  pub asset : ℕ
  pub mpu : ℕ
  pub in_asset : Asset
  pub value : Mpu

-- a unit with where it stands: the place of its MPU among all, that MPU, its place there and itself
pub record PlacedUnit : Type 0 where
  pub mpu_place : ℕ
  pub in_mpu : PlacedMpu
  pub unit : ℕ
  pub value : PlannedUnit

-- what a function makes of each item and its place, the first being at n
unfoldable pub map_from : {X Y : Type 0} → (ℕ → X → Y) → ℕ → List X → List Y
map_from f n [] = []
map_from f n (x ∷ xs) = f n x ∷ map_from f (n + 1) xs

-- the same, where it makes a list of each, joined
unfoldable pub flat_map_from : {X Y : Type 0} → (ℕ → X → List Y) → ℕ → List X → List Y
flat_map_from f n [] = []
flat_map_from f n (x ∷ xs) = f n x ++ flat_map_from f (n + 1) xs

-- the MPUs of an asset
unfoldable pub mpus_of : ℕ → Asset → List PlacedMpu
mpus_of a asset = map_from (λ b mpu. record { asset = a; mpu = b; in_asset = asset; value = mpu }) 0 asset.mpus

-- the MPUs of a programme, in the order of assets and MPUs
unfoldable pub all_mpus : Programme → List PlacedMpu
all_mpus programme = flat_map_from mpus_of 0 programme.assets

-- the units of an MPU
unfoldable pub units_of : ℕ → PlacedMpu → List PlacedUnit
units_of m placed = map_from (λ c unit. record { mpu_place = m; in_mpu = placed; unit = c; value = unit }) 0 placed.value.units

-- the units of a programme, in the order of assets, MPUs and units
unfoldable pub all_units : Programme → List PlacedUnit
all_units programme = flat_map_from units_of 0 (all_mpus programme)

-- the entry by which an MPU is named: its asset's packet id, its number, its time, and the times of its access units by its asset's timescale (ARIB STD-B60; the formula is this project's)
unfoldable pub entry_of_mpu : PlacedMpu → Entry
entry_of_mpu m =
    record {
      packet_id = m.in_asset.packet_id;
      mpu = m.value.number;
      time = m.value.time.0;
      aus = in_range (unit_times m.value.time.0 m.value.decoding_offset m.in_asset.timescale 0 0 (map au_value m.value.aus));
    }
