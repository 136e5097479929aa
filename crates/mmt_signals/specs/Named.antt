-- The MPUs that a table names, asset by asset.
use Rattle.std.specs.Prelude.{ℕ, ◌==◌, ◌<◌, ◌≤◌, Bool, List, [], ◌∷◌, length, map, get_or, ◌++◌}
use Rattle.std.specs.List.{All, AllByRecursion, filter}
use Rattle.mmt_cast.specs.Placing.{PlacedMpu}
use Rattle.mmt_cast.specs.Right.{no_mpu}
use Rattle.mmt_cast.specs.SentTables.{pair_of, sent_descriptors, stamps_of_21}
use Rattle.mmt_model.specs.Carrying.{numbers}
use Rattle.std.specs.Int.{div_ceil}
use Rattle.mmt_mpt.specs.Descriptor.{DescriptorValue}
use Rattle.mmt_cast.specs.Tables.{table_length}
use Rattle.mmt_model.specs.Right.{AreRising, IsKnown}
use Rattle.mmt_model.specs.declared.programmes.Asset.{Asset}
use Rattle.mmt_model.specs.declared.programmes.Programme.{Programme}
use Rattle.mmt_model.specs.declared.programmes.Mpu.{Mpu}
use Rattle.mmt_mpt.specs.Asset.{AssetValue, head_bytes}
use Rattle.mmt_mpt.specs.Location.{IsHere, location_bytes}
use Rattle.mmt_times.specs.Extended.{extended_bytes, extended_tag}
use Rattle.mmt_times.specs.Stamps.{stamps_bytes, stamps_tag}
use Rattle.mmt_times.specs.Writing.{written_extended}

-- a name is that of an MPU of the asset at a place
abbrev pub is_of : ℕ → ℕ × ℕ → Bool
is_of a name = name.0 == a

-- of these names those of the asset at a place, in their order
abbrev pub names_of : ℕ → List (ℕ × ℕ) → List (ℕ × ℕ)
names_of a names = filter (is_of a) names

-- the MPU of an asset that a name stands for
abbrev pub named_mpu : Asset → ℕ × ℕ → PlacedMpu
named_mpu asset name = record { asset = name.0; mpu = name.1; in_asset = asset; value = get_or asset.mpus name.1 no_mpu }

-- the MPUs of an asset that these names stand for
abbrev pub named : Asset → List (ℕ × ℕ) → List PlacedMpu
named asset names = map (named_mpu asset) names

-- an asset has the MPUs that these names stand for
abbrev pub HasAll : Asset → List (ℕ × ℕ) → Type 0
HasAll asset names = All (λ name. name.1 < length asset.mpus) names

-- the timestamp descriptors of these MPUs, each of at most 21 (this project's rule for what is sent)
abbrev pub all_stamps : List PlacedMpu → List DescriptorValue
all_stamps mpus = map (stamps_of_21 mpus) (numbers 0 (div_ceil (length mpus) 21))

-- the timestamp descriptor of the MPUs that these names stand for (ARIB STD-B60, MPU timestamp descriptor)
abbrev pub stamps_for : Asset → List (ℕ × ℕ) → DescriptorValue
stamps_for asset names = record { tag = stamps_tag; bytes = stamps_bytes (map pair_of (named asset names)) }

-- the extended descriptor of an MPU, with this timescale (this project's extended timestamp descriptor)
abbrev pub extended_for : ℕ → Mpu → DescriptorValue
extended_for timescale mpu = record { tag = extended_tag; bytes = extended_bytes (written_extended timescale mpu) }

-- what stands before the descriptors of an asset: how it is identified, its id, its type, reserved bits 1, no clock relation, and one location with its packet id in the same flow (ARIB STD-B60, MMT Package Table)
abbrev pub start_bytes : Asset → List ℕ
start_bytes asset = head_bytes (record { identifier_type = 0; scheme = 0; id = asset.id; kind = asset.kind; reserved = 127; count = 1 }) ++ location_bytes (IsHere asset.packet_id)

-- an asset's lengths fit their fields in a table: its id has at most 255 bytes, and each of its MPUs at most 60 access units (ARIB STD-B60, MMT Package Table; this project's rule for a plan)
pub record FitsIn (asset : Asset) : Type 0 where
  pub id : length asset.id ≤ 255
  pub aus : All (λ m. length m.aus ≤ 60) asset.mpus

-- so do those of a programme: its package id has at most 255 bytes, and there are at most 255 assets (ARIB STD-B60, MMT Package Table)
pub record FitsTables (programme : Programme) : Type 0 where
  pub package_id : length programme.«package» ≤ 255
  pub assets : length programme.assets ≤ 255
  pub each : All FitsIn programme.assets

-- a table may name these MPUs: they are there, they rise, and the table has at most 65,535 bytes (ISO/IEC 23008-1, the directory of a PA message; this project's rule for a plan)
pub record MayBeNamed (programme : Programme) (names : List (ℕ × ℕ)) : Type 0 where
  pub known : AllByRecursion (IsKnown programme.assets) names
  pub rising : AreRising names
  pub short : table_length programme names ≤ 65535

-- an asset in a table in which these of its MPUs are named
unfoldable pub listed_asset : Asset → List PlacedMpu → AssetValue
listed_asset asset mpus =
    record { identifier_type = 0; scheme = 0; id = asset.id; kind = asset.kind; reserved = 127; locations = IsHere asset.packet_id ∷ []; descriptors = sent_descriptors mpus }
