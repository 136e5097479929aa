-- The MPTs that a sender sends (ARIB STD-B60, MMT Package Table).
use Rattle.std.specs.Prelude.{ℕ, ◌*◌, nat_lt, List, [], ◌∷◌, ◌++◌, map, length, take, drop, if◌then◌else◌}
use Rattle.std.specs.Int.{div_ceil}
use Rattle.std.specs.List.{flat_map}
use Rattle.mmt_cast.specs.Placing.{PlacedMpu, map_from}
use Rattle.mmt_cast.specs.Tables.{named_of_asset}
use Rattle.mmt_model.specs.Carrying.{numbers}
use Rattle.mmt_model.specs.declared.programmes.Asset.{Asset}
use Rattle.mmt_model.specs.declared.programmes.Programme.{Programme}
use Rattle.mmt_mpt.specs.Asset.{AssetValue}
use Rattle.mmt_mpt.specs.Descriptor.{DescriptorValue}
use Rattle.mmt_mpt.specs.Location.{IsHere}
use Rattle.mmt_mpt.specs.Table.{MptValue}
use Rattle.mmt_times.specs.Extended.{extended_bytes, extended_tag}
use Rattle.mmt_times.specs.Stamps.{PairValue, stamps_bytes, stamps_tag}
use Rattle.mmt_times.specs.Writing.{written_extended}

-- an MPU's number and time
abbrev pub pair_of : PlacedMpu → PairValue
pair_of m = record { mpu = m.value.number; time = m.value.time.0 }

-- timestamp descriptor number k of these MPUs: the k-th 21 of them
unfoldable pub stamps_of_21 : List PlacedMpu → ℕ → DescriptorValue
stamps_of_21 named k = record { tag = stamps_tag; bytes = stamps_bytes (map pair_of (take 21 (drop (k * 21) named))) }

-- the extended descriptor of an MPU, where it has access units
unfoldable pub extended_of_mpu : PlacedMpu → List DescriptorValue
extended_of_mpu m = if nat_lt 0 (length m.value.aus) then record { tag = extended_tag; bytes = extended_bytes (written_extended m.in_asset.timescale m.value) } ∷ [] else []

-- the descriptors of an asset of which these MPUs are named: timestamp descriptors of at most 21 MPUs each, and then one extended descriptor for each MPU with access units
unfoldable pub sent_descriptors : List PlacedMpu → List DescriptorValue
sent_descriptors named = map (stamps_of_21 named) (numbers 0 (div_ceil (length named) 21)) ++ flat_map extended_of_mpu named

-- an asset in a table with these names
unfoldable pub sent_asset : List (ℕ × ℕ) → ℕ → Asset → AssetValue
sent_asset names a asset =
    record { identifier_type = 0; scheme = 0; id = asset.id; kind = asset.kind; reserved = 127; locations = IsHere asset.packet_id ∷ []; descriptors = sent_descriptors (named_of_asset names a asset) }

-- a table with these names: all assets stand in it
unfoldable pub sent_table : Programme → ℕ → List (ℕ × ℕ) → MptValue
sent_table programme version names = record { version = version; mode = 0; reserved = 63; package_id = programme.«package»; descriptors = []; assets = map_from (sent_asset names) 0 programme.assets }
