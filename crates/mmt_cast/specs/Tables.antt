-- How long the signalling messages of a programme are.
use Rattle.std.specs.Prelude.{ℕ, ◌+◌, ◌*◌, Bool, ◌&&◌, nat_lt, ◌==◌, List, length, if◌then◌else◌}
use Rattle.std.specs.Int.{div_ceil}
use Rattle.std.specs.List.{filter, list_any, sum_by}
use Rattle.mmt_model.specs.declared.programmes.Asset.{Asset}
use Rattle.mmt_model.specs.declared.programmes.Programme.{Programme}
use Rattle.mmt_cast.specs.Placing.{PlacedMpu, map_from, mpus_of}

-- the bytes of a buffer message: id, version, length, and three numbers of 32 bits (ISO/IEC 23008-1, the HRBM message)
abbrev pub parameters_length : ℕ
parameters_length = 17

-- two places are one
abbrev pub is_same_pair : ℕ × ℕ → ℕ × ℕ → Bool
is_same_pair p q = (p.0 == q.0) && (p.1 == q.1)

-- an MPU is among these names, each the place of an asset and of an MPU there
unfoldable pub is_named_by : List (ℕ × ℕ) → PlacedMpu → Bool
is_named_by names m = list_any (is_same_pair (m.asset, m.mpu)) names

-- the MPUs of an asset that a table names
unfoldable pub named_of_asset : List (ℕ × ℕ) → ℕ → Asset → List PlacedMpu
named_of_asset names a asset = filter (is_named_by names) (mpus_of a asset)

-- the bytes of an MPU's extended timestamp descriptor, which is there where the MPU has access units: tag, length, flags, timescale, number, leap indicator, decoding offset, count, and four bytes for each access unit (this project's extended timestamp descriptor)
unfoldable pub extended_length : PlacedMpu → ℕ
extended_length m = if nat_lt 0 (length m.value.aus) then 16 + 4 * length m.value.aus else 0

-- the bytes of an asset's descriptors: timestamp descriptors of at most 21 MPUs each, then the extended ones (ARIB STD-B60)
unfoldable pub descriptors_length : List PlacedMpu → ℕ
descriptors_length named = 3 * div_ceil (length named) 21 + 12 * length named + sum_by extended_length named

-- the bytes of an asset: how it is identified, its id, its type and flags, one location with a packet id, and its descriptors (ARIB STD-B60, MMT Package Table)
unfoldable pub asset_length : List (ℕ × ℕ) → ℕ → Asset → ℕ
asset_length names a asset = 17 + length asset.id + descriptors_length (named_of_asset names a asset)

-- the bytes of an MPT with all assets: its header of four, its mode, its package id, no descriptors, and the assets (ARIB STD-B60, MMT Package Table)
unfoldable pub table_length : Programme → List (ℕ × ℕ) → ℕ
table_length programme names = 9 + length programme.package + sum_by (λ n. n) (map_from (asset_length names) 0 programme.assets)

-- the bytes of a PA message with this one table (ARIB STD-B60, the PA message)
unfoldable pub table_message_length : Programme → List (ℕ × ℕ) → ℕ
table_message_length programme names = 12 + table_length programme names
