-- Why a cast ends, and the sizes of a programme's parts.
use Rattle.std.specs.Prelude.{◌≡◌, ◌⊎◌, Some, ℕ, ◌+◌, ◌*◌, nat_lt, if◌then◌else◌, ◌≤◌, ◌<◌, ◌^◌, length, List, [], ◌∷◌, ◌==◌, suc, get_or}
use Rattle.std.specs.Int.{div_ceil}
use Rattle.std.specs.List.{AllByRecursion}
use Rattle.mmt_cast.specs.Right.{no_mpu}
use Rattle.mmt_model.specs.Right.{AreRising, IsKnown, no_asset}
use Rattle.mmt_model.specs.declared.programmes.Signal.{Signal}
use Rattle.mmt_model.specs.declared.programmes.Signal.TheVariants as signals
use Rattle.mmt_cast.specs.Refusing.{Refusal, refusal}
use Rattle.mmt_casting.specs.declared.ends.CastEnd.{CastEnd}
use Rattle.mmt_casting.specs.declared.ends.CastEnd.TheVariants as ends
use Rattle.mmt_model.specs.declared.programmes.Asset.{Asset}
use Rattle.mmt_model.specs.declared.programmes.Mpu.{Mpu}
use Rattle.mmt_model.specs.declared.programmes.Programme.{Programme}

-- the end by a refusal
unfoldable pub end_of : Refusal → CastEnd
end_of (Refusal.TimeRange asset mpu au) = ends.TimeRange asset mpu au
end_of (Refusal.TableLong signal) = ends.TableLong signal
end_of (Refusal.CastLong packets) = ends.CastLong packets

-- an MPU has at most 60 access units
abbrev pub FewAus : Mpu → Type 0
FewAus m = length m.aus ≤ 60

-- the numbers of an asset have room
pub record AssetFits (asset : Asset) : Type 0 where
  pub id : length asset.id < 2 ^ 8
  pub timescale : 1 ≤ asset.timescale
  pub mpus : length asset.mpus < 2 ^ 32
  pub aus : AllByRecursion FewAus asset.mpus

-- the numbers of a programme have room
pub record ProgrammeFits (programme : Programme) : Type 0 where
  pub package_id : length programme.package < 2 ^ 8
  pub assets : length programme.assets < 2 ^ 8
  pub each : AllByRecursion AssetFits programme.assets

-- the bytes of an MPU's extended timestamp descriptor, which is there where it has access units
abbrev pub extended_of_mpu : Mpu → ℕ
extended_of_mpu m = if nat_lt 0 (length m.aus) then 16 + 4 * length m.aus else 0

-- there is no cast out of memory, or by the programme's first refusal
abbrev pub IsEndOf : Programme → CastEnd → Type 0
IsEndOf programme end = (end ≡ ends.OutOfMemory) ⊎ ((r : Refusal) × (refusal programme ≡ Some r) × (end ≡ end_of r))

-- ---- names of a table

-- names that rise, of MPUs that are there
abbrev pub NamesFit : Programme → List (ℕ × ℕ) → Type 0
NamesFit programme names = AreRising names × AllByRecursion (IsKnown programme.assets) names

-- the names of a signalling message do
abbrev pub SignalFits : Programme → Signal → Type 0
SignalFits programme (signals.Parameters at) = Unit {0}
SignalFits programme (signals.Table at names) = NamesFit programme names

-- how many of these names, from the first on, are of MPUs of an asset
unfoldable pub own_count : ℕ → List (ℕ × ℕ) → ℕ
own_count a [] = 0
own_count a (n ∷ ns) = if n.0 == a then suc (own_count a ns) else 0

-- the bytes of the extended timestamp descriptors of these MPUs
unfoldable pub own_extended : Asset → ℕ → List (ℕ × ℕ) → ℕ
own_extended asset a [] = 0
own_extended asset a (n ∷ ns) = if n.0 == a then extended_of_mpu (get_or asset.mpus n.1 no_mpu) + own_extended asset a ns else 0

-- the bytes of an asset by the names of its MPUs, which stand first
abbrev pub part_bytes : Programme → ℕ → List (ℕ × ℕ) → ℕ
part_bytes programme a names =
    17 + length (get_or programme.assets a no_asset).id + (3 * div_ceil (own_count a names) 21 + 12 * own_count a names + own_extended (get_or programme.assets a no_asset) a names)
