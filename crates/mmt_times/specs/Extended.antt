-- The content of an MPU extended timestamp descriptor, and its one spelling. Its tag and its layout are this project's own, after the descriptor of that name in ARIB STD-B60.
use Rattle.std.specs.Prelude.{◌≡◌, ℕ, ◌+◌, ◌*◌, ◌^◌, ◌<◌, ◌≤◌, ◌==◌, Bool, List, ◌++◌, length, Option, Some, None, IfSome}
use Rattle.std.specs.Option.{is_some}
use Rattle.std.specs.List.{flat_map, All}
use Rattle.std.specs.Int.{w8, w16, w32}
use Rattle.mmt_fields.specs.Reading.{big_endian, optional}
use Rattle.mmt_times.specs.Times.{AuValue}

-- the tag of an MPU extended timestamp descriptor, 0x8026 (this project's rule)
abbrev pub extended_tag : ℕ
extended_tag = 32806

-- an MPU's entry: its sequence number, leap indicator, six reserved bits, decoding offset and the offsets of its access units (this project's extended timestamp descriptor)
pub record ExtendedMpu : Type 0 where
  pub mpu : ℕ
  pub leap : ℕ
  pub reserved : ℕ
  pub offset : ℕ
  pub aus : List AuValue

-- a content: five reserved bits, the type of pts_offset, the timescale, the default pts_offset and the MPUs' entries (this project's extended timestamp descriptor)
pub record ExtendedValue : Type 0 where
  pub reserved : ℕ
  pub kind : ℕ
  pub timescale : Option ℕ
  pub default : Option ℕ
  pub mpus : List ExtendedMpu

-- whether each access unit has its own pts_offset: type 2 (this project's extended timestamp descriptor)
abbrev pub has_each : ℕ → Bool
has_each kind = kind == 2

-- a field's flag: 1 where the field is there (this project's extended timestamp descriptor)
abbrev pub flag_of : Option ℕ → ℕ
flag_of None = 0
flag_of (Some n) = 1

-- the bytes of an access unit's offsets (this project's extended timestamp descriptor)
unfoldable pub au_bytes : AuValue → List ℕ
au_bytes a = big_endian w16 a.dts_pts ++ optional (big_endian w16) a.pts

-- the bytes of an MPU's entry (this project's extended timestamp descriptor)
unfoldable pub mpu_bytes : ExtendedMpu → List ℕ
mpu_bytes m = big_endian w32 m.mpu ++ (big_endian w8 (64 * m.leap + m.reserved) ++ (big_endian w16 m.offset ++ (big_endian w8 (length m.aus) ++ flat_map au_bytes m.aus)))

-- the content's bytes (this project's extended timestamp descriptor)
unfoldable pub extended_bytes : ExtendedValue → List ℕ
extended_bytes v = big_endian w8 (8 * v.reserved + 2 * v.kind + flag_of v.timescale) ++ (optional (big_endian w32) v.timescale ++ (optional (big_endian w16) v.default ++ flat_map mpu_bytes v.mpus))

-- each offset fits its bits, and the second is there exactly where each access unit has its own (this project's extended timestamp descriptor)
pub record AuFits (each : Bool) (a : AuValue) : Type 0 where
  pub dts_pts : a.dts_pts < 2 ^ 16
  pub own : is_some a.pts ≡ each
  pub pts : IfSome a.pts (λ n. n < 2 ^ 16)

-- each field of an MPU's entry fits its bits (this project's extended timestamp descriptor)
pub record MpuFits (each : Bool) (m : ExtendedMpu) : Type 0 where
  pub mpu : m.mpu < 2 ^ 32
  pub leap : m.leap < 4
  pub reserved : m.reserved < 64
  pub offset : m.offset < 2 ^ 16
  pub count : length m.aus < 2 ^ 8
  pub aus : All (AuFits each) m.aus

-- a timescale: 1 or more, in 32 bits (this project's extended timestamp descriptor)
abbrev pub IsTimescale : ℕ → Type 0
IsTimescale n = (1 ≤ n) × (n < 2 ^ 32)

-- the contents that have a spelling: the type is below 3, and the default is there exactly where it is 1 (this project's extended timestamp descriptor)
pub record ExtendedFits (v : ExtendedValue) : Type 0 where
  pub reserved : v.reserved < 32
  pub kind : v.kind < 3
  pub timescale : IfSome v.timescale IsTimescale
  pub has_default : is_some v.default ≡ (v.kind == 1)
  pub default : IfSome v.default (λ n. n < 2 ^ 16)
  pub mpus : All (MpuFits (has_each v.kind)) v.mpus
