-- What an MPU payload is, and the bytes that it is spelled by (ISO/IEC 23008-1, the payload header for MPU mode).
use Rattle.std.specs.Prelude.{◌≡◌, ℕ, ◌+◌, ◌*◌, ◌^◌, ◌<◌, Bool, true, false, List, [], ◌∷◌, ◌++◌, length}
use Rattle.std.specs.List.{flat_map}
use Rattle.std.specs.Int.{w8, w16, w32, from_bool}
use Rattle.mmt_fields.specs.Reading.{big_endian}
use Rattle.mmt_model.specs.declared.keys.UnitKey.{UnitKey}
use Rattle.mmt_model.specs.declared.keys.UnitKey.TheVariants.{Timed, Item}
use Rattle.mmt_model.specs.Parts.{part_number, IsWholeIf}
use Rattle.mmt_mpu.specs.declared.types.MpuHead.{MpuHead}

-- the values of a data unit's header (ISO/IEC 23008-1, the data unit header)
pub record UnitHead : Type 0 where
  pub key : UnitKey
  pub priority : ℕ
  pub dependency : ℕ

-- a data unit: its header, the place of its bytes in the payload, and its bytes (ISO/IEC 23008-1, the data unit)
pub record UnitValue : Type 0 where
  pub head : UnitHead
  pub from : ℕ
  pub bytes : List ℕ

-- a payload: its header and its data units (ISO/IEC 23008-1, the payload header for MPU mode)
pub record Value : Type 0 where
  pub head : MpuHead
  pub units : List UnitValue

-- the movie fragment sequence number of a key of timed media
abbrev pub movie_fragment_of : UnitKey → ℕ
movie_fragment_of (Timed a b c) = a
movie_fragment_of (Item i) = 0

-- the sample number of a key of timed media
abbrev pub sample_of : UnitKey → ℕ
sample_of (Timed a b c) = b
sample_of (Item i) = 0

-- the offset in the sample of a key of timed media, in bytes
abbrev pub offset_of : UnitKey → ℕ
offset_of (Timed a b c) = c
offset_of (Item i) = 0

-- the item id of an item's key
abbrev pub item_of : UnitKey → ℕ
item_of (Timed a b c) = 0
item_of (Item i) = i

-- how many bytes a unit's header takes, of timed media and of an item (ISO/IEC 23008-1, the data unit header)
abbrev pub head_length : Bool → ℕ
head_length true = 14
head_length false = 4

-- the bytes of a unit's header: the fields of timed media, or the item id (ISO/IEC 23008-1, the data unit header)
unfoldable pub head_bytes : Bool → UnitHead → List ℕ
head_bytes true h = big_endian w32 (movie_fragment_of h.key) ++ (big_endian w32 (sample_of h.key) ++ (big_endian w32 (offset_of h.key) ++ (big_endian w8 h.priority ++ big_endian w8 h.dependency)))
head_bytes false h = big_endian w32 (item_of h.key)

-- the bytes of a unit that stands alone: its header and its bytes
unfoldable pub lone_bytes : Bool → UnitValue → List ℕ
lone_bytes timed u = head_bytes timed u.head ++ u.bytes

-- the bytes of a unit among several: the count of its header and its bytes, then both (ISO/IEC 23008-1, DU_length)
unfoldable pub unit_bytes : Bool → UnitValue → List ℕ
unit_bytes timed u = big_endian w16 (head_length timed + length u.bytes) ++ (head_bytes timed u.head ++ u.bytes)

-- the bytes of a payload's units, aggregated or not, timed or not
unfoldable pub units_bytes : Bool → Bool → List UnitValue → List ℕ
units_bytes true timed us = flat_map (unit_bytes timed) us
units_bytes false timed us = flat_map (lone_bytes timed) us

-- the third byte: fragment type 2, data units, in four bits, the timed flag, the fragmentation indicator in two bits, and the
-- aggregation flag
abbrev pub flags : MpuHead → ℕ
flags h = 32 + 8 * from_bool h.timed + 2 * part_number h.part + from_bool h.aggregated

-- the payload length: how many bytes stand after its field
abbrev pub inner_length : Value → ℕ
inner_length v = 6 + length (units_bytes v.head.aggregated v.head.timed v.units)

-- the bytes of a payload: each field of the header in its width and order, and then the units
unfoldable pub spelling : Value → List ℕ
spelling v = big_endian w16 (inner_length v) ++ (big_endian w8 (flags v.head) ++ (big_endian w8 v.head.counter ++ (big_endian w32 v.head.mpu ++ units_bytes v.head.aggregated v.head.timed v.units)))

-- a key of timed media or of an item, as the timed flag says, whose numbers are in the range of their widths
abbrev pub KeyFits : Bool → UnitKey → Type 0
KeyFits true (Timed a b c) = (a < 2 ^ 32) × (b < 2 ^ 32) × (c < 2 ^ 32)
KeyFits true (Item i) = ⊥
KeyFits false (Timed a b c) = ⊥
KeyFits false (Item i) = i < 2 ^ 32

-- priority and dependency in the range of their widths, or 0 for an item, whose header has neither
abbrev pub RanksFit : Bool → UnitHead → Type 0
RanksFit true h = (h.priority < 2 ^ 8) × (h.dependency < 2 ^ 8)
RanksFit false h = (h.priority ≡ 0) × (h.dependency ≡ 0)

-- a unit's header that has a spelling
pub record HeadFits (timed : Bool) (h : UnitHead) : Type 0 where
  pub key : KeyFits timed h.key
  pub ranks : RanksFit timed h

-- a unit that has a spelling among several: its length stands at that place, its bytes after its header, and the length fits its field
pub record UnitFits (timed : Bool) (at : ℕ) (u : UnitValue) : Type 0 where
  pub head : HeadFits timed u.head
  pub from : u.from ≡ at + 2 + head_length timed
  pub len : head_length timed + length u.bytes < 2 ^ 16

-- the place after a unit's bytes
abbrev pub end_of : UnitValue → ℕ
end_of u = u.from + length u.bytes

-- units that have a spelling one after the other from that place on
abbrev pub UnitsFit : Bool → ℕ → List UnitValue → Type 0
UnitsFit timed at [] = Unit {0}
UnitsFit timed at (u ∷ us) = UnitFits timed at u × UnitsFit timed (end_of u) us

-- one unit that has a spelling alone, its header at place 8 of the payload
abbrev pub LoneFits : Bool → List UnitValue → Type 0
LoneFits timed [] = ⊥
LoneFits timed (u ∷ []) = HeadFits timed u.head × (u.from ≡ 8 + head_length timed)
LoneFits timed (u ∷ w ∷ us) = ⊥

-- the units of a payload: any number where it is aggregated, and else one
abbrev pub AreUnits : Bool → Bool → List UnitValue → Type 0
AreUnits true timed us = UnitsFit timed 8 us
AreUnits false timed us = LoneFits timed us

-- a payload that has a spelling: its fields are in the range of their widths, and its units fit
pub record Fits (v : Value) : Type 0 where
  pub counter : v.head.counter < 2 ^ 8
  pub mpu : v.head.mpu < 2 ^ 32
  pub part : IsWholeIf v.head.aggregated v.head.part
  pub len : inner_length v < 2 ^ 16
  pub units : AreUnits v.head.aggregated v.head.timed v.units
