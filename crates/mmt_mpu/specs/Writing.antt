-- Writing an MPU payload call by call (ISO/IEC 23008-1, the payload header for MPU mode): its header with a payload length of 0,
-- its units, and then the payload length.
use Rattle.std.specs.Prelude.{◌≡◌, ℕ, ◌+◌, ◌-◌, ◌^◌, ◌<◌, ◌≤◌, Bool, true, false, List, [], ◌∷◌, ◌++◌, length, take, drop, All, Ok}
use Rattle.std.specs.List.{fold}
use Rattle.std.specs.Int.{w8, w16, w32}
use Rattle.mmt_fields.specs.Reading.{big_endian}
use Rattle.mmt_model.specs.declared.keys.UnitKey.{UnitKey}
use Rattle.mmt_model.specs.declared.keys.UnitKey.TheVariants.{Timed, Item}
use Rattle.mmt_mpu.specs.declared.types.MpuHead.{MpuHead}
use Rattle.mmt_model.specs.Parts.{IsWholeIf}
use Rattle.mmt_mpu.specs.Spelling.{UnitValue, UnitHead, flags, unit_bytes, lone_bytes, head_length, spelling, HeadFits}
use Rattle.mmt_mpu.specs.Reading.{payload_of}

-- the bytes of a unit in a payload: after its length where the payload is aggregated, and else alone
abbrev pub written_unit : Bool → Bool → UnitValue → List ℕ
written_unit true timed u = unit_bytes timed u
written_unit false timed u = lone_bytes timed u

-- how many bytes a unit takes in a payload, the two of its length included where the payload is aggregated
abbrev pub unit_length : Bool → Bool → UnitValue → ℕ
unit_length true timed u = 2 + head_length timed + length u.bytes
unit_length false timed u = head_length timed + length u.bytes

-- what stood there, and then the header with a payload length of 0
unfoldable pub begun : List ℕ → MpuHead → List ℕ
begun out h = out ++ (big_endian w16 0 ++ (big_endian w8 (flags h) ++ (big_endian w8 h.counter ++ big_endian w32 h.mpu)))

-- what stood there, with the count of the payload's bytes after the first two in place of those two
unfoldable pub ended : ℕ → ℕ → List ℕ → List ℕ
ended start bytes out = take start out ++ (big_endian w16 (bytes - 2) ++ drop (start + 2) out)

-- what a writer keeps: where the payload begins, its header, how many units it has so far and how many bytes (this project's rule)
pub record Kept : Type 0 where
  pub start : ℕ
  pub head : MpuHead
  pub units : ℕ
  pub bytes : ℕ

-- a key of timed media or of an item, as the timed flag says
abbrev pub IsOfKind : Bool → UnitKey → Type 0
IsOfKind true (Timed a b c) = Unit {0}
IsOfKind true (Item i) = ⊥
IsOfKind false (Timed a b c) = ⊥
IsOfKind false (Item i) = Unit {0}

-- a unit's header as the timed flag says: its key is of that kind, and for an item priority and dependency are 0
abbrev pub FitsKind : Bool → UnitHead → Type 0
FitsKind true h = IsOfKind true h.key
FitsKind false h = IsOfKind false h.key × (h.priority ≡ 0) × (h.dependency ≡ 0)

-- there is room for another unit: a payload that is not aggregated has only one
abbrev pub HasRoom : Bool → ℕ → Type 0
HasRoom true units = Unit {0}
HasRoom false units = units ≡ 0

-- the units are all there: a payload that is not aggregated has one
abbrev pub IsFull : Bool → ℕ → Type 0
IsFull true units = Unit {0}
IsFull false units = units ≡ 1

-- what stood there, and then a unit
abbrev pub with_unit : MpuHead → List ℕ → UnitValue → List ℕ
with_unit h out u = out ++ written_unit h.aggregated h.timed u

-- how many bytes the header and these units take
abbrev pub total_length : MpuHead → List UnitValue → ℕ
total_length h us = fold (λ n u. n + unit_length h.aggregated h.timed u) 8 us

-- begun, then each unit in turn, then ended: what stood there, and then the spelling of the payload
abbrev pub CallsWriteThePayload : Type 0
CallsWriteThePayload = (out : List ℕ) (h : MpuHead) (us : List UnitValue) → ended (length out) (total_length h us) (fold (with_unit h) (begun out h) us) ≡ out ++ spelling (record { head = h; units = us })

-- the place of a unit's bytes, where the unit stands at a place: after its length, if it has one, and its header
abbrev pub bytes_place : Bool → Bool → ℕ → ℕ
bytes_place true timed at = at + 2 + head_length timed
bytes_place false timed at = at + head_length timed

-- these units as they stand one after the other from a place on, each with the place of its bytes
abbrev pub placed : Bool → Bool → ℕ → List UnitValue → List UnitValue
placed aggregated timed at [] = []
placed aggregated timed at (u ∷ us) = record { head = u.head; from = bytes_place aggregated timed at; bytes = u.bytes } ∷ placed aggregated timed (bytes_place aggregated timed at + length u.bytes) us

-- what the calls of a writer ask of a payload: whole units where it is aggregated, and else one unit; headers that have a spelling;
-- and at most 65,537 bytes
pub record CanWrite (h : MpuHead) (us : List UnitValue) : Type 0 where
  pub counter : h.counter < 2 ^ 8
  pub mpu : h.mpu < 2 ^ 32
  pub part : IsWholeIf h.aggregated h.part
  pub heads : All (λ u. HeadFits h.timed u.head) us
  pub full : IsFull h.aggregated (length us)
  pub len : total_length h us ≤ 65537

-- what a writer's calls append is read back: the header, and the units, each with the place of its bytes
abbrev pub WrittenIsRead : Type 0
WrittenIsRead = (h : MpuHead) (us : List UnitValue) → CanWrite h us → payload_of (spelling (record { head = h; units = us })) ≡ Ok (record { head = h; units = placed h.aggregated h.timed 8 us })
