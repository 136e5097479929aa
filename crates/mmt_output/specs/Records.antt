-- The records of media units, as they are written.
use Rattle.std.specs.Prelude.{ℕ, List, ◌∷◌, ◌++◌, length}
use Rattle.std.specs.List.{flat_map, sum_by}
use Rattle.std.specs.Int.{w16, w32, w64}
use Rattle.mmt_fields.specs.Reading.{big_endian}
use Rattle.mmt_model.specs.Counts.{counted}
use Rattle.mmt_model.specs.Handing.{Presentation}
use Rattle.mmt_model.specs.declared.keys.UnitKey.{UnitKey}
use Rattle.mmt_model.specs.declared.keys.UnitKey.TheVariants as keys
use Rattle.mmt_output.specs.declared.handed.Handed.{Handed}

-- 1 for a unit of timed media, and 0 for an item (this project's rule)
unfoldable pub timed_mark : UnitKey → ℕ
timed_mark (keys.Timed movie_fragment sample offset) = 1
timed_mark (keys.Item item) = 0

-- the three numbers of a key of 32 bits each: movie fragment, sample and offset, or 0, the item and 0 (ISO/IEC 23008-1, the data unit header; the order is this project's rule)
unfoldable pub key_bytes : UnitKey → List ℕ
key_bytes (keys.Timed movie_fragment sample offset) = big_endian w32 movie_fragment ++ big_endian w32 sample ++ big_endian w32 offset
key_bytes (keys.Item item) = big_endian w32 0 ++ big_endian w32 item ++ big_endian w32 0

-- the 34 bytes in front of a unit's: the mark 0x55, whether it is timed, the packet id, the time, the MPU number, the key, the priority, the dependency counter and the length (this project's rule)
unfoldable pub header_of : Presentation → List ℕ
header_of p =
    0x55 ∷ timed_mark p.unit.key ∷ (big_endian w16 p.unit.packet_id ++ big_endian w64 p.time ++ big_endian w32 p.unit.mpu ++ key_bytes p.unit.key
    ++ p.unit.priority ∷ p.unit.dependency ∷ big_endian w32 (length p.unit.bytes))

-- a record: the header and the unit's bytes (this project's rule)
unfoldable pub record_of : Presentation → List ℕ
record_of p = header_of p ++ p.unit.bytes

-- the records of units, one after the other (this project's rule)
abbrev pub records : List Presentation → List ℕ
records ps = flat_map record_of ps

-- how many units these are, and how many bytes they have together (this project's rule)
unfoldable pub amount_of : List Presentation → Handed
amount_of ps = record { units = counted (length ps); bytes = counted (sum_by (λ p. length p.unit.bytes) ps) }
