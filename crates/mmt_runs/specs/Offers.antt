-- The units that begin in a packet, by what its payload spells.
use Rattle.std.specs.Prelude.{◌≡◌, ◌≤◌, ◌<◌, ◌^◌, ℕ, ◌+◌, Bool, false, List, [], map, length, Option, Some, None}
use Rattle.mmt_model.specs.Packets.{Heard, Payload}
use Rattle.mmt_model.specs.Units.{MediaUnit, whole_units, joined_unit, rest_of_run, media_link, next_number, joined}
use Rattle.mmt_mpu.specs.Spelling.{UnitValue}
use Rattle.mmt_pool.specs.Holding.{Kept, held}
use Rattle.mmt_runs.specs.declared.order.UnitOrder.{UnitOrder}
use Rattle.mmt_runs.specs.Lending.{unit_at}
use Rattle.mmt_runs.specs.Reading.{heard, data_unit_of}

-- a packet of which nothing but packet id and number counts
abbrev pub bare : ℕ → ℕ → Heard
bare id number = record { time = 0; packet_id = id; number = number; length = 0; is_opened = false; payload = Payload.Other }

-- the media units of a payload with whole data units, from this place on (ISO/IEC 23008-1, the MPU payload)
abbrev pub whole_of : ℕ → ℕ → ℕ → ℕ → List UnitValue → List MediaUnit
whole_of id number mpu place us = whole_units (bare id number) mpu place (map data_unit_of us)

-- the media unit of a first part and the rest of its run, where there is a first part and the run is whole (ISO/IEC 23008-1, the fragmentation indicator)
abbrev pub run_of : List Heard → ℕ → ℕ → Bool → ℕ → ℕ → Option UnitValue → List MediaUnit
run_of kept id number timed mpu most None = []
run_of kept id number timed mpu most (Some u) = joined_unit (bare id number) mpu (data_unit_of u) (rest_of_run (media_link timed mpu) kept id most (next_number number))

-- the media unit of this place that a whole data unit is (ISO/IEC 23008-1, the data unit)
abbrev pub whole_at : UnitOrder → UnitValue → MediaUnit
whole_at o u = unit_at o u.head.priority u.head.dependency u.bytes

-- so many bytes are with those of the rest of a run, if it is whole, no more than all that are held, where fewer than 2^32 are (this project's rule)
abbrev pub HasRest : List Kept → ℕ → ℕ → Bool → ℕ → ℕ → Type 0
HasRest kept id number timed mpu n = (most : ℕ) (rest : List (List ℕ)) → held kept < 2 ^ 32 → rest_of_run (media_link timed mpu) (map heard kept) id most (next_number number) ≡ Some rest → n + length (joined rest) ≤ held kept
