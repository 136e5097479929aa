-- A kept packet as the definitions of a receiver see it: with what its payload spells.
use Rattle.std.specs.Prelude.{ℕ, Bool, false, ◌&&◌, ◌==◌, List, map, length, Result, Ok, Err, is_ok}
use Rattle.mmt_base.specs.declared.refused.Refused.{Refused}
use Rattle.mmt_model.specs.Packets.{DataUnit, Heard, Payload}
use Rattle.mmt_packet.specs.declared.packet.Kind.{Kind}
use Rattle.mmt_packet.specs.declared.packet.Kind.TheVariants as kinds
use Rattle.mmt_mpu.specs.declared.types.MpuWhy.{MpuWhy}
use Rattle.mmt_mpu.specs.Spelling.{UnitValue, Value as Mpu}
use Rattle.mmt_mpu.specs.Reading.{payload_of as mpu_of}
use Rattle.mmt_sig.specs.declared.head.SigWhy.{SigWhy}
use Rattle.mmt_sig.specs.Payload.{Payload as Signals}
use Rattle.mmt_sig.specs.PayloadReading.{payload_of as signals_of}
use Rattle.mmt_pool.specs.Holding.{Kept}

-- a data unit of a payload without the place of its bytes (ISO/IEC 23008-1, the data unit)
abbrev pub data_unit_of : UnitValue → DataUnit
data_unit_of u = record { key = u.head.key; priority = u.head.priority; dependency = u.head.dependency; bytes = u.bytes }

-- what the payload of an MPU packet spells, where it is accepted (ISO/IEC 23008-1, the MPU payload)
abbrev pub media_of : Result Mpu (Refused MpuWhy) → Payload
media_of (Ok v) = Payload.Media v.head.part v.head.timed v.head.mpu (map data_unit_of v.units)
media_of (Err e) = Payload.Other

-- what the payload of a signalling packet spells, where it is accepted (ISO/IEC 23008-1, the signalling payload)
abbrev pub signals_by : Result Signals (Refused SigWhy) → Payload
signals_by (Ok v) = Payload.Signalling v.head.part v.messages
signals_by (Err e) = Payload.Other

-- what a payload of a kind spells (ISO/IEC 23008-1, the type of an MMTP packet)
abbrev pub payload_by : Kind → List ℕ → Payload
payload_by kinds.Mpu bytes = media_of (mpu_of bytes)
payload_by kinds.Generic bytes = Payload.Other
payload_by kinds.Signalling bytes = signals_by (signals_of bytes)

-- a payload is opened where it is an MPU's, or signalling on packet id 0, and is accepted (this project's rule)
abbrev pub is_opened : ℕ → Kind → List ℕ → Bool
is_opened packet_id kinds.Mpu bytes = is_ok (mpu_of bytes)
is_opened packet_id kinds.Generic bytes = false
is_opened packet_id kinds.Signalling bytes = (packet_id == 0) && is_ok (signals_of bytes)

-- a kept packet with what its payload spells
unfoldable pub heard : Kept → Heard
heard p = record { time = p.time; packet_id = p.packet_id; number = p.number; length = length p.payload; is_opened = is_opened p.packet_id p.kind p.payload; payload = payload_by p.kind p.payload }
