-- Packets as a receiver reads them.
use Rattle.std.specs.Prelude.{ℕ, Bool, List}
use Rattle.mmt_model.specs.declared.keys.Part.{Part}
use Rattle.mmt_model.specs.declared.keys.UnitKey.{UnitKey}

-- a data unit of a payload, whole or in part: its key, its priority and dependency, and its bytes there (ISO/IEC 23008-1, the data unit)
pub record DataUnit : Type 0 where
  pub key : UnitKey
  pub priority : ℕ
  pub dependency : ℕ
  pub bytes : List ℕ

-- what a payload spells: data units of an MPU, or signalling messages, or a part of one (ISO/IEC 23008-1, the MPU and the signalling payload)
pub data Payload : Type 0 where
  Media : (part : Part) (timed : Bool) (mpu : ℕ) (data_units : List DataUnit) → Payload
  Signalling : (part : Part) (messages : List (List ℕ)) → Payload
  Other : Payload

-- a packet as it is heard: its timestamp of 32 bits, packet id, number, payload length, whether its payload is opened, and what that spells (ISO/IEC 23008-1, the MMTP packet)
pub record Heard : Type 0 where
  pub time : ℕ
  pub packet_id : ℕ
  pub number : ℕ
  pub length : ℕ
  pub is_opened : Bool
  pub payload : Payload
