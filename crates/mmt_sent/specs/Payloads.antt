-- The payloads of the packets of a cast, as bytes.
use Rattle.std.specs.Prelude.{ℕ, ◌+◌, ◌-◌, ◌^◌, ◌<◌, true, false, List, [], ◌∷◌, map, length, min}
use Rattle.mmt_model.specs.Carrying.{Contents, copy_place, entry_of_unit, numbers, part_of_unit, role, sent_unit, table_copy}
use Rattle.mmt_model.specs.Packets.{DataUnit, Payload}
use Rattle.mmt_model.specs.declared.casts.Carries.{Carries}
use Rattle.mmt_model.specs.declared.casts.Carries.TheVariants as carries
use Rattle.mmt_model.specs.declared.casts.Cast.{Cast}
use Rattle.mmt_model.specs.declared.keys.Part.{Part}
use Rattle.mmt_model.specs.declared.keys.Part.TheVariants as parts
use Rattle.mmt_packet.specs.declared.packet.Kind.{Kind}
use Rattle.mmt_packet.specs.declared.packet.Kind.TheVariants as kinds
use Rattle.mmt_mpu.specs.declared.types.MpuHead.{MpuHead}
use Rattle.mmt_mpu.specs.Spelling.{UnitValue, spelling as units_spelling}
use Rattle.mmt_mpu.specs.Writing.{CanWrite, total_length}
use Rattle.mmt_sig.specs.Payload.{Payload as Signals, spelling as signals_spelling}

-- a payload that is written: data units after a header, or one message or part of one with the count of the parts that follow
pub data Written : Type 0 where
  Units : (head : MpuHead) (units : List DataUnit) → Written
  Message : (part : Part) (counter : ℕ) (message : List ℕ) → Written

-- a data unit as it is written; the place of its bytes is no part of them
abbrev pub as_unit : DataUnit → UnitValue
as_unit d = record { head = record { key = d.key; priority = d.priority; dependency = d.dependency }; from = 0; bytes = d.bytes }

-- a signalling payload with reserved bits 0 and one message or part of one (ISO/IEC 23008-1; this project's rule for what is sent)
abbrev pub as_signals : Part → ℕ → List ℕ → Signals
as_signals part counter message = record { head = record { part = part; reserved = 0; long = false; aggregated = false; counter = counter }; messages = message ∷ [] }

-- the bytes of a written payload (ISO/IEC 23008-1, the MPU and the signalling payload)
abbrev pub bytes_of : Written → List ℕ
bytes_of (Units head units) = units_spelling (record { head = head; units = map as_unit units })
bytes_of (Message part counter message) = signals_spelling (as_signals part counter message)

-- the type of its packet (ISO/IEC 23008-1, the type of an MMTP packet)
abbrev pub kind_of : Written → Kind
kind_of (Units head units) = kinds.Mpu
kind_of (Message part counter message) = kinds.Signalling

-- what it spells (ISO/IEC 23008-1, the MPU and the signalling payload)
abbrev pub spelled : Written → Payload
spelled (Units head units) = Payload.Media head.part head.timed head.mpu units
spelled (Message part counter message) = Payload.Signalling part (message ∷ [])

-- a payload has a spelling: that of units where a writer can write it, that of a message where the counter fits its bits
abbrev pub CanBeWritten : Written → Type 0
CanBeWritten (Units head units) = CanWrite head (map as_unit units)
CanBeWritten (Message part counter message) = counter < 2 ^ 8

-- how many bytes it has
abbrev pub length_of : Written → ℕ
length_of (Units head units) = total_length head (map as_unit units)
length_of (Message part counter message) = 2 + length message

-- how many of N parts follow a part, 255 where there are more (ISO/IEC 23008-1, the fragment counter)
abbrev pub left : ℕ → ℕ → ℕ
left k count = min (count - 1 - k) 255

-- the payload of a packet, by what it carries (ISO/IEC 23008-1, the MPU and the signalling payload; this project's rules for what is sent)
unfoldable pub written : Cast → Contents → Carries → Written
written cast contents (carries.Whole u) =
    Units (record { timed = contents.timed u; part = parts.Whole; aggregated = false; counter = 0; mpu = (entry_of_unit cast contents u).mpu }) (contents.data_unit u ∷ [])
written cast contents (carries.Fragment u k) =
    Units (record { timed = contents.timed u; part = role k (sent_unit cast u).count; aggregated = false; counter = left k (sent_unit cast u).count; mpu = (entry_of_unit cast contents u).mpu }) (part_of_unit contents u k ∷ [])
written cast contents (carries.Group f c) =
    Units (record { timed = contents.timed f; part = parts.Whole; aggregated = true; counter = 0; mpu = (entry_of_unit cast contents f).mpu }) (map contents.data_unit (numbers f c))
written cast contents (carries.Parameters s) = Message parts.Whole 0 (contents.message_part s 0)
written cast contents (carries.Table s) = Message parts.Whole 0 (contents.message_part s 0)
written cast contents (carries.TablePart s k) =
    let count = (table_copy cast (copy_place cast.copies s)).count in
    Message (role k count) (left k count) (contents.message_part s k)
