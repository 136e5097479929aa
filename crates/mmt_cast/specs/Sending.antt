-- What a sender sends of a programme, in the order of the plan: each signalling message, each unit that is not gathered, each group of units that are, and the packets of each.
use Rattle.std.specs.Prelude.{ℕ, zero, suc, ◌+◌, ◌-◌, ◌*◌, Bool, false, ◌&&◌, nat_lt, nat_le, ◌==◌, List, [], ◌∷◌, ◌++◌, map, take, if◌then◌else◌}
use Rattle.std.specs.List.{sum_by, take_while}
use Rattle.mmt_frag.specs.Cuts.{gathered, part_length, parts}
use Rattle.mmt_cast.specs.Placing.{PlacedUnit, all_units, map_from}
use Rattle.mmt_cast.specs.Tables.{parameters_length, table_message_length}
use Rattle.mmt_model.specs.Carrying.{numbers}
use Rattle.mmt_model.specs.declared.casts.Carries.{Carries}
use Rattle.mmt_model.specs.declared.casts.Sent.{Sent}
use Rattle.mmt_model.specs.declared.programmes.Programme.{Programme}
use Rattle.mmt_model.specs.declared.programmes.Signal.{Signal}
use Rattle.mmt_model.specs.declared.casts.Carries.TheVariants as carries
use Rattle.mmt_model.specs.declared.programmes.Signal.TheVariants as signals

-- what is sent: a buffer message, a table of so many bytes as a message, a unit by itself, or so many units from one on in one payload. Units and messages are numbered as in a cast
pub data Sending : Type 0 where
  Parameters : (signal at : ℕ) → Sending
  Table : (signal at bytes : ℕ) → Sending
  Alone : (u : ℕ) (unit : PlacedUnit) → Sending
  Group : (first count : ℕ) (unit : PlacedUnit) (bytes : ℕ) → Sending

-- ---- which sendings there are

-- the sending of a signalling message
unfoldable pub sending_of_signal : Programme → ℕ → Signal → Sending
sending_of_signal programme s (signals.Parameters at) = Sending.Parameters s at.0
sending_of_signal programme s (signals.Table at names) = Sending.Table s at.0 (table_message_length programme names)

-- the bytes of a unit's header (ISO/IEC 23008-1, the data unit header)
unfoldable pub header_length : PlacedUnit → ℕ
header_length x = if x.in_mpu.in_asset.timed then 14 else 4

-- a unit of at most the limit is gathered
unfoldable pub is_short : Programme → PlacedUnit → Bool
is_short programme x = nat_le x.value.length programme.limit

-- a unit may go into the payload that another one before it begins: it is of the same MPU, is sent at the same tick, and is short
unfoldable pub may_join : Programme → PlacedUnit → PlacedUnit → Bool
may_join programme x y = (y.mpu_place == x.mpu_place) && ((y.value.at.0 == x.value.at.0) && is_short programme y)

-- a unit, and those directly after it that may join it
unfoldable pub candidates : Programme → PlacedUnit → List PlacedUnit → List PlacedUnit
candidates programme x rest = x ∷ take_while (may_join programme x) rest

-- how many units a unit that is not yet sent begins a group of
unfoldable pub group_size : Programme → PlacedUnit → List PlacedUnit → ℕ
group_size programme x rest = if is_short programme x then gathered (header_length x) programme.limit (map (λ y. y.value.length) (candidates programme x rest)) else 1

-- the sending that begins with a unit, of so many units
unfoldable pub sending_of_units : ℕ → ℕ → PlacedUnit → List PlacedUnit → Sending
sending_of_units u size x rest =
    if nat_lt 1 size then Sending.Group u size x (sum_by (λ y. 2 + header_length y + y.value.length) (take size (x ∷ rest))) else Sending.Alone u x

-- the sendings of the units from unit u on, of which the first `sent` are in a payload already
unfoldable pub sendings_of_units : Programme → ℕ → ℕ → List PlacedUnit → List Sending
sendings_of_units programme sent u [] = []
sendings_of_units programme (suc sent) u (x ∷ rest) = sendings_of_units programme sent (u + 1) rest
sendings_of_units programme zero u (x ∷ rest) =
    sending_of_units u (group_size programme x rest) x rest ∷ sendings_of_units programme (group_size programme x rest - 1) (u + 1) rest

-- the sendings of a programme, in the order of the plan
unfoldable pub sendings : Programme → List Sending
sendings programme = map_from (sending_of_signal programme) 0 programme.signals ++ sendings_of_units programme 0 0 (all_units programme)

-- ---- the packets of each

-- in how many packets a sending goes
unfoldable pub packet_count : Programme → Sending → ℕ
packet_count programme (Sending.Parameters s at) = 1
packet_count programme (Sending.Table s at bytes) = parts bytes programme.limit
packet_count programme (Sending.Alone u x) = parts x.value.length programme.limit
packet_count programme (Sending.Group first count x bytes) = 1

-- the packet id of a sending: 0 for signalling, and else that of the asset
unfoldable pub id_of : Sending → ℕ
id_of (Sending.Parameters s at) = 0
id_of (Sending.Table s at bytes) = 0
id_of (Sending.Alone u x) = x.in_mpu.in_asset.packet_id
id_of (Sending.Group first count x bytes) = x.in_mpu.in_asset.packet_id

-- when packet number k of a sending is sent: at its tick, and each further one the spacing later
unfoldable pub tick_of_packet : Programme → Sending → ℕ → ℕ
tick_of_packet programme (Sending.Parameters s at) k = at
tick_of_packet programme (Sending.Table s at bytes) k = at + k * programme.spacing
tick_of_packet programme (Sending.Alone u x) k = x.value.at.0 + k * programme.spacing
tick_of_packet programme (Sending.Group first count x bytes) k = x.value.at.0

-- the flag R: on the packet of each MPU with the least number, which its first unit begins
unfoldable pub rap_of : Sending → ℕ → Bool
rap_of (Sending.Parameters s at) k = false
rap_of (Sending.Table s at bytes) k = false
rap_of (Sending.Alone u x) k = (x.unit == 0) && (k == 0)
rap_of (Sending.Group first count x bytes) k = x.unit == 0

-- the payload's bytes: two before a message or a part of it, and eight before data units, each of which has its header (ISO/IEC 23008-1, the signalling and the MPU payload)
unfoldable pub payload_length : Programme → Sending → ℕ → ℕ
payload_length programme (Sending.Parameters s at) k = 2 + parameters_length
payload_length programme (Sending.Table s at bytes) k = 2 + part_length bytes programme.limit k
payload_length programme (Sending.Alone u x) k = 8 + header_length x + part_length x.value.length programme.limit k
payload_length programme (Sending.Group first count x bytes) k = 8 + bytes

-- what packet number k of a sending carries
unfoldable pub carried : Programme → Sending → ℕ → Carries
carried programme (Sending.Parameters s at) k = carries.Parameters s
carried programme (Sending.Table s at bytes) k = if parts bytes programme.limit == 1 then carries.Table s else carries.TablePart s k
carried programme (Sending.Alone u x) k = if parts x.value.length programme.limit == 1 then carries.Whole u else carries.Fragment u k
carried programme (Sending.Group first count x bytes) k = carries.Group first count

-- packet number k of a sending, without its number
unfoldable pub packet_of : Programme → Sending → ℕ → Sent
packet_of programme x k =
    record { at = record { 0 = tick_of_packet programme x k }; packet_id = id_of x; number = 0; rap = rap_of x k; length = payload_length programme x k; carries = carried programme x k }

-- the packets of a sending, without their numbers
unfoldable pub packets_of : Programme → Sending → List Sent
packets_of programme x = map (packet_of programme x) (numbers 0 (packet_count programme x))
