-- What the packets of the cast of a programme carry, so that it can be written (this project's rules).
use Rattle.std.specs.Prelude.{◌≡◌, ℕ, ◌+◌, ◌*◌, ◌<◌, ◌≤◌, true, false, [], ◌∷◌, map, length, None}
use Rattle.std.specs.List.{sum_by}
use Rattle.mmt_cast.specs.Placing.{PlacedUnit, all_units}
use Rattle.mmt_cast.specs.Refusing.{refusal}
use Rattle.mmt_cast.specs.Right.{signal_at, unit_at}
use Rattle.mmt_cast.specs.Sending.{header_length}
use Rattle.mmt_model.specs.Carrying.{Contents, entry_of_unit, numbers, part_of_unit}
use Rattle.mmt_model.specs.Right.{IsRight}
use Rattle.mmt_model.specs.declared.casts.Carries.{Carries}
use Rattle.mmt_model.specs.declared.casts.Carries.TheVariants as carries
use Rattle.mmt_model.specs.declared.casts.Cast.{Cast}
use Rattle.mmt_model.specs.declared.keys.Part.{Part}
use Rattle.mmt_model.specs.declared.programmes.Programme.{Programme}
use Rattle.mmt_sent.specs.Messages.{is_table}
use Rattle.mmt_base.specs.Ticks.{low}
use Rattle.mmt_model.specs.declared.casts.Sent.{Sent}
use Rattle.mmt_packet.specs.Spelling.{Value as Mmtp}
use Rattle.mmt_pace.specs.Recast.{IsItsCast}
use Rattle.mmt_sent.specs.Payloads.{Units, Written, bytes_of, kind_of, written}

-- a right programme with a cast of it
pub record HasCast (programme : Programme) (cast : Cast) : Type 0 where
  pub right : IsRight programme
  pub none : refusal programme ≡ None
  pub is : IsItsCast programme cast

-- the bytes of a unit among several, with those of its header and its length
abbrev pub own_size : PlacedUnit → ℕ
own_size y = 2 + header_length y + y.value.length

-- units that go into one payload: they are of one MPU, and their bytes are no more than the limit
pub record IsGroup (programme : Programme) (first count : ℕ) : Type 0 where
  pub some : 1 ≤ count
  pub known : first + count ≤ length (all_units programme)
  pub one_mpu : (u : ℕ) → first ≤ u → u < first + count → (unit_at programme u).in_mpu ≡ (unit_at programme first).in_mpu
  pub short : sum_by own_size (map (unit_at programme) (numbers first count)) ≤ programme.limit

-- what a packet carries is there: a unit of at most the limit, a part of a unit that begins in it, units that go into one payload, or a signalling message, a part of one being of a table
abbrev pub IsCarried : Programme → Carries → Type 0
IsCarried programme (carries.Whole u) = (u < length (all_units programme)) × ((unit_at programme u).value.length ≤ programme.limit)
IsCarried programme (carries.Fragment u k) = (u < length (all_units programme)) × (k * programme.limit < (unit_at programme u).value.length)
IsCarried programme (carries.Group f c) = IsGroup programme f c
IsCarried programme (carries.Parameters s) = s < length programme.signals
IsCarried programme (carries.Table s) = s < length programme.signals
IsCarried programme (carries.TablePart s k) = (s < length programme.signals) × (is_table (signal_at programme s) ≡ true)

-- the payload of a part of a unit by itself, which is the part that it is said to be, with N that follow (ISO/IEC 23008-1, the MPU payload)
abbrev pub lone_written : Cast → Contents → ℕ → ℕ → Part → ℕ → Written
lone_written cast contents u k part counter =
    Units (record { timed = contents.timed u; part = part; aggregated = false; counter = counter; mpu = (entry_of_unit cast contents u).mpu }) (part_of_unit contents u k ∷ [])

-- a packet of a cast as an MMTP packet, as at its place (ISO/IEC 23008-1, the MMTP packet header)
abbrev pub mmtp_of : Cast → Contents → Sent → Mmtp
mmtp_of cast contents p =
    record { counter = None; rap = p.rap; reserved = 0; kind = kind_of (written cast contents p.carries); packet_id = p.packet_id; time = low p.at.0; number = p.number; extension = None; payload = bytes_of (written cast contents p.carries) }
