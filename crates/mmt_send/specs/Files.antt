-- The files of a programme on a shelf, and why a packet of its stream is not made (this project's rules).
use Rattle.std.specs.Prelude.{◌≡◌, ℕ, ◌<◌, Bool, IsTrue, List, [], length, get_or, take, drop, Option, Some, None}
use Rattle.mmt_cast.specs.Placing.{all_units}
use Rattle.mmt_cast.specs.Right.{unit_at, unit_bytes}
use Rattle.mmt_io.specs.Port.{Rose}
use Rattle.mmt_model.specs.declared.programmes.Programme.{Programme}
use Rattle.mmt_model.specs.declared.programmes.Unit as model
use Rattle.mmt_send.specs.declared.ends.SendEnd.{SendEnd}
use Rattle.mmt_send.specs.declared.ends.SendEnd.TheVariants as ends
use Rattle.mmt_send.specs.declared.sources.Source.{Source}

-- the bytes of a file that may be there
abbrev pub bytes_in : Option (List ℕ) → List ℕ
bytes_in None = []
bytes_in (Some bytes) = bytes

-- the bytes of a programme's files, by their places: none where no file has the name
abbrev pub files_on : (List ℕ → Option (List ℕ)) → Programme → ℕ → List ℕ
files_on file programme f = bytes_in (file (get_or programme.files f []))

-- the bytes that a file has of a unit
abbrev pub bytes_of_unit : List ℕ → model.Unit → List ℕ
bytes_of_unit bytes unit = take unit.length (drop unit.from bytes)

-- where the bytes of the unit of a number come from: the unit, whether it is of timed media, its MPU's number, and the name of its file
pub record IsSource (programme : Programme) (source : Source) : Type 0 where
  pub known : source.number < length (all_units programme)
  pub unit : source.unit.now ≡ (unit_at programme source.number).value
  pub timed : source.timed ≡ (unit_at programme source.number).in_mpu.in_asset.timed
  pub mpu : source.mpu ≡ (unit_at programme source.number).in_mpu.value.number
  pub name : source.name.now ≡ get_or programme.files (unit_at programme source.number).in_mpu.in_asset.file []

-- the file of a unit is absent or ends before the unit does: the unit's length, and how many of its bytes the file has
pub record IsUnitShort (programme : Programme) (files : ℕ → List ℕ) (unit size held : ℕ) : Type 0 where
  pub known : unit < length (all_units programme)
  pub len : size ≡ (unit_at programme unit).value.length
  pub got : held ≡ length (unit_bytes files (unit_at programme unit))
  pub short : held < size

-- why a packet of the stream is not made: a read failed, so the count of faults rose; a unit is short, where the shelf tells its files; or out of memory. It is never a write
abbrev pub HasCause : Programme → Bool → (List ℕ → Option (List ℕ)) → ℕ → ℕ → SendEnd → Type 0
HasCause programme tells file before now ends.ReadFault = Rose before now
HasCause programme tells file before now (ends.UnitShort unit len got) = IsTrue tells → IsUnitShort programme (files_on file programme) unit len got
HasCause programme tells file before now ends.WriteFault = ⊥
HasCause programme tells file before now ends.OutOfMemory = Unit {0}
