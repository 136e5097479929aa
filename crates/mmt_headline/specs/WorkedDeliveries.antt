-- Deliveries of the worked plans, and what a receiver gives back of each. The plans' tables are those that are sent, and the receiver reads them from the bytes of its packets.
use Rattle.std.specs.Prelude.{◌≡◌, ℕ, List, [], ◌∷◌, map, length, take, drop}
use Rattle.mmt_cast.specs.Casting.{cast_of}
use Rattle.mmt_cast.specs.PlanOne.{plan_at_limits, plan_one, plan_two_tables}
use Rattle.mmt_model.specs.Carrying.{numbers}
use Rattle.mmt_model.specs.Entries.{Entry}
use Rattle.mmt_model.specs.Handing.{Presentation}
use Rattle.mmt_model.specs.declared.keys.UnitKey.TheVariants as keys
use Rattle.mmt_model.specs.declared.programmes.Programme.{Programme}
use Rattle.mmt_naming.specs.Findings.{names_in}
use Rattle.mmt_sent.specs.Messages.{message_bytes}
use Rattle.mmt_recv.specs.Receiving.{all_units}
use Rattle.mmt_headline.specs.Programmes.{Receives}
use Rattle.mmt_headline.specs.Taken.{expected_of, placed_of}
use Rattle.mmt_headline.specs.WorkedPlans.{HasUnits}
use Rattle.mmt_tune.specs.declared.config.Config.{Config}

-- the entry by which the tables of the worked plans name their MPU
abbrev pub name : Entry
name = record { packet_id = 256; mpu = 7; time = 4297114779648; aus = 4297114779648 ∷ 4297258088390 ∷ [] }

-- a receiver, whatever its timescale, reads these entries in the bytes of a programme's signalling messages, message by message
abbrev pub Reads : Programme → List (List Entry) → Type 0
Reads programme read =
    (timescale : ℕ) → map (λ s. names_in timescale (message_bytes programme s)) (numbers 0 (length programme.signals)) ≡ read

-- in a buffer message nothing is read, and in each table the entry of the MPU
pub record AreRead : Type 0 where
  pub one_table : Reads plan_one ([] ∷ (name ∷ []) ∷ [])
  pub two_tables : Reads plan_two_tables ([] ∷ (name ∷ []) ∷ (name ∷ []) ∷ [])
  pub at_the_limits : Reads plan_at_limits ([] ∷ (name ∷ []) ∷ (name ∷ []) ∷ [] ∷ [])

-- a media unit of a worked plan, by its sample and the number of its first packet, with its bytes and its time
abbrev pub presented : ℕ → ℕ → List ℕ → ℕ → Presentation
presented sample number bytes time = record { unit = record { packet_id = 256; mpu = 7; key = keys.Timed 1 sample 0; priority = 0; dependency = 0; number = number; place = 0; bytes = bytes }; time = time }

-- the first unit: the first 3,000 bytes of the file
abbrev pub first_unit : List ℕ → Presentation
first_unit file = presented 1 0 (take 3000 file) 4297114779648

-- the second unit: the 500 bytes that follow
abbrev pub second_unit : List ℕ → Presentation
second_unit file = presented 2 3 (take 500 (drop 3000 file)) 4297258088390

-- both units
abbrev pub both : List ℕ → List Presentation
both file = first_unit file ∷ second_unit file ∷ []

-- the second unit alone
abbrev pub only_second : List ℕ → List Presentation
only_second file = second_unit file ∷ []

-- no unit
abbrev pub none : List ℕ → List Presentation
none file = []

-- of a delivery of a programme, whatever the bytes of its file, these units are handed out and expected
pub record Gives (programme : Programme) (delivery : List ℕ) (units : List ℕ → List Presentation) : Type 0 where
  -- a receiver of the programme hands them out, at the packets and at the end, where it reads the bytes of the packets
  pub received : (config : Config) (files : ℕ → List ℕ) → Receives config programme → HasUnits files
      → all_units config (placed_of programme (cast_of programme) files delivery) ≡ units (files 0)
  -- they are expected by which packets survived
  pub expected : (files : ℕ → List ℕ) → expected_of programme (cast_of programme) files delivery ≡ units (files 0)

-- deliveries of the worked plans
pub record IsDelivered : Type 0 where
  pub one_table_in_order : Gives plan_one (0 ∷ 1 ∷ 2 ∷ 3 ∷ 4 ∷ 5 ∷ []) both
  pub in_order : Gives plan_two_tables (0 ∷ 1 ∷ 2 ∷ 3 ∷ 4 ∷ 5 ∷ 6 ∷ []) both
  pub a_part_lost : Gives plan_two_tables (0 ∷ 1 ∷ 2 ∷ 4 ∷ 5 ∷ 6 ∷ []) only_second
  pub repeated : Gives plan_two_tables (0 ∷ 0 ∷ 1 ∷ 2 ∷ 3 ∷ 3 ∷ 4 ∷ 2 ∷ 5 ∷ 5 ∷ 1 ∷ 6 ∷ []) both
  pub reordered : Gives plan_two_tables (0 ∷ 5 ∷ 4 ∷ 3 ∷ 2 ∷ 1 ∷ 6 ∷ []) both
  pub a_part_late : Gives plan_two_tables (0 ∷ 1 ∷ 2 ∷ 3 ∷ 5 ∷ 6 ∷ 4 ∷ []) only_second
  -- the first table is lost, and the second one comes after the first unit is due
  pub first_table_lost : Gives plan_two_tables (0 ∷ 2 ∷ 3 ∷ 4 ∷ 5 ∷ 6 ∷ []) only_second
  pub no_table : Gives plan_two_tables (0 ∷ 2 ∷ 3 ∷ 4 ∷ 5 ∷ []) none
  -- the first part comes when the clock is a whole delay ahead of it, and the second unit is due at the tick at which its packet leaves
  pub at_the_limits : Gives plan_at_limits (0 ∷ 1 ∷ 5 ∷ 4 ∷ 3 ∷ 2 ∷ 7 ∷ []) both
  -- the first table is lost, and the second one comes at the tick at which the first unit is due
  pub table_at_the_due_tick : Gives plan_at_limits (0 ∷ 2 ∷ 3 ∷ 4 ∷ 5 ∷ 6 ∷ 7 ∷ []) only_second
