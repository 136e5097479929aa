-- A small plan of which a table and a unit are cut and two units are gathered, and that the premises of the theorems can be met.
use Rattle.std.specs.Prelude.{ℕ, ◌≡◌, ◌<◌, ◌==◌, List, [], ◌∷◌, true, false, length, replicate, None, if◌then◌else◌}
use Rattle.mmt_cast.specs.Casting.{cast_of}
use Rattle.mmt_cast.specs.Placing.{all_mpus, entry_of_mpu}
use Rattle.mmt_cast.specs.PlanOne.{EachWorked, plan_one, plan_with, unit_with, usual, usual_signals}
use Rattle.mmt_cast.specs.Refusing.{refusal}
use Rattle.mmt_cast.specs.Right.{IsMessage, mpu_at, signal_at}
use Rattle.mmt_cast.specs.TablesRead.{FitsTable}
use Rattle.mmt_cast.specs.WorkedCasts.{packet}
use Rattle.mmt_model.specs.Admission.{fault}
use Rattle.mmt_model.specs.Entries.{Entry}
use Rattle.mmt_model.specs.Right.{IsRight}
use Rattle.mmt_model.specs.declared.casts.Sent.{Sent}
use Rattle.mmt_model.specs.declared.programmes.Programme.{Programme}
use Rattle.mmt_model.specs.declared.casts.Carries.TheVariants as carries

-- the worked plan with a limit of 64 bytes, a unit of 100 bytes, and two of 20 and 10 bytes
abbrev pub small_plan : Programme
small_plan =
    record (plan_with usual usual_signals
    (record {
      number = 7;
      time = record { 0 = 4297114779648 };
      decoding_offset = 1001;
      aus = record { dts_pts = 1001; pts = 1001 } ∷ record { dts_pts = 2002; pts = 0 } ∷ [];
      units = unit_with 200 0 100 1 1 ∷ unit_with 300 100 20 1 2 ∷ unit_with 300 120 10 1 3 ∷ [];
    } ∷ [])) { limit = 64 }

-- the table goes in two packets, the first unit in two, and the others in one
abbrev pub small_packets : List Sent
small_packets =
    packet 65536000 0 0 false 19 (carries.Parameters 0)
    ∷ packet 65536100 0 1 false 66 (carries.TablePart 1 0)
    ∷ packet 65536110 0 2 false 18 (carries.TablePart 1 1)
    ∷ packet 65536200 256 0 true 86 (carries.Fragment 0 0)
    ∷ packet 65536210 256 1 false 58 (carries.Fragment 0 1)
    ∷ packet 65536300 256 2 false 70 (carries.Group 1 2)
    ∷ []

-- bytes that stand for the messages of the worked plan, and a reader of them
abbrev pub some_messages : ℕ → List ℕ
some_messages s = if s == 0 then replicate 17 0 else replicate 80 0

abbrev pub some_names : List ℕ → List Entry
some_names bytes = if length bytes == 17 then [] else entry_of_mpu (mpu_at plan_one 0) ∷ []

-- a right programme that has a cast, which is admitted
pub record CanBeCast (programme : Programme) : Type 0 where
  pub right : IsRight programme
  pub has_cast : refusal programme ≡ None
  pub admitted : fault (cast_of programme) ≡ None

-- the small plan has these packets, the worked plans have casts that are admitted, and the worked plan meets what the theorems ask of a programme
pub record AreExamples : Type 0 where
  pub small : (cast_of small_plan).packets ≡ small_packets
  pub worked : EachWorked CanBeCast
  pub fit : (m : ℕ) → m < length (all_mpus plan_one) → FitsTable (mpu_at plan_one m)
  pub spelled : (s : ℕ) → s < length plan_one.signals → IsMessage plan_one some_names (signal_at plan_one s) (some_messages s)
