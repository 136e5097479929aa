-- How a run of `mux` ends (this project's rules).
use Rattle.std.specs.Prelude.{◌≡◌, ℕ, List, [], ◌++◌, Option, Result, Ok, Err}
use Rattle.mmt_plan.specs.Files.{files_of}
use Rattle.mmt_plan.specs.Plan.{plan}
use Rattle.mmt_admit.specs.Faults.{fault_value}
use Rattle.mmt_io.specs.History.{Event, bytes_noted, bytes_read, bytes_written}
use Rattle.mmt_model.specs.declared.programmes.Programme.{Programme}
use Rattle.mmt_cast.specs.Refusing.{Refusal as NoCast}
use Rattle.mmt_casting.specs.declared.ends.CastEnd.{CastEnd}
use Rattle.mmt_casting.specs.declared.ends.CastEnd.TheVariants as casts
use Rattle.mmt_model.specs.Carrying.{sent_unit}
use Rattle.mmt_model.specs.declared.casts.Cast.{Cast}
use Rattle.mmt_mux.specs.Sendable.{Faulty, Refused, Why, cast_refusal}
use Rattle.mmt_plan.specs.declared.ends.FilesEnd.{FilesEnd}
use Rattle.mmt_plan.specs.declared.ends.FilesEnd.TheVariants as files
use Rattle.mmt_plan.specs.declared.ends.PlanEnd.{PlanEnd}
use Rattle.mmt_plan.specs.declared.ends.PlanEnd.TheVariants as plans
use Rattle.mmt_plan.specs.declared.ends.PlanPart.TheVariants as parts
use Rattle.mmt_plan.specs.declared.ends.PlanPlace.{PlanPlace}
use Rattle.mmt_plan.specs.declared.ends.Reason.TheVariants as reasons
use Rattle.mmt_plan.specs.declared.ends.Refusal.{Refusal}
use Rattle.mmt_send.specs.declared.ends.SendEnd.{SendEnd}
use Rattle.mmt_send.specs.declared.ends.SendEnd.TheVariants as sends
use Rattle.mmt_mux.specs.declared.ends.MuxEnd.{MuxEnd}
use Rattle.mmt_mux.specs.declared.ends.MuxEnd.TheVariants as ends

-- the end is Done if and only if the stream is sent, and otherwise the first reason against it, faults and `OutOfMemory` aside
abbrev pub IsMuxAnswer : Result Programme Why → Result (Unit {0}) MuxEnd → Type 0
IsMuxAnswer checks (Ok x) = (p : Programme) × (checks ≡ Ok p)
IsMuxAnswer checks (Err (ends.Refused reason place)) = checks ≡ Err (Refused (record { reason = reason; place = place }))
IsMuxAnswer checks (Err (ends.NotAdmitted refusal)) = checks ≡ Err (Faulty (fault_value refusal))
IsMuxAnswer checks (Err ends.ReadFault) = Unit {0}
IsMuxAnswer checks (Err ends.WriteFault) = Unit {0}
IsMuxAnswer checks (Err ends.OutOfMemory) = Unit {0}

-- the programme is that of the plan of a name, it has a cast, and its files are there and long enough
pub record IsRead (file : List ℕ → Option (List ℕ)) (name : List ℕ) (p : Programme) : Type 0 where
  pub plan : plan (file name) ≡ Ok p
  pub files : files_of file p ≡ Ok tt

-- these bytes were written, and nothing was read or noted
pub record Passes (bytes : List ℕ) (old new : List Event) : Type 0 where
  pub events : List Event
  pub history : new ≡ old ++ events
  pub written : bytes_written events ≡ bytes
  pub unread : bytes_read events ≡ []
  pub quiet : bytes_noted events ≡ []

-- all of the bytes were written where the run was done, and otherwise a prefix of them
abbrev pub Muxes : List ℕ → Result (Unit {0}) MuxEnd → List Event → List Event → Type 0
Muxes bytes (Ok x) old new = Passes bytes old new
Muxes bytes (Err end) old new = (front : List ℕ) × (rest : List ℕ) × (bytes ≡ front ++ rest) × Passes front old new

-- a plan that is refused
abbrev pub refused_for : Refusal → MuxEnd
refused_for r = ends.Refused r.reason r.place

-- the end of a run by that of reading its plan
abbrev pub plan_end : PlanEnd → MuxEnd
plan_end (plans.Refused reason place) = ends.Refused reason place
plan_end plans.ReadFault = ends.ReadFault
plan_end plans.OutOfMemory = ends.OutOfMemory

-- by that of its cast
abbrev pub cast_end : CastEnd → MuxEnd
cast_end (casts.TimeRange asset mpu au) = refused_for (cast_refusal (NoCast.TimeRange asset mpu au))
cast_end (casts.TableLong signal) = refused_for (cast_refusal (NoCast.TableLong signal))
cast_end (casts.CastLong packets) = refused_for (cast_refusal (NoCast.CastLong packets))
cast_end casts.OutOfMemory = ends.OutOfMemory

-- by that of looking at its files
abbrev pub files_end : FilesEnd → MuxEnd
files_end (files.Refused reason place) = ends.Refused reason place
files_end files.ReadFault = ends.ReadFault

-- where a unit of a cast stands in the plan: its member 3 is its length
abbrev pub unit_place : Cast → ℕ → PlanPlace
unit_place cast unit = let sent = sent_unit cast unit in record { part = parts.Unit; a = sent.asset; b = sent.mpu; c = sent.unit; field = 3 }

-- by that of sending: a file that has become shorter since it was looked at is a short unit
abbrev pub send_end : Cast → SendEnd → MuxEnd
send_end cast sends.ReadFault = ends.ReadFault
send_end cast (sends.UnitShort unit length got) = ends.Refused reasons.UnitShort (unit_place cast unit)
send_end cast sends.WriteFault = ends.WriteFault
send_end cast sends.OutOfMemory = ends.OutOfMemory
