-- What a run of `pace` sends, and how it ends (this project's rules).
use Rattle.std.specs.Prelude.{◌≡◌, ◌⊎◌, ℕ, List, [], ◌++◌, Option, Some, None, Result, Ok, Err}
use Rattle.mmt_admit.specs.Faults.{fault_value}
use Rattle.mmt_cast.specs.Casting.{cast_of}
use Rattle.mmt_cast.specs.Refusing.{Refusal as NoCast, refusal}
use Rattle.mmt_io.specs.History.{Event}
use Rattle.mmt_model.specs.Admission.{fault}
use Rattle.mmt_model.specs.declared.casts.Cast.{Cast}
use Rattle.mmt_model.specs.declared.programmes.Programme.{Programme}
use Rattle.mmt_mux.specs.Ending.{Passes}
use Rattle.mmt_mux.specs.Sendable.{cast_refusal}
use Rattle.mmt_pace.specs.Pacing.{Paces}
use Rattle.mmt_plan.specs.Files.{files_of}
use Rattle.mmt_plan.specs.Plan.{plan}
use Rattle.mmt_plan.specs.Reading.{◌>>=◌}
use Rattle.mmt_plan.specs.declared.ends.Refusal.{Refusal}
use Rattle.mmt_send.specs.Files.{files_on}
use Rattle.mmt_sent.specs.Stream.{stream}
use Rattle.mmt_slots.specs.declared.row.NoSchedule.{NoSchedule}
use Rattle.mmt_slots.specs.declared.row.NoSchedule.TheVariants as schedules
use Rattle.mmt_tlv.specs.Framing.{joined}
use Rattle.mmt_mux.specs.declared.ends.MuxEnd.{MuxEnd}
use Rattle.mmt_mux.specs.declared.ends.MuxEnd.TheVariants as ends
use Rattle.mmt_mux.specs.declared.ends.PaceEnd.{PaceEnd}
use Rattle.mmt_mux.specs.declared.ends.PaceEnd.TheVariants as paces

-- a programme has a cast, or is refused
abbrev pub has_cast : Option NoCast → Result (Unit {0}) Refusal
has_cast None = Ok tt
has_cast (Some r) = Err (cast_refusal r)

-- the programme that is cast: the plan is one, it has a cast, and its files are there and long enough, checked in this order; otherwise the first reason against it
unfoldable pub castable : (List ℕ → Option (List ℕ)) → List ℕ → Result Programme Refusal
castable file name = do
  p ← plan (file name)
  _ ← has_cast (refusal p)
  _ ← files_of file p
  Ok p

-- a run ends before there is a cast that may be sent: with the reason against it, or by a fault
abbrev pub IsNotCast : Result Programme Refusal → MuxEnd → Type 0
IsNotCast checks (ends.Refused reason place) = checks ≡ Err (record { reason = reason; place = place })
IsNotCast checks (ends.NotAdmitted refusal) = ⊥
IsNotCast checks ends.ReadFault = Unit {0}
IsNotCast checks ends.WriteFault = ⊥
IsNotCast checks ends.OutOfMemory = Unit {0}

-- the programme of a plan and its cast that is paced with a step
pub record IsPaced (file : List ℕ → Option (List ℕ)) (name : List ℕ) (step : ℕ) (programme : Programme) (cast : Cast) : Type 0 where
  pub plan : castable file name ≡ Ok programme
  pub paced : Paces (cast_of programme) step (Ok cast)

-- the same, where the paced cast is admitted
pub record IsAdmitted (file : List ℕ → Option (List ℕ)) (name : List ℕ) (step : ℕ) (programme : Programme) (cast : Cast) : Type 0 where
  pub is : IsPaced file name step programme cast
  pub admitted : fault cast ≡ None

-- an interval of the cast of a plan has more packets than slots: with its counts
abbrev pub IsOverfull : (List ℕ → Option (List ℕ)) → List ℕ → ℕ → NoSchedule → Type 0
IsOverfull file name step end = (programme : Programme) × (castable file name ≡ Ok programme) × Paces (cast_of programme) step (Err end)

-- how a run ends: done only with an admitted paced cast, refused if and only if the plan, the cast or the files are, not paced only with an overfull interval, and not admitted only with the first fault of the paced cast
abbrev pub IsPaceAnswer : (List ℕ → Option (List ℕ)) → List ℕ → ℕ → Result (Unit {0}) PaceEnd → Type 0
IsPaceAnswer file name step (Ok x) = (programme : Programme) × (cast : Cast) × IsAdmitted file name step programme cast
IsPaceAnswer file name step (Err (paces.NotPaced from to jobs slots)) = IsOverfull file name step (schedules.Overfull from to jobs slots)
IsPaceAnswer file name step (Err (paces.Ended (ends.Refused reason place))) = castable file name ≡ Err (record { reason = reason; place = place })
IsPaceAnswer file name step (Err (paces.Ended (ends.NotAdmitted refusal))) = (programme : Programme) × (cast : Cast) × IsPaced file name step programme cast × (fault cast ≡ Some (fault_value refusal))
IsPaceAnswer file name step (Err (paces.Ended ends.ReadFault)) = Unit {0}
IsPaceAnswer file name step (Err (paces.Ended ends.WriteFault)) = Unit {0}
IsPaceAnswer file name step (Err (paces.Ended ends.OutOfMemory)) = Unit {0}

-- a prefix of the stream of an admitted paced cast was written
pub record HasBegun (file : List ℕ → Option (List ℕ)) (name : List ℕ) (step : ℕ) (old new : List Event) : Type 0 where
  pub programme : Programme
  pub cast : Cast
  pub is : IsAdmitted file name step programme cast
  pub front : List ℕ
  pub rest : List ℕ
  pub all : joined (stream programme cast (files_on file programme)) ≡ front ++ rest
  pub passes : Passes front old new

-- what passed: the stream of the admitted paced cast where the run is done; nothing where it is refused, not paced or not admitted; and otherwise a prefix of the stream, or nothing
abbrev pub PaceSends : (List ℕ → Option (List ℕ)) → List ℕ → ℕ → Result (Unit {0}) PaceEnd → List Event → List Event → Type 0
PaceSends file name step (Ok x) old new = (programme : Programme) × (cast : Cast) × IsAdmitted file name step programme cast × Passes (joined (stream programme cast (files_on file programme))) old new
PaceSends file name step (Err (paces.NotPaced from to jobs slots)) old new = Passes [] old new
PaceSends file name step (Err (paces.Ended (ends.Refused reason place))) old new = Passes [] old new
PaceSends file name step (Err (paces.Ended (ends.NotAdmitted refusal))) old new = Passes [] old new
PaceSends file name step (Err (paces.Ended ends.ReadFault)) old new = Passes [] old new ⊎ HasBegun file name step old new
PaceSends file name step (Err (paces.Ended ends.WriteFault)) old new = Passes [] old new ⊎ HasBegun file name step old new
PaceSends file name step (Err (paces.Ended ends.OutOfMemory)) old new = Passes [] old new ⊎ HasBegun file name step old new

-- the end of a run by that of pacing its cast
abbrev pub no_schedule_end : NoSchedule → PaceEnd
no_schedule_end (schedules.Overfull from to jobs slots) = paces.NotPaced from to jobs slots
no_schedule_end schedules.OutOfMemory = paces.Ended ends.OutOfMemory

-- a run is done, or a call failed, or memory ran out
abbrev pub IsDoneOrFailed : Result (Unit {0}) PaceEnd → Type 0
IsDoneOrFailed (Ok x) = Unit {0}
IsDoneOrFailed (Err (paces.NotPaced from to jobs slots)) = ⊥
IsDoneOrFailed (Err (paces.Ended (ends.Refused reason place))) = ⊥
IsDoneOrFailed (Err (paces.Ended (ends.NotAdmitted refusal))) = ⊥
IsDoneOrFailed (Err (paces.Ended ends.ReadFault)) = Unit {0}
IsDoneOrFailed (Err (paces.Ended ends.WriteFault)) = Unit {0}
IsDoneOrFailed (Err (paces.Ended ends.OutOfMemory)) = Unit {0}

-- so it is where the paced cast of a plan is admitted
abbrev pub PaceIsComplete : Type 0
PaceIsComplete =
    (file : List ℕ → Option (List ℕ)) (name : List ℕ) (step : ℕ) (programme : Programme) (cast : Cast) (end : Result (Unit {0}) PaceEnd) → IsAdmitted file name step programme cast → IsPaceAnswer file name step end → IsDoneOrFailed end
