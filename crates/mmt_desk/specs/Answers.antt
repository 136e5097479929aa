-- How a run of `trial` ends (this project's rules).
use Rattle.std.specs.Prelude.{◌≡◌, ◌⊎◌, ℕ, List, length, Option, Result, Ok, Err}
use Rattle.mmt_admit.specs.Faults.{fault_value}
use Rattle.mmt_cast.specs.Casting.{cast_of}
use Rattle.mmt_desk.specs.Lines.{line_of}
use Rattle.mmt_desk.specs.Lists.{IsListAnswer, IsListIn}
use Rattle.mmt_io.specs.History.{Event}
use Rattle.mmt_io.specs.Output.{Puts, PutsPrefix, only_written}
use Rattle.mmt_model.specs.Received.{IsNear}
use Rattle.mmt_model.specs.declared.casts.Cast.{Cast}
use Rattle.mmt_model.specs.declared.programmes.Programme.{Programme}
use Rattle.mmt_mux.specs.Ending.{unit_place}
use Rattle.mmt_mux.specs.Sendable.{Faulty, Refused, sendable}
use Rattle.mmt_mux.specs.declared.ends.MuxEnd.{MuxEnd}
use Rattle.mmt_mux.specs.declared.ends.MuxEnd.TheVariants as ends
use Rattle.mmt_plan.specs.declared.ends.Reason.TheVariants as reasons
use Rattle.mmt_send.specs.Files.{files_on}
use Rattle.mmt_trial.specs.Trials.{KeepsBound, tried}
use Rattle.mmt_trial.specs.declared.trying.TrialEnd.{TrialEnd}
use Rattle.mmt_trial.specs.declared.trying.TrialEnd.TheVariants as trials
use Rattle.mmt_trial.specs.declared.trying.Tried.{Tried}

-- the plan of a name can be sent, the list of a name is one of its cast, and these are the numbers of its trial; where the list is near, all expected units came out and the buffer held them
pub record HasTried (file : List ℕ → Option (List ℕ)) (plan list : List ℕ) (t : Tried) : Type 0 where
  pub programme : Programme
  pub places : List ℕ
  pub sendable : sendable file plan ≡ Ok programme
  pub listed : IsListIn (file list) (length (cast_of programme).packets) places
  pub numbers : t ≡ tried programme (files_on file programme) places
  pub keeps : IsNear (cast_of programme) programme.full_every places → KeepsBound t

-- a list is refused by this end
abbrev pub IsRefusedList : Option (List ℕ) → ℕ → MuxEnd → Type 0
IsRefusedList file sent end = IsListAnswer file sent (Err end)

-- the list of a plan that can be sent is refused
pub record HasNoList (file : List ℕ → Option (List ℕ)) (plan list : List ℕ) (end : MuxEnd) : Type 0 where
  pub programme : Programme
  pub sendable : sendable file plan ≡ Ok programme
  pub refused : IsRefusedList (file list) (length (cast_of programme).packets) end

-- what a run answers: its numbers, or the first reason why there are none: that of `mux`, or that of the list; faults and `OutOfMemory` aside
abbrev pub IsTrialAnswer : (List ℕ → Option (List ℕ)) → List ℕ → List ℕ → Result Tried MuxEnd → Type 0
IsTrialAnswer file plan list (Ok t) = HasTried file plan list t
IsTrialAnswer file plan list (Err (ends.Refused reason place)) = (sendable file plan ≡ Err (Refused (record { reason = reason; place = place }))) ⊎ HasNoList file plan list (ends.Refused reason place)
IsTrialAnswer file plan list (Err (ends.NotAdmitted refusal)) = sendable file plan ≡ Err (Faulty (fault_value refusal))
IsTrialAnswer file plan list (Err ends.ReadFault) = Unit {0}
IsTrialAnswer file plan list (Err ends.WriteFault) = ⊥
IsTrialAnswer file plan list (Err ends.OutOfMemory) = Unit {0}

-- the end of a run by that of its trial: a file that has become shorter since it was looked at is a short unit
abbrev pub trial_end : Cast → TrialEnd → MuxEnd
trial_end cast trials.ReadFault = ends.ReadFault
trial_end cast (trials.UnitShort unit len got) = ends.Refused reasons.UnitShort (unit_place cast unit)
trial_end cast trials.OutOfMemory = ends.OutOfMemory

-- what a run writes: the line of its numbers; a prefix of it where the write failed; and nothing where there are no numbers, a read failed or there was no memory
abbrev pub Tells : (List ℕ → Option (List ℕ)) → List ℕ → List ℕ → Result (Unit {0}) MuxEnd → List Event → List Event → Type 0
Tells file plan list (Ok x) old new = (t : Tried) × HasTried file plan list t × Puts old new (only_written (line_of t))
Tells file plan list (Err end) old new = (IsTrialAnswer file plan list (Err end) × (new ≡ old)) ⊎ ((t : Tried) × HasTried file plan list t × (end ≡ ends.WriteFault) × PutsPrefix old new (only_written (line_of t)))
