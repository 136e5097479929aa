-- What `trial` and `make` do.
use Rattle.std.specs.Prelude.{◌≡◌, ◌⊎◌, ℕ, List, Option, Result}
use Rattle.mmt_desk.specs.Answers.{Tells}
use Rattle.mmt_desk.specs.Lines.{PutsLine, line_of}
use Rattle.mmt_desk.specs.Numbers.{made_tried}
use Rattle.mmt_io.specs.Port.{Rose}
use Rattle.mmt_io.specs.declared.halt.Halt.{Halt}
use Rattle.mmt_mux.specs.declared.ends.MuxEnd.{MuxEnd}
use Rattle.mmt_trial.specs.Trials.{KeepsBound}
use Rattle.mmt_cli.specs.Moments.{Moment}
use Rattle.mmt_cli.specs.Muxing.{ReadsNothing}
use Rattle.mmt_cli.specs.Statuses.{status_of_run, status_of_make}
use Rattle.mmt_cli.specs.declared.status.Status.{Status}
use Rattle.mmt_cli.specs.declared.status.Status.TheVariants as status

-- `trial` writes the line of the trial of a plan and a list, whose files are on the shelf, where it is done; it is refused if and only if the plan, its files, its cast or the list are. A prefix of the line was written where the write failed, and nothing where it is refused, a read failed or there was no memory; it notes nothing (this project's rule).
pub record Trials (file : List ℕ → Option (List ℕ)) (plan list : List ℕ) (outcome : Status) (old new : Moment) : Type 0 where
  pub end : Result (Unit {0}) MuxEnd
  pub told : outcome ≡ status_of_run end
  pub tells : Tells file plan list end old.history new.history

-- `make` writes the line of the trial of what is made from a number, or a prefix of it where the write failed, and nothing where there was no memory; it reads and notes nothing. Where no write failed it is done or out of memory, and where it is done all expected units came out and the buffer held them (this project's rule).
pub record Makes (seed : ℕ) (outcome : Status) (old new : Moment) : Type 0 where
  pub end : Result (Unit {0}) Halt
  pub told : outcome ≡ status_of_make end
  pub put : PutsLine old.history new.history (line_of (made_tried seed)) end
  pub reads : ReadsNothing old new
  pub complete : (Rose old.writes new.writes → ⊥) → (outcome ≡ status.Done) ⊎ (outcome ≡ status.OutOfMemory)
  pub keeps : outcome ≡ status.Done → KeepsBound (made_tried seed)
