-- What `mux` does.
use Rattle.std.specs.Prelude.{◌≡◌, ℕ, List, Option, Result}
use Rattle.mmt_mux.specs.Ending.{IsMuxAnswer, Muxes as Sends}
use Rattle.mmt_mux.specs.Sendable.{sendable, sent_bytes}
use Rattle.mmt_mux.specs.declared.ends.MuxEnd.{MuxEnd}
use Rattle.mmt_cli.specs.Moments.{Moment}
use Rattle.mmt_cli.specs.Statuses.{status_of_run}
use Rattle.mmt_cli.specs.declared.status.Status.{Status}

-- `mux` writes the stream of the plan of a name, whose files are on the shelf, where it is done, and a prefix of it, or nothing, where it is not. It is refused if and only if the plan, its files or its cast are, and it reads and notes nothing (this project's rule).
pub record Muxes (file : List ℕ → Option (List ℕ)) (name : List ℕ) (outcome : Status) (old new : Moment) : Type 0 where
  pub end : Result (Unit {0}) MuxEnd
  pub told : outcome ≡ status_of_run end
  pub answer : IsMuxAnswer (sendable file name) end
  pub sent : Sends (sent_bytes file (sendable file name)) end old.history new.history

-- `mux` takes nothing from the stream to be read
pub record ReadsNothing (old new : Moment) : Type 0 where
  pub unread : new.left ≡ old.left
  pub reads : new.reads ≡ old.reads
