-- What `peak` does.
use Rattle.std.specs.Prelude.{◌≡◌, ℕ, List, [], ◌++◌}
use Rattle.mmt_io.specs.History.{Event, bytes_noted, bytes_written}
use Rattle.mmt_model.specs.declared.programmes.FlowChoice.{FlowChoice}
use Rattle.mmt_model.specs.declared.programmes.Params.{Params}
use Rattle.mmt_stream.specs.Streaming.{Does}
use Rattle.mmt_stream.specs.declared.end.StreamEnd.{StreamEnd}
use Rattle.mmt_stream.specs.declared.end.StreamEnd.TheVariants as ends
use Rattle.mmt_peak.specs.Peaking.{peaking}
use Rattle.mmt_cli.specs.Moments.{Moment}
use Rattle.mmt_cli.specs.Statuses.{status_of}
use Rattle.mmt_cli.specs.declared.status.Status.{Status}

-- a read failed, there was no memory, or the input is longer than the limit
abbrev pub IsCutShort : StreamEnd → Type 0
IsCutShort ends.Done = ⊥
IsCutShort ends.ReadFault = Unit {0}
IsCutShort ends.WriteFault = ⊥
IsCutShort (ends.Broken kind place) = ⊥
IsCutShort ends.OutOfMemory = Unit {0}
IsCutShort ends.TooLong = Unit {0}

-- `peak` reads a stream, writes its line at the end, and notes nothing. It writes nothing where it is cut short: a prefix of the line is written only where the write failed (this project's rule).
pub record Peaks (flow : FlowChoice) (params : Params) (limit : ℕ) (status : Status) (old new : Moment) : Type 0 where
  pub end : StreamEnd
  pub told : status ≡ status_of end
  pub does : Does (peaking flow params) limit end old.history new.history old.left new.left old.reads new.reads old.writes new.writes
  pub quiet : (events : List Event) → new.history ≡ old.history ++ events → bytes_noted events ≡ []
  pub unwritten : IsCutShort end → (events : List Event) → new.history ≡ old.history ++ events → bytes_written events ≡ []
