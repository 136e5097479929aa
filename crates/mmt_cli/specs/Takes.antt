-- What `take` does.
use Rattle.std.specs.Prelude.{◌≡◌, ℕ}
use Rattle.mmt_stream.specs.Streaming.{Does}
use Rattle.mmt_stream.specs.declared.end.StreamEnd.{StreamEnd}
use Rattle.mmt_command.specs.declared.take_words.TakeOptions.{TakeOptions}
use Rattle.mmt_tune.specs.declared.config.Config.{Config}
use Rattle.mmt_take.specs.Taking.{taking}
use Rattle.mmt_cli.specs.Moments.{Moment}
use Rattle.mmt_cli.specs.Statuses.{status_of}
use Rattle.mmt_cli.specs.declared.status.Status.{Status}

-- what a receiver goes by that these options ask for (this project's rule)
abbrev pub config_of : TakeOptions → Config
config_of o = record { bound = o.bound; flow = o.flow; sample_base = o.sample_base; timescale = o.timescale; assumed = o.assumed }

-- `take` reads a stream, writes the records of the units that a receiver hands out, and notes what is refused and its last line (this project's rule)
pub record Takes (config : Config) (limit : ℕ) (status : Status) (old new : Moment) : Type 0 where
  pub end : StreamEnd
  pub told : status ≡ status_of end
  pub does : Does (taking config) limit end old.history new.history old.left new.left old.reads new.reads old.writes new.writes
