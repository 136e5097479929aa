-- What `expand` and `squeeze` do.
use Rattle.std.specs.Prelude.{◌≡◌, ℕ}
use Rattle.mmt_stream.specs.Consuming.{Meaning}
use Rattle.mmt_stream.specs.Streaming.{Does}
use Rattle.mmt_stream.specs.declared.end.StreamEnd.{StreamEnd}
use Rattle.mmt_gate.specs.Flows.{Options}
use Rattle.mmt_gateway.specs.Passing.{expanding, squeezing}
use Rattle.mmt_cli.specs.Moments.{Moment}
use Rattle.mmt_cli.specs.Statuses.{status_of}
use Rattle.mmt_cli.specs.declared.status.Status.{Status}

-- A gateway reads a stream, writes what its packets become, and notes those that it leaves out (this project's rule).
pub record Passes (meaning : Meaning) (limit : ℕ) (status : Status) (old new : Moment) : Type 0 where
  pub end : StreamEnd
  pub told : status ≡ status_of end
  pub does : Does meaning limit end old.history new.history old.left new.left old.reads new.reads old.writes new.writes

-- `expand` writes the stream with all headers
abbrev pub Expands : ℕ → Status → Moment → Moment → Type 0
Expands limit status old new = Passes expanding limit status old new

-- the options of `squeeze`: the context of the first header, and every how many packets of a header carry it
abbrev pub options_of : ℕ → ℕ → Options
options_of context full_every = record { context = context; full_every = full_every }

-- `squeeze` writes the stream with compressed headers
abbrev pub Squeezes : ℕ → ℕ → ℕ → Status → Moment → Moment → Type 0
Squeezes context full_every limit status old new = Passes (squeezing (options_of context full_every)) limit status old new
