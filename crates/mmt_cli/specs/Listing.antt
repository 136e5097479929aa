-- What `list` does.
use Rattle.std.specs.Prelude.{◌≡◌, ℕ, List, [], ◌++◌}
use Rattle.mmt_io.specs.History.{Event, bytes_noted}
use Rattle.mmt_tlv.specs.Framing.{Packet}
use Rattle.mmt_io.specs.Output.{Output}
use Rattle.mmt_stream.specs.Consuming.{Meaning}
use Rattle.mmt_stream.specs.Streaming.{Does}
use Rattle.mmt_stream.specs.declared.end.StreamEnd.{StreamEnd}
use Rattle.mmt_list.specs.Line.{lines}
use Rattle.mmt_cli.specs.Moments.{Moment}
use Rattle.mmt_cli.specs.Statuses.{status_of}
use Rattle.mmt_cli.specs.declared.status.Status.{Status}

-- the lines of the packets
abbrev pub listed : List Packet → Output
listed packets = record { written = lines packets; noted = [] }

-- a line for each packet, and nothing more at the end
abbrev pub listing : Meaning
listing = record { so_far = listed; at_end = listed }

-- `list` reads a stream, writes its lines, and notes nothing.
pub record Lists (limit : ℕ) (status : Status) (old new : Moment) : Type 0 where
  pub end : StreamEnd
  pub told : status ≡ status_of end
  pub does : Does listing limit end old.history new.history old.left new.left old.reads new.reads old.writes new.writes
  pub quiet : (events : List Event) → new.history ≡ old.history ++ events → bytes_noted events ≡ []
