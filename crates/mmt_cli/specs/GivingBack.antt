-- What `take` gives back of a near delivery of a programme.
use Rattle.std.specs.Prelude.{◌≡◌, ◌⊎◌, ℕ, ◌≤◌, List, ◌++◌, length}
use Rattle.mmt_io.specs.History.{Event, bytes_noted, bytes_written}
use Rattle.mmt_io.specs.Port.{Rose}
use Rattle.mmt_tlv.specs.Framing.{joined}
use Rattle.mmt_model.specs.declared.casts.Cast.{Cast}
use Rattle.mmt_model.specs.declared.programmes.Programme.{Programme}
use Rattle.mmt_sent.specs.Stream.{stream_of}
use Rattle.mmt_output.specs.Records.{records}
use Rattle.mmt_io.specs.Output.{IsPrefix}
use Rattle.mmt_tune.specs.declared.config.Config.{Config}
use Rattle.mmt_headline.specs.GivesBack.{NotesQuietly, Reaches}
use Rattle.mmt_headline.specs.Taken.{expected_of}
use Rattle.mmt_cli.specs.Moments.{Moment}
use Rattle.mmt_cli.specs.declared.status.Status.{Status}
use Rattle.mmt_cli.specs.declared.status.Status.TheVariants as status

-- no read, no write and no note of the port failed between these moments
abbrev pub HasNoFault : Moment → Moment → Type 0
HasNoFault old new = (Rose old.reads new.reads → ⊥) × (Rose old.writes new.writes → ⊥)

-- Of a delivery a run that is done wrote exactly the records of the expected units, in the order in which they are handed out, and noted quietly; a run that ends in any way wrote and noted a prefix of these; and where no call failed and the limit is not below the input's bytes, the run is done, unless memory ran out (this project's rule).
pub record GaveBack (config : Config) (programme : Programme) (cast : Cast) (files : ℕ → List ℕ) (delivery : List ℕ) (limit : ℕ) (outcome : Status) (old new : Moment) : Type 0 where
  pub events : List Event
  pub history : new.history ≡ old.history ++ events
  pub notes : List ℕ
  pub quiet : NotesQuietly config programme cast files delivery notes
  pub written : outcome ≡ status.Done → bytes_written events ≡ records (expected_of programme cast files delivery)
  pub noted : outcome ≡ status.Done → bytes_noted events ≡ notes
  pub writing : IsPrefix (bytes_written events) (records (expected_of programme cast files delivery))
  pub noting : IsPrefix (bytes_noted events) notes
  pub done : length old.left ≤ limit → HasNoFault old new → (outcome ≡ status.Done) ⊎ (outcome ≡ status.OutOfMemory)

-- so it is of every near delivery, whose bytes are the input, of a cast of a programme that can be sent and that the receiver hears
abbrev pub GivesBack : Config → ℕ → Status → Moment → Moment → Type 0
GivesBack config limit outcome old new =
    (programme : Programme) (cast : Cast) (files : ℕ → List ℕ) (delivery : List ℕ) → Reaches config programme cast files delivery → old.left ≡ joined (stream_of programme cast files delivery)
    → GaveBack config programme cast files delivery limit outcome old new
