-- What `take` gives back of a near delivery of a programme that can be sent.
use Rattle.std.specs.Prelude.{◌≡◌, ◌⊎◌, ℕ, ◌≤◌, List, ◌++◌, length}
use Rattle.mmt_io.specs.History.{Event, bytes_noted, bytes_written}
use Rattle.mmt_io.specs.Port.{Rose}
use Rattle.mmt_model.specs.Received.{IsNear}
use Rattle.mmt_model.specs.Survival.{AreOf}
use Rattle.mmt_model.specs.declared.casts.Cast.{Cast}
use Rattle.mmt_model.specs.declared.programmes.Programme.{Programme}
use Rattle.mmt_output.specs.Records.{amount_of, records}
use Rattle.mmt_recv.specs.Noting.{PlacedNote, lines_of}
use Rattle.mmt_recv.specs.Receiving.{summary_of}
use Rattle.mmt_recv.specs.declared.summary.Summary.{Summary}
use Rattle.mmt_sent.specs.Stream.{stream_of}
use Rattle.mmt_io.specs.Output.{IsPrefix}
use Rattle.mmt_stream.specs.Streaming.{Does}
use Rattle.mmt_stream.specs.declared.end.StreamEnd.{StreamEnd}
use Rattle.mmt_take.specs.Taking.{line_of, taking}
use Rattle.mmt_tlv.specs.Framing.{joined}
use Rattle.mmt_tune.specs.declared.config.Config.{Config}
use Rattle.mmt_headline.specs.Notes.{AreQuiet}
use Rattle.mmt_headline.specs.Programmes.{IsSendable, Receives}
use Rattle.mmt_headline.specs.Taken.{expected_of, placed_of}
use Rattle.mmt_stream.specs.declared.end.StreamEnd.TheVariants as end

-- a near delivery of a cast of a programme that can be sent, and a receiver of the programme
pub record Reaches (config : Config) (programme : Programme) (cast : Cast) (files : ℕ → List ℕ) (delivery : List ℕ) : Type 0 where
  pub sendable : IsSendable programme cast files
  pub receives : Receives config programme
  pub of : AreOf cast.packets delivery
  pub near : IsNear cast programme.full_every delivery

-- the notes are `late`, `repeat` and `ctx-none` alone and, at last, how many units were expected, how many bytes they have, and the most payload bytes that were kept at once, at most the programme's bound; no packet was without room
pub record NotesQuietly (config : Config) (programme : Programme) (cast : Cast) (files : ℕ → List ℕ) (delivery : List ℕ) (noted : List ℕ) : Type 0 where
  pub notes : List PlacedNote
  pub last : Summary
  pub lines : noted ≡ lines_of notes ++ line_of last
  pub quiet : AreQuiet notes
  pub counted : last ≡ summary_of config (placed_of programme cast files delivery)
  pub units : last.units ≡ (amount_of (expected_of programme cast files delivery)).units
  pub bytes : last.bytes ≡ (amount_of (expected_of programme cast files delivery)).bytes
  pub peak : last.peak ≤ programme.params.bound
  pub full : last.full ≡ 0

-- a run that is done wrote exactly the records of the expected units and noted quietly, and one that ends in any way wrote and noted a prefix of these
pub record IsGivenBack (config : Config) (programme : Programme) (cast : Cast) (files : ℕ → List ℕ) (delivery : List ℕ) (outcome : StreamEnd) (events : List Event) : Type 0 where
  pub notes : List ℕ
  pub quiet : NotesQuietly config programme cast files delivery notes
  pub written : outcome ≡ end.Done → bytes_written events ≡ records (expected_of programme cast files delivery)
  pub noted : outcome ≡ end.Done → bytes_noted events ≡ notes
  pub writing : IsPrefix (bytes_written events) (records (expected_of programme cast files delivery))
  pub noting : IsPrefix (bytes_noted events) notes

-- `take` over the bytes of the delivery gives back the programme; where no call of the port failed, and the limit is not below the bytes, it is done, unless memory ran out
abbrev pub GivesBack : Config → Programme → Cast → (ℕ → List ℕ) → List ℕ → Type 0
GivesBack config programme cast files delivery =
    (limit : ℕ) (outcome : StreamEnd) (old new : List Event) (unread : List ℕ) (reads reads' writes writes' : ℕ)
    → Does (taking config) limit outcome old new (joined (stream_of programme cast files delivery)) unread reads reads' writes writes'
    → (events : List Event) × (new ≡ old ++ events) × IsGivenBack config programme cast files delivery outcome events
    × (length (joined (stream_of programme cast files delivery)) ≤ limit → (Rose reads reads' → ⊥) → (Rose writes writes' → ⊥) → (outcome ≡ end.Done) ⊎ (outcome ≡ end.OutOfMemory))

-- so it is for each near delivery that reaches a receiver
abbrev pub TakeGivesBack : Type 0
TakeGivesBack = (config : Config) (programme : Programme) (cast : Cast) (files : ℕ → List ℕ) (delivery : List ℕ) → Reaches config programme cast files delivery → GivesBack config programme cast files delivery
