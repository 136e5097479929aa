-- What `mux` sends `take` can receive: the laws that join the two commands.
use Rattle.std.specs.Prelude.{◌≡◌, ◌⊎◌, ℕ, ◌≤◌, List, ◌++◌, length, Option, Ok}
use Rattle.mmt_cast.specs.Casting.{cast_of}
use Rattle.mmt_io.specs.History.{Event, bytes_written}
use Rattle.mmt_model.specs.Received.{IsNear}
use Rattle.mmt_model.specs.Survival.{AreOf}
use Rattle.mmt_model.specs.declared.programmes.Programme.{Programme}
use Rattle.mmt_mux.specs.Sendable.{sendable}
use Rattle.mmt_output.specs.Records.{records}
use Rattle.mmt_send.specs.Files.{files_on}
use Rattle.mmt_io.specs.Output.{IsPrefix}
use Rattle.mmt_tune.specs.declared.config.Config.{Config}
use Rattle.mmt_headline.specs.GivesBack.{Reaches}
use Rattle.mmt_headline.specs.Programmes.{IsSendable, Receives}
use Rattle.mmt_headline.specs.WholeCasts.{all_presented}
use Rattle.mmt_cli.specs.GivingBack.{HasNoFault}
use Rattle.mmt_cli.specs.Moments.{Moment}
use Rattle.mmt_cli.specs.Muxing.{Muxes}
use Rattle.mmt_cli.specs.Takes.{Takes}
use Rattle.mmt_cli.specs.declared.status.Status.{Status}
use Rattle.mmt_cli.specs.declared.status.Status.TheVariants as status

-- a programme whose stream `mux` sends is one that can be sent, with the files of the shelf
abbrev pub SentProgrammesAreSendable : Type 0
SentProgrammesAreSendable = (file : List ℕ → Option (List ℕ)) (name : List ℕ) (programme : Programme) → sendable file name ≡ Ok programme → IsSendable programme (cast_of programme) (files_on file programme)

-- so each near delivery of it, and a receiver that hears it, meet the premises of the clause `gives_back`
abbrev pub SentProgrammesAreReached : Type 0
SentProgrammesAreReached =
    (file : List ℕ → Option (List ℕ)) (name : List ℕ) (programme : Programme) (config : Config) (delivery : List ℕ) → sendable file name ≡ Ok programme → Receives config programme
    → AreOf (cast_of programme).packets delivery → IsNear (cast_of programme) programme.full_every delivery → Reaches config programme (cast_of programme) (files_on file programme) delivery

-- a run of `mux` that is done, from one moment to another, and a run of `take` whose input is exactly the bytes that it wrote
pub record MuxThenTake (file : List ℕ → Option (List ℕ)) (name : List ℕ) (config : Config) (limit : ℕ) (outcome : Status) (before after old new : Moment) : Type 0 where
  pub muxed : Muxes file name status.Done before after
  pub events : List Event
  pub sent : after.history ≡ before.history ++ events
  pub input : old.left ≡ bytes_written events
  pub taken : Takes config limit outcome old new

-- `take` done wrote exactly the records of all units of the programme; ended in any way, a prefix of them; and it is done where no call of the port failed and the limit is not below the bytes, unless memory ran out
pub record GaveAllBack (programme : Programme) (files : ℕ → List ℕ) (limit : ℕ) (outcome : Status) (old new : Moment) : Type 0 where
  pub events : List Event
  pub history : new.history ≡ old.history ++ events
  pub written : outcome ≡ status.Done → bytes_written events ≡ records (all_presented programme files)
  pub writing : IsPrefix (bytes_written events) (records (all_presented programme files))
  pub done : length old.left ≤ limit → HasNoFault old new → (outcome ≡ status.Done) ⊎ (outcome ≡ status.OutOfMemory)

-- so `take` gave back the programme of the plan, where the receiver hears it
abbrev pub TakeGivesBackWhatMuxSent : Type 0
TakeGivesBackWhatMuxSent =
    (file : List ℕ → Option (List ℕ)) (name : List ℕ) (config : Config) (limit : ℕ) (outcome : Status) (before after old new : Moment) → MuxThenTake file name config limit outcome before after old new
    → (programme : Programme) × (sendable file name ≡ Ok programme) × (Receives config programme → GaveAllBack programme (files_on file programme) limit outcome old new)
