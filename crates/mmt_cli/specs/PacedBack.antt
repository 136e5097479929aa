-- What `pace` sends `take` can receive: the laws that join the two commands.
use Rattle.std.specs.Prelude.{◌≡◌, ℕ, List, Option}
use Rattle.mmt_model.specs.Received.{IsNear}
use Rattle.mmt_model.specs.Survival.{AreOf}
use Rattle.mmt_model.specs.declared.casts.Cast.{Cast}
use Rattle.mmt_model.specs.declared.programmes.Programme.{Programme}
use Rattle.mmt_mux.specs.Pacing.{IsAdmitted}
use Rattle.mmt_send.specs.Files.{files_on}
use Rattle.mmt_tune.specs.declared.config.Config.{Config}
use Rattle.mmt_headline.specs.GivesBack.{Reaches}
use Rattle.mmt_headline.specs.Programmes.{IsSendable, Receives}

-- a programme whose paced cast is admitted is one that can be sent over that cast, with the files of the shelf
abbrev pub PacedProgrammesAreSendable : Type 0
PacedProgrammesAreSendable =
    (file : List ℕ → Option (List ℕ)) (name : List ℕ) (step : ℕ) (programme : Programme) (cast : Cast) → IsAdmitted file name step programme cast → IsSendable programme cast (files_on file programme)

-- so each near delivery of the paced cast, and a receiver that hears the programme, meet the premises of the clause `gives_back`
abbrev pub PacedProgrammesAreReached : Type 0
PacedProgrammesAreReached =
    (file : List ℕ → Option (List ℕ)) (name : List ℕ) (step : ℕ) (programme : Programme) (cast : Cast) (config : Config) (delivery : List ℕ) → IsAdmitted file name step programme cast → Receives config programme
    → AreOf cast.packets delivery → IsNear cast programme.full_every delivery → Reaches config programme cast (files_on file programme) delivery
