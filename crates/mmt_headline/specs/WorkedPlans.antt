-- The premises can be met: the worked plans can be sent, and there are receivers and deliveries of them.
use Rattle.std.specs.Prelude.{◌≡◌, ℕ, ◌≤◌, List, ◌∷◌, length, None}
use Rattle.mmt_cast.specs.Casting.{cast_of}
use Rattle.mmt_model.specs.Carrying.{IsCastOf}
use Rattle.mmt_model.specs.Received.{IsNear, tuned_places}
use Rattle.mmt_model.specs.Survival.{AreOf}
use Rattle.mmt_model.specs.declared.programmes.Programme.{Programme}
use Rattle.mmt_naming.specs.Findings.{names_in}
use Rattle.mmt_sent.specs.Stream.{contents_sent}
use Rattle.mmt_tune.specs.declared.config.Config.{Config}
use Rattle.mmt_headline.specs.Programmes.{IsSendable, Receives}
use Rattle.mmt_model.specs.declared.programmes.FlowChoice.TheVariants as choice

-- a receiver with the usual options: any flow, the default bound, no assumed values, sample base 1
abbrev pub usual_config : ℕ → Config
usual_config timescale = record { bound = 67108864; flow = choice.Any; sample_base = 1; timescale = timescale; assumed = None }

-- the file of a worked plan has the bytes of its units
abbrev pub HasUnits : (ℕ → List ℕ) → Type 0
HasUnits files = 3500 ≤ length (files 0)

-- a worked plan meets the premises
pub record MeetsPremises (programme : Programme) : Type 0 where
  -- it can be sent
  pub sendable : (files : ℕ → List ℕ) → HasUnits files → IsSendable programme (cast_of programme) files
  -- its cast goes with its units and messages, whatever the timescale of the receiver that reads its tables
  pub carries : (files : ℕ → List ℕ) (timescale : ℕ) → HasUnits files
      → IsCastOf (cast_of programme) (contents_sent programme files) (names_in timescale)
  -- a receiver with the usual options is one of it
  pub receives : (timescale : ℕ) → Receives (usual_config timescale) programme
  -- its first packet tunes a receiver
  pub tuned : (later : List ℕ) → tuned_places (cast_of programme) programme.full_every (0 ∷ later) ≡ 0 ∷ later
  -- every delivery of it is near
  pub near : (delivery : List ℕ) → AreOf (cast_of programme).packets delivery → IsNear (cast_of programme) programme.full_every delivery
