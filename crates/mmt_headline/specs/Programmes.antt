-- What a receiver hands out of a delivery of a cast of a programme: of its own, or of one whose packets are sent at other ticks.
use Rattle.std.specs.Prelude.{◌≡◌, ℕ, ◌+◌, ◌<◌, ◌≤◌, true, List, [], All, length, Some, None, get_or, if◌then◌else◌}
use Rattle.mmt_cast.specs.Placing.{all_units}
use Rattle.mmt_cast.specs.Refusing.{refusal}
use Rattle.mmt_model.specs.Admission.{fault, has_parameters}
use Rattle.mmt_model.specs.Carrying.{packets_of}
use Rattle.mmt_model.specs.Delivery.{newest_first}
use Rattle.mmt_model.specs.Received.{IsNear, expected_in}
use Rattle.mmt_model.specs.Right.{IsRight}
use Rattle.mmt_model.specs.Survival.{AreOf, heard_of, no_packet}
use Rattle.mmt_model.specs.declared.casts.Cast.{Cast}
use Rattle.mmt_model.specs.declared.programmes.Programme.{Programme}
use Rattle.mmt_pace.specs.Recast.{IsItsCast}
use Rattle.mmt_tlv.specs.Framing.{Framed, joined}
use Rattle.mmt_hear.specs.Hearing.{is_ours}
use Rattle.mmt_tune.specs.Tuning.{Placed, packets_of as tlv_of}
use Rattle.mmt_tune.specs.declared.config.Config.{Config}
use Rattle.mmt_recv.specs.Receiving.{all_units as units_by}
use Rattle.mmt_sent.specs.Stream.{addressing_of, contents_sent, stream_of}
use Rattle.mmt_headline.specs.Heard.{IsSentAt}
use Rattle.mmt_headline.specs.Tuning.{values_with}

-- each unit of a programme lies within its asset's file
abbrev pub HoldUnits : (ℕ → List ℕ) → Programme → Type 0
HoldUnits files programme = All (λ x. x.value.from + x.value.length ≤ length (files x.in_mpu.in_asset.file)) (all_units programme)

-- a right programme that has a cast, with files that hold its units, and its cast, or the same packets at other ticks, which is admitted
pub record IsSendable (programme : Programme) (cast : Cast) (files : ℕ → List ℕ) : Type 0 where
  pub right : IsRight programme
  pub none : refusal programme ≡ None
  pub of : IsItsCast programme cast
  pub admitted : fault cast ≡ None
  pub held : HoldUnits files programme

-- a receiver of a programme: it hears the programme's flow, has at least its bound and no assumed values, and its sample base is 1
pub record Receives (config : Config) (programme : Programme) : Type 0 where
  pub flow : is_ours config.flow (addressing_of programme).header ≡ true
  pub bound : programme.params.bound ≤ config.bound
  pub assumed : config.assumed ≡ None
  pub base : config.sample_base ≡ 1

-- each packet of a cast of it is sent as the cast says
abbrev pub CastsAreSent : Type 0
CastsAreSent = (programme : Programme) (cast : Cast) (files : ℕ → List ℕ) → IsSendable programme cast files → (n : ℕ) → n < length cast.packets → IsSentAt cast (contents_sent programme files) n

-- exactly the packets with a buffer message tune a receiver of at least the programme's bound, with the programme's values
abbrev pub CastsTune : Type 0
CastsTune =
    (programme : Programme) (cast : Cast) (files : ℕ → List ℕ) (bound : ℕ) → IsSendable programme cast files → programme.params.bound ≤ bound → (n : ℕ) → n < length cast.packets
    → values_with None bound (heard_of (packets_of cast (contents_sent programme files)) n)
    ≡ (if has_parameters (get_or cast.packets n no_packet).carries then Some programme.params else None)

-- the bytes of a delivery are framed as its packets
abbrev pub StreamsAreFramed : Type 0
StreamsAreFramed = (programme : Programme) (cast : Cast) (files : ℕ → List ℕ) (delivery : List ℕ) → IsSendable programme cast files → AreOf cast.packets delivery → Framed (joined (stream_of programme cast files delivery)) (stream_of programme cast files delivery) []

-- of a near delivery a receiver of the programme hands out exactly the expected units, each once, in their order
abbrev pub ProgrammesAreReceived : Type 0
ProgrammesAreReceived =
    (config : Config) (programme : Programme) (cast : Cast) (files : ℕ → List ℕ) (delivery : List ℕ) (ps : List Placed) → IsSendable programme cast files → Receives config programme
    → AreOf cast.packets delivery → IsNear cast programme.full_every delivery → tlv_of ps ≡ newest_first (stream_of programme cast files delivery)
    → units_by config ps ≡ expected_in cast (contents_sent programme files) programme.full_every delivery
