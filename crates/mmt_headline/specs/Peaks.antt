-- What a receiver keeps of a delivery of a cast of a programme.
use Rattle.std.specs.Prelude.{◌≡◌, ◌⊎◌, ℕ, ◌≤◌, List, [], map, Some}
use Rattle.mmt_base.specs.Ticks.{low}
use Rattle.mmt_model.specs.Carrying.{packets_of}
use Rattle.mmt_model.specs.Delivery.{newest_first, start_of}
use Rattle.mmt_model.specs.Sessions.{start_of as start_of_session}
use Rattle.mmt_model.specs.Survival.{AreOf, heard_of}
use Rattle.mmt_model.specs.declared.casts.Cast.{Cast}
use Rattle.mmt_model.specs.declared.programmes.Programme.{Programme}
use Rattle.mmt_tune.specs.Tuning.{Placed, packets_of as tlv_of}
use Rattle.mmt_tune.specs.declared.config.Config.{Config}
use Rattle.mmt_recv.specs.Receiving.{session_of, summary_of, values_of}
use Rattle.mmt_headline.specs.Programmes.{IsSendable, Receives}
use Rattle.mmt_sent.specs.Stream.{contents_sent, stream_of}
use Rattle.mmt_model.specs.Received.{IsNear, tuned_places}

-- a receiver keeps to the packets of the delivery from the tuning one on, as the cast has them; its values are the programme's where there are any; and its clock begins with the tuning packet
pub record KeepsTo (config : Config) (programme : Programme) (cast : Cast) (files : ℕ → List ℕ) (delivery : List ℕ) (ps : List Placed) : Type 0 where
  pub packets : session_of config ps ≡ map (heard_of (packets_of cast (contents_sent programme files))) (newest_first (tuned_places cast programme.full_every delivery))
  pub values : (session_of config ps ≡ []) ⊎ (values_of config ps ≡ Some programme.params)
  pub start : start_of_session (session_of config ps) ≡ low (start_of cast.packets (tuned_places cast programme.full_every delivery))

abbrev pub ReceiversKeepTo : Type 0
ReceiversKeepTo =
    (config : Config) (programme : Programme) (cast : Cast) (files : ℕ → List ℕ) (delivery : List ℕ) (ps : List Placed) → IsSendable programme cast files → Receives config programme
    → AreOf cast.packets delivery → tlv_of ps ≡ newest_first (stream_of programme cast files delivery) → KeepsTo config programme cast files delivery ps

-- of a near delivery a receiver keeps at most the programme's bound at once, and no packet is without room
pub record HasRoom (config : Config) (programme : Programme) (ps : List Placed) : Type 0 where
  pub peak : (summary_of config ps).peak ≤ programme.params.bound
  pub full : (summary_of config ps).full ≡ 0

abbrev pub ReceiversHaveRoom : Type 0
ReceiversHaveRoom =
    (config : Config) (programme : Programme) (cast : Cast) (files : ℕ → List ℕ) (delivery : List ℕ) (ps : List Placed) → IsSendable programme cast files → Receives config programme
    → AreOf cast.packets delivery → IsNear cast programme.full_every delivery
    → tlv_of ps ≡ newest_first (stream_of programme cast files delivery) → HasRoom config programme ps
