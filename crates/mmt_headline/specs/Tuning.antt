-- Which heard packet tunes a receiver, by what its payload spells; and the packets from it on, in the order of the stream.
use Rattle.std.specs.Prelude.{◌≡◌, ℕ, Bool, ◌==◌, List, [], ◌∷◌, map, Option, Some, None, is_some, if◌then◌else◌}
use Rattle.mmt_model.specs.Delivery.{from_first, newest_first}
use Rattle.mmt_model.specs.Packets.{Heard, Payload}
use Rattle.mmt_model.specs.Sessions.{start_of}
use Rattle.mmt_model.specs.declared.programmes.Params.{Params}
use Rattle.mmt_packet.specs.Spelling.{Value as Mmtp}
use Rattle.mmt_tune.specs.Tuning.{HeardAt, first_fitting, heard_as, history, is_whole, tuned, values_by}
use Rattle.mmt_tune.specs.declared.config.Config.{Config}
use Rattle.mmt_delivery.specs.Laws.{start_heard}

-- the values of the first buffer message that fits the bound, of a payload with whole messages (this project's rule)
abbrev pub values_spelled : ℕ → Payload → Option Params
values_spelled bound (Payload.Signalling part messages) = if is_whole part then first_fitting bound messages else None
values_spelled bound (Payload.Media part timed mpu data_units) = None
values_spelled bound Payload.Other = None

-- the values with which a heard packet tunes: the assumed window and delay with the receiver's bound, where there are some; else, on packet id 0, those that its payload spells (this project's rule)
abbrev pub values_with : Option (ℕ × ℕ) → ℕ → Heard → Option Params
values_with (Some (window, delay)) bound h = Some (record { bound = bound; window = window; delay = delay })
values_with None bound h = if h.packet_id == 0 then values_spelled bound h.payload else None

-- a heard packet tunes a receiver with a bound and no assumed values (this project's rule)
abbrev pub tunes_by : ℕ → Heard → Bool
tunes_by bound h = is_some (values_with None bound h)

-- a heard packet tunes a receiver
abbrev pub tunes : Config → Heard → Bool
tunes config h = is_some (values_with config.assumed config.bound h)

-- heard packets in the order of the stream, as the definitions of a receiver see them
abbrev pub all_heard : List HeardAt → List Heard
all_heard hs = map (λ h. heard_as h.packet) hs

-- those from the first that tunes on, in the order of the stream
unfoldable pub session : Config → List HeardAt → List Heard
session config hs = from_first (tunes config) (all_heard hs)

-- the values with which the first packet of a session tunes
abbrev pub values_first : Config → List Heard → Option Params
values_first config [] = None
values_first config (h ∷ hs) = values_with config.assumed config.bound h

-- the clock of a session begins at the timestamp of its first packet
abbrev pub StartsAlike : Type 0
StartsAlike = (hs : List Heard) → start_of (newest_first hs) ≡ start_heard hs

-- by what is read of it or by what its payload spells, a packet tunes with the same values
abbrev pub TunesAlike : Type 0
TunesAlike = (assumed : Option (ℕ × ℕ)) (bound : ℕ) (p : Mmtp) → values_with assumed bound (heard_as p) ≡ values_by assumed bound p

-- what a receiver keeps to of the heard packets are those from the first that tunes on, and its values are that packet's
pub record SessionIs (config : Config) (hs : List HeardAt) : Type 0 where
  pub history : history config (newest_first hs) ≡ newest_first (session config hs)
  pub values : tuned config (newest_first hs) ≡ values_first config (session config hs)

abbrev pub SessionsAlike : Type 0
SessionsAlike = (config : Config) (hs : List HeardAt) → SessionIs config hs
