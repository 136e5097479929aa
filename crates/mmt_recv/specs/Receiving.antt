-- What a receiver puts out for a stream, and what it stands for. Lists of packets have the newest first.
use Rattle.std.specs.Prelude.{◌≡◌, ℕ, ◌+◌, ◌≤◌, List, [], ◌∷◌, ◌++◌, map, length, count_by, Option, Some, None}
use Rattle.mmt_model.specs.declared.programmes.Params.{Params}
use Rattle.mmt_model.specs.Packets.{Heard}
use Rattle.mmt_model.specs.Counts.{counted}
use Rattle.mmt_model.specs.Keeping.{Outcome, is_full, is_late, is_repeated}
use Rattle.mmt_model.specs.Handing.{Presentation}
use Rattle.mmt_ip.specs.declared.packet.Ip6Header.{Ip6Header}
use Rattle.mmt_hear.specs.Views.{HasHeard}
use Rattle.mmt_pool.specs.Holding.{Holding, held}
use Rattle.mmt_times.specs.Known.{Known}
use Rattle.mmt_runs.specs.Reading.{heard}
use Rattle.mmt_io.specs.Output.{Output}
use Rattle.mmt_output.specs.declared.handed.Handed.{Handed}
use Rattle.mmt_output.specs.Records.{amount_of, records}
use Rattle.mmt_recv.specs.declared.summary.Summary.{Summary}
use Rattle.mmt_recv.specs.declared.summary.Tuned.{Tuned}
use Rattle.mmt_tune.specs.declared.config.Config.{Config}
use Rattle.mmt_hear.specs.Hearing.{Hearing, hearing}
use Rattle.mmt_tune.specs.Tuning.{HeardAt, Placed, heard_as, packets_of, heard_of, rules_by, tuned, history}
use Rattle.mmt_model.specs.Sessions.{clock_of, outcomes}
use Rattle.mmt_recv.specs.Session.{entries_by, final_of, handed_of, kept_by, out_of, peak_by}
use Rattle.mmt_recv.specs.Noting.{heard_notes, lines_of, noted, notes_of_packet}

-- the heard packets of a stream from the one that tunes on
abbrev pub session_of : Config → List Placed → List Heard
session_of config ps = history config (heard_of config.flow ps)

-- the values by which a stream tunes, where it does
abbrev pub values_of : Config → List Placed → Option Params
values_of config ps = tuned config (heard_of config.flow ps)

-- the units that are handed out in a stream that tunes (this project's rule)
abbrev pub units_out : Config → List Heard → Option Params → List Presentation
units_out config session None = []
units_out config session (Some values) = out_of config values session

-- the units that are handed out at the end of a session
abbrev pub units_left : Config → List Heard → Option Params → List Presentation
units_left config session None = []
units_left config session (Some values) = final_of config values session

-- the units that are handed out where a stream ends (this project's rule)
abbrev pub last_units : Config → List Placed → List Presentation
last_units config ps = units_left config (session_of config ps) (values_of config ps)

-- what is written and noted for a stream (this project's rule)
unfoldable pub received : Config → List Placed → Output
received config ps = record { written = records (units_out config (session_of config ps) (values_of config ps)); noted = noted config ps }

-- the units that are handed out in a stream and at its end
abbrev pub all_units : Config → List Placed → List Presentation
all_units config ps = units_out config (session_of config ps) (values_of config ps) ++ last_units config ps

-- how many packets were late, repeated and without room; each number stays at 2^64 - 1
pub record Losses : Type 0 where
  pub late : ℕ
  pub repeat : ℕ
  pub full : ℕ

-- the numbers of a session
abbrev pub losses_of : Config → Params → List Heard → Losses
losses_of config values session = record {
  late = counted (count_by is_late (outcomes (rules_by config values) session));
  repeat = counted (count_by is_repeated (outcomes (rules_by config values) session));
  full = counted (count_by is_full (outcomes (rules_by config values) session));
}

-- the values of tuning, and any where there are none yet
abbrev pub values_or : Option Params → Params
values_or None = record { bound = 0; window = 0; delay = 0 }
values_or (Some values) = values

-- what a receiver counts over a stream and its end: the units that are handed out and their bytes, the most payload bytes that were kept at once, and how many packets were late, repeated and without room (this project's rule)
abbrev pub summary_of : Config → List Placed → Summary
summary_of config ps = record {
  units = (amount_of (all_units config ps)).units;
  bytes = (amount_of (all_units config ps)).bytes;
  peak = peak_by config (values_or (values_of config ps)) (session_of config ps);
  late = (losses_of config (values_or (values_of config ps)) (session_of config ps)).late;
  repeat = (losses_of config (values_or (values_of config ps)) (session_of config ps)).repeat;
  full = (losses_of config (values_or (values_of config ps)) (session_of config ps)).full;
}

-- what is handed out at a packet, by the values of tuning with it (this project's rule)
abbrev pub handed_at : Config → List HeardAt → HeardAt → Option Params → List Presentation
handed_at config older h None = []
handed_at config older h (Some values) = handed_of config values (heard_as h.packet) (history config older)

-- what is written and noted at a heard packet after older ones (this project's rule)
abbrev pub heard_more : Config → List HeardAt → HeardAt → Output
heard_more config older h = record { written = records (handed_at config older h (tuned config (h ∷ older))); noted = lines_of (heard_notes config older h (tuned config (h ∷ older))) }

-- what is handed out at a packet at a place, by what it is heard as
abbrev pub handed_by : Config → List HeardAt → ℕ → Hearing → List Presentation
handed_by config older place (Hearing.Heard p from) = handed_at config older (record { place = place + from; packet = p }) (tuned config (record { place = place + from; packet = p } ∷ older))
handed_by config older place Hearing.NotOurs = []
handed_by config older place (Hearing.Refusal at why) = []

-- what is written and noted at a packet after older ones (this project's rule)
unfoldable pub more : Config → List Placed → Placed → Output
more config older p = record {
  written = records (handed_by config (heard_of config.flow older) p.place (hearing config.flow (packets_of older) p.packet));
  noted = lines_of (notes_of_packet config older p);
}

-- ---- what a receiver stands for

-- the losses with a packet more, by its outcome
abbrev pub with_outcome : Outcome → Losses → Losses
with_outcome Outcome.Unopened n = n
with_outcome Outcome.Late n = record { late = counted (n.late + 1); repeat = n.repeat; full = n.full }
with_outcome Outcome.Repeat n = record { late = n.late; repeat = counted (n.repeat + 1); full = n.full }
with_outcome Outcome.Full n = record { late = n.late; repeat = n.repeat; full = counted (n.full + 1) }
with_outcome Outcome.Stored n = n

-- an amount with another after it
abbrev pub handed_more : Handed → Handed → Handed
handed_more before later = record { units = counted (before.units + later.units); bytes = counted (before.bytes + later.bytes) }

-- a receiver: its configuration, the headers of its contexts, the values by which it is tuned with its clock, what it keeps, which entries live, how much it handed out, and its losses
pub record State : Type 0 where
  pub config : Config
  pub headers : List (Option Ip6Header)
  pub tuned : Option Tuned
  pub pool : Holding
  pub names : Known
  pub handed : Handed
  pub losses : Losses

-- what a receiver holds is what the definitions give for these heard packets and these values of tuning (this project's rule)
pub record Holds (s : State) (session : List Heard) (values : Params) : Type 0 where
  pub bound : s.pool.bound ≡ s.config.bound
  pub kept : map heard s.pool.kept ≡ kept_by s.config values session
  pub peak : s.pool.peak ≡ peak_by s.config values session
  pub base : s.names.sample_base ≡ s.config.sample_base
  pub entries : s.names.entries ≡ entries_by s.config values session
  pub handed : s.handed ≡ amount_of (out_of s.config values session)
  pub losses : s.losses ≡ losses_of s.config values session

-- the payload bytes that are kept are at most the configured bound, and at most 1,024 entries live (this project's rule, after the hypothetical receiver buffer model of ISO/IEC 23008-1)
pub record IsBounded (s : State) : Type 0 where
  pub bytes : held s.pool.kept ≤ s.config.bound
  pub live : length s.names.entries ≤ 1024

-- these are the values of tuning, or any where there are none yet
abbrev pub IsTunedBy : Params → Option Params → Type 0
IsTunedBy values None = Unit {0}
IsTunedBy values (Some tuning) = values ≡ tuning

-- how a receiver is tuned after these heard packets
abbrev pub tuned_as : List Heard → Option Params → Option Tuned
tuned_as session None = None
tuned_as session (Some values) = Some (record { params = values; clock = record { 0 = clock_of session } })

-- a receiver holds what the definitions give for these heard packets (this project's rule)
pub record IsOver (s : State) (hs : List HeardAt) : Type 0 where
  pub tuning : s.tuned ≡ tuned_as (history s.config hs) (tuned s.config hs)
  pub holds : (values : Params) → IsTunedBy values (tuned s.config hs) → Holds s (history s.config hs) values

-- a receiver stands for a stream (this project's rule)
pub record Stands (s : State) (ps : List Placed) : Type 0 where
  pub heard : HasHeard (packets_of ps) s.headers
  pub over : IsOver s (heard_of s.config.flow ps)
