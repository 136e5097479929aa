-- What the definitions of a receiver give for the heard packets from the one that tunes on. Lists of packets have the newest first.
use Rattle.std.specs.Prelude.{ℕ, List, ◌∷◌}
use Rattle.mmt_model.specs.declared.programmes.Params.{Params}
use Rattle.mmt_model.specs.Packets.{Heard}
use Rattle.mmt_model.specs.Keeping.{Outcome, kept, peak}
use Rattle.mmt_model.specs.Entries.{Entry, entries, forget}
use Rattle.mmt_model.specs.Units.{names_of, units_of}
use Rattle.mmt_model.specs.Handing.{Presentation, Reading, final, handed, out}
use Rattle.mmt_tune.specs.declared.config.Config.{Config}
use Rattle.mmt_tune.specs.Tuning.{rules_by}
use Rattle.mmt_model.specs.Sessions.{before_of, clock_of, outcome_at, rest_at, start_of}
use Rattle.mmt_naming.specs.Findings.{names_in}

-- how names and units are found: in the messages of packet id 0, and in the runs of kept packets
abbrev pub reading_of : Config → Reading
reading_of config = record { names_by = names_of (names_in config.timescale); units = units_of; sample_base = config.sample_base }

-- what is kept
abbrev pub kept_by : Config → Params → List Heard → List Heard
kept_by config values history = kept (rules_by config values) (start_of history) history

-- the most payload bytes that were kept at once
abbrev pub peak_by : Config → Params → List Heard → ℕ
peak_by config values history = peak (rules_by config values) (start_of history) history

-- which entries live
abbrev pub entries_by : Config → Params → List Heard → List Entry
entries_by config values history = entries (reading_of config).names_by (rules_by config values) (start_of history) history

-- what is still kept at a packet after older ones, before it is stored itself
abbrev pub rest_of : Config → Params → Heard → List Heard → List Heard
rest_of config values h older = rest_at (rules_by config values) h older

-- what becomes of a packet after older ones
abbrev pub outcome_of : Config → Params → Heard → List Heard → Outcome
outcome_of config values h older = outcome_at (rules_by config values) h older

-- which entries live at a packet after older ones, before it names any
abbrev pub live_of : Config → Params → Heard → List Heard → List Entry
live_of config values h older = forget (before_of h older) (clock_of (h ∷ older)) (entries_by config values older)

-- what is handed out at a packet after older ones
abbrev pub handed_of : Config → Params → Heard → List Heard → List Presentation
handed_of config values h older = handed (reading_of config) (rules_by config values) (start_of (h ∷ older)) h older

-- what was handed out
abbrev pub out_of : Config → Params → List Heard → List Presentation
out_of config values history = out (reading_of config) (rules_by config values) (start_of history) history

-- what is handed out where the stream ends
abbrev pub final_of : Config → Params → List Heard → List Presentation
final_of config values history = final (reading_of config) (rules_by config values) (start_of history) history
