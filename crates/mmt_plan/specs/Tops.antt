-- A plan as a whole (this project's rules).
use Rattle.std.specs.Prelude.{ℕ, ◌-◌, ◌^◌, false, List, [], ◌∷◌, codes, Result, Ok}
use Rattle.serde_json.specs.Data.{Data}
use Rattle.mmt_model.specs.declared.programmes.Asset.{Asset}
use Rattle.mmt_model.specs.declared.programmes.Params.{Params}
use Rattle.mmt_model.specs.declared.programmes.Programme.{Programme}
use Rattle.mmt_plan.specs.Assets.{asset_at}
use Rattle.mmt_plan.specs.Flows.{flow_at}
use Rattle.mmt_plan.specs.Members.{is_object_at, number_at, text_at, array_at, list_from_at, no_other_at}
use Rattle.mmt_plan.specs.Reading.{◌>>=◌, each_with}
use Rattle.mmt_plan.specs.Signals.{signal_at}
use Rattle.mmt_plan.specs.declared.ends.PlanPart.TheVariants as parts
use Rattle.mmt_plan.specs.declared.ends.Refusal.{Refusal}
use Rattle.mmt_plan.specs.declared.spots.Spot.{Spot}
use Rattle.mmt_plan.specs.declared.tops.SendingValues.{SendingValues}

-- the spot of the plan itself
abbrev pub top_spot : Spot
top_spot = record { place = record { part = parts.Top; a = 0; b = 0; c = 0; field = 0 }; start = 0; timed = false }

-- the members of a plan
abbrev pub top_keys : List (List ℕ)
top_keys = codes "flow" ∷ codes "source" ∷ codes "context" ∷ codes "full_every" ∷ codes "limit" ∷ codes "spacing" ∷ codes "package" ∷ codes "bound" ∷ codes "window" ∷ codes "delay" ∷ codes "start" ∷ codes "signalling" ∷ codes "assets" ∷ []

-- how packets are sent
unfoldable pub sending_at : Spot → Data → Result SendingValues Refusal
sending_at s d = do
  flow ← flow_at s 1 (codes "flow") d
  source ← flow_at s 2 (codes "source") d
  context ← number_at 0 4095 s 3 (codes "context") d
  full_every ← number_at 0 65535 s 4 (codes "full_every") d
  limit ← number_at 64 60000 s 5 (codes "limit") d
  spacing ← number_at 0 65535 s 6 (codes "spacing") d
  Ok (record { flow = flow; source = source; context = context; full_every = full_every; limit = limit; spacing = spacing })

-- the values of the buffer message
unfoldable pub params_at : Spot → Data → Result Params Refusal
params_at s d = do
  bound ← number_at 0 (2 ^ 32 - 1) s 8 (codes "bound") d
  window ← number_at 0 (2 ^ 32 - 1) s 9 (codes "window") d
  delay ← number_at 0 (2 ^ 32 - 1) s 10 (codes "delay") d
  Ok (record { bound = bound; window = window; delay = delay })

-- the assets, and the names of their files
unfoldable pub assets_at : Spot → Data → Result (List Asset × List (List ℕ)) Refusal
assets_at s d = do
  items ← array_at 1 255 s 13 (codes "assets") d
  each_with (asset_at s) [] 0 items

-- the programme that a value is at a spot
unfoldable pub programme_at : Spot → Data → Result Programme Refusal
programme_at s d = do
  _ ← is_object_at s d
  sending ← sending_at s d
  package_id ← text_at 1 255 s 7 (codes "package") d
  params ← params_at s d
  start ← number_at 0 (2 ^ 47) s 11 (codes "start") d
  signals ← list_from_at signal_at 0 (record s { start = start }) 12 (codes "signalling") d
  assets ← assets_at (record s { start = start }) d
  _ ← no_other_at s top_keys d
  Ok (record {
    flow = sending.flow;
    source = sending.source;
    context = sending.context;
    full_every = sending.full_every;
    limit = sending.limit;
    spacing = sending.spacing;
    «package» = package_id;
    params = params;
    signals = signals;
    assets = assets.0;
    files = assets.1;
  })

-- the programme that a value is, as far as each object tells by itself
abbrev pub programme_of : Data → Result Programme Refusal
programme_of d = programme_at top_spot d
