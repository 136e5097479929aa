-- What a receiver hands out of a stream is what the theorem says.
use Rattle.std.proofs.Common.{◌≡◌, ℕ, Bool, true, false, cond, List, [], ◌∷◌, ◌++◌, map, Option, Some, None, refl, sym, ap, ◌∙◌}
use Rattle.std.specs.Prelude.{is_some}
use Rattle.mmt_model.specs.Carrying.{broadcast_of, packets_of}
use Rattle.mmt_model.specs.Delivery.{from_first, from_heard, newest_first, onto}
use Rattle.mmt_model.specs.Entries.{entries}
use Rattle.mmt_model.specs.Handing.{Presentation, Reading, final, named_units, out}
use Rattle.mmt_model.specs.Keeping.{kept}
use Rattle.mmt_model.specs.Packets.{Heard}
use Rattle.mmt_model.specs.Sorted.{sort_by}
use Rattle.mmt_model.specs.Survival.{heard_of}
use Rattle.mmt_model.specs.Units.{units_of}
use Rattle.mmt_model.specs.declared.programmes.Params.{Params}
use Rattle.mmt_delivery.specs.Laws.{Delivers, out_end, reading_of, start_heard}
use Rattle.mmt_naming.specs.Findings.{names_in}
use Rattle.mmt_tune.specs.Tuning.{HeardAt, heard_of as heard_in, history, rules_by, tuned}
use Rattle.mmt_tune.specs.declared.config.Config.{Config}
use Rattle.mmt_recv.specs.Receiving.{units_left, units_out, values_of, values_or}
use Rattle.mmt_recv.specs.Session.{reading_of as reading_by}
use Rattle.mmt_headline.specs.Tuning.{SessionIs, all_heard, session, tunes, tunes_by, values_first, values_with}
use Rattle.mmt_headline.specs.Joining.{DeliveriesAreReceived, ReadsAlike, UnitsAlike}
use Rattle.mmt_headline.proofs.Sessions.{sessions-alike, starts-alike}

-- what is handed out of a session and at its end, by values that may be there
abbrev handed_by : Config → List Heard → Option Params → List Presentation
handed_by config hs values = units_out config hs values ++ units_left config hs values

-- of no packets nothing is handed out
pub none-out : (g : Reading) (r : Params) (start : ℕ) → g.units [] ≡ [] → [] ≡ out g r start [] ++ final g r start []
unfolding out final entries kept named_units sort_by
none-out g r start none = rw none refl

pub none-units : units_of [] ≡ []
unfolding units_of
none-units = refl

-- the first packet of a session tunes
abbrev FirstPasses : (Heard → Bool) → List Heard → Type 0
FirstPasses test [] = Unit {0}
FirstPasses test (h ∷ hs) = test h ≡ true

first-passes : (test : Heard → Bool) (hs : List Heard) → FirstPasses test (from_first test hs)
unfolding from_first
first-passes test [] = tt
first-passes test (h ∷ hs) = go (test h) refl (first-passes test hs)
  where
    go : (b : Bool) → test h ≡ b → FirstPasses test (from_first test hs) → FirstPasses test (cond b (h ∷ hs) (from_first test hs))
    go true e later = e
    go false e later = later

is-none : (o : Option Params) → is_some o ≡ true → o ≡ None → ⊥
is-none (Some values) some none = cc
is-none None some none = cc

by-session : (config : Config) (hs : List Heard) → FirstPasses (tunes config) hs → (values : Option Params) → values ≡ values_first config hs
    → handed_by config (newest_first hs) values ≡ out_end (reading_by config) (rules_by config (values_or values)) hs
unfolding out_end start_heard newest_first onto
by-session config hs first (Some values) e = rw (starts-alike hs) refl
by-session config [] first None e = none-out (reading_by config) (rules_by config (values_or None)) 0 none-units
by-session config (h ∷ hs) first None e = absurd (is-none (values_with config.assumed config.bound h) first (sym e))

pub units-alike : UnitsAlike
unfolding session
units-alike config ps hs e =
    let s : SessionIs config hs = sessions-alike config hs in
    let packets : history config (heard_in config.flow ps) ≡ newest_first (session config hs) = ap (history config) e ∙ s.history in
    let values : values_of config ps ≡ values_first config (session config hs) = ap (tuned config) e ∙ s.values in
    ap (λ (ss : List Heard). handed_by config ss (values_of config ps)) packets
    ∙ by-session config (session config hs) (first-passes (tunes config) (all_heard hs)) (values_of config ps) values

pub reads-alike : ReadsAlike
reads-alike config cast contents base = rw base refl

-- ---- by the theorem

pub session-of : (config : Config) (hs : List HeardAt) (places : List Heard) → config.assumed ≡ None → all_heard hs ≡ places → session config hs ≡ from_first (tunes_by config.bound) places
unfolding session
session-of config hs places none e = rw (none, e) refl

pub deliveries-are-received : Delivers → DeliveriesAreReceived
deliveries-are-received theorem config cast contents full_every delivery ps hs base none admitted right receiver of hears near =
    let k : Params = rules_by config (values_or (values_of config ps)) in
    let names = names_in config.timescale in
    units-alike config ps hs hears.stream
    ∙ ap (λ (g : Reading). out_end g k (session config hs)) (reads-alike config cast contents base)
    ∙ ap (out_end (reading_of names (broadcast_of cast contents)) k) (session-of config hs (map (heard_of (packets_of cast contents)) (from_heard full_every delivery)) none hears.places)
    ∙ theorem names cast contents k admitted right receiver full_every (tunes_by config.bound) delivery of near
