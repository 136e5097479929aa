-- A receiver's session, turned, are the heard packets from the first that tunes on.
use Rattle.std.proofs.Common.{◌≡◌, List, [], ◌∷◌, Option, Some, None, refl, sym, ap, ◌∙◌}
use Rattle.std.specs.Prelude.{is_some}
use Rattle.mmt_model.specs.Delivery.{from_first, newest_first, onto}
use Rattle.mmt_model.specs.Packets.{Heard}
use Rattle.mmt_model.specs.Sessions.{start_of}
use Rattle.mmt_model.specs.declared.programmes.Params.{Params}
use Rattle.mmt_tune.specs.Tuning.{HeardAt, heard_as, history, tuned}
use Rattle.mmt_tune.specs.declared.config.Config.{Config}
use Rattle.mmt_delivery.specs.Laws.{start_heard}
use Rattle.mmt_headline.specs.Tuning.{SessionsAlike, StartsAlike, all_heard, session, tunes, values_first, values_with}
use Rattle.mmt_headline.proofs.Lists.{first-fails, first-passes}
use Rattle.mmt_headline.proofs.Tunes.{tunes-alike}

-- ---- where the clock begins

start-onto : (hs : List Heard) (h : Heard) (older : List Heard) → start_of (onto hs (h ∷ older)) ≡ start_of (h ∷ older)
unfolding onto
start-onto [] h older = refl
start-onto (g ∷ hs) h older = start-onto hs g (h ∷ older)

pub starts-alike : StartsAlike
unfolding newest_first onto start_heard
starts-alike [] = refl
starts-alike (h ∷ hs) = start-onto hs h []

-- ---- the session

-- what is known of packets of which one tuned, with packets more
record Goes (config : Config) (by : Params) (hs older : List HeardAt) : Type 0 where
  history : history config (onto hs older) ≡ onto (all_heard hs) (history config older)
  values : tuned config (onto hs older) ≡ Some by

one-tuned : (config : Config) (values : Params) (h : HeardAt) (older : List HeardAt) → tuned config older ≡ Some values → tuned config (h ∷ older) ≡ Some values
unfolding tuned
one-tuned config values h older e = rw e refl

one-more : (config : Config) (values : Params) (h : HeardAt) (older : List HeardAt) → tuned config (h ∷ older) ≡ Some values → history config (h ∷ older) ≡ heard_as h.packet ∷ history config older
unfolding history
one-more config values h older e = rw e refl

goes-on : (config : Config) (values : Params) (hs older : List HeardAt) → tuned config older ≡ Some values → Goes config values hs older
unfolding onto
goes-on config values [] older e = record { history = refl; values = e }
goes-on config values (h ∷ hs) older e =
    let here : tuned config (h ∷ older) ≡ Some values = one-tuned config values h older e in
    let later : Goes config values hs (h ∷ older) = goes-on config values hs (h ∷ older) here in
    record { history = later.history ∙ ap (onto (all_heard hs)) (one-more config values h older here); values = later.values }

-- what is known of packets of which none tuned, with packets more
record Begins (config : Config) (hs older : List HeardAt) : Type 0 where
  history : history config (onto hs older) ≡ newest_first (session config hs)
  values : tuned config (onto hs older) ≡ values_first config (session config hs)

first-tuned : (config : Config) (h : HeardAt) (older : List HeardAt) → tuned config older ≡ None → tuned config (h ∷ older) ≡ values_with config.assumed config.bound (heard_as h.packet)
unfolding tuned
first-tuned config h older e = rw e (sym (tunes-alike config.assumed config.bound h.packet))

none-more : (config : Config) (h : HeardAt) (older : List HeardAt) → tuned config (h ∷ older) ≡ None → history config (h ∷ older) ≡ []
unfolding history
none-more config h older e = rw e refl

session-passes : (config : Config) (values : Params) (h : HeardAt) (hs : List HeardAt) → values_with config.assumed config.bound (heard_as h.packet) ≡ Some values → session config (h ∷ hs) ≡ heard_as h.packet ∷ all_heard hs
unfolding session
session-passes config values h hs e = first-passes (tunes config) (heard_as h.packet) (all_heard hs) (ap is_some e)

session-fails : (config : Config) (h : HeardAt) (hs : List HeardAt) → values_with config.assumed config.bound (heard_as h.packet) ≡ None → session config (h ∷ hs) ≡ session config hs
unfolding session
session-fails config h hs e = first-fails (tunes config) (heard_as h.packet) (all_heard hs) (ap is_some e)

step : (config : Config) (h : HeardAt) (hs older : List HeardAt) → tuned config older ≡ None → history config older ≡ []
    → (tuned config (h ∷ older) ≡ None → history config (h ∷ older) ≡ [] → Begins config hs (h ∷ older))
    → (o : Option Params) → values_with config.assumed config.bound (heard_as h.packet) ≡ o → Begins config (h ∷ hs) older
unfolding onto newest_first
step config h hs older e n later (Some values) is =
    let here : tuned config (h ∷ older) ≡ Some values = first-tuned config h older e ∙ is in
    let goes : Goes config values hs (h ∷ older) = goes-on config values hs (h ∷ older) here in
    let begun : history config (h ∷ older) ≡ heard_as h.packet ∷ [] = one-more config values h older here ∙ ap (λ (xs : List Heard). heard_as h.packet ∷ xs) n in
    record {
      history = goes.history ∙ ap (onto (all_heard hs)) begun ∙ ap (λ (xs : List Heard). onto xs []) (sym (session-passes config values h hs is));
      values = goes.values ∙ sym (ap (values_first config) (session-passes config values h hs is) ∙ is);
    }
step config h hs older e n later None is =
    let here : tuned config (h ∷ older) ≡ None = first-tuned config h older e ∙ is in
    let begins : Begins config hs (h ∷ older) = later here (none-more config h older here) in
    record {
      history = begins.history ∙ ap newest_first (sym (session-fails config h hs is));
      values = begins.values ∙ ap (values_first config) (sym (session-fails config h hs is));
    }

begins : (config : Config) (hs older : List HeardAt) → tuned config older ≡ None → history config older ≡ [] → Begins config hs older
unfolding onto newest_first session from_first
begins config [] older e n = record { history = n; values = e }
begins config (h ∷ hs) older e n = step config h hs older e n (begins config hs (h ∷ older)) (values_with config.assumed config.bound (heard_as h.packet)) refl

none-tuned : (config : Config) → tuned config [] ≡ None
unfolding tuned
none-tuned config = refl

none-kept : (config : Config) → history config [] ≡ []
unfolding history
none-kept config = refl

pub sessions-alike : SessionsAlike
unfolding newest_first
sessions-alike config hs = let b = begins config hs [] (none-tuned config) (none-kept config) in record { history = b.history; values = b.values }
