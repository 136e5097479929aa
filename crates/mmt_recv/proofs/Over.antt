-- A heard packet more, tuned or not.
use Rattle.std.proofs.Common.{◌≡◌, ℕ, List, [], ◌∷◌, Option, Some, None, refl, sym, ap, subst, ◌∙◌}
use Rattle.std.specs.Prelude.{Result, Ok, Err, OnOk, ⊤}
use Rattle.mmt_model.specs.declared.programmes.Params.{Params}
use Rattle.mmt_model.specs.Packets.{Heard}
use Rattle.mmt_tune.specs.declared.config.Config.{Config}
use Rattle.mmt_tune.specs.Tuning.{HeardAt, heard_as, history, tuned, values_by}
use Rattle.mmt_model.specs.Sessions.{before_of, clock_of}
use Rattle.mmt_model.proofs.Sessions.{before_first}
use Rattle.mmt_tune.proofs.Steps.{no_session, session_grows, tuned_before, tuned_now}
use Rattle.mmt_runs.specs.Reading.{heard}
use Rattle.mmt_io.specs.Output.{Output, only_noted}
use Rattle.mmt_output.specs.Records.{records}
use Rattle.mmt_recv.specs.declared.summary.Ended.{Ended}
use Rattle.mmt_recv.specs.declared.summary.Tuned.{Tuned}
use Rattle.mmt_recv.specs.Noting.{heard_notes, lines_of, tuned_notes, untuned_notes}
use Rattle.mmt_recv.specs.Session.{handed_of}
use Rattle.mmt_recv.specs.Receiving.{Holds, IsOver, IsTunedBy, State, handed_at, heard_more, tuned_as}

-- by which values a receiver is tuned
values_are : (session : List Heard) (o : Option Params) (t : Tuned) → Some t ≡ tuned_as session o → o ≡ Some t.params
values_are session None t e = absurd cc
values_are session (Some values) t e = ap Some (sym (ap (params_or t) e))
  where
    params_or : Tuned → Option Tuned → Params
    params_or t None = t.params
    params_or t (Some u) = u.params

clock_is : (session : List Heard) (o : Option Params) (t : Tuned) → Some t ≡ tuned_as session o → t.clock.0 ≡ clock_of session
clock_is session None t e = absurd cc
clock_is session (Some values) t e = ap (clock_or t) e
  where
    clock_or : Tuned → Option Tuned → ℕ
    clock_or t None = t.clock.0
    clock_or t (Some u) = u.clock.0

not_tuned : (session : List Heard) (o : Option Params) → None ≡ tuned_as session o → o ≡ None
not_tuned session None e = refl
not_tuned session (Some values) e = absurd cc

pub over_values : (s : State) (hs : List HeardAt) (t : Tuned) → IsOver s hs → s.tuned ≡ Some t → tuned s.config hs ≡ Some t.params
over_values s hs t o is = values_are (history s.config hs) (tuned s.config hs) t (sym is ∙ o.tuning)

pub over_none : (s : State) (hs : List HeardAt) → IsOver s hs → s.tuned ≡ None → tuned s.config hs ≡ None
over_none s hs o is = not_tuned (history s.config hs) (tuned s.config hs) (sym is ∙ o.tuning)

-- the clock before a packet after a session that has begun
before_is : (config : Config) (hs : List HeardAt) (values : Params) (h : Heard) → tuned config hs ≡ Some values → clock_of (history config hs) ≡ before_of h (history config hs)
unfolding tuned
before_is config [] values h is = absurd cc
before_is config (g ∷ older) values h is = rw (session_grows config g older values is) refl

pub over_clock : (s : State) (hs : List HeardAt) (t : Tuned) (h : Heard) → IsOver s hs → s.tuned ≡ Some t → t.clock.0 ≡ before_of h (history s.config hs)
over_clock s hs t h o is =
    clock_is (history s.config hs) (tuned s.config hs) t (sym is ∙ o.tuning) ∙ before_is s.config hs t.params h (over_values s hs t o is)

pub over_clock_of : (s : State) (hs : List HeardAt) (t : Tuned) → IsOver s hs → s.tuned ≡ Some t → t.clock.0 ≡ clock_of (history s.config hs)
over_clock_of s hs t o is = clock_is (history s.config hs) (tuned s.config hs) t (sym is ∙ o.tuning)

pub over_holds : (s : State) (hs : List HeardAt) (t : Tuned) → IsOver s hs → s.tuned ≡ Some t → Holds s (history s.config hs) t.params
over_holds s hs t o is = o.holds t.params (rw (over_values s hs t o is) refl)

pub fresh_holds : (s : State) (hs : List HeardAt) (values : Params) → IsOver s hs → s.tuned ≡ None → Holds s (history s.config hs) values
fresh_holds s hs values o is = o.holds values (rw (over_none s hs o is) tt)

time_of_heard : (h : HeardAt) → h.packet.time ≡ (heard_as h.packet).time
unfolding heard
time_of_heard h = refl

pub fresh_clock : (s : State) (hs : List HeardAt) (h : HeardAt) → IsOver s hs → s.tuned ≡ None → h.packet.time ≡ before_of (heard_as h.packet) (history s.config hs)
fresh_clock s hs h o is = rw (no_session s.config hs (over_none s hs o is)) (time_of_heard h ∙ sym (before_first (heard_as h.packet)))

-- ---- a receiver that is tuned then

pub values_more : (s : State) (hs : List HeardAt) (t : Tuned) (h : HeardAt) → IsOver s hs → s.tuned ≡ Some t → tuned s.config (h ∷ hs) ≡ Some t.params
values_more s hs t h o is = tuned_before s.config h hs t.params (over_values s hs t o is)

pub values_first : (s : State) (hs : List HeardAt) (answer : Option Params) (h : HeardAt) → IsOver s hs → s.tuned ≡ None → answer ≡ values_by s.config.assumed s.config.bound h.packet → tuned s.config (h ∷ hs) ≡ answer
values_first s hs answer h o is values = tuned_now s.config h hs answer (over_none s hs o is) (sym values)

by_these : (values these : Params) (o : Option Params) → o ≡ Some these → IsTunedBy values o → values ≡ these
by_these values these o is by = rw is at by

pub over_next : (config : Config) (next : State) (hs : List HeardAt) (h : HeardAt) (values : Params) → next.config ≡ config → tuned config (h ∷ hs) ≡ Some values
    → next.tuned ≡ Some (record { params = values; clock = record { 0 = clock_of (heard_as h.packet ∷ history config hs) } }) → Holds next (heard_as h.packet ∷ history config hs) values
    → IsOver next (h ∷ hs)
over_next config next hs h values same is tunes holds =
    let grows : history next.config (h ∷ hs) ≡ heard_as h.packet ∷ history config hs = ap (λ k. history k (h ∷ hs)) same ∙ session_grows config h hs values is in
    let with' : tuned next.config (h ∷ hs) ≡ Some values = ap (λ k. tuned k (h ∷ hs)) same ∙ is in
    record {
      tuning = tunes ∙ sym (λ i. tuned_as (grows i) (with' i));
      holds = λ others by. subst (λ x. Holds next x others) (sym grows) (subst (λ v. Holds next (heard_as h.packet ∷ history config hs) v) (sym (by_these others values (tuned next.config (h ∷ hs)) with' by)) holds);
    }

-- ---- a receiver that is not tuned then

pub over_still : (s : State) (hs : List HeardAt) (h : HeardAt) → IsOver s hs → s.tuned ≡ None → tuned s.config (h ∷ hs) ≡ None → IsOver s (h ∷ hs)
over_still s hs h o is none =
    let same : history s.config (h ∷ hs) ≡ history s.config hs = no_session s.config (h ∷ hs) none ∙ sym (no_session s.config hs (over_none s hs o is)) in
    record {
      tuning = is ∙ ap (λ x. tuned_as (history s.config (h ∷ hs)) x) (sym none);
      holds = λ values by. subst (λ x. Holds s x values) (sym same) (fresh_holds s hs values o is);
    }

-- ---- answers

pub over_ok : (result : Result ⊤ Ended) (next : State) (config : Config) (hs : List HeardAt) (h : HeardAt) (values : Params) → tuned config (h ∷ hs) ≡ Some values → next.config ≡ config
    → OnOk result (next.tuned ≡ Some (record { params = values; clock = record { 0 = clock_of (heard_as h.packet ∷ history config hs) } })) → OnOk result (Holds next (heard_as h.packet ∷ history config hs) values)
    → OnOk result (IsOver next (h ∷ hs))
over_ok (Ok done) next config hs h values is same tunes holds = over_next config next hs h values same is tunes holds
over_ok (Err e) next config hs h values is same tunes holds = tunes

pub more_tuned : (config : Config) (hs : List HeardAt) (h : HeardAt) (values : Params) → tuned config (h ∷ hs) ≡ Some values
    → ◌≡◌ {A = Output} (record { written = records (handed_of config values (heard_as h.packet) (history config hs)); noted = lines_of (tuned_notes config values (history config hs) h) }) (heard_more config hs h)
more_tuned config hs h values is = λ i. record { written = records (handed_at config hs h (sym is i)); noted = lines_of (heard_notes config hs h (sym is i)) }

pub more_untuned : (config : Config) (hs : List HeardAt) (h : HeardAt) → tuned config (h ∷ hs) ≡ None → only_noted (lines_of (untuned_notes config.bound h)) ≡ heard_more config hs h
more_untuned config hs h is = λ i. record { written = records (handed_at config hs h (sym is i)); noted = lines_of (heard_notes config hs h (sym is i)) }
