-- A receiver at the start of a stream, and at its end.
use Rattle.std.proofs.Common.{◌≡◌, ℕ, ◌-◌, ◌<◌, ◌^◌, List, [], map, filter, Option, Some, None, refl, sym, ap, ◌∙◌}
use Rattle.mmt_base.specs.Ticks.{due_of, is_after, low, plus}
use Rattle.mmt_ip.specs.declared.packet.Ip6Header.{Ip6Header}
use Rattle.mmt_model.specs.declared.programmes.Params.{Params}
use Rattle.mmt_model.specs.Packets.{Heard}
use Rattle.mmt_model.specs.Keeping.{kept, peak}
use Rattle.mmt_model.specs.Entries.{entries}
use Rattle.mmt_model.specs.Handing.{due_units, final, is_presented_before, named_units, out}
use Rattle.mmt_model.specs.Sorted.{sort_by}
use Rattle.mmt_model.specs.Units.{units_of}
use Rattle.mmt_hear.specs.Views.{HasHeard}
use Rattle.mmt_pool.specs.Holding.{Holding}
use Rattle.mmt_times.specs.Known.{Known}
use Rattle.mmt_runs.specs.Reading.{heard}
use Rattle.mmt_runs.proofs.Handed.{final_due}
use Rattle.mmt_tune.specs.declared.config.Config.{Config}
use Rattle.mmt_tune.specs.Tuning.{Placed, heard_of, history, tuned}
use Rattle.mmt_model.specs.Sessions.{clock_of}
use Rattle.mmt_tune.proofs.Steps.{no_session}
use Rattle.mmt_output.specs.declared.handed.Handed.{Handed}
use Rattle.mmt_output.specs.Records.{amount_of}
use Rattle.mmt_output.proofs.Amounts.{amounts_joined}
use Rattle.mmt_recv.specs.declared.summary.Summary.{Summary}
use Rattle.mmt_recv.specs.declared.summary.Tuned.{Tuned}
use Rattle.mmt_recv.specs.Session.{entries_by, final_of, kept_by, out_of}
use Rattle.mmt_recv.specs.Receiving.{Holds, IsTunedBy, Losses, Stands, State, all_units, handed_more, losses_of, session_of, summary_of, units_left, units_out, values_of, values_or}
use Rattle.mmt_recv.proofs.Over.{over_holds, over_none, over_values, over_clock_of}

holds_none : (config : Config) (headers : List (Option Ip6Header)) (values : Params)
    → Holds (record { config = config; headers = headers; tuned = None; pool = record { kept = []; bound = config.bound; peak = 0 }; names = record { entries = []; sample_base = config.sample_base }; handed = record { units = 0; bytes = 0 }; losses = record { late = 0; repeat = 0; full = 0 } }) [] values
unfolding kept peak entries out amount_of
holds_none config headers values = record { bound = refl; kept = refl; peak = refl; base = refl; entries = refl; handed = refl; losses = refl }

pub new_stands : (config : Config) (headers : List (Option Ip6Header)) (pool : Holding) (names : Known) → HasHeard [] headers → pool ≡ record { kept = []; bound = config.bound; peak = 0 } → names ≡ record { entries = []; sample_base = config.sample_base }
    → Stands (record { config = config; headers = headers; tuned = None; pool = pool; names = names; handed = record { units = 0; bytes = 0 }; losses = record { late = 0; repeat = 0; full = 0 } }) []
unfolding heard_of tuned history
new_stands config headers pool names none p n =
    rw p (rw n (record { heard = none; over = record { tuning = refl; holds = λ values by. holds_none config headers values } }))

-- ---- the end

pub left_none : (s : State) (ps : List Placed) → Stands s ps → s.tuned ≡ None → [] ≡ units_left s.config (session_of s.config ps) (values_of s.config ps)
left_none s ps o is = ap (units_left s.config (session_of s.config ps)) (sym (over_none s (heard_of s.config.flow ps) o.over is))

final_is : (config : Config) (values : Params) (session : List Heard) (base clock : ℕ) (known : Known) (held' : List Heard) → clock < 2 ^ 32 → base ≡ config.sample_base → known.entries ≡ entries_by config values session → held' ≡ kept_by config values session → clock ≡ clock_of session
    → due_units base known.entries (units_of held') clock (plus clock (2 ^ 31 - 1)) ≡ final_of config values session
unfolding final
final_is config values session base clock known held' small b e k c =
    final_due base known.entries (units_of held') clock small
    ∙ (λ i. sort_by is_presented_before (filter (λ d. is_after (low (due_of d.time)) (c i)) (named_units (b i) (e i) (units_of (k i)))))

pub left_some : (s : State) (ps : List Placed) (t : Tuned) → Stands s ps → s.tuned ≡ Some t → t.clock.0 < 2 ^ 32
    → due_units s.names.sample_base s.names.entries (units_of (map heard s.pool.kept)) t.clock.0 (plus t.clock.0 (2 ^ 31 - 1)) ≡ units_left s.config (session_of s.config ps) (values_of s.config ps)
left_some s ps t o is small =
    let h = over_holds s (heard_of s.config.flow ps) t o.over is in
    final_is s.config t.params (session_of s.config ps) s.names.sample_base t.clock.0 s.names (map heard s.pool.kept) small h.base h.entries h.kept (over_clock_of s (heard_of s.config.flow ps) t o.over is)
    ∙ ap (units_left s.config (session_of s.config ps)) (sym (over_values s (heard_of s.config.flow ps) t o.over is))

-- the units that are due up to the furthest tick
pub due_to : (s : State) (from to : ℕ) → to ≡ plus from (2 ^ 31 - 1)
    → due_units s.names.sample_base s.names.entries (units_of (map heard s.pool.kept)) from to ≡ due_units s.names.sample_base s.names.entries (units_of (map heard s.pool.kept)) from (plus from (2 ^ 31 - 1))
due_to s from to is = ap (due_units s.names.sample_base s.names.entries (units_of (map heard s.pool.kept)) from) is

by_or : (o : Option Params) → IsTunedBy (values_or o) o
by_or None = tt
by_or (Some values) = refl

out_is : (config : Config) (session : List Heard) (o : Option Params) → (o ≡ None → session ≡ []) → out_of config (values_or o) session ≡ units_out config session o
unfolding out
out_is config session None none = rw (none refl) refl
out_is config session (Some values) none = refl

-- how much was handed out so far
pub handed_so_far : (s : State) (ps : List Placed) → Stands s ps → s.handed ≡ amount_of (units_out s.config (session_of s.config ps) (values_of s.config ps))
handed_so_far s ps o =
    let h = o.over.holds (values_or (values_of s.config ps)) (by_or (values_of s.config ps)) in
    h.handed ∙ ap amount_of (out_is s.config (session_of s.config ps) (values_of s.config ps) (λ none. no_session s.config (heard_of s.config.flow ps) none))

pub summary_is : (s : State) (ps : List Placed) (counts : Summary) (later : Handed) (most : ℕ) → Stands s ps → later ≡ amount_of (units_left s.config (session_of s.config ps) (values_of s.config ps))
    → ◌≡◌ {A = Handed} (record { units = counts.units; bytes = counts.bytes }) (handed_more s.handed later)
    → ◌≡◌ {A = Losses} (record { late = counts.late; repeat = counts.repeat; full = counts.full }) s.losses → most ≡ s.pool.peak
    → s.handed ≡ amount_of (units_out s.config (session_of s.config ps) (values_of s.config ps))
    → ◌≡◌ {A = Summary} (record { units = counts.units; bytes = counts.bytes; peak = most; late = counts.late; repeat = counts.repeat; full = counts.full }) (summary_of s.config ps)
summary_is s ps counts later most o l more' less m out' =
    let h = o.over.holds (values_or (values_of s.config ps)) (by_or (values_of s.config ps)) in
    let all : ◌≡◌ {A = Handed} (record { units = counts.units; bytes = counts.bytes }) (amount_of (all_units s.config ps)) =
    more' ∙ amounts_joined s.handed later _ _ (units_out s.config (session_of s.config ps) (values_of s.config ps)) (units_left s.config (session_of s.config ps) (values_of s.config ps)) refl refl out' l in
    let lost : ◌≡◌ {A = Losses} (record { late = counts.late; repeat = counts.repeat; full = counts.full }) (losses_of s.config (values_or (values_of s.config ps)) (session_of s.config ps)) = less ∙ h.losses in
    λ i. record { units = (all i).units; bytes = (all i).bytes; peak = (m ∙ h.peak) i; late = (lost i).late; repeat = (lost i).repeat; full = (lost i).full }
