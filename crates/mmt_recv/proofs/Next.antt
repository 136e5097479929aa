-- A heard packet more: what a receiver holds then, in the words of the definitions.
use Rattle.std.proofs.Common.{◌≡◌, Option, subst, append-nil, ℕ, max, List, ◌∷◌, length, map, filter, refl, ap, sym, ◌∙◌}
use Rattle.std.specs.Prelude.{count_by}
use Rattle.mmt_base.specs.Ticks.{advance}
use Rattle.mmt_io.specs.History.{Event}
use Rattle.mmt_ip.specs.declared.packet.Ip6Header.{Ip6Header}
use Rattle.mmt_model.specs.declared.programmes.Params.{Params}
use Rattle.mmt_model.specs.Packets.{Heard}
use Rattle.mmt_model.specs.Counts.{counted}
use Rattle.mmt_model.specs.Keeping.{Outcome, bytes_of, is_full, is_late, is_repeated, still_kept}
use Rattle.mmt_model.specs.Entries.{forget, learn, names_if_stored}
use Rattle.mmt_model.specs.Handing.{due_units}
use Rattle.mmt_model.specs.Units.{names_of, units_of}
use Rattle.mmt_pool.specs.Holding.{Holding, Kept, held, is_in_window}
use Rattle.mmt_pool.proofs.Model.{rest-shown}
use Rattle.mmt_times.specs.Known.{Known}
use Rattle.mmt_runs.specs.Reading.{heard}
use Rattle.mmt_tune.specs.declared.config.Config.{Config}
use Rattle.mmt_tune.specs.Tuning.{HeardAt, heard_as, rules_by}
use Rattle.mmt_model.specs.Sessions.{before_of, clock_of, outcomes}
use Rattle.mmt_model.proofs.Outcomes.{no_more, one_more}
use Rattle.mmt_model.proofs.Sessions.{clock_next, entries_next, handed_is, kept_next, out_next, peak_next}
use Rattle.mmt_naming.specs.Findings.{findings_by, names_in, notes_of}
use Rattle.mmt_output.specs.declared.handed.Handed.{Handed}
use Rattle.mmt_output.specs.Records.{amount_of, records}
use Rattle.mmt_io.specs.Output.{only_noted, only_written, Puts, PutsPrefix}
use Rattle.mmt_output.proofs.Putting.{puts_and_start, puts_both, start_of_part}
use Rattle.mmt_output.proofs.Amounts.{amounts_joined}
use Rattle.mmt_recv.specs.Noting.{at_place, kind_notes, lines_of, outcome_notes, payload_place, tuned_notes}
use Rattle.mmt_recv.specs.Session.{entries_by, handed_of, kept_by, live_of, out_of, outcome_of, peak_by, reading_of, rest_of}
use Rattle.mmt_recv.specs.declared.summary.Tuned.{Tuned}
use Rattle.mmt_recv.specs.Receiving.{Holds, Losses, State, handed_more, losses_of, with_outcome}
use Rattle.mmt_recv.specs.Taking.{Takes, kept_then, notes_taken, outcome_by}
use Rattle.mmt_recv.proofs.Answered.{shows}
use Rattle.mmt_recv.proofs.Taken.{held_is}

-- what is still kept at a packet
pub rest_now : (config : Config) (values : Params) (session : List Heard) (h : Heard) (kept mid : List Kept) (now : ℕ) → map heard kept ≡ kept_by config values session
    → mid ≡ filter (is_in_window now values.window) kept → now ≡ clock_of (h ∷ session) → map heard mid ≡ rest_of config values h session
rest_now config values session h kept mid now k m c =
    ap (map heard) m ∙ (sym (rest-shown heard shows (rules_by config values) now kept) ∙ (λ i. still_kept (rules_by config values) (c i) (k i)))

-- what a packet is taken by, once the clock went on, is what the definitions say
pub record Now (config : Config) (values : Params) (session : List Heard) (h : HeardAt) (mid : Holding) (live : Known) (now : ℕ) : Type 0 where
  pub bound : mid.bound ≡ config.bound
  pub clock : now ≡ clock_of (heard_as h.packet ∷ session)
  pub rest : map heard mid.kept ≡ rest_of config values (heard_as h.packet) session
  pub live_is : live.entries ≡ live_of config values (heard_as h.packet) session

module _ (config : Config) (values : Params) (session : List Heard) (h : HeardAt) (mid : Holding) (live : Known) (now : ℕ) (n : Now config values session h mid live now) where
  pub outcome_now : outcome_by (record { timescale = config.timescale; values = values; bound = mid.bound; clock = now }) (map heard mid.kept) h ≡ outcome_of config values (heard_as h.packet) session
  outcome_now = λ i. outcome_by (record { timescale = config.timescale; values = values; bound = n.bound i; clock = n.clock i }) (n.rest i) h

  pub kept_now : kept_then (record { timescale = config.timescale; values = values; bound = mid.bound; clock = now }) (map heard mid.kept) h ≡ kept_by config values (heard_as h.packet ∷ session)
  kept_now = (λ i. kept_then (record { timescale = config.timescale; values = values; bound = n.bound i; clock = n.clock i }) (n.rest i) h) ∙ sym (kept_next (rules_by config values) (heard_as h.packet) session)

  pub entries_now : learn now live.entries (names_if_stored (outcome_by (record { timescale = config.timescale; values = values; bound = mid.bound; clock = now }) (map heard mid.kept) h) (names_of (names_in config.timescale) (kept_then (record { timescale = config.timescale; values = values; bound = mid.bound; clock = now }) (map heard mid.kept) h) (heard_as h.packet)))
      ≡ entries_by config values (heard_as h.packet ∷ session)
  entries_now =
      (λ i. learn (n.clock i) (n.live_is i) (names_if_stored (outcome_now i) (names_of (names_in config.timescale) (kept_now i) (heard_as h.packet))))
      ∙ sym (entries_next (reading_of config).names_by (rules_by config values) (heard_as h.packet) session)

  pub notes_now : lines_of (notes_taken (record { timescale = config.timescale; values = values; bound = mid.bound; clock = now }) (map heard mid.kept) live.entries h) ≡ lines_of (tuned_notes config values session h)
  notes_now = λ i.
      lines_of (kind_notes h h.packet.kind (outcome_notes (n.clock i) (bytes_of (n.rest i)) (length h.packet.payload) h
      (at_place (payload_place h) (notes_of (n.clock i) (n.live_is i) (findings_by config.timescale values (kept_now i) (heard_as h.packet) (heard_as h.packet).payload))) (outcome_now i)))

  pub peak_now : (kept : List Kept) (before most : ℕ) → map heard kept ≡ kept_by config values (heard_as h.packet ∷ session) → before ≡ peak_by config values session → most ≡ max before (held kept) → most ≡ peak_by config values (heard_as h.packet ∷ session)
  peak_now kept before most k b m =
      m ∙ ((λ i. max (b i) ((sym (held_is kept) ∙ ap bytes_of k) i)) ∙ sym (peak_next (rules_by config values) (heard_as h.packet) session))

-- what is handed out at a packet
pub handed_now : (config : Config) (values : Params) (session : List Heard) (h : Heard) (kept : List Kept) (known : Known) (before now : ℕ) → map heard kept ≡ kept_by config values session
    → known.entries ≡ entries_by config values session → known.sample_base ≡ config.sample_base → before ≡ before_of h session → now ≡ clock_of (h ∷ session)
    → due_units known.sample_base known.entries (units_of (map heard kept)) before now ≡ handed_of config values h session
handed_now config values session h kept known before now k e b f c =
    (λ i. due_units (b i) (e i) (units_of (k i)) (f i) (c i)) ∙ sym (handed_is (reading_of config) (rules_by config values) h session)

-- how much was handed out with it
pub amount_now : (config : Config) (values : Params) (session : List Heard) (h : Heard) (old later : Handed) → old ≡ amount_of (out_of config values session) → later ≡ amount_of (handed_of config values h session)
    → handed_more old later ≡ amount_of (out_of config values (h ∷ session))
amount_now config values session h old later o l =
    amounts_joined old later _ _ (out_of config values session) (handed_of config values h session) refl refl o l ∙ ap amount_of (sym (out_next (reading_of config) (rules_by config values) h session))

-- ---- losses

abbrev losses_by : List Outcome → Losses
losses_by fs = record { late = counted (count_by is_late fs); repeat = counted (count_by is_repeated fs); full = counted (count_by is_full fs) }

same_losses : (a b c a' b' c' : ℕ) → a ≡ a' → b ≡ b' → c ≡ c' → ◌≡◌ {A = Losses} (record { late = a; repeat = b; full = c }) (record { late = a'; repeat = b'; full = c' })
same_losses a b c a' b' c' e f g = λ i. record { late = e i; repeat = f i; full = g i }

losses_more : (f : Outcome) (fs : List Outcome) → with_outcome f (losses_by fs) ≡ losses_by (f ∷ fs)
losses_more Outcome.Unopened fs = same_losses _ _ _ _ _ _ (no_more is_late Outcome.Unopened fs refl) (no_more is_repeated Outcome.Unopened fs refl) (no_more is_full Outcome.Unopened fs refl)
losses_more Outcome.Late fs = same_losses _ _ _ _ _ _ (one_more is_late Outcome.Late fs refl) (no_more is_repeated Outcome.Late fs refl) (no_more is_full Outcome.Late fs refl)
losses_more Outcome.Repeat fs = same_losses _ _ _ _ _ _ (no_more is_late Outcome.Repeat fs refl) (one_more is_repeated Outcome.Repeat fs refl) (no_more is_full Outcome.Repeat fs refl)
losses_more Outcome.Full fs = same_losses _ _ _ _ _ _ (no_more is_late Outcome.Full fs refl) (no_more is_repeated Outcome.Full fs refl) (one_more is_full Outcome.Full fs refl)
losses_more Outcome.Stored fs = same_losses _ _ _ _ _ _ (no_more is_late Outcome.Stored fs refl) (no_more is_repeated Outcome.Stored fs refl) (no_more is_full Outcome.Stored fs refl)

pub losses_now : (config : Config) (values : Params) (session : List Heard) (h : Heard) (old : Losses) (f : Outcome) → old ≡ losses_of config values session → f ≡ outcome_of config values h session
    → with_outcome f old ≡ losses_of config values (h ∷ session)
losses_now config values session h old f o is = (λ i. with_outcome (is i) (o i)) ∙ losses_more (outcome_of config values h session) (outcomes (rules_by config values) session)

-- ---- a heard packet more, whole

time_is : (h : HeardAt) → (heard_as h.packet).time ≡ h.packet.time
unfolding heard
time_is h = refl

pub clock_now : (session : List Heard) (h : HeardAt) (before now : ℕ) → before ≡ before_of (heard_as h.packet) session → now ≡ advance before h.packet.time → now ≡ clock_of (heard_as h.packet ∷ session)
clock_now session h before now b n = n ∙ ((λ i. advance (b i) (sym (time_is h) i)) ∙ sym (clock_next (heard_as h.packet) session))

pub is_now : (s : State) (values : Params) (session : List Heard) (h : HeardAt) (mid : Holding) (live : Known) (before now : ℕ) → Holds s session values → before ≡ before_of (heard_as h.packet) session → now ≡ advance before h.packet.time
    → live ≡ record { entries = forget before now s.names.entries; sample_base = s.names.sample_base } → mid.kept ≡ filter (is_in_window now values.window) s.pool.kept → mid.bound ≡ s.pool.bound → Now s.config values session h mid live now
is_now s values session h mid live before now o b n l k m =
    let c : now ≡ clock_of (heard_as h.packet ∷ session) = clock_now session h before now b n in
    record {
      bound = m ∙ o.bound;
      clock = c;
      rest = rest_now s.config values session (heard_as h.packet) s.pool.kept mid.kept now o.kept k c;
      live_is = ap (λ x. x.entries) l ∙ (λ i. forget (b i) (c i) (o.entries i));
    }

pub holds_next : (s : State) (headers : List (Option Ip6Header)) (tuned : Option Tuned) (pool : Holding) (names : Known) (later handed : Handed) (losses : Losses)
    (values : Params) (session : List Heard) (h : HeardAt) (mid : Holding) (live : Known) (before now : ℕ) (f : Outcome)
    → Holds s session values → (n : Now s.config values session h mid live now) → before ≡ before_of (heard_as h.packet) session
    → live.sample_base ≡ s.names.sample_base → mid.peak ≡ s.pool.peak
    → Takes (record { timescale = s.config.timescale; values = values; bound = mid.bound; clock = now }) mid live h pool names
    → f ≡ outcome_by (record { timescale = s.config.timescale; values = values; bound = mid.bound; clock = now }) (map heard mid.kept) h
    → later ≡ amount_of (due_units s.names.sample_base s.names.entries (units_of (map heard s.pool.kept)) before now)
    → handed ≡ handed_more s.handed later → losses ≡ with_outcome f s.losses
    → Holds (record { config = s.config; headers = headers; tuned = tuned; pool = pool; names = names; handed = handed; losses = losses }) (heard_as h.packet ∷ session) values
holds_next s headers tuned pool names later handed losses values session h mid live before now f o n b base peak t is amount more' less =
    let kept' : map heard pool.kept ≡ kept_by s.config values (heard_as h.packet ∷ session) = t.kept ∙ kept_now s.config values session h mid live now n in
    record {
      bound = t.bound ∙ n.bound;
      kept = kept';
      peak = peak_now s.config values session h mid live now n pool.kept mid.peak pool.peak kept' (peak ∙ o.peak) t.peak;
      base = t.base ∙ (base ∙ o.base);
      entries = t.entries ∙ entries_now s.config values session h mid live now n;
      handed = more' ∙ amount_now s.config values session (heard_as h.packet) s.handed later o.handed
          (amount ∙ ap amount_of (handed_now s.config values session (heard_as h.packet) s.pool.kept s.names before now o.kept o.entries o.base b n.clock));
      losses = less ∙ losses_now s.config values session (heard_as h.packet) s.losses f o.losses (is ∙ outcome_now s.config values session h mid live now n);
    }

-- ---- what goes out for it

pub handed_lines : (s : State) (values : Params) (session : List Heard) (h : HeardAt) (before now : ℕ) → Holds s session values → before ≡ before_of (heard_as h.packet) session → now ≡ advance before h.packet.time
    → records (due_units s.names.sample_base s.names.entries (units_of (map heard s.pool.kept)) before now) ≡ records (handed_of s.config values (heard_as h.packet) session)
handed_lines s values session h before now o b n =
    ap records (handed_now s.config values session (heard_as h.packet) s.pool.kept s.names before now o.kept o.entries o.base b (clock_now session h before now b n))

pub puts_next : (old mid new : List Event) (written noted written' noted' : List ℕ) → written ≡ written' → noted ≡ noted' → Puts old mid (only_written written) → Puts mid new (only_noted noted) → Puts old new (record { written = written'; noted = noted' })
puts_next old mid new written noted written' noted' w n p q =
    subst (λ o. Puts old new o) (λ i. record { written = (append-nil written ∙ w) i; noted = n i }) (puts_both old mid new (only_written written) (only_noted noted) p q)

pub starts_next : (old mid new : List Event) (written noted written' noted' : List ℕ) → written ≡ written' → noted ≡ noted' → Puts old mid (only_written written) → PutsPrefix mid new (only_noted noted) → PutsPrefix old new (record { written = written'; noted = noted' })
starts_next old mid new written noted written' noted' w n p q =
    subst (λ o. PutsPrefix old new o) (λ i. record { written = (append-nil written ∙ w) i; noted = n i }) (puts_and_start old mid new (only_written written) (only_noted noted) p q)

pub starts_first : (old mid : List Event) (written written' noted' : List ℕ) → written ≡ written' → PutsPrefix old mid (only_written written) → PutsPrefix old mid (record { written = written'; noted = noted' })
starts_first old mid written written' noted' w p =
    subst (λ o. PutsPrefix old mid o) (λ i. record { written = (append-nil written ∙ w) i; noted = noted' }) (start_of_part old mid (only_written written) (only_noted noted') p)
