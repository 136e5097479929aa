-- What is noted by the outcome of a packet, before tuning, and of units and buffer messages.
use Rattle.std.proofs.Common.{◌≡◌, ◌⊎◌, inl, inr, ℕ, ◌+◌, ◌^◌, ◌<◌, Bool, true, false, ◌==◌, cond, List, [], ◌∷◌, ◌++◌, Result, Ok, Err, count_by, arith, eq-eqb, refl, sym, ap, ◌∙◌}
use Rattle.std.specs.Prelude.{is_ok}
use Rattle.std.proofs.lemmas.Bool.{and_parts}
use Rattle.std.proofs.lemmas.List.Sums.{sum_by-cons}
use Rattle.mmt_base.specs.declared.refused.Refused.{Refused}
use Rattle.mmt_model.specs.Carrying.{payload_carried, copy_place, role, table_copy}
use Rattle.mmt_model.specs.Counts.{counted}
use Rattle.mmt_model.specs.Keeping.{Outcome, is_full}
use Rattle.mmt_model.specs.Packets.{Heard}
use Rattle.mmt_model.specs.Sessions.{outcome_at, outcomes, clock_of}
use Rattle.mmt_model.specs.declared.casts.Carries.{Carries}
use Rattle.mmt_model.specs.declared.programmes.Params.{Params}
use Rattle.mmt_model.specs.declared.casts.Cast.{Cast}
use Rattle.mmt_model.specs.declared.programmes.Programme.{Programme}
use Rattle.mmt_mpu.specs.Reading.{payload_of as mpu_of}
use Rattle.mmt_output.specs.declared.notes.Note.{Note}
use Rattle.mmt_packet.specs.declared.packet.Kind.{Kind}
use Rattle.mmt_recv.specs.Noting.{PlacedNote, kind_notes, outcome_notes, said_by, unless_refused, at_place, payload_place, untuned_message, untuned_messages, untuned_signals}
use Rattle.mmt_runs.specs.Reading.{is_opened}
use Rattle.mmt_sig.specs.PayloadReading.{payload_of as signals_of}
use Rattle.mmt_tune.specs.Tuning.{HeardAt, heard_as, is_signalling, is_whole}
use Rattle.mmt_tune.specs.declared.config.Config.{Config}
use Rattle.mmt_model.specs.Admission.{has_parameters}
use Rattle.mmt_model.specs.Entries.{Entry}
use Rattle.mmt_model.specs.declared.keys.Part.{Part}
use Rattle.mmt_naming.specs.Findings.{Finding, findings_by, findings_from, notes_of}
use Rattle.mmt_recv.specs.Session.{kept_by, live_of}
use Rattle.mmt_sig.specs.declared.message.MessageWhy.{MessageWhy}
use Rattle.mmt_sig.specs.Message.{MessageValue}
use Rattle.mmt_sig.specs.MessageReading.{message_of}
use Rattle.mmt_sent.specs.Payloads.{Message, Written, as_signals, bytes_of, kind_of, left, written}
use Rattle.mmt_headline.proofs.Payloads.{signals-read}
use Rattle.mmt_headline.proofs.Peaks.{one-if}
use Rattle.mmt_headline.proofs.Told.{Says, has_table}
use Rattle.mmt_headline.proofs.CastTuning.{no-part, table_value}
use Rattle.mmt_headline.specs.Notes.{AreQuiet}
use Rattle.mmt_sent.specs.Stream.{contents_sent}
use Rattle.mmt_model.specs.declared.casts.Carries.TheVariants as carries
use Rattle.mmt_output.specs.declared.notes.Note.TheVariants as notes
use Rattle.mmt_packet.specs.declared.packet.Kind.TheVariants as kinds
use Rattle.mmt_model.specs.declared.keys.Part.TheVariants as part

-- ---- by the outcome

pub quiet-outcome : (now held len : ℕ) (h : HeardAt) (said : List PlacedNote) (o : Outcome) → is_full o ≡ false → AreQuiet (outcome_notes now held len h said o) ⊎ ((outcome_notes now held len h said o ≡ said) × (o ≡ Outcome.Stored))
quiet-outcome now held len h said Outcome.Unopened e = inl tt
quiet-outcome now held len h said Outcome.Late e = inl (tt, tt)
quiet-outcome now held len h said Outcome.Repeat e = inl (tt, tt)
quiet-outcome now held len h said Outcome.Full e = absurd cc
quiet-outcome now held len h said Outcome.Stored e = inr (refl, refl)

-- ---- a payload that is opened is not refused

pub accepted : {A W : Type 0} (place : ℕ) (told : W → Note) (r : Result A (Refused W)) (rest : List PlacedNote) → is_ok r ≡ true → unless_refused place told r rest ≡ rest
accepted place told (Ok v) rest e = refl
accepted place told (Err d) rest e = absurd cc

pub opened-notes : (h : HeardAt) (kind : Kind) (rest : List PlacedNote) → is_opened h.packet.packet_id kind h.packet.payload ≡ true → kind_notes h kind rest ≡ rest
opened-notes h kinds.Mpu rest e = accepted (payload_place h) notes.Mpu (mpu_of h.packet.payload) rest e
opened-notes h kinds.Generic rest e = absurd cc
opened-notes h kinds.Signalling rest e =
    let both = and_parts (h.packet.packet_id == 0) (is_ok (signals_of h.packet.payload)) e in
    let elsewhere : List PlacedNote = record { place = h.place; note = notes.Elsewhere } ∷ [] in
    ap (λ (b : Bool). cond b (unless_refused (payload_place h) notes.Signalling (signals_of h.packet.payload) rest) elsewhere) both.0 ∙ accepted (payload_place h) notes.Signalling (signals_of h.packet.payload) rest both.1

-- ---- before tuning

abbrev pub untuned_by : ℕ → ℕ → Written → ℕ → List PlacedNote
untuned_by bound place w packet_id = cond (is_signalling (kind_of w) packet_id) (untuned_signals bound place (signals_of (bytes_of w))) []

-- a whole message that is a table, and a part
pub whole-untuned : (bound place : ℕ) (m table : List ℕ) → message_of m ≡ Ok (table_value table) → untuned_signals bound place (Ok (as_signals part.Whole 0 m)) ≡ []
unfolding untuned_messages
whole-untuned bound place m table e = ap (λ (r : Result MessageValue (Refused MessageWhy)). at_place place (untuned_message bound 0 r ++ [])) e

pub part-untuned : (bound place counter : ℕ) (p : Part) (m : List ℕ) → is_whole p ≡ false → untuned_signals bound place (Ok (as_signals p counter m)) ≡ []
part-untuned bound place counter p m e = ap (λ (b : Bool). cond b (at_place place (untuned_messages bound 0 (m ∷ []))) []) e

pub untuned-message : (bound place counter packet_id : ℕ) (p : Part) (m : List ℕ) → counter < 2 ^ 8 → packet_id ≡ 0 → untuned_signals bound place (Ok (as_signals p counter m)) ≡ [] → untuned_by bound place (Message p counter m) packet_id ≡ []
untuned-message bound place counter packet_id p m lt id e =
    ap (λ (b : Bool). cond b (untuned_signals bound place (signals_of (bytes_of (Message p counter m)))) []) (eq-eqb packet_id 0 id) ∙ ap (untuned_signals bound place) (signals-read p counter m lt) ∙ e

small-left : (k count : ℕ) → left k count < 2 ^ 8
small-left k count = omega arith

pub untuned : (programme : Programme) (cast : Cast) (files : ℕ → List ℕ) (bound place : ℕ) (c : Carries) (packet_id : ℕ) → Says programme files c packet_id → has_parameters c ≡ false → untuned_by bound place (written cast (contents_sent programme files) c) packet_id ≡ []
unfolding written
untuned programme cast files bound place (carries.Whole u) packet_id says e = refl
untuned programme cast files bound place (carries.Fragment u k) packet_id says e = refl
untuned programme cast files bound place (carries.Group f c) packet_id says e = refl
untuned programme cast files bound place (carries.Parameters s) packet_id says e = absurd cc
untuned programme cast files bound place (carries.Table s) packet_id says e = untuned-message bound place 0 packet_id part.Whole _ (omega arith) says.0 (whole-untuned bound place _ says.1 says.2)
untuned programme cast files bound place (carries.TablePart s k) packet_id says e =
    let count : ℕ = (table_copy cast (copy_place cast.copies s)).count in
    untuned-message bound place (left k count) packet_id (role k count) _ (small-left k count) says (part-untuned bound place (left k count) (role k count) _ (no-part k count))

-- ---- what units and buffer messages say

pub silent : (programme : Programme) (cast : Cast) (files : ℕ → List ℕ) (timescale : ℕ) (c : Carries) (packet_id : ℕ) (held : List Heard) (h : Heard) → Says programme files c packet_id → has_table c ≡ false
    → findings_by timescale programme.params held h (payload_carried cast (contents_sent programme files) c) ≡ []
unfolding payload_carried findings_from
silent programme cast files timescale (carries.Whole u) packet_id held h says e = refl
silent programme cast files timescale (carries.Fragment u k) packet_id held h says e = refl
silent programme cast files timescale (carries.Group f c) packet_id held h says e = refl
silent programme cast files timescale (carries.Table s) packet_id held h says e = absurd cc
silent programme cast files timescale (carries.TablePart s k) packet_id held h says e = absurd cc
silent programme cast files timescale (carries.Parameters s) packet_id held h says e =
    ap (λ (fs : List Finding). fs ++ []) (says.1 timescale)

pub none-said : (now : ℕ) (live : List Entry) → notes_of now live [] ≡ []
unfolding notes_of
none-said now live = refl

pub said-nothing : (config : Config) (programme : Programme) (cast : Cast) (files : ℕ → List ℕ) (older : List Heard) (h : HeardAt) (c : Carries) (packet_id : ℕ) → Says programme files c packet_id → has_table c ≡ false
    → (heard_as h.packet).payload ≡ payload_carried cast (contents_sent programme files) c → said_by config programme.params older h ≡ []
said-nothing config programme cast files older h c packet_id says e same =
    let held : List Heard = kept_by config programme.params (heard_as h.packet ∷ older) in
    let found : findings_by config.timescale programme.params held (heard_as h.packet) (heard_as h.packet).payload ≡ [] =
    ap (findings_by config.timescale programme.params held (heard_as h.packet)) same ∙ silent programme cast files config.timescale c packet_id held (heard_as h.packet) says e in
    ap (λ (fs : List Finding). at_place (payload_place h) (notes_of (clock_of (heard_as h.packet ∷ older)) (live_of config programme.params (heard_as h.packet) older) fs)) found
    ∙ ap (at_place (payload_place h)) (none-said (clock_of (heard_as h.packet ∷ older)) (live_of config programme.params (heard_as h.packet) older))

-- ---- a packet that is tuned or tunes has room

zero-first : (b : Bool) (m : ℕ) → one-if b + m ≡ 0 → b ≡ false
unfolding one-if
zero-first true m e = absurd (omega arith)
zero-first false m e = refl

none-first : {X : Type 0} (test : X → Bool) (x : X) (xs : List X) → count_by test (x ∷ xs) ≡ 0 → test x ≡ false
unfolding one-if
none-first {X} test x xs e = zero-first (test x) (count_by test xs) (sym (sum_by-cons (λ (y : X). one-if (test y)) x xs) ∙ e)

no-count : (n : ℕ) → counted n ≡ 0 → n ≡ 0
no-count n e = omega arith

pub has-place : (rules : Params) (h : Heard) (older : List Heard) → counted (count_by is_full (outcomes rules (h ∷ older))) ≡ 0 → is_full (outcome_at rules h older) ≡ false
has-place rules h older e = none-first is_full (outcome_at rules h older) (outcomes rules older) (no-count (count_by is_full (outcomes rules (h ∷ older))) e)
