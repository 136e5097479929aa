-- A packet that is taken, case by case.
use Rattle.std.proofs.Common.{◌≡◌, ℕ, append-nil, ◌+◌, ◌≤◌, true, false, List, [], ◌∷◌, ◌++◌, length, map, refl, ap, subst, sym, ◌∙◌, arith}
use Rattle.std.specs.Prelude.{Result, Ok, Err, IfOk, IsErrOf, OnOk}
use Rattle.std.proofs.lemmas.List.Sums.{sum_by-cons}
use Rattle.mmt_io.specs.History.{Event}
use Rattle.mmt_model.specs.declared.programmes.Params.{Params}
use Rattle.std.specs.List.{flat_map}
use Rattle.std.proofs.lemmas.Bool.{ne_eqb}
use Rattle.mmt_base.specs.declared.refused.Refused.{Refused}
use Rattle.mmt_model.specs.Keeping.{Outcome, bytes_of, kept_after, outcome}
use Rattle.mmt_model.specs.Entries.{Entry, learn, names_if_stored}
use Rattle.mmt_model.specs.Packets.{Heard, Payload}
use Rattle.mmt_model.specs.Units.{names_of}
use Rattle.mmt_packet.specs.declared.packet.Kind.TheVariants as kinds
use Rattle.mmt_mpu.specs.declared.types.MpuWhy.{MpuWhy}
use Rattle.mmt_mpu.specs.Spelling.{Value as Mpu}
use Rattle.mmt_mpu.specs.Reading.{payload_of as mpu_of}
use Rattle.mmt_sig.specs.declared.head.SigWhy.{SigWhy}
use Rattle.mmt_sig.specs.Payload.{Payload as Signals}
use Rattle.mmt_sig.specs.PayloadReading.{payload_of as signals_of}
use Rattle.mmt_model.specs.declared.keys.Part.{Part}
use Rattle.mmt_model.specs.declared.keys.Part.TheVariants as parts
use Rattle.mmt_pool.specs.declared.types.Span.{Span}
use Rattle.mmt_pool.specs.Doing.{span_of}
use Rattle.mmt_recv.specs.Saying.{findings_of_part, findings_of_signals}
use Rattle.mmt_pool.specs.declared.types.NotStored.{NotStored}
use Rattle.mmt_pool.specs.declared.types.NotStored.TheVariants as why
use Rattle.mmt_pool.specs.Holding.{Holding, Kept, held, size_of}
use Rattle.mmt_times.specs.Known.{Known}
use Rattle.mmt_runs.specs.Reading.{heard}
use Rattle.mmt_tune.specs.Tuning.{HeardAt, heard_as, kept_of}
use Rattle.mmt_naming.specs.Findings.{findings_by, names_in, notes_of}
use Rattle.mmt_naming.specs.Lines.{learned_by, lines_of as lines_said}
use Rattle.mmt_naming.proofs.Names.{names_of_packet}
use Rattle.mmt_naming.proofs.One.{learned_none, lines_none, on_ok}
use Rattle.mmt_output.specs.declared.notes.Note.{Note}
use Rattle.mmt_output.specs.declared.notes.Note.TheVariants as notes
use Rattle.mmt_output.specs.Notes.{note_text}
use Rattle.mmt_output.specs.declared.telling.Untold.{Untold}
use Rattle.mmt_output.specs.declared.telling.Untold.TheVariants as untold
use Rattle.mmt_io.specs.Output.{only_noted, Put, Puts}
use Rattle.mmt_output.proofs.Putting.{puts_nothing, start_nothing, start_of}
use Rattle.mmt_recv.specs.declared.taking.Outcome.{Outcome as Answer}
use Rattle.mmt_recv.specs.declared.taking.Outcome.TheVariants as answer
use Rattle.mmt_recv.specs.Keeping.{KeptAs, Keeps}
use Rattle.mmt_recv.proofs.Lines.{put_same}
use Rattle.mmt_recv.specs.Noting.{PlacedNote, at_place, kind_notes, lines_of, outcome_notes, payload_place}
use Rattle.mmt_recv.specs.Taking.{Rules, Takes, findings_then, keeping, kept_then, notes_taken, outcome_by, answered, reason_note}

-- ---- lines

pub lines_at : (place : ℕ) (ns : List Note) → flat_map (note_text place) ns ≡ lines_of (at_place place ns)
lines_at place [] = refl
lines_at place (n ∷ ns) = ap (λ x. note_text place n ++ x) (lines_at place ns)

-- ---- a packet that is not opened

pub unopened : (r : Rules) (rest : List Heard) (h : HeardAt) → (heard_as h.packet).is_opened ≡ false → outcome_by r rest h ≡ Outcome.Unopened
unfolding outcome
unopened r rest h shut = rw shut refl

pub takes_none : (r : Rules) (old : Holding) (live : Known) (h : HeardAt) → outcome_by r (map heard old.kept) h ≡ Outcome.Unopened → held old.kept ≤ old.peak → Takes r old live h old live
unfolding learn kept_after names_if_stored
takes_none r old live h is within = record {
  kept = rw is refl;
  bound = refl;
  peak = omega (arith, within);
  entries = rw is refl;
  base = refl;
}

-- ---- a packet that is not stored

takes_as : (r : Rules) (old : Holding) (live : Known) (h : HeardAt) (new : Holding) (f : Outcome) (names : List Entry) → KeptAs (keeping r) r.clock old (kept_of h.packet) f new
    → names_if_stored f (names_of (names_in r.timescale) (kept_then r (map heard old.kept) h) (heard_as h.packet)) ≡ names → (next : Known) → next.entries ≡ learn r.clock live.entries names → next.sample_base ≡ live.sample_base
    → r.bound ≡ old.bound → Takes r old live h new next
takes_as r old live h new f names k said next entries base same = record {
  kept = k.kept ∙ ap (λ g. kept_after g (map heard old.kept) (heard_as h.packet)) (sym k.is);
  bound = k.bound;
  peak = k.peak;
  entries = entries ∙ ap (λ ns. learn r.clock live.entries ns) (sym said ∙ ap (λ g. names_if_stored g (names_of (names_in r.timescale) (kept_then r (map heard old.kept) h) (heard_as h.packet))) (sym k.is));
  base = base;
}

learn_nothing : (now : ℕ) (live : List Entry) → live ≡ learn now live []
unfolding learn
learn_nothing now live = refl

pub takes_late : (r : Rules) (old : Holding) (live : Known) (h : HeardAt) (new : Holding) → KeptAs (keeping r) r.clock old (kept_of h.packet) Outcome.Late new → r.bound ≡ old.bound → Takes r old live h new live
unfolding names_if_stored
takes_late r old live h new k same = takes_as r old live h new Outcome.Late [] k refl live (learn_nothing r.clock live.entries) refl same

pub takes_repeat : (r : Rules) (old : Holding) (live : Known) (h : HeardAt) (new : Holding) → KeptAs (keeping r) r.clock old (kept_of h.packet) Outcome.Repeat new → r.bound ≡ old.bound → Takes r old live h new live
unfolding names_if_stored
takes_repeat r old live h new k same = takes_as r old live h new Outcome.Repeat [] k refl live (learn_nothing r.clock live.entries) refl same

pub takes_full : (r : Rules) (old : Holding) (live : Known) (h : HeardAt) (new : Holding) → KeptAs (keeping r) r.clock old (kept_of h.packet) Outcome.Full new → r.bound ≡ old.bound → Takes r old live h new live
unfolding names_if_stored
takes_full r old live h new k same = takes_as r old live h new Outcome.Full [] k refl live (learn_nothing r.clock live.entries) refl same

-- ---- a packet that is stored

pub takes_stored : (r : Rules) (old : Holding) (live : Known) (h : HeardAt) (new : Holding) (next : Known) → KeptAs (keeping r) r.clock old (kept_of h.packet) Outcome.Stored new → r.bound ≡ old.bound
    → next ≡ learned_by r.clock live (findings_then r (map heard old.kept) h) → Takes r old live h new next
unfolding names_of names_if_stored
takes_stored r old live h new next k same learned =
    takes_as r old live h new Outcome.Stored (names_of (names_in r.timescale) (kept_then r (map heard old.kept) h) (heard_as h.packet)) k refl next
    (ap (λ n. n.entries) learned ∙ ap (λ ns. learn r.clock live.entries ns) (names_of_packet r.timescale r.values (kept_then r (map heard old.kept) h) (heard_as h.packet)))
    (ap (λ n. n.sample_base) learned) same

-- ---- what is noted

-- the lines of a packet whose payload is accepted
pub lines_opened : (r : Rules) (rest : List Heard) (live : List Entry) (h : HeardAt) (f : Outcome) → ((x : List PlacedNote) → kind_notes h h.packet.kind x ≡ x) → outcome_by r rest h ≡ f
    → lines_of (notes_taken r rest live h) ≡ lines_of (outcome_notes r.clock (bytes_of rest) (length h.packet.payload) h (at_place (payload_place h) (notes_of r.clock live (findings_then r rest h))) f)
lines_opened r rest live h f passes is =
    ap lines_of (passes _ ∙ ap (λ g. outcome_notes r.clock (bytes_of rest) (length h.packet.payload) h (at_place (payload_place h) (notes_of r.clock live (findings_then r rest h))) g) is)

pub lines_stored : (r : Rules) (rest : List Heard) (live : List Entry) (h : HeardAt) → ((x : List PlacedNote) → kind_notes h h.packet.kind x ≡ x) → outcome_by r rest h ≡ Outcome.Stored
    → lines_said (payload_place h) r.clock live (findings_then r rest h) ≡ lines_of (notes_taken r rest live h)
lines_stored r rest live h passes is = lines_at (payload_place h) (notes_of r.clock live (findings_then r rest h)) ∙ sym (lines_opened r rest live h Outcome.Stored passes is)

-- accepted payloads
pub media_passes : (h : HeardAt) (v : Mpu) → h.packet.kind ≡ kinds.Mpu → mpu_of h.packet.payload ≡ Ok v → (x : List PlacedNote) → kind_notes h h.packet.kind x ≡ x
media_passes h v kind is x = rw kind (rw is refl)

pub signals_pass : (h : HeardAt) (v : Signals) → h.packet.kind ≡ kinds.Signalling → h.packet.packet_id ≡ 0 → signals_of h.packet.payload ≡ Ok v → (x : List PlacedNote) → kind_notes h h.packet.kind x ≡ x
signals_pass h v kind id is x = rw kind (rw id (rw is refl))

-- accepted payloads are opened
pub media_opened : (h : HeardAt) (v : Mpu) → h.packet.kind ≡ kinds.Mpu → mpu_of h.packet.payload ≡ Ok v → (heard_as h.packet).is_opened ≡ true
unfolding heard
media_opened h v kind is = rw kind (rw is refl)

pub signals_opened : (h : HeardAt) (v : Signals) → h.packet.kind ≡ kinds.Signalling → h.packet.packet_id ≡ 0 → signals_of h.packet.payload ≡ Ok v → (heard_as h.packet).is_opened ≡ true
unfolding heard
signals_opened h v kind id is = rw kind (rw id (rw is refl))

-- ---- payloads that are not opened

pub media_shut : (h : HeardAt) (e : Refused MpuWhy) → h.packet.kind ≡ kinds.Mpu → mpu_of h.packet.payload ≡ Err e → (heard_as h.packet).is_opened ≡ false
unfolding heard
media_shut h e kind is = rw kind (rw is refl)

pub signals_shut : (h : HeardAt) (e : Refused SigWhy) → h.packet.kind ≡ kinds.Signalling → h.packet.packet_id ≡ 0 → signals_of h.packet.payload ≡ Err e → (heard_as h.packet).is_opened ≡ false
unfolding heard
signals_shut h e kind id is = rw kind (rw id (rw is refl))

pub generic_shut : (h : HeardAt) → h.packet.kind ≡ kinds.Generic → (heard_as h.packet).is_opened ≡ false
unfolding heard
generic_shut h kind = rw kind refl

pub elsewhere_shut : (h : HeardAt) → h.packet.kind ≡ kinds.Signalling → (h.packet.packet_id ≡ 0 → ⊥) → (heard_as h.packet).is_opened ≡ false
unfolding heard
elsewhere_shut h kind other = rw kind (rw (ne_eqb h.packet.packet_id 0 other) refl)

pub media_note : (r : Rules) (rest : List Heard) (live : List Entry) (h : HeardAt) (e : Refused MpuWhy) → h.packet.kind ≡ kinds.Mpu → mpu_of h.packet.payload ≡ Err e
    → note_text (payload_place h + e.at) (notes.Mpu e.why) ≡ lines_of (notes_taken r rest live h)
media_note r rest live h e kind is = rw kind (rw is (sym (append-nil (note_text (payload_place h + e.at) (notes.Mpu e.why)))))

pub signals_note : (r : Rules) (rest : List Heard) (live : List Entry) (h : HeardAt) (e : Refused SigWhy) → h.packet.kind ≡ kinds.Signalling → h.packet.packet_id ≡ 0 → signals_of h.packet.payload ≡ Err e
    → note_text (payload_place h + e.at) (notes.Signalling e.why) ≡ lines_of (notes_taken r rest live h)
signals_note r rest live h e kind id is = rw kind (rw id (rw is (sym (append-nil (note_text (payload_place h + e.at) (notes.Signalling e.why))))))

pub generic_note : (r : Rules) (rest : List Heard) (live : List Entry) (h : HeardAt) → h.packet.kind ≡ kinds.Generic → note_text h.place notes.Generic ≡ lines_of (notes_taken r rest live h)
generic_note r rest live h kind = rw kind (sym (append-nil (note_text h.place notes.Generic)))

pub elsewhere_note : (r : Rules) (rest : List Heard) (live : List Entry) (h : HeardAt) → h.packet.kind ≡ kinds.Signalling → (h.packet.packet_id ≡ 0 → ⊥) → note_text h.place notes.Elsewhere ≡ lines_of (notes_taken r rest live h)
elsewhere_note r rest live h kind other = rw kind (rw (ne_eqb h.packet.packet_id 0 other) (sym (append-nil (note_text h.place notes.Elsewhere))))

-- ---- a packet that is left out

pub held_is : (packets : List Kept) → bytes_of (map heard packets) ≡ held packets
unfolding heard
held_is [] = refl
held_is (p ∷ packets) = omega (arith, sum_by-cons (λ (h : Heard). h.length) (heard p) (map heard packets), sum_by-cons size_of p packets, held_is packets)

on_err : {A E : Type 0} (T : Type 0) (e : E) (result : Result A E) → IsErrOf result e → OnOk result T
on_err T e result is = rw is tt

abbrev pub rules : ℕ → Params → ℕ → Holding → Rules
rules timescale values clock old = record { timescale = timescale; values = values; bound = old.bound; clock = clock }

pub left_takes : (timescale : ℕ) (values : Params) (clock : ℕ) (old : Holding) (live : Known) (h : HeardAt) (new : Holding) (reason : NotStored) (result : Result Answer Untold)
    → Keeps values.delay clock old (kept_of h.packet) (Err reason) new → (reason ≡ why.OutOfMemory → IsErrOf result untold.OutOfMemory) → OnOk result (Takes (rules timescale values clock old) old live h new live)
left_takes timescale values clock old live h new (why.Late now) result k memory = on_ok result (takes_late (rules timescale values clock old) old live h new (k.1 values.window) refl)
left_takes timescale values clock old live h new why.Repeat result k memory = on_ok result (takes_repeat (rules timescale values clock old) old live h new (k values.window) refl)
left_takes timescale values clock old live h new (why.Full sum size) result k memory = on_ok result (takes_full (rules timescale values clock old) old live h new (k.2 values.window) refl)
left_takes timescale values clock old live h new why.OutOfMemory result k memory = on_err _ untold.OutOfMemory result (memory refl)

none_of_any : (old new : List Event) (whole : List ℕ) (result : Result Answer Untold) → Put old new (only_noted []) result → result ≡ Err untold.OutOfMemory → Put old new (only_noted whole) result
none_of_any old new whole result put is = rw is (start_of old new (only_noted []) (only_noted whole) (start_nothing (only_noted whole)) (rw is at put))

pub left_put : (timescale : ℕ) (values : Params) (clock : ℕ) (old : Holding) (live : List Entry) (h : HeardAt) (new : Holding) (reason : NotStored) (result : Result Answer Untold) (before after : List Event)
    → ((x : List PlacedNote) → kind_notes h h.packet.kind x ≡ x) → Keeps values.delay clock old (kept_of h.packet) (Err reason) new → (reason ≡ why.OutOfMemory → IsErrOf result untold.OutOfMemory)
    → Put before after (only_noted (lines_of (at_place h.place (reason_note reason)))) result
    → Put before after (only_noted (lines_of (notes_taken (rules timescale values clock old) (map heard old.kept) live h))) result
left_put timescale values clock old live h new (why.Late now) result before after passes k memory put =
    put_same _ _ _ _ result
    (ap (λ n. lines_of (record { place = h.place; note = notes.Late (record { 0 = n }) } ∷ [])) k.0
    ∙ sym (lines_opened (rules timescale values clock old) (map heard old.kept) live h Outcome.Late passes (k.1 values.window).is)) put
left_put timescale values clock old live h new why.Repeat result before after passes k memory put =
    put_same _ _ _ _ result (sym (lines_opened (rules timescale values clock old) (map heard old.kept) live h Outcome.Repeat passes (k values.window).is)) put
left_put timescale values clock old live h new (why.Full sum size) result before after passes k memory put =
    put_same _ _ _ _ result
    ((λ i. lines_of (record { place = h.place; note = notes.Full ((k.0 ∙ sym (held_is old.kept)) i) (k.1 i) } ∷ []))
    ∙ sym (lines_opened (rules timescale values clock old) (map heard old.kept) live h Outcome.Full passes (k.2 values.window).is)) put
left_put timescale values clock old live h new why.OutOfMemory result before after passes k memory put = none_of_any before after _ result put (memory refl)

-- ---- an MPU packet that is stored says nothing

media_says_nothing : (r : Rules) (rest : List Heard) (h : HeardAt) (v : Mpu) → h.packet.kind ≡ kinds.Mpu → mpu_of h.packet.payload ≡ Ok v → findings_then r rest h ≡ []
unfolding heard
media_says_nothing r rest h v kind is = rw kind (rw is refl)

pub takes_media : (timescale : ℕ) (values : Params) (clock : ℕ) (old : Holding) (live : Known) (h : HeardAt) (new : Holding) (v : Mpu) → h.packet.kind ≡ kinds.Mpu → mpu_of h.packet.payload ≡ Ok v
    → KeptAs (keeping (rules timescale values clock old)) clock old (kept_of h.packet) Outcome.Stored new → Takes (rules timescale values clock old) old live h new live
takes_media timescale values clock old live h new v kind is k =
    let r = rules timescale values clock old in
    takes_stored r old live h new live k refl (learned_none clock live ∙ ap (λ fs. learned_by clock live fs) (sym (media_says_nothing r (map heard old.kept) h v kind is)))

pub media_silent : (timescale : ℕ) (values : Params) (clock : ℕ) (old : Holding) (live : List Entry) (h : HeardAt) (new : Holding) (v : Mpu) → h.packet.kind ≡ kinds.Mpu → mpu_of h.packet.payload ≡ Ok v
    → KeptAs (keeping (rules timescale values clock old)) clock old (kept_of h.packet) Outcome.Stored new
    → (history : List Event) → Puts history history (only_noted (lines_of (notes_taken (rules timescale values clock old) (map heard old.kept) live h)))
media_silent timescale values clock old live h new v kind is k history =
    let r = rules timescale values clock old in
    let none : [] ≡ lines_of (notes_taken r (map heard old.kept) live h) =
    lines_none (payload_place h) clock live ∙ (ap (λ fs. lines_said (payload_place h) clock live fs) (sym (media_says_nothing r (map heard old.kept) h v kind is)) ∙ lines_stored r (map heard old.kept) live h (media_passes h v kind is) k.is) in
    subst (λ x. Puts history history (only_noted x)) none (puts_nothing history)

-- ---- a signalling packet that is stored

part_says : (timescale : ℕ) (values : Params) (kept : List Heard) (h : Heard) (part : Part) (messages : List (List ℕ))
    → findings_of_part timescale values kept h.packet_id h.number messages part ≡ findings_by timescale values kept h (Payload.Signalling part messages)
part_says timescale values kept h parts.Whole messages = refl
part_says timescale values kept h parts.First messages = refl
part_says timescale values kept h parts.Middle messages = refl
part_says timescale values kept h parts.Last messages = refl

payload_is : (h : HeardAt) (v : Signals) → h.packet.kind ≡ kinds.Signalling → signals_of h.packet.payload ≡ Ok v → (heard_as h.packet).payload ≡ Payload.Signalling v.head.part v.messages
unfolding heard
payload_is h v kind is = rw kind (rw is refl)

id_is : (h : HeardAt) → (heard_as h.packet).packet_id ≡ h.packet.packet_id
unfolding heard
id_is h = refl

number_is : (h : HeardAt) → (heard_as h.packet).number ≡ h.packet.number
unfolding heard
number_is h = refl

said_by_part : (timescale : ℕ) (values : Params) (kept : List Heard) (h : HeardAt) (v : Signals) → h.packet.kind ≡ kinds.Signalling → signals_of h.packet.payload ≡ Ok v
    → findings_of_signals timescale values kept h.packet.packet_id h.packet.number v ≡ findings_by timescale values kept (heard_as h.packet) (heard_as h.packet).payload
said_by_part timescale values kept h v kind is =
    ap (λ i. findings_of_part timescale values kept i h.packet.number v.messages v.head.part) (sym (id_is h))
    ∙ (ap (λ n. findings_of_part timescale values kept (heard_as h.packet).packet_id n v.messages v.head.part) (sym (number_is h))
    ∙ (part_says timescale values kept (heard_as h.packet) v.head.part v.messages
    ∙ ap (λ p. findings_by timescale values kept (heard_as h.packet) p) (sym (payload_is h v kind is))))

kept_is : (r : Rules) (old : Holding) (h : HeardAt) (new : Holding) → KeptAs (keeping r) r.clock old (kept_of h.packet) Outcome.Stored new → map heard new.kept ≡ kept_then r (map heard old.kept) h
kept_is r old h new k = k.kept ∙ ap (λ g. kept_after g (map heard old.kept) (heard_as h.packet)) (sym k.is)

signals_say : (r : Rules) (rest kept : List Heard) (h : HeardAt) (v : Signals) → h.packet.kind ≡ kinds.Signalling → signals_of h.packet.payload ≡ Ok v → kept ≡ kept_then r rest h
    → findings_of_signals r.timescale r.values kept h.packet.packet_id h.packet.number v ≡ findings_then r rest h
signals_say r rest kept h v kind is same =
    ap (λ ks. findings_of_signals r.timescale r.values ks h.packet.packet_id h.packet.number v) same ∙ said_by_part r.timescale r.values (kept_then r rest h) h v kind is

pub takes_signals : (timescale : ℕ) (values : Params) (clock : ℕ) (old : Holding) (live : Known) (h : HeardAt) (new : Holding) (next : Known) (v : Signals) (span : Span)
    → h.packet.kind ≡ kinds.Signalling → signals_of h.packet.payload ≡ Ok v
    → span ≡ span_of (kept_of h.packet) → KeptAs (keeping (rules timescale values clock old)) clock old (kept_of h.packet) Outcome.Stored new
    → next ≡ learned_by clock live (findings_of_signals timescale values (map heard new.kept) span.packet_id span.number v)
    → Takes (rules timescale values clock old) old live h new next
takes_signals timescale values clock old live h new next v span kind is at k learned =
    let r = rules timescale values clock old in
    takes_stored r old live h new next k refl
    (learned ∙ ap (λ fs. learned_by clock live fs) (ap (λ s. findings_of_signals timescale values (map heard new.kept) s.packet_id s.number v) at ∙ signals_say r (map heard old.kept) (map heard new.kept) h v kind is (kept_is r old h new k)))

pub signals_lines : (timescale : ℕ) (values : Params) (clock : ℕ) (old : Holding) (live : List Entry) (h : HeardAt) (new : Holding) (v : Signals) (span : Span)
    → h.packet.kind ≡ kinds.Signalling → h.packet.packet_id ≡ 0 → signals_of h.packet.payload ≡ Ok v
    → span ≡ span_of (kept_of h.packet) → KeptAs (keeping (rules timescale values clock old)) clock old (kept_of h.packet) Outcome.Stored new
    → (place : ℕ) → place ≡ payload_place h
    → lines_said place clock live (findings_of_signals timescale values (map heard new.kept) span.packet_id span.number v) ≡ lines_of (notes_taken (rules timescale values clock old) (map heard old.kept) live h)
signals_lines timescale values clock old live h new v span kind id is at k place there =
    let r = rules timescale values clock old in
    ap (λ n. lines_said n clock live (findings_of_signals timescale values (map heard new.kept) span.packet_id span.number v)) there
    ∙ (ap (λ fs. lines_said (payload_place h) clock live fs)
    (ap (λ s. findings_of_signals timescale values (map heard new.kept) s.packet_id s.number v) at ∙ signals_say r (map heard old.kept) (map heard new.kept) h v kind is (kept_is r old h new k))
    ∙ lines_stored r (map heard old.kept) live h (signals_pass h v kind id is) k.is)

-- ---- a packet that is passed by

pub outcome_unopened : (r : Rules) (rest : List Heard) (h : HeardAt) (result : Result Answer Untold) → (heard_as h.packet).is_opened ≡ false → IfOk result (λ o. o ≡ answer.Unopened) → IfOk result (λ o. answered o ≡ outcome_by r rest h)
outcome_unopened r rest h (Ok o) shut is = ap answered is ∙ sym (unopened r rest h shut)
outcome_unopened r rest h (Err e) shut is = is

pub takes_shut : (r : Rules) (old : Holding) (live : Known) (h : HeardAt) (result : Result Answer Untold) → (heard_as h.packet).is_opened ≡ false → held old.kept ≤ old.peak → OnOk result (Takes r old live h old live)
takes_shut r old live h result shut within = on_ok result (takes_none r old live h (unopened r (map heard old.kept) h shut) within)
