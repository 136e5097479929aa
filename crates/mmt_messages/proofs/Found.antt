-- All that is found in the messages that are sent are their names.
use Rattle.std.proofs.Common.{◌≡◌, ℕ, true, ◌%◌, ◌^◌, ◌<◌, ◌≤◌, Bool, List, [], ◌∷◌, map, length, get_or, Ok, arith, eq-eqb, refl, ap, sym, ◌∙◌, subst, None}
use Rattle.std.specs.List.{AllByRecursion, flat_map}
use Rattle.std.proofs.lemmas.List.{append-nil}
use Rattle.mmt_cast.proofs.Refusals.{IsShort, short-tables}
use Rattle.mmt_cast.proofs.Spelled.{tables-spelled}
use Rattle.mmt_cast.proofs.Tables.{tables-read}
use Rattle.mmt_cast.specs.Casting.{place_of_mpu}
use Rattle.mmt_cast.specs.FromRight.{NamesRise}
use Rattle.mmt_cast.specs.Placing.{all_mpus, entry_of_mpu}
use Rattle.mmt_cast.specs.Refusing.{refusal}
use Rattle.mmt_cast.specs.Right.{IsRight, NamesKnown, mpu_at, signal_at}
use Rattle.mmt_cast.specs.SentTables.{sent_table}
use Rattle.mmt_messages.proofs.Messages.{fields, has-header, pa-fits, values-right, version-is}
use Rattle.mmt_messages.specs.Found.{IsFound, MessagesAreFound}
use Rattle.mmt_messages.specs.Sent.{FitsBytes}
use Rattle.mmt_model.specs.Admission.{fault_of_params}
use Rattle.mmt_model.specs.Entries.{Entry}
use Rattle.mmt_model.specs.declared.programmes.Params.{Params}
use Rattle.mmt_model.specs.declared.programmes.Programme.{Programme}
use Rattle.mmt_model.specs.declared.programmes.Signal.{Signal}
use Rattle.mmt_model.specs.declared.programmes.Signal.TheVariants as signals
use Rattle.mmt_mpt.specs.Table.{MptValue, mpt_id, mpt_spelling}
use Rattle.mmt_mpt.specs.TableReading.{mpt_of}
use Rattle.mmt_naming.specs.Findings.{Finding, Naming, are_same, entries_of_message, entry_in, finding_of, findings_in, findings_of_message, findings_of_tables, names_in}
use Rattle.mmt_sent.specs.Messages.{message_bytes, message_of_signal, tables_before}
use Rattle.mmt_sig.proofs.MessageLaw.{message_format}
use Rattle.mmt_sig.specs.Message.{HrbmMessage, MessageValue, PaMessage, message_spelling}
use Rattle.mmt_sig.specs.MessageReading.{message_of}
use Rattle.mmt_sig.specs.Tables.{sent_table as listed_table}
use Rattle.mmt_times.specs.NamesOf.{IsEntry, names_of}

-- the bytes of a message are read as it, and all that is found in them are their names
pub record Found (timescale : ℕ) (tuned : Params) (v : MessageValue) : Type 0 where
  pub value : message_of (message_spelling v) ≡ Ok v
  pub findings : (m : ℕ) → findings_in timescale tuned m (message_spelling v) ≡ map (Naming m) (names_in timescale (message_spelling v))

-- what is read decides both
by-value : (timescale : ℕ) (tuned : Params) (v : MessageValue) → message_of (message_spelling v) ≡ Ok v → ((m : ℕ) → findings_of_message timescale tuned m (Ok v) ≡ map (Naming m) (entries_of_message timescale (Ok v))) → Found timescale tuned v
unfolding findings_in names_in
by-value timescale tuned v read f =
    record { value = read; findings = λ m. ap (findings_of_message timescale tuned m) read ∙ (f m ∙ sym (ap (λ r. map (Naming m) (entries_of_message timescale r)) read)) }

-- ---- buffer messages

same-params : (p : Params) → are_same p p ≡ true
same-params p = rw (eq-eqb p.bound p.bound refl, eq-eqb p.window p.window refl, eq-eqb p.delay p.delay refl) refl

hrbm-found : (timescale : ℕ) (p : Params) → p.bound < 2 ^ 32 → fault_of_params p ≡ None → Found timescale p (HrbmMessage (record { version = 0; params = p }))
hrbm-found timescale p short e =
    by-value timescale p (HrbmMessage (record { version = 0; params = p })) (message_format.again (HrbmMessage (record { version = 0; params = p })) tt (record { version = omega arith; bound = short; right = values-right p e }))
    (λ m. rw (same-params p) refl)

-- ---- tables

entries-of : {X : Type 0} (f : X → Entry) (xs : List X) → flat_map entry_in (map (λ x. IsEntry (f x)) xs) ≡ map f xs
entries-of f [] = refl
entries-of f (x ∷ xs) = ap (λ (l : List Entry). f x ∷ l) (entries-of f xs)

namings-of : {X : Type 0} (m at : ℕ) (f : X → Entry) (xs : List X) → map (finding_of m at) (map (λ x. IsEntry (f x)) xs) ≡ map (Naming m) (map f xs)
namings-of m at f [] = refl
namings-of m at f (x ∷ xs) = ap (λ (l : List Finding). Naming m (f x) ∷ l) (namings-of m at f xs)

table-names : {X : Type 0} (timescale : ℕ) (table : List ℕ) (v : MptValue) (f : X → Entry) (xs : List X) → get_or table 0 0 ≡ mpt_id → mpt_of table ≡ Ok v → names_of timescale v ≡ map (λ x. IsEntry (f x)) xs
    → entries_of_message timescale (Ok (PaMessage (record { version = 0; tables = listed_table table ∷ [] }))) ≡ map f xs
table-names timescale table v f xs first read named = rw (first, read, named, entries-of f xs) (append-nil (map f xs))

table-findings : {X : Type 0} (timescale m : ℕ) (tuned : Params) (table : List ℕ) (v : MptValue) (f : X → Entry) (xs : List X) → get_or table 0 0 ≡ mpt_id → mpt_of table ≡ Ok v → names_of timescale v ≡ map (λ x. IsEntry (f x)) xs
    → findings_of_message timescale tuned m (Ok (PaMessage (record { version = 0; tables = listed_table table ∷ [] }))) ≡ map (Naming m) (map f xs)
unfolding findings_of_tables
table-findings timescale m tuned table v f xs first read named = rw (first, read, named, namings-of m 12 f xs) (append-nil (map (Naming m) (map f xs)))

pa-found : (programme : Programme) (timescale s : ℕ) (names : List (ℕ × ℕ)) → IsRight programme → FitsBytes programme → IsShort programme (signals.Table (record { 0 = 0 }) names) → NamesRise (signals.Table (record { 0 = 0 }) names) → NamesKnown programme (signals.Table (record { 0 = 0 }) names)
    → Found timescale programme.params (PaMessage (record { version = 0; tables = listed_table (mpt_spelling (sent_table programme (tables_before programme s % 256) names)) ∷ [] }))
pa-found programme timescale s names right fits short rising known =
    let version : ℕ = tables_before programme s % 256 in
    let v : version < 2 ^ 8 = omega arith in
    let t : MptValue = sent_table programme version names in
    let table : List ℕ = mpt_spelling t in
    let spelled = tables-spelled programme version names in
    let v' : t.version < 2 ^ 8 = omega (arith, v, version-is programme version names) in
    let first : get_or table 0 0 ≡ mpt_id = (has-header t v').id in
    let entry : ℕ × ℕ → Entry = λ name. entry_of_mpu (mpu_at programme (place_of_mpu (all_mpus programme) name)) in
    let read : mpt_of table ≡ Ok t = spelled.1 (fields programme fits) v short in
    let named : names_of timescale t ≡ map (λ name. IsEntry (entry name)) names = tables-read programme right fits.mpus timescale version names rising known in
    by-value timescale programme.params (PaMessage (record { version = 0; tables = listed_table table ∷ [] })) (message_format.again (PaMessage (record { version = 0; tables = listed_table table ∷ [] })) tt (pa-fits t v' (omega (arith, spelled.0, short))))
    (λ m. table-findings timescale m programme.params table t entry names first read named ∙ ap (map (Naming m)) (sym (table-names timescale table t entry names first read named)))

-- ---- both

signal-found : (programme : Programme) (timescale : ℕ) → IsRight programme → FitsBytes programme → fault_of_params programme.params ≡ None → (s : ℕ) (signal : Signal) → IsShort programme signal → NamesRise signal → NamesKnown programme signal
    → Found timescale programme.params (message_of_signal programme s signal)
unfolding message_of_signal
signal-found programme timescale right fits params s (signals.Parameters at) short rising known = hrbm-found timescale programme.params fits.bound params
signal-found programme timescale right fits params s (signals.Table at names) short rising known = pa-found programme timescale s names right fits short rising known

pub messages-found : MessagesAreFound
unfolding message_bytes
messages-found programme timescale right fits none params s l =
    let f : Found timescale programme.params (message_of_signal programme s (signal_at programme s)) = signal-found programme timescale right fits params s (signal_at programme s) (short-tables programme none s l) (fits.rise s l) (right.known s l) in
    record { value = f.value; findings = f.findings }
