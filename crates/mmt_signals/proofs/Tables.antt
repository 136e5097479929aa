-- The bytes of a table and of its message, field by field.
use Rattle.mmt_cast.specs.PlanOne.{plan_one}
use Rattle.std.proofs.Common.{◌≡◌, ℕ, zero, suc, ◌+◌, ◌-◌, ◌*◌, ◌%◌, ◌^◌, ◌<◌, ◌≤◌, Bool, true, false, List, [], ◌∷◌, ◌++◌, length, get_or, arith, refl, ap, sym, ◌∙◌, None}
use Rattle.std.specs.Int.{w8, w16, w32}
use Rattle.std.specs.List.{flat_map, sum_by}
use Rattle.std.proofs.lemmas.List.{get_or_default, length-append}
use Rattle.mmt_base.specs.declared.ticks.LongTick.{LongTick}
use Rattle.mmt_sent.specs.Messages.{message_bytes, message_of_signal, tables_before}
use Rattle.std.proofs.lemmas.List.Elements.{All-weaker, recursion_from_All}
use Rattle.mmt_cast.proofs.Lengths.{inner-is, table-long}
use Rattle.mmt_cast.proofs.Listing.{length-map_from}
use Rattle.mmt_cast.proofs.Refusals.{IsShort, short-tables}
use Rattle.mmt_cast.specs.Placing.{map_from}
use Rattle.mmt_cast.specs.Refusing.{refusal}
use Rattle.mmt_cast.specs.Right.{no_signal, signal_at}
use Rattle.mmt_cast.specs.SentTables.{sent_asset, sent_table}
use Rattle.mmt_cast.specs.Tables.{asset_length, table_length}
use Rattle.mmt_fields.proofs.Numbers.{length_big_endian}
use Rattle.mmt_fields.specs.Reading.{big_endian}
use Rattle.mmt_model.specs.Right.{FitsAus, IsKnown, IsRight, IsRightAsset, IsRightMpu, IsRightSignal}
use Rattle.mmt_model.specs.declared.programmes.Asset.{Asset}
use Rattle.mmt_model.specs.declared.programmes.Mpu.{Mpu}
use Rattle.mmt_model.specs.declared.programmes.Programme.{Programme}
use Rattle.mmt_model.specs.declared.programmes.Signal.{Signal}
use Rattle.mmt_model.specs.declared.programmes.Signal.TheVariants as signals
use Rattle.mmt_mpt.specs.Asset.{asset_bytes}
use Rattle.mmt_mpt.specs.Descriptor.{descriptors_bytes}
use Rattle.mmt_mpt.specs.Table.{mpt_inner, mpt_spelling}
use Rattle.mmt_sig.proofs.Written.{sent_inner, sent_length}
use Rattle.mmt_sig.specs.Message.{HrbmMessage, PaMessage, message_spelling, pa_bytes, pa_inner}
use Rattle.mmt_sig.specs.Tables.{sent_table as listed_table}
use Rattle.mmt_signals.specs.Named.{FitsIn, FitsTables, MayBeNamed}

-- ---- a table

pub table_parts : (programme : Programme) (names : List (ℕ × ℕ)) → table_length programme names ≡ 9 + length programme.«package» + sum_by (λ n. n) (map_from (asset_length names) 0 programme.assets)
unfolding table_length
table_parts programme names = refl

assets-long : (programme : Programme) (version : ℕ) (names : List (ℕ × ℕ)) → length (flat_map asset_bytes (map_from (sent_asset names) 0 programme.assets)) + 9 + length programme.«package» ≡ table_length programme names
unfolding sent_table mpt_inner descriptors_bytes
assets-long programme version names =
    let inner = inner-is programme version names in
    let long : length (mpt_inner (sent_table programme version names)) ≡ 5 + length programme.«package» + length (flat_map asset_bytes (map_from (sent_asset names) 0 programme.assets)) =
    simp (length-append, length_big_endian) (omega arith) in
    omega (arith, inner, long)

pub table_room : (programme : Programme) (names : List (ℕ × ℕ)) → length (flat_map asset_bytes (map_from (sent_asset names) 0 programme.assets)) + 9 + length programme.«package» ≡ table_length programme names
table_room programme names = assets-long programme 0 names

pub table_are : (programme : Programme) (version : ℕ) (names : List (ℕ × ℕ))
    → mpt_spelling (sent_table programme version names)
    ≡ big_endian w8 32 ++ (big_endian w8 version ++ (big_endian w16 (table_length programme names - 4) ++ (big_endian w8 252 ++ (big_endian w8 (length programme.«package») ++ (programme.«package»
    ++ (big_endian w16 0 ++ (big_endian w8 (length programme.assets) ++ flat_map asset_bytes (map_from (sent_asset names) 0 programme.assets))))))))
unfolding mpt_spelling mpt_inner sent_table descriptors_bytes big_endian map_from
table_are programme version names =
    let rest : List ℕ = flat_map asset_bytes (map_from (sent_asset names) 0 programme.assets) in
    let after : ℕ → List ℕ = λ n. big_endian w8 252 ++ (big_endian w8 (length programme.«package») ++ (programme.«package» ++ (big_endian w16 0 ++ (big_endian w8 n ++ rest)))) in
    let inner = inner-is programme version names in
    let size : length (mpt_inner (sent_table programme version names)) ≡ table_length programme names - 4 = omega (arith, inner) in
    ap (λ n. big_endian w8 32 ++ (big_endian w8 version ++ (big_endian w16 n ++ mpt_inner (sent_table programme version names)))) size
    ∙ ap (λ n. big_endian w8 32 ++ (big_endian w8 version ++ (big_endian w16 (table_length programme names - 4) ++ after n))) (length-map_from (sent_asset names) 0 programme.assets)

-- ---- its message

first-byte : (programme : Programme) (version : ℕ) (names : List (ℕ × ℕ)) → get_or (mpt_spelling (sent_table programme version names)) 0 0 ≡ 32
unfolding mpt_spelling big_endian
first-byte programme version names = refl

second-byte : (programme : Programme) (version : ℕ) (names : List (ℕ × ℕ)) → version < 256 → get_or (mpt_spelling (sent_table programme version names)) 1 0 ≡ version
unfolding mpt_spelling big_endian sent_table
second-byte programme version names l = omega (arith, l)

pub message_are : (programme : Programme) (version : ℕ) (names : List (ℕ × ℕ)) → version < 256
    → message_spelling (PaMessage (record { version = 0; tables = listed_table (mpt_spelling (sent_table programme version names)) ∷ [] }))
    ≡ big_endian w16 0 ++ (big_endian w8 0 ++ (big_endian w32 (5 + table_length programme names) ++ (big_endian w8 1 ++ (big_endian w32 (32 * 2 ^ 24 + version * 2 ^ 16 + table_length programme names)
    ++ mpt_spelling (sent_table programme version names)))))
unfolding message_spelling pa_bytes
message_are programme version names l =
    let table : List ℕ = mpt_spelling (sent_table programme version names) in
    let long = table-long programme version names in
    let size : length (pa_inner (listed_table table ∷ [])) ≡ 5 + table_length programme names = sent_length table ∙ ap (λ n. 5 + n) long in
    let entry : get_or table 0 0 * 2 ^ 24 + get_or table 1 0 * 2 ^ 16 + length table ≡ 32 * 2 ^ 24 + version * 2 ^ 16 + table_length programme names =
    omega (arith, first-byte programme version names, second-byte programme version names l, long) in
    ap (λ n. big_endian w16 0 ++ (big_endian w8 0 ++ (big_endian w32 n ++ pa_inner (listed_table table ∷ [])))) size
    ∙ (ap (λ (x : List ℕ). big_endian w16 0 ++ (big_endian w8 0 ++ (big_endian w32 (5 + table_length programme names) ++ x))) (sent_inner table)
    ∙ ap (λ n. big_endian w16 0 ++ (big_endian w8 0 ++ (big_endian w32 (5 + table_length programme names) ++ (big_endian w8 1 ++ (big_endian w32 n ++ table))))) entry)

-- ---- a right programme

few-of : (timed : Bool) (n : ℕ) → FitsAus timed n → n ≤ 60
few-of true n f = f
few-of false n f = omega (arith, f)

asset-fits : (start files : ℕ) (asset : Asset) → IsRightAsset start files asset → FitsIn asset
asset-fits start files asset r =
    record { id = r.id; aus = All-weaker (IsRightMpu start asset.timed) (λ (m : Mpu). length m.aus ≤ 60) (λ m i. few-of asset.timed (length m.aus) i.few) asset.mpus r.mpus }

pub tables_fit : (programme : Programme) → IsRight programme → FitsTables programme
tables_fit programme right =
    record {
      package_id = right.package_id;
      assets = right.assets_few;
      each = All-weaker (IsRightAsset right.start (length programme.files)) FitsIn (asset-fits right.start (length programme.files)) programme.assets right.assets;
    }

-- the names of a signalling message may stand in a table
abbrev pub MayFor : Programme → Signal → Type 0
MayFor programme (signals.Parameters at) = Unit {0}
MayFor programme (signals.Table at names) = MayBeNamed programme names

signal-may : (programme : Programme) (start : ℕ) (signal : Signal) → IsRightSignal start programme.assets signal → IsShort programme signal → MayFor programme signal
signal-may programme start (signals.Parameters at) r s = tt
signal-may programme start (signals.Table at names) r s = record { known = recursion_from_All (IsKnown programme.assets) names r.1; rising = r.2; short = s }

pub names_may : (programme : Programme) → IsRight programme → refusal programme ≡ None → (s : ℕ) → s < length programme.signals → MayFor programme (signal_at programme s)
unfolding signal_at
names_may programme right none s l = signal-may programme right.start (signal_at programme s) (right.signals s no_signal l) (short-tables programme none s l)

-- ---- the message at a place

pub signal_here : (programme : Programme) (at : ℕ) (signal : Signal) (all : List Signal) → at < length programme.signals → all ≡ programme.signals → signal ≡ get_or all at signal → signal_at programme at ≡ signal
unfolding signal_at
signal_here programme at signal all l same is = get_or_default programme.signals at no_signal signal l ∙ sym (is ∙ ap (λ (xs : List Signal). get_or xs at signal) same)

pub table_message : (programme : Programme) (at earlier : ℕ) (tick : LongTick) (names : List (ℕ × ℕ)) → earlier ≡ tables_before programme at → signal_at programme at ≡ signals.Table tick names
    → message_bytes programme at ≡ message_spelling (PaMessage (record { version = 0; tables = listed_table (mpt_spelling (sent_table programme (earlier % 256) names)) ∷ [] }))
unfolding message_bytes message_of_signal
table_message programme at earlier tick names before is =
    ap (λ signal. message_spelling (message_of_signal programme at signal)) is
    ∙ ap (λ n. message_spelling (PaMessage (record { version = 0; tables = listed_table (mpt_spelling (sent_table programme (n % 256) names)) ∷ [] }))) (sym before)

pub params_message : (programme : Programme) (at : ℕ) (tick : LongTick) → signal_at programme at ≡ signals.Parameters tick
    → message_bytes programme at ≡ message_spelling (HrbmMessage (record { version = 0; params = programme.params }))
unfolding message_bytes message_of_signal
params_message programme at tick is = ap (λ signal. message_spelling (message_of_signal programme at signal)) is

-- ---- the worked plan

pub none_before : (at : ℕ) → at < 2 → 0 ≡ tables_before plan_one at
unfolding tables_before
none_before zero l = refl
none_before (suc zero) l = refl
none_before (suc (suc n)) l = absurd (omega (arith, l))
