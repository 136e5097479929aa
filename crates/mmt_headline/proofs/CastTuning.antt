-- Exactly the packets with a buffer message tune a receiver, with the programme's values.
use Rattle.mmt_headline.proofs.Alike.{carried-alike}
use Rattle.mmt_headline.proofs.Sound.{IsPlanned, planned, planned-found, planned-messages, planned-sound}
use Rattle.std.proofs.Common.{◌≡◌, ℕ, ◌+◌, ◌*◌, ◌%◌, ◌<◌, ◌≤◌, Bool, true, false, ◌==◌, cond, List, [], ◌∷◌, get_or, length, Option, Some, None, Result, Ok, arith, refl, sym, ap, subst, ◌∙◌}
use Rattle.std.specs.List.{AllByRecursion}
use Rattle.std.proofs.lemmas.Bool.{eqb-true, le-leb}
use Rattle.mmt_base.specs.declared.refused.Refused.{Refused}
use Rattle.mmt_cast.specs.Casting.{cast_of, with_number}
use Rattle.mmt_frag.specs.Cuts.{parts}
use Rattle.mmt_cast.specs.Right.{IsMessage, contents_of, signal_at}
use Rattle.mmt_cast.specs.Sending.{Sending, carried, id_of, packet_of}
use Rattle.mmt_cast.proofs.Found.{each-sent}
use Rattle.mmt_cast.proofs.Listing.{each-at}
use Rattle.mmt_frag.proofs.PartsJoined.{one-part, parts-enough}
use Rattle.mmt_cast.proofs.Rightness.{IsRightSending}
use Rattle.mmt_cast.proofs.SentIn.{right-sending}
use Rattle.mmt_model.specs.Admission.{has_parameters}
use Rattle.mmt_model.specs.Carrying.{payload_carried, role}
use Rattle.mmt_model.specs.Packets.{Payload}
use Rattle.mmt_model.specs.Survival.{heard_of, no_packet}
use Rattle.mmt_model.specs.declared.casts.Carries.{Carries}
use Rattle.mmt_model.specs.declared.casts.Sent.{Sent}
use Rattle.mmt_model.specs.declared.programmes.Params.{Params}
use Rattle.mmt_model.specs.declared.programmes.Programme.{Programme}
use Rattle.mmt_model.specs.declared.programmes.Signal.{Signal}
use Rattle.mmt_naming.specs.Findings.{names_in}
use Rattle.mmt_pace.proofs.Alike.{each-alike}
use Rattle.mmt_sig.specs.declared.message.MessageWhy.{MessageWhy}
use Rattle.mmt_mpt.specs.Table.{mpt_spelling}
use Rattle.mmt_sent.specs.Messages.{message_bytes, message_of_signal, tables_before}
use Rattle.mmt_cast.specs.SentTables.{sent_table}
use Rattle.mmt_sig.specs.Message.{HrbmMessage, MessageValue, PaMessage}
use Rattle.mmt_sig.specs.Tables.{sent_table as listed_table}
use Rattle.mmt_sig.specs.MessageReading.{message_of}
use Rattle.mmt_tune.specs.Tuning.{first_fitting, fitting, is_whole, or_else}
use Rattle.mmt_headline.specs.Tuning.{values_spelled}
use Rattle.mmt_sent.specs.Stream.{contents_sent}
use Rattle.mmt_headline.specs.Programmes.{CastsTune}
use Rattle.mmt_model.specs.declared.casts.Carries.TheVariants as carries
use Rattle.mmt_model.specs.declared.keys.Part.TheVariants as part
use Rattle.mmt_model.specs.declared.programmes.Signal.TheVariants as signals

-- the values with which a packet tunes, by what it carries
abbrev values_of : Programme → (ℕ → List ℕ) → ℕ → Carries → ℕ → Option Params
values_of programme files bound c packet_id = cond (packet_id == 0) (values_spelled bound (payload_carried (cast_of programme) (contents_sent programme files) c)) None

-- those that it is to tune with
abbrev right_values : Programme → Carries → Option Params
right_values programme c = cond (has_parameters c) (Some programme.params) None

abbrev TunesAs : Programme → (ℕ → List ℕ) → ℕ → Carries → ℕ → Type 0
TunesAs programme files bound c packet_id = values_of programme files bound c packet_id ≡ right_values programme c

never : (b : Bool) → ◌≡◌ {A = Option Params} (cond b None None) None
never true = refl
never false = refl

one-message : (bound : ℕ) (m : List ℕ) (v : MessageValue) → message_of m ≡ Ok v → first_fitting bound (m ∷ []) ≡ or_else (fitting bound (Ok v)) None
unfolding first_fitting
one-message bound m v e = ap (λ (r : Result MessageValue (Refused MessageWhy)). or_else (fitting bound r) None) e

-- a message that goes into a packet is whole in it
pub whole-message : (programme : Programme) (files : ℕ → List ℕ) (s : ℕ) → length (message_bytes programme s) ≤ programme.limit → (contents_sent programme files).message_part s 0 ≡ message_bytes programme s
unfolding contents_of
whole-message programme files s le = one-part programme.limit (message_bytes programme s) le

-- a PA message of version 0 with one table
abbrev pub table_value : List ℕ → MessageValue
table_value table = PaMessage (record { version = 0; tables = listed_table table ∷ [] })

-- what the bytes of the message at a place are read as
pub params-value : (programme : Programme) (files : ℕ → List ℕ) (s at : ℕ) → IsPlanned programme files → s < length programme.signals → signal_at programme s ≡ signals.Parameters (record { 0 = at })
    → message_of (message_bytes programme s) ≡ Ok (HrbmMessage (record { version = 0; params = programme.params }))
unfolding message_of_signal
params-value programme files s at ok l is = (planned-found 1 programme files ok s l).value ∙ ap (λ (x : Signal). Ok (message_of_signal programme s x)) is

pub table-value : (programme : Programme) (files : ℕ → List ℕ) (s at : ℕ) (names : List (ℕ × ℕ)) → IsPlanned programme files → s < length programme.signals → signal_at programme s ≡ signals.Table (record { 0 = at }) names
    → (table : List ℕ) × (message_of (message_bytes programme s) ≡ Ok (table_value table))
unfolding message_of_signal
table-value programme files s at names ok l is =
    (mpt_spelling (sent_table programme (tables_before programme s % 256) names), (planned-found 1 programme files ok s l).value ∙ ap (λ (x : Signal). Ok (message_of_signal programme s x)) is)

-- ---- a buffer message

parameters-tune : (programme : Programme) (files : ℕ → List ℕ) (bound s at : ℕ) → IsPlanned programme files → programme.params.bound ≤ bound → s < length programme.signals → signal_at programme s ≡ signals.Parameters (record { 0 = at }) → length (message_bytes programme s) ≡ 17
    → TunesAs programme files bound (carries.Parameters s) 0
unfolding payload_carried
parameters-tune programme files bound s at ok le l is long =
    let some : 64 ≤ programme.limit = (planned-sound programme files ok).right.limit in
    ap (λ (m : List ℕ). first_fitting bound (m ∷ [])) (whole-message programme files s (omega (arith, long, some))) ∙ one-message bound (message_bytes programme s) _ (params-value programme files s at ok l is)
    ∙ ap (λ (b : Bool). or_else (cond b (Some programme.params) None) None) (le-leb programme.params.bound bound le)

-- ---- a table

pub no-part : (k count : ℕ) → is_whole (role k count) ≡ false
unfolding role
no-part k count = go (k == 0) (k + 1 == count)
  where
    go : (a b : Bool) → is_whole (cond a part.First (cond b part.Last part.Middle)) ≡ false
    go true b = refl
    go false true = refl
    go false false = refl

part-tunes : (programme : Programme) (files : ℕ → List ℕ) (bound s k : ℕ) → TunesAs programme files bound (carries.TablePart s k) 0
unfolding payload_carried
part-tunes programme files bound s k = ap (λ (b : Bool). cond b (first_fitting bound ((contents_sent programme files).message_part s k ∷ [])) None) (no-part k _)

table-tunes : (programme : Programme) (files : ℕ → List ℕ) (bound s at : ℕ) (names : List (ℕ × ℕ)) → IsPlanned programme files → s < length programme.signals → signal_at programme s ≡ signals.Table (record { 0 = at }) names → length (message_bytes programme s) ≤ programme.limit
    → TunesAs programme files bound (carries.Table s) 0
unfolding payload_carried
table-tunes programme files bound s at names ok l is le =
    let read = table-value programme files s at names ok l is in
    ap (λ (m : List ℕ). first_fitting bound (m ∷ [])) (whole-message programme files s le) ∙ one-message bound (message_bytes programme s) (table_value read.0) read.1

-- ---- units

media-tunes-whole : (programme : Programme) (files : ℕ → List ℕ) (bound u packet_id : ℕ) → TunesAs programme files bound (carries.Whole u) packet_id
unfolding payload_carried
media-tunes-whole programme files bound u packet_id = never (packet_id == 0)

media-tunes-part : (programme : Programme) (files : ℕ → List ℕ) (bound u k packet_id : ℕ) → TunesAs programme files bound (carries.Fragment u k) packet_id
unfolding payload_carried
media-tunes-part programme files bound u k packet_id = never (packet_id == 0)

media-tunes-group : (programme : Programme) (files : ℕ → List ℕ) (bound f c packet_id : ℕ) → TunesAs programme files bound (carries.Group f c) packet_id
unfolding payload_carried
media-tunes-group programme files bound f c packet_id = never (packet_id == 0)

-- ---- each sending

pub one-limit : (l limit : ℕ) → 1 ≤ limit → (parts l limit == 1) ≡ true → l ≤ limit
one-limit l limit some one =
    let is : parts l limit ≡ 1 = eqb-true (parts l limit) 1 one in
    let all : l ≤ 1 * limit = subst (λ (n : ℕ). l ≤ n * limit) is (parts-enough l limit some) in
    omega arith

tunes : (programme : Programme) (files : ℕ → List ℕ) (bound : ℕ) → IsPlanned programme files → programme.params.bound ≤ bound → (x : Sending) (k : ℕ) → IsRightSending programme x → TunesAs programme files bound (carried programme x k) (id_of x)
unfolding carried id_of
tunes programme files bound ok le (Sending.Parameters s at) k is =
    let m : IsMessage programme (names_in 1) (signals.Parameters (record { 0 = at })) (message_bytes programme s) =
    subst (λ signal. IsMessage programme (names_in 1) signal (message_bytes programme s)) is.1 (planned-messages 1 programme files ok s is.0) in
    parameters-tune programme files bound s at ok le is.0 is.1 m.0
tunes programme files bound ok le (Sending.Table s at bytes) k is =
    let m : IsMessage programme (names_in 1) (signals.Table (record { 0 = at }) is.1) (message_bytes programme s) =
    subst (λ signal. IsMessage programme (names_in 1) signal (message_bytes programme s)) is.2 (planned-messages 1 programme files ok s is.0) in
    let some : 64 ≤ programme.limit = (planned-sound programme files ok).right.limit in
    go (parts bytes programme.limit == 1) refl is (m.0 ∙ sym is.3) some
  where
    go : (t : Bool) → (parts bytes programme.limit == 1) ≡ t → IsRightSending programme (Sending.Table s at bytes) → length (message_bytes programme s) ≡ bytes → 64 ≤ programme.limit → TunesAs programme files bound (cond t (carries.Table s) (carries.TablePart s k)) 0
    go true one is long some =
        let whole : bytes ≤ programme.limit = one-limit bytes programme.limit (omega arith) one in
        table-tunes programme files bound s at is.1 ok is.0 is.2 (omega (arith, long, whole))
    go false more is long some = part-tunes programme files bound s k
tunes programme files bound ok le (Sending.Alone u x) k is = go (parts x.value.length programme.limit == 1)
  where
    go : (t : Bool) → TunesAs programme files bound (cond t (carries.Whole u) (carries.Fragment u k)) x.in_mpu.in_asset.packet_id
    go true = media-tunes-whole programme files bound u x.in_mpu.in_asset.packet_id
    go false = media-tunes-part programme files bound u k x.in_mpu.in_asset.packet_id
tunes programme files bound ok le (Sending.Group f c x bytes) k is = media-tunes-group programme files bound f c x.in_mpu.in_asset.packet_id

each-tunes : (programme : Programme) (files : ℕ → List ℕ) (bound : ℕ) → IsPlanned programme files → programme.params.bound ≤ bound → AllByRecursion (λ p. TunesAs programme files bound p.carries p.packet_id) (cast_of programme).packets
unfolding with_number packet_of
each-tunes programme files bound ok le =
    each-sent programme (λ (p : Sent). TunesAs programme files bound p.carries p.packet_id) (λ a b x k e below. tunes programme files bound ok le x k (right-sending programme a b x e))

pub casts-tune : CastsTune
unfolding heard_of
casts-tune programme cast files bound ok le n l =
    let P : Sent → Type 0 = λ p. TunesAs programme files bound p.carries p.packet_id in
    let all : AllByRecursion P cast.packets = each-alike programme cast ok.of P (λ tick p h. h) (each-tunes programme files bound (planned programme cast files ok) le) in
    let p : Sent = get_or cast.packets n no_packet in
    ap (λ (x : Payload). cond (p.packet_id == 0) (values_spelled bound x) None) (carried-alike programme cast (contents_sent programme files) ok.of p.carries) ∙ each-at P cast.packets n no_packet all l
