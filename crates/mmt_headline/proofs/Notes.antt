-- Of each packet of a near delivery only `late`, `repeat` and `ctx-none` are noted.
use Rattle.mmt_headline.proofs.Sound.{sound}
use Rattle.std.proofs.Common.{◌≡◌, ◌⊎◌, inl, inr, ℕ, ◌+◌, ◌<◌, Bool, true, false, cond, List, [], ◌∷◌, ◌++◌, map, length, get_or, Option, Some, None, count_by, refl, sym, ap, subst, ◌∙◌}
use Rattle.std.specs.Prelude.{is_some}
use Rattle.std.specs.List.{AllByRecursion}
use Rattle.mmt_cast.proofs.Listing.{each-at}
use Rattle.mmt_delivery.specs.Laws.{OutcomesAre, PeakFits}
use Rattle.mmt_delivery.specs.Tables.{MessagesAreSent, NamesAreLearned}
use Rattle.mmt_hear.specs.Hearing.{Hearing, hearing}
use Rattle.mmt_model.specs.Carrying.{packets_of, payload_carried}
use Rattle.mmt_model.specs.Counts.{counted}
use Rattle.mmt_model.specs.Delivery.{NearDelivery, newest_first}
use Rattle.mmt_model.specs.Keeping.{Outcome, is_full, bytes_of as bytes_of_kept}
use Rattle.mmt_model.specs.Packets.{Heard}
use Rattle.mmt_model.specs.Sessions.{outcomes, clock_of}
use Rattle.mmt_model.specs.Survival.{AreOf, heard_of, no_packet}
use Rattle.mmt_model.specs.declared.casts.Carries.{Carries}
use Rattle.mmt_model.specs.declared.casts.Sent.{Sent}
use Rattle.mmt_model.specs.declared.programmes.Params.{Params}
use Rattle.mmt_model.specs.declared.casts.Cast.{Cast}
use Rattle.mmt_model.specs.declared.programmes.Programme.{Programme}
use Rattle.mmt_model.proofs.Newest.{newest_more}
use Rattle.mmt_recv.specs.Noting.{PlacedNote, at_place, notes_by, notes_of_packet, outcome_notes, payload_place, said_by, untuned_notes, heard_notes, tuned_notes}
use Rattle.mmt_runs.specs.Reading.{is_opened}
use Rattle.mmt_tlv.specs.Framing.{Packet as Tlv}
use Rattle.mmt_tune.specs.Tuning.{HeardAt, Placed, heard_of as heard_in, history, packets_of as tlv_of, tuned, heard_as, heard_at, or_else, values_by, rules_by}
use Rattle.mmt_tune.specs.declared.config.Config.{Config}
use Rattle.mmt_model.specs.Admission.{has_parameters}
use Rattle.mmt_headline.proofs.Told.{Says, has_table, each-says}
use Rattle.mmt_headline.proofs.Tables.{table-quiet}
use Rattle.mmt_headline.specs.Tuning.{values_with}
use Rattle.mmt_headline.proofs.Tunes.{tunes-alike}
use Rattle.mmt_packet.specs.Spelling.{Value as Mmtp}
use Rattle.mmt_headline.specs.Heard.{PacketIs, IsSentAt, PayloadIs}
use Rattle.mmt_sent.specs.Packets.{mmtp_at, tlv_at, written_at}
use Rattle.mmt_headline.proofs.Packets.{packets-heard}
use Rattle.mmt_headline.proofs.Turned.{each-turned, turned-map}
use Rattle.mmt_headline.proofs.Keeping.{each-of, of-each, keeps-to, tuned-of}
use Rattle.mmt_headline.proofs.Sent.{casts-sent}
use Rattle.mmt_headline.proofs.CastTuning.{casts-tune}
use Rattle.mmt_recv.specs.Receiving.{session_of, summary_of, values_of, values_or}
use Rattle.mmt_recv.specs.Session.{outcome_of, rest_of}
use Rattle.mmt_headline.proofs.Each.{each-heard-or-refused}
use Rattle.mmt_headline.proofs.Payloads.{payloads}
use Rattle.mmt_headline.specs.Peaks.{HasRoom, KeepsTo}
use Rattle.mmt_headline.proofs.Peaks.{have-room}
use Rattle.mmt_headline.proofs.Quiet.{has-place, opened-notes, quiet-outcome, said-nothing, untuned}
use Rattle.mmt_headline.specs.Programmes.{IsSendable, Receives}
use Rattle.mmt_headline.specs.Notes.{AreQuiet, NotesAreQuiet}
use Rattle.mmt_sent.specs.Stream.{addressing_of, contents_sent, packet_sent, stream_of}
use Rattle.mmt_model.specs.Received.{tuned_places}
use Rattle.mmt_hear.specs.declared.why.Why.TheVariants as why

-- ---- a packet more

-- the newest packet, and the older ones
pub record IsNext (programme : Programme) (cast : Cast) (files : ℕ → List ℕ) (delivery : List ℕ) (n : ℕ) (older : List Placed) (p : Placed) : Type 0 where
  pub first : p.packet ≡ tlv_at (addressing_of programme) cast (contents_sent programme files) n
  pub rest : tlv_of older ≡ map (tlv_at (addressing_of programme) cast (contents_sent programme files)) (newest_first delivery)

maps-append : {X Y : Type 0} (f : X → Y) (xs ys : List X) → map f (xs ++ ys) ≡ map f xs ++ map f ys
maps-append f [] ys = refl
maps-append {X} {Y} f (x ∷ xs) ys = ap (λ (zs : List Y). f x ∷ zs) (maps-append f xs ys)

pub is-next : (programme : Programme) (cast : Cast) (files : ℕ → List ℕ) (delivery : List ℕ) (n : ℕ) (older : List Placed) (p : Placed) → tlv_of (p ∷ older) ≡ newest_first (stream_of programme cast files (delivery ++ n ∷ [])) → IsNext programme cast files delivery n older p
unfolding stream_of packet_sent
is-next programme cast files delivery n older p same =
    let tlv : ℕ → Tlv = tlv_at (addressing_of programme) cast (contents_sent programme files) in
    let all : p.packet ∷ tlv_of older ≡ tlv n ∷ newest_first (map tlv delivery) = same ∙ ap newest_first (maps-append tlv delivery (n ∷ [])) ∙ newest_more (map tlv delivery) (tlv n) in
    let rest : tlv_of older ≡ newest_first (map tlv delivery) = cc in
    record { first = cc; rest = rest ∙ sym (turned-map tlv delivery) }

is-last : (packets : List Sent) (delivery : List ℕ) (n : ℕ) → AreOf packets (delivery ++ n ∷ []) → n < length packets
is-last packets [] n of = of.0
is-last packets (d ∷ ds) n of = is-last packets ds n of.1

turned-of : (packets : List Sent) (delivery : List ℕ) (n : ℕ) → AreOf packets (delivery ++ n ∷ []) → AreOf packets (n ∷ newest_first delivery)
turned-of packets delivery n of =
    let each : AllByRecursion (λ k. k < length packets) (newest_first (delivery ++ n ∷ [])) = each-turned (λ k. k < length packets) (delivery ++ n ∷ []) (each-of packets (delivery ++ n ∷ []) of) in
    of-each packets (n ∷ newest_first delivery) (subst (AllByRecursion (λ k. k < length packets)) (newest_more delivery n) each)

heard-more : (config : Config) (older : List Placed) (p : Placed) (m : Mmtp) (from : ℕ) → hearing config.flow (tlv_of older) p.packet ≡ Hearing.Heard m from → heard_in config.flow (p ∷ older) ≡ record { place = p.place + from; packet = m } ∷ heard_in config.flow older
unfolding heard_in
heard-more config older p m from is = ap (λ (h : Hearing). heard_at p.place h ++ heard_in config.flow older) is

notes-are : (config : Config) (older : List Placed) (p : Placed) (h : Hearing) → hearing config.flow (tlv_of older) p.packet ≡ h → notes_of_packet config older p ≡ notes_by config (heard_in config.flow older) p.place h
unfolding notes_of_packet
notes-are config older p h is = ap (notes_by config (heard_in config.flow older) p.place) is

-- the session with a packet that tunes or comes after one that did
session-more : (config : Config) (h : HeardAt) (hs : List HeardAt) (values : Params) → tuned config (h ∷ hs) ≡ Some values → history config (h ∷ hs) ≡ heard_as h.packet ∷ history config hs
unfolding history tuned
session-more config h hs values e = ap (λ (o : Option Params). cond (is_some o) (heard_as h.packet ∷ history config hs) []) e

-- it does not tune where none did
not-tuning : (config : Config) (h : HeardAt) (hs : List HeardAt) → tuned config (h ∷ hs) ≡ None → values_by config.assumed config.bound h.packet ≡ None
unfolding tuned
not-tuning config h hs e = go (tuned config hs) e
  where
    go : (o : Option Params) → or_else o (values_by config.assumed config.bound h.packet) ≡ None → values_by config.assumed config.bound h.packet ≡ None
    go None e = e
    go (Some v) e = absurd cc

not-some : (b : Bool) (values : Params) → cond b (Some values) None ≡ None → b ≡ false
not-some true values e = absurd cc
not-some false values e = refl

-- a heard packet of the cast
record IsPacket (programme : Programme) (cast : Cast) (files : ℕ → List ℕ) (n : ℕ) : Type 0 where
  sent : IsSentAt cast (contents_sent programme files) n
  is : PacketIs cast (contents_sent programme files) n
  says : Says programme files (get_or cast.packets n no_packet).carries (get_or cast.packets n no_packet).packet_id

is-packet : (programme : Programme) (cast : Cast) (files : ℕ → List ℕ) → IsSendable programme cast files → (n : ℕ) → n < length cast.packets → IsPacket programme cast files n
is-packet programme cast files ok n l =
    let sent : IsSentAt cast (contents_sent programme files) n = casts-sent programme cast files ok n l in
    record { sent = sent; is = packets-heard cast (contents_sent programme files) n sent; says = each-at (λ (p : Sent). Says programme files p.carries p.packet_id) cast.packets n no_packet (each-says programme cast files ok) l }

-- ---- before tuning nothing is noted of it

payload-is : (programme : Programme) (cast : Cast) (files : ℕ → List ℕ) (n : ℕ) → IsPacket programme cast files n → (heard_as (mmtp_at cast (contents_sent programme files) n)).payload ≡ payload_carried cast (contents_sent programme files) (get_or cast.packets n no_packet).carries
unfolding heard_of
payload-is programme cast files n x = ap (λ (h : Heard). h.payload) x.is.heard

quiet-before : (config : Config) (programme : Programme) (cast : Cast) (files : ℕ → List ℕ) (n place : ℕ) → IsSendable programme cast files → Receives config programme → n < length cast.packets → IsPacket programme cast files n
    → values_by config.assumed config.bound (mmtp_at cast (contents_sent programme files) n) ≡ None
    → untuned_notes config.bound (record { place = place; packet = mmtp_at cast (contents_sent programme files) n }) ≡ []
unfolding mmtp_at
quiet-before config programme cast files n place ok r l x none =
    let c : Carries = (get_or cast.packets n no_packet).carries in
    let values : values_with None config.bound (heard_of (packets_of cast (contents_sent programme files)) n) ≡ None =
    sym (ap (values_with None config.bound) x.is.heard) ∙ sym (ap (λ (assumed : Option (ℕ × ℕ)). values_with assumed config.bound (heard_as (mmtp_at cast (contents_sent programme files) n))) r.assumed)
    ∙ tunes-alike config.assumed config.bound (mmtp_at cast (contents_sent programme files) n) ∙ none in
    let without : has_parameters c ≡ false = not-some (has_parameters c) programme.params (sym (casts-tune programme cast files config.bound ok r.bound n l) ∙ values) in
    untuned programme cast files config.bound _ c (get_or cast.packets n no_packet).packet_id x.says without

-- ---- from tuning on

is-there : (programme : Programme) (cast : Cast) (files : ℕ → List ℕ) (n : ℕ) → IsPacket programme cast files n
    → (let m = mmtp_at cast (contents_sent programme files) n in is_opened m.packet_id m.kind m.payload ≡ true)
unfolding mmtp_at
is-there programme cast files n x =
    let is : PayloadIs (written_at cast (contents_sent programme files) n) (get_or cast.packets n no_packet).packet_id =
    payloads (written_at cast (contents_sent programme files) n) (get_or cast.packets n no_packet).packet_id x.sent.can x.sent.id in is.opened

-- what is known of a packet from tuning on: the values are the programme's, and it has room
record IsTuned (config : Config) (programme : Programme) (h : HeardAt) (hs : List HeardAt) (values : Params) : Type 0 where
  same : values ≡ programme.params
  room : is_full (outcome_of config values (heard_as h.packet) (history config hs)) ≡ false

some-same : (a b : Params) → ◌≡◌ {A = Option Params} (Some a) (Some b) → a ≡ b
some-same a b e = ap values_or e

is-tuned : (config : Config) (programme : Programme) (ps : List Placed) (h : HeardAt) (hs : List HeardAt) (values : Params) → heard_in config.flow ps ≡ h ∷ hs → tuned config (h ∷ hs) ≡ Some values
    → (session_of config ps ≡ []) ⊎ (values_of config ps ≡ Some programme.params) → (summary_of config ps).full ≡ 0 → IsTuned config programme h hs values
is-tuned config programme ps h hs values is some known full =
    let session : session_of config ps ≡ heard_as h.packet ∷ history config hs = ap (history config) is ∙ session-more config h hs values some in
    let tuning : values_of config ps ≡ Some values = ap (tuned config) is ∙ some in
    let none : counted (count_by is_full (outcomes (rules_by config values) (heard_as h.packet ∷ history config hs))) ≡ 0 =
    sym (ap (λ (o : Option Params). counted (count_by is_full (outcomes (rules_by config (values_or o)) (session_of config ps)))) tuning ∙ ap (λ (ss : List Heard). counted (count_by is_full (outcomes (rules_by config values) ss))) session) ∙ full in
    record { same = by-values session tuning known; room = has-place (rules_by config values) (heard_as h.packet) (history config hs) none }
  where
    by-values : session_of config ps ≡ heard_as h.packet ∷ history config hs → values_of config ps ≡ Some values → (session_of config ps ≡ []) ⊎ (values_of config ps ≡ Some programme.params) → values ≡ programme.params
    by-values session tuning (inl none) = absurd (let e : heard_as h.packet ∷ history config hs ≡ [] = sym session ∙ none in cc)
    by-values session tuning (inr right) = some-same values programme.params (sym tuning ∙ right)

-- what it says is nothing where it carries a table or a part of one and is stored
abbrev Tabled : Config → Programme → Cast → ℕ → HeardAt → List HeardAt → Type 0
Tabled config programme cast n h hs =
    has_table (get_or cast.packets n no_packet).carries ≡ true → outcome_of config programme.params (heard_as h.packet) (history config hs) ≡ Outcome.Stored → said_by config programme.params (history config hs) h ≡ []

quiet-after : (config : Config) (programme : Programme) (cast : Cast) (files : ℕ → List ℕ) (n place : ℕ) (hs : List HeardAt) (values : Params) → IsSendable programme cast files → IsPacket programme cast files n
    → (let h : HeardAt = record { place = place; packet = mmtp_at cast (contents_sent programme files) n } in IsTuned config programme h hs values → Tabled config programme cast n h hs → AreQuiet (tuned_notes config values (history config hs) h))
quiet-after config programme cast files n place hs values ok x t tabled =
    let h : HeardAt = record { place = place; packet = mmtp_at cast (contents_sent programme files) n } in
    let older : List Heard = history config hs in
    let p : Sent = get_or cast.packets n no_packet in
    let now : ℕ = clock_of (heard_as h.packet ∷ older) in
    let held : ℕ = bytes_of_kept (rest_of config values (heard_as h.packet) older) in
    let said : List PlacedNote = said_by config values older h in
    let becomes : Outcome = outcome_of config values (heard_as h.packet) older in
    let rest : List PlacedNote = outcome_notes now held (length h.packet.payload) h said becomes in
    let kind : tuned_notes config values older h ≡ rest = opened-notes h h.packet.kind rest (is-there programme cast files n x) in
    let own : said ≡ said_by config programme.params older h = ap (λ (v : Params). said_by config v older h) t.same in
    by-outcome h (tuned_notes config values older h) rest said becomes kind (quiet-outcome now held (length h.packet.payload) h said becomes t.room) own (has_table p.carries) refl
    (λ has stored. tabled has (ap (λ (v : Params). outcome_of config v (heard_as h.packet) older) (sym t.same) ∙ stored))
    (λ none. said-nothing config programme cast files older h p.carries p.packet_id x.says none (payload-is programme cast files n x))
  where
    by-outcome : (h : HeardAt) (all rest said : List PlacedNote) (becomes : Outcome) → all ≡ rest → AreQuiet rest ⊎ ((rest ≡ said) × (becomes ≡ Outcome.Stored)) → said ≡ said_by config programme.params (history config hs) h → (b : Bool) → has_table (get_or cast.packets n no_packet).carries ≡ b
        → (has_table (get_or cast.packets n no_packet).carries ≡ true → becomes ≡ Outcome.Stored → said_by config programme.params (history config hs) h ≡ [])
        → (has_table (get_or cast.packets n no_packet).carries ≡ false → said_by config programme.params (history config hs) h ≡ [])
        → AreQuiet all
    by-outcome h all rest said becomes e (inl quiet) own b is tabled nothing = subst AreQuiet (sym e) quiet
    by-outcome h all rest said becomes e (inr same) own true is tabled nothing = subst AreQuiet (sym (e ∙ same.0 ∙ own ∙ tabled is same.1)) tt
    by-outcome h all rest said becomes e (inr same) own false is tabled nothing = subst AreQuiet (sym (e ∙ same.0 ∙ own ∙ nothing is)) tt

-- ---- each packet

heard-quiet : (config : Config) (programme : Programme) (cast : Cast) (files : ℕ → List ℕ) (n : ℕ) (older : List Placed) (p : Placed) (from : ℕ) → IsSendable programme cast files → Receives config programme → n < length cast.packets
    → IsPacket programme cast files n → hearing config.flow (tlv_of older) p.packet ≡ Hearing.Heard (mmtp_at cast (contents_sent programme files) n) from
    → (session_of config (p ∷ older) ≡ []) ⊎ (values_of config (p ∷ older) ≡ Some programme.params) → (summary_of config (p ∷ older)).full ≡ 0
    → (let h : HeardAt = record { place = p.place + from; packet = mmtp_at cast (contents_sent programme files) n } in let hs = heard_in config.flow older in
    ((values : Params) → tuned config (h ∷ hs) ≡ Some values → Tabled config programme cast n h hs) → (o : Option Params) → tuned config (h ∷ hs) ≡ o → AreQuiet (heard_notes config hs h o))
heard-quiet config programme cast files n older p from ok r l x is known full tabled None e =
    let h : HeardAt = record { place = p.place + from; packet = mmtp_at cast (contents_sent programme files) n } in
    subst AreQuiet (sym (quiet-before config programme cast files n (p.place + from) ok r l x (not-tuning config h (heard_in config.flow older) e))) tt
heard-quiet config programme cast files n older p from ok r l x is known full tabled (Some values) e =
    let m : Mmtp = mmtp_at cast (contents_sent programme files) n in
    let h : HeardAt = record { place = p.place + from; packet = m } in
    quiet-after config programme cast files n (p.place + from) (heard_in config.flow older) values ok x (is-tuned config programme (p ∷ older) h (heard_in config.flow older) values (heard-more config older p m from is) e known full) (tabled values e)

-- a packet of a session with a table or a part of one
tabled-by : NamesAreLearned → MessagesAreSent → (config : Config) (programme : Programme) (cast : Cast) (files : ℕ → List ℕ) (delivery : List ℕ) (n : ℕ) (older : List Placed) (p : Placed) (from : ℕ) → IsSendable programme cast files → Receives config programme
    → AreOf cast.packets delivery → NearDelivery cast.packets (tuned_places cast programme.full_every delivery) → n < length cast.packets
    → IsPacket programme cast files n → hearing config.flow (tlv_of older) p.packet ≡ Hearing.Heard (mmtp_at cast (contents_sent programme files) n) from
    → KeepsTo config programme cast files delivery (p ∷ older)
    → (let h : HeardAt = record { place = p.place + from; packet = mmtp_at cast (contents_sent programme files) n } in let hs = heard_in config.flow older in
    (values : Params) → tuned config (h ∷ hs) ≡ Some values → Tabled config programme cast n h hs)
tabled-by names messages config programme cast files delivery n older p from ok r of near l x is keeps values e has stored =
    let m : Mmtp = mmtp_at cast (contents_sent programme files) n in
    let h : HeardAt = record { place = p.place + from; packet = m } in
    let hs : List HeardAt = heard_in config.flow older in
    let session : session_of config (p ∷ older) ≡ heard_as m ∷ history config hs = ap (history config) (heard-more config older p m from is) ∙ session-more config h hs values e in
    ap (at_place (payload_place h))
    (table-quiet names messages config programme cast files (tuned_places cast programme.full_every delivery) n (heard_as m) (history config hs) ok r (tuned-of programme cast delivery of) near l x.is.heard has (sym session ∙ keeps.packets) stored)

pub notes-quiet : PeakFits → OutcomesAre → NamesAreLearned → MessagesAreSent → NotesAreQuiet
notes-quiet peaks theorem names messages config programme cast files delivery n older p ok r of near same =
    let packets : List Sent = cast.packets in
    let next : IsNext programme cast files delivery n older p = is-next programme cast files delivery n older p same in
    let l : n < length packets = is-last packets delivery n of in
    let x : IsPacket programme cast files n = is-packet programme cast files ok n l in
    let keeps : KeepsTo config programme cast files (delivery ++ n ∷ []) (p ∷ older) = keeps-to config programme cast files (delivery ++ n ∷ []) (p ∷ older) ok r of same in
    let room : HasRoom config programme (p ∷ older) = have-room peaks theorem config programme cast files (delivery ++ n ∷ []) (p ∷ older) ok r of near same in
    by-hearing x l keeps room
    (each-heard-or-refused (addressing_of programme) cast (contents_sent programme files) config.flow (newest_first delivery) n older p.packet (sound programme cast files ok).can.address r.flow (casts-sent programme cast files ok) (turned-of packets delivery n of) next.rest next.first)
  where
    by-hearing : IsPacket programme cast files n → n < length cast.packets → KeepsTo config programme cast files (delivery ++ n ∷ []) (p ∷ older) → HasRoom config programme (p ∷ older)
        → ((from : ℕ) × (hearing config.flow (tlv_of older) p.packet ≡ Hearing.Heard (mmtp_at cast (contents_sent programme files) n) from)) ⊎ (hearing config.flow (tlv_of older) p.packet ≡ Hearing.Refusal 4 (why.CtxNone programme.context))
        → AreQuiet (notes_of_packet config older p)
    by-hearing x l keeps room (inr refused) = subst AreQuiet (sym (notes-are config older p (Hearing.Refusal 4 (why.CtxNone programme.context)) refused)) (tt, tt)
    by-hearing x l keeps room (inl heard) =
        let h : HeardAt = record { place = p.place + heard.0; packet = mmtp_at cast (contents_sent programme files) n } in
        let hs : List HeardAt = heard_in config.flow older in
        let are : notes_of_packet config older p ≡ heard_notes config hs h (tuned config (h ∷ hs)) = notes-are config older p (Hearing.Heard (mmtp_at cast (contents_sent programme files) n) heard.0) heard.1 in
        subst AreQuiet (sym are)
        (heard-quiet config programme cast files n older p heard.0 ok r l x heard.1 keeps.values room.full
        (tabled-by names messages config programme cast files (delivery ++ n ∷ []) n older p heard.0 ok r of near l x heard.1 keeps) (tuned config (h ∷ hs)) refl)
