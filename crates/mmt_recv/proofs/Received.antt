-- A TLV packet more of a stream.
use Rattle.std.proofs.Common.{◌≡◌, ◌⊎◌, inl, inr, ℕ, ◌+◌, List, [], ◌∷◌, ◌++◌, Option, Some, None, refl, sym, ap, subst, ◌∙◌, append-nil}
use Rattle.std.specs.Prelude.{Result, Ok, Err, OnOk, ⊤}
use Rattle.std.proofs.lemmas.Grind.{flat_map-append}
use Rattle.mmt_model.specs.Handing.{out}
use Rattle.mmt_model.specs.declared.programmes.Params.{Params}
use Rattle.mmt_ip.specs.declared.packet.Ip6Header.{Ip6Header}
use Rattle.mmt_hear.specs.declared.why.Why.{Why}
use Rattle.mmt_packet.specs.Spelling.{Value as Mmtp}
use Rattle.mmt_hear.specs.Hearing.{Hearing, hearing}
use Rattle.mmt_hear.specs.Views.{HasHeard}
use Rattle.mmt_io.specs.Output.{followed, nothing, only_noted}
use Rattle.mmt_output.specs.declared.notes.Note.TheVariants as notes
use Rattle.mmt_output.specs.Notes.{note_text}
use Rattle.mmt_output.specs.Records.{record_of, records}
use Rattle.mmt_tune.specs.declared.config.Config.{Config}
use Rattle.mmt_tune.specs.Tuning.{HeardAt, Placed, heard_as, heard_at, heard_of, history, packets_of, rules_by, tuned}
use Rattle.mmt_model.specs.Sessions.{start_of}
use Rattle.mmt_model.proofs.Sessions.{out_next}
use Rattle.mmt_tune.proofs.Steps.{no_session, session_grows, tuned_before}
use Rattle.mmt_recv.specs.Session.{handed_of, reading_of}
use Rattle.mmt_recv.specs.declared.summary.Ended.{Ended}
use Rattle.mmt_recv.specs.Noting.{lines_of, noted, notes_of_packet}
use Rattle.mmt_recv.specs.Receiving.{IsOver, Stands, State, handed_at, handed_by, heard_more, more, received, units_out}

-- what is heard with a packet more
pub heard_with : (config : Config) (ps : List Placed) (p : Placed) (x : Hearing) → x ≡ hearing config.flow (packets_of ps) p.packet → heard_at p.place x ++ heard_of config.flow ps ≡ heard_of config.flow (p ∷ ps)
unfolding heard_of
heard_with config ps p x is = ap (λ y. heard_at p.place y ++ heard_of config.flow ps) is

-- ---- a packet that is heard

pub stands_heard : (result : Result ⊤ Ended) (next s : State) (ps : List Placed) (p : Placed) (m : Mmtp) (from : ℕ) (headers : List (Option Ip6Header)) → Hearing.Heard m from ≡ hearing s.config.flow (packets_of ps) p.packet
    → next.config ≡ s.config → next.headers ≡ headers → HasHeard (packets_of (p ∷ ps)) headers
    → OnOk result (IsOver next (record { place = p.place + from; packet = m } ∷ heard_of s.config.flow ps)) → OnOk result (Stands next (p ∷ ps))
stands_heard (Ok done) next s ps p m from headers is same kept heard over = record {
  heard = subst (λ x. HasHeard (packets_of (p ∷ ps)) x) (sym kept) heard;
  over = subst (λ x. IsOver next x) (heard_with s.config ps p (Hearing.Heard m from) is ∙ ap (λ k. heard_of k.flow (p ∷ ps)) (sym same)) over;
}
stands_heard (Err e) next s ps p m from headers is same kept heard over = over

pub more_heard : (config : Config) (ps : List Placed) (p : Placed) (m : Mmtp) (from : ℕ) → Hearing.Heard m from ≡ hearing config.flow (packets_of ps) p.packet
    → heard_more config (heard_of config.flow ps) (record { place = p.place + from; packet = m }) ≡ more config ps p
unfolding more notes_of_packet
more_heard config ps p m from is = rw (sym is) refl

-- ---- a packet that is not

pub over_same : (s : State) (headers : List (Option Ip6Header)) (ps : List Placed) (p : Placed) → heard_of s.config.flow (p ∷ ps) ≡ heard_of s.config.flow ps → Stands s ps → HasHeard (packets_of (p ∷ ps)) headers
    → Stands (record { config = s.config; headers = headers; tuned = s.tuned; pool = s.pool; names = s.names; handed = s.handed; losses = s.losses }) (p ∷ ps)
over_same s headers ps p same o heard = record {
  heard = heard;
  over =
      let o' : IsOver s (heard_of s.config.flow (p ∷ ps)) = subst (λ x. IsOver s x) (sym same) o.over in
      record { tuning = o'.tuning; holds = λ values by. let h = o'.holds values by in record { bound = h.bound; kept = h.kept; peak = h.peak; base = h.base; entries = h.entries; handed = h.handed; losses = h.losses } };
}

pub more_not_ours : (config : Config) (ps : List Placed) (p : Placed) → Hearing.NotOurs ≡ hearing config.flow (packets_of ps) p.packet → nothing ≡ more config ps p
unfolding more notes_of_packet
more_not_ours config ps p is = rw (sym is) refl

pub more_refused : (config : Config) (ps : List Placed) (p : Placed) (at : ℕ) (why : Why) → Hearing.Refusal at why ≡ hearing config.flow (packets_of ps) p.packet → only_noted (note_text (p.place + at) (notes.Hearing why)) ≡ more config ps p
unfolding more notes_of_packet
more_refused config ps p at why is = rw (sym is) (ap only_noted (sym (append-nil (note_text (p.place + at) (notes.Hearing why)))))

-- ---- another table of headers

pub over_headers : (s : State) (headers : List (Option Ip6Header)) (hs : List HeardAt) → IsOver s hs → IsOver (record { config = s.config; headers = headers; tuned = s.tuned; pool = s.pool; names = s.names; handed = s.handed; losses = s.losses }) hs
over_headers s headers hs o = record {
  tuning = o.tuning;
  holds = λ values by. let h = o.holds values by in record { bound = h.bound; kept = h.kept; peak = h.peak; base = h.base; entries = h.entries; handed = h.handed; losses = h.losses };
}

pub not_ours_same : (config : Config) (ps : List Placed) (p : Placed) → Hearing.NotOurs ≡ hearing config.flow (packets_of ps) p.packet → heard_of config.flow (p ∷ ps) ≡ heard_of config.flow ps
not_ours_same config ps p is = sym (heard_with config ps p Hearing.NotOurs is)

pub refused_same : (config : Config) (ps : List Placed) (p : Placed) (at : ℕ) (why : Why) → Hearing.Refusal at why ≡ hearing config.flow (packets_of ps) p.packet → heard_of config.flow (p ∷ ps) ≡ heard_of config.flow ps
refused_same config ps p at why is = sym (heard_with config ps p (Hearing.Refusal at why) is)

-- ---- what is received with a packet more

either : (o : Option Params) → (o ≡ None) ⊎ ((values : Params) × (o ≡ Some values))
either None = inl refl
either (Some values) = inr (values, refl)

-- after a session that has begun
units_behind : (config : Config) (hs : List HeardAt) (h : HeardAt) (values : Params) → tuned config hs ≡ Some values
    → units_out config (history config (h ∷ hs)) (tuned config (h ∷ hs)) ≡ units_out config (history config hs) (tuned config hs) ++ handed_at config hs h (tuned config (h ∷ hs))
units_behind config hs h values is =
    let now : tuned config (h ∷ hs) ≡ Some values = tuned_before config h hs values is in
    (λ i. units_out config (session_grows config h hs values now i) (now i))
    ∙ (out_next (reading_of config) (rules_by config values) (heard_as h.packet) (history config hs)
    ∙ sym (λ i. units_out config (history config hs) (is i) ++ handed_at config hs h (now i)))

-- with the packet that tunes
units_first : (config : Config) (hs : List HeardAt) (h : HeardAt) (values : Params) → tuned config hs ≡ None → tuned config (h ∷ hs) ≡ Some values
    → units_out config (history config (h ∷ hs)) (tuned config (h ∷ hs)) ≡ units_out config (history config hs) (tuned config hs) ++ handed_at config hs h (tuned config (h ∷ hs))
unfolding out
units_first config hs h values none now =
    (λ i. units_out config (session_grows config h hs values now i) (now i))
    ∙ (out_next (reading_of config) (rules_by config values) (heard_as h.packet) (history config hs)
    ∙ (ap (λ x. out (reading_of config) (rules_by config values) (start_of x) x ++ handed_of config values (heard_as h.packet) (history config hs)) (no_session config hs none)
    ∙ sym (λ i. units_out config (history config hs) (none i) ++ handed_at config hs h (now i))))

-- before it
units_none : (config : Config) (hs : List HeardAt) (h : HeardAt) → tuned config hs ≡ None → tuned config (h ∷ hs) ≡ None
    → units_out config (history config (h ∷ hs)) (tuned config (h ∷ hs)) ≡ units_out config (history config hs) (tuned config hs) ++ handed_at config hs h (tuned config (h ∷ hs))
units_none config hs h none now =
    ap (units_out config (history config (h ∷ hs))) now ∙ sym (λ i. units_out config (history config hs) (none i) ++ handed_at config hs h (now i))

units_more : (config : Config) (hs : List HeardAt) (h : HeardAt)
    → units_out config (history config (h ∷ hs)) (tuned config (h ∷ hs)) ≡ units_out config (history config hs) (tuned config hs) ++ handed_at config hs h (tuned config (h ∷ hs))
units_more config hs h = elim (either (tuned config hs)) [
  | inr (values, is) ↦ units_behind config hs h values is
  | inl none ↦ elim (either (tuned config (h ∷ hs))) [
    | inr (values, is) ↦ units_first config hs h values none is
    | inl now ↦ units_none config hs h none now
  ]
]

-- by what the packet is heard as
units_by : (config : Config) (hs : List HeardAt) (place : ℕ) (x : Hearing)
    → units_out config (history config (heard_at place x ++ hs)) (tuned config (heard_at place x ++ hs)) ≡ units_out config (history config hs) (tuned config hs) ++ handed_by config hs place x
units_by config hs place (Hearing.Heard p from) = units_more config hs (record { place = place + from; packet = p })
units_by config hs place Hearing.NotOurs = sym (append-nil (units_out config (history config hs) (tuned config hs)))
units_by config hs place (Hearing.Refusal at why) = sym (append-nil (units_out config (history config hs) (tuned config hs)))

pub received_more : (config : Config) (ps : List Placed) (p : Placed) → received config (p ∷ ps) ≡ followed (received config ps) (more config ps p)
unfolding received noted more heard_of
received_more config ps p =
    ap (λ u. record { written = records u; noted = noted config ps ++ lines_of (notes_of_packet config ps p) }) (units_by config (heard_of config.flow ps) p.place (hearing config.flow (packets_of ps) p.packet))
    ∙ ap (λ w. record { written = w; noted = noted config ps ++ lines_of (notes_of_packet config ps p) })
    (flat_map-append record_of (units_out config (history config (heard_of config.flow ps)) (tuned config (heard_of config.flow ps))) (handed_by config (heard_of config.flow ps) p.place (hearing config.flow (packets_of ps) p.packet)))

pub received_none : (config : Config) → received config [] ≡ nothing
unfolding received noted heard_of tuned
received_none config = refl
