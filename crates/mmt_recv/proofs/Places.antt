-- The notes of a packet lie within it.
use Rattle.std.proofs.Common.{◌≡◌, ℕ, ◌+◌, ◌≤◌, Bool, true, false, cond, List, [], ◌∷◌, length, Option, Some, None, Result, Ok, Err, sym, arith, ◌==◌}
use Rattle.std.proofs.lemmas.List.Elements.{All-nil, All-cons}
use Rattle.mmt_base.specs.declared.refused.Refused.{Refused}
use Rattle.mmt_model.specs.declared.programmes.Params.{Params}
use Rattle.mmt_model.specs.Packets.{Heard}
use Rattle.mmt_model.specs.Keeping.{Outcome, bytes_of}
use Rattle.mmt_model.specs.Sessions.{clock_of}
use Rattle.mmt_packet.specs.declared.packet.Kind.{Kind}
use Rattle.mmt_packet.specs.declared.packet.Kind.TheVariants as kinds
use Rattle.mmt_packet.specs.Spelling.{Value as Mmtp, head_length}
use Rattle.mmt_mpu.specs.Reading.{payload_of as mpu_of}
use Rattle.mmt_sig.specs.Payload.{Payload as Signals}
use Rattle.mmt_sig.specs.declared.head.SigWhy.{SigWhy}
use Rattle.mmt_sig.specs.PayloadReading.{payload_of as signals_of}
use Rattle.mmt_tune.specs.declared.config.Config.{Config}
use Rattle.mmt_hear.specs.declared.why.Why.{Why}
use Rattle.mmt_hear.specs.Hearing.{Hearing, hearing}
use Rattle.mmt_tune.specs.Tuning.{HeardAt, Placed, heard_as, heard_of, history, is_signalling, is_whole, packets_of, tuned}
use Rattle.mmt_naming.specs.Findings.{findings_by, notes_of}
use Rattle.mmt_output.specs.declared.notes.Note.{Note}
use Rattle.mmt_output.specs.declared.notes.Note.TheVariants as notes
use Rattle.mmt_recv.specs.Noting.{PlacedNote, at_place, heard_notes, kind_notes, notes_of_packet, outcome_notes, payload_place, tuned_notes, unless_refused, untuned_messages, untuned_notes, untuned_signals}
use Rattle.mmt_recv.specs.Session.{kept_by, live_of, outcome_of, rest_of}
use Rattle.mmt_recv.specs.Places.{LieBetween, LieWithin, end_of}
use Rattle.mmt_fields.proofs.Places.{IsWithin}
use Rattle.mmt_mpu.proofs.Places.{payload_within as mpu_within}
use Rattle.mmt_sig.proofs.Places.{payload_within as signals_within}

abbrev Between : ℕ → ℕ → PlacedNote → Type 0
Between first last n = (first ≤ n.place) × (n.place ≤ last)

-- no note, and one note
none : (first last : ℕ) → LieBetween first last []
none first last = All-nil (Between first last)

one : (first last : ℕ) (n : PlacedNote) → first ≤ n.place → n.place ≤ last → LieBetween first last (n ∷ [])
one first last n from to = All-cons (Between first last) n [] (from, to) (none first last)

all_at : (first last place : ℕ) (ns : List Note) → first ≤ place → place ≤ last → LieBetween first last (at_place place ns)
all_at first last place [] from to = none first last
all_at first last place (n ∷ ns) from to = All-cons (Between first last) (record { place = place; note = n }) (at_place place ns) (from, to) (all_at first last place ns from to)

module _ (h : HeardAt) where
  here : (n : Note) → LieWithin h (record { place = h.place; note = n } ∷ [])
  here n = one h.place (end_of h) (record { place = h.place; note = n }) (omega arith) (omega arith)

  at_payload : (ns : List Note) → LieWithin h (at_place (payload_place h) ns)
  at_payload ns = all_at h.place (end_of h) (payload_place h) ns (omega arith) (omega arith)

  outcome_within : (now held size : ℕ) (said : List PlacedNote) (o : Outcome) → LieWithin h said → LieWithin h (outcome_notes now held size h said o)
  outcome_within now held size said Outcome.Unopened lie = none h.place (end_of h)
  outcome_within now held size said Outcome.Late lie = here (notes.Late (record { 0 = now }))
  outcome_within now held size said Outcome.Repeat lie = here notes.Repeat
  outcome_within now held size said Outcome.Full lie = here (notes.Full held size)
  outcome_within now held size said Outcome.Stored lie = lie

  unless_within : {A W : Type 0} (told : W → Note) (read : Result A (Refused W)) (rest : List PlacedNote) → IsWithin (length h.packet.payload) read → LieWithin h rest → LieWithin h (unless_refused (payload_place h) told read rest)
  unless_within told (Ok v) rest refused lie = lie
  unless_within told (Err e) rest refused lie = one h.place (end_of h) (record { place = payload_place h + e.at; note = told e.why }) (omega arith) (omega arith)

  signals_or_elsewhere : (b : Bool) (rest : List PlacedNote) → LieWithin h rest
      → LieWithin h (cond b (unless_refused (payload_place h) notes.Signalling (signals_of h.packet.payload) rest) (record { place = h.place; note = notes.Elsewhere } ∷ []))
  signals_or_elsewhere true rest lie = unless_within notes.Signalling (signals_of h.packet.payload) rest (signals_within h.packet.payload) lie
  signals_or_elsewhere false rest lie = here notes.Elsewhere

  kind_within : (k : Kind) (rest : List PlacedNote) → LieWithin h rest → LieWithin h (kind_notes h k rest)
  kind_within kinds.Generic rest lie = here notes.Generic
  kind_within kinds.Mpu rest lie = unless_within notes.Mpu (mpu_of h.packet.payload) rest (mpu_within h.packet.payload) lie
  kind_within kinds.Signalling rest lie = signals_or_elsewhere (h.packet.packet_id == 0) rest lie

  tuned_within : (config : Config) (values : Params) (session : List Heard) → LieWithin h (tuned_notes config values session h)
  tuned_within config values session =
      let now = clock_of (heard_as h.packet ∷ session) in
      let held = bytes_of (rest_of config values (heard_as h.packet) session) in
      let said = notes_of now (live_of config values (heard_as h.packet) session) (findings_by config.timescale values (kept_by config values (heard_as h.packet ∷ session)) (heard_as h.packet) (heard_as h.packet).payload) in
      let becomes = outcome_of config values (heard_as h.packet) session in
      kind_within h.packet.kind (outcome_notes now held (length h.packet.payload) h (at_place (payload_place h) said) becomes) (outcome_within now held (length h.packet.payload) (at_place (payload_place h) said) becomes (at_payload said))

  whole_within : (bound : ℕ) (b : Bool) (v : Signals) → LieWithin h (cond b (at_place (payload_place h) (untuned_messages bound 0 v.messages)) [])
  whole_within bound true v = at_payload (untuned_messages bound 0 v.messages)
  whole_within bound false v = none h.place (end_of h)

  untuned_signals_within : (bound : ℕ) (read : Result Signals (Refused SigWhy)) → IsWithin (length h.packet.payload) read → LieWithin h (untuned_signals bound (payload_place h) read)
  untuned_signals_within bound (Ok v) refused = whole_within bound (is_whole v.head.part) v
  untuned_signals_within bound (Err e) refused = one h.place (end_of h) (record { place = payload_place h + e.at; note = notes.Signalling e.why }) (omega arith) (omega arith)

  if_signalling : (bound : ℕ) (b : Bool) → LieWithin h (cond b (untuned_signals bound (payload_place h) (signals_of h.packet.payload)) [])
  if_signalling bound true = untuned_signals_within bound (signals_of h.packet.payload) (signals_within h.packet.payload)
  if_signalling bound false = none h.place (end_of h)

  untuned_within : (bound : ℕ) → LieWithin h (untuned_notes bound h)
  untuned_within bound = if_signalling bound (is_signalling h.packet.kind h.packet.packet_id)

  -- the notes of a heard packet, tuned or not
  pub heard_within : (config : Config) (older : List HeardAt) (o : Option Params) → LieWithin h (heard_notes config older h o)
  heard_within config older None = untuned_within config.bound
  heard_within config older (Some values) = tuned_within config values (history config older)

-- ---- every packet

wider : (first last from to : ℕ) (ns : List PlacedNote) → from ≤ first → last ≤ to → LieBetween first last ns → LieBetween from to ns
wider first last from to ns before behind lie k n lt = let one = lie k n lt in (omega arith, omega arith)

-- a packet that is heard
pub places_heard : (config : Config) (ps : List Placed) (p : Placed) (m : Mmtp) (from size : ℕ) → Hearing.Heard m from ≡ hearing config.flow (packets_of ps) p.packet → from + head_length m + length m.payload ≡ size
    → LieBetween p.place (p.place + size) (notes_of_packet config ps p)
unfolding notes_of_packet
places_heard config ps p m from size is ends =
    let h : HeardAt = record { place = p.place + from; packet = m } in
    rw (sym is) (wider h.place (end_of h) p.place (p.place + size) _ (omega arith) (omega arith) (heard_within h config (heard_of config.flow ps) (tuned config (h ∷ heard_of config.flow ps))))

-- a packet that is none of ours
pub places_not_ours : (config : Config) (ps : List Placed) (p : Placed) (size : ℕ) → Hearing.NotOurs ≡ hearing config.flow (packets_of ps) p.packet → LieBetween p.place (p.place + size) (notes_of_packet config ps p)
unfolding notes_of_packet
places_not_ours config ps p size is = rw (sym is) (none p.place (p.place + size))

-- a packet that is refused
pub places_refused : (config : Config) (ps : List Placed) (p : Placed) (at size : ℕ) (why : Why) → Hearing.Refusal at why ≡ hearing config.flow (packets_of ps) p.packet → at ≤ size → LieBetween p.place (p.place + size) (notes_of_packet config ps p)
unfolding notes_of_packet
places_refused config ps p at size why is le = rw (sym is) (one p.place (p.place + size) (record { place = p.place + at; note = notes.Hearing why }) (omega arith) (omega arith))
