-- What a receiver notes of a packet. Lists of packets have the newest first.
use Rattle.std.specs.Prelude.{ℕ, ◌+◌, ◌==◌, nat_le, List, [], ◌∷◌, ◌++◌, map, length, Option, Some, None, Result, Ok, Err, if◌then◌else◌}
use Rattle.std.specs.List.{flat_map}
use Rattle.mmt_base.specs.declared.refused.Refused.{Refused}
use Rattle.mmt_model.specs.declared.programmes.Params.{Params}
use Rattle.mmt_model.specs.Packets.{Heard}
use Rattle.mmt_model.specs.Keeping.{Outcome, bytes_of}
use Rattle.mmt_packet.specs.declared.packet.Kind.{Kind}
use Rattle.mmt_packet.specs.declared.packet.Kind.TheVariants as kinds
use Rattle.mmt_packet.specs.Spelling.{head_length}
use Rattle.mmt_mpu.specs.Reading.{payload_of as mpu_of}
use Rattle.mmt_sig.specs.declared.head.SigWhy.{SigWhy}
use Rattle.mmt_sig.specs.declared.message.MessageWhy.{MessageWhy}
use Rattle.mmt_sig.specs.declared.message.MessageWhy.TheVariants as message_why
use Rattle.mmt_sig.specs.Payload.{Payload as Signals}
use Rattle.mmt_sig.specs.PayloadReading.{payload_of as signals_of}
use Rattle.mmt_sig.specs.Message.{MessageValue, PaMessage, HrbmMessage, OtherMessage}
use Rattle.mmt_sig.specs.MessageReading.{message_of}
use Rattle.mmt_hear.specs.Hearing.{Hearing, hearing}
use Rattle.mmt_tune.specs.declared.config.Config.{Config}
use Rattle.mmt_tune.specs.Tuning.{Placed, HeardAt, packets_of, heard_of, heard_as, is_signalling, is_whole, tuned, history}
use Rattle.mmt_naming.specs.Findings.{findings_by, notes_of}
use Rattle.mmt_output.specs.Notes.{note_text}
use Rattle.mmt_output.specs.declared.notes.Note.{Note}
use Rattle.mmt_output.specs.declared.notes.Note.TheVariants as notes
use Rattle.mmt_model.specs.Sessions.{clock_of}
use Rattle.mmt_recv.specs.Session.{rest_of, outcome_of, kept_by, live_of}

-- a note with its place: the count of bytes before it in the stream
pub record PlacedNote : Type 0 where
  pub place : ℕ
  pub note : Note

-- notes of one place
abbrev pub at_place : ℕ → List Note → List PlacedNote
at_place place ns = map (λ n. record { place = place; note = n }) ns

-- the place of a packet's payload
abbrev pub payload_place : HeardAt → ℕ
payload_place h = h.place + head_length h.packet

-- ---- before the packet that tunes

-- the refusal of message M before tuning: only that of values that no buffer can have is noted (this project's rule)
abbrev pub untuned_refusal : ℕ → ℕ → MessageWhy → List Note
untuned_refusal m at message_why.HrbmValues = notes.Message m at message_why.HrbmValues ∷ []
untuned_refusal m at message_why.Short = []
untuned_refusal m at message_why.Length = []

-- message M before tuning: a buffer message with values that no buffer can have, or for more bytes than the bound; nothing else is noted (this project's rule)
abbrev pub untuned_message : ℕ → ℕ → Result MessageValue (Refused MessageWhy) → List Note
untuned_message bound m (Ok (HrbmMessage h)) = if nat_le h.params.bound bound then [] else notes.HrbmBound m h.params.bound bound ∷ []
untuned_message bound m (Ok (PaMessage p)) = []
untuned_message bound m (Ok (OtherMessage id bytes)) = []
untuned_message bound m (Err e) = untuned_refusal m e.at e.why

-- messages before tuning, numbered from M on
unfoldable pub untuned_messages : ℕ → ℕ → List (List ℕ) → List Note
untuned_messages bound m [] = []
untuned_messages bound m (b ∷ bs) = untuned_message bound m (message_of b) ++ untuned_messages bound (m + 1) bs

-- a signalling payload before tuning: its refusal at its place, or its messages where they are whole (this project's rule)
abbrev pub untuned_signals : ℕ → ℕ → Result Signals (Refused SigWhy) → List PlacedNote
untuned_signals bound place (Ok v) = if is_whole v.head.part then at_place place (untuned_messages bound 0 v.messages) else []
untuned_signals bound place (Err e) = record { place = place + e.at; note = notes.Signalling e.why } ∷ []

-- a heard packet before tuning: only signalling on packet id 0 is noted (this project's rule)
abbrev pub untuned_notes : ℕ → HeardAt → List PlacedNote
untuned_notes bound h = if is_signalling h.packet.kind h.packet.packet_id then untuned_signals bound (payload_place h) (signals_of h.packet.payload) else []

-- ---- from the packet that tunes on

-- a packet by its outcome: a note where it is not stored, otherwise what its messages say (this project's rule)
abbrev pub outcome_notes : ℕ → ℕ → ℕ → HeardAt → List PlacedNote → Outcome → List PlacedNote
outcome_notes now held length h said Outcome.Unopened = []
outcome_notes now held length h said Outcome.Late = record { place = h.place; note = notes.Late (record { 0 = now }) } ∷ []
outcome_notes now held length h said Outcome.Repeat = record { place = h.place; note = notes.Repeat } ∷ []
outcome_notes now held length h said Outcome.Full = record { place = h.place; note = notes.Full held length } ∷ []
outcome_notes now held length h said Outcome.Stored = said

-- a payload that is refused is noted at its place; else the rest is
abbrev pub unless_refused : {A W : Type 0} → ℕ → (W → Note) → Result A (Refused W) → List PlacedNote → List PlacedNote
unless_refused place told (Ok v) rest = rest
unless_refused place told (Err e) rest = record { place = place + e.at; note = told e.why } ∷ []

-- a packet by its kind: generic objects and signalling on another packet id than 0 are not read; else the refusal of the payload comes first, and then the outcome (this project's rule)
abbrev pub kind_notes : HeardAt → Kind → List PlacedNote → List PlacedNote
kind_notes h kinds.Generic rest = record { place = h.place; note = notes.Generic } ∷ []
kind_notes h kinds.Mpu rest = unless_refused (payload_place h) notes.Mpu (mpu_of h.packet.payload) rest
kind_notes h kinds.Signalling rest =
    if h.packet.packet_id == 0 then unless_refused (payload_place h) notes.Signalling (signals_of h.packet.payload) rest
    else record { place = h.place; note = notes.Elsewhere } ∷ []

-- what the messages of a packet say, the newest of a session, of which the older heard packets are these (this project's rule)
abbrev pub said_by : Config → Params → List Heard → HeardAt → List PlacedNote
said_by config values older h =
    at_place (payload_place h) (notes_of (clock_of (heard_as h.packet ∷ older)) (live_of config values (heard_as h.packet) older)
    (findings_by config.timescale values (kept_by config values (heard_as h.packet ∷ older)) (heard_as h.packet) (heard_as h.packet).payload))

-- the notes of the newest packet of a session, of which the older heard packets are these (this project's rule)
abbrev pub tuned_notes : Config → Params → List Heard → HeardAt → List PlacedNote
tuned_notes config values older h =
    kind_notes h h.packet.kind (outcome_notes (clock_of (heard_as h.packet ∷ older)) (bytes_of (rest_of config values (heard_as h.packet) older)) (length h.packet.payload) h
    (said_by config values older h) (outcome_of config values (heard_as h.packet) older))

-- ---- every packet

-- the notes of a heard packet, by the session that it stands in (this project's rule)
abbrev pub heard_notes : Config → List HeardAt → HeardAt → Option Params → List PlacedNote
heard_notes config older h None = untuned_notes config.bound h
heard_notes config older h (Some values) = tuned_notes config values (history config older) h

-- the notes of a packet at a place by what it is heard as, of which the older heard packets are these
abbrev pub notes_by : Config → List HeardAt → ℕ → Hearing → List PlacedNote
notes_by config older place (Hearing.Heard p from) = heard_notes config older (record { place = place + from; packet = p }) (tuned config (record { place = place + from; packet = p } ∷ older))
notes_by config older place Hearing.NotOurs = []
notes_by config older place (Hearing.Refusal at why) = record { place = place + at; note = notes.Hearing why } ∷ []

-- the notes of a packet after older ones (this project's rule)
unfoldable pub notes_of_packet : Config → List Placed → Placed → List PlacedNote
notes_of_packet config older p = notes_by config (heard_of config.flow older) p.place (hearing config.flow (packets_of older) p.packet)

-- the lines of notes
abbrev pub lines_of : List PlacedNote → List ℕ
lines_of ns = flat_map (λ n. note_text n.place n.note) ns

-- all notes of a stream, as lines (this project's rule)
unfoldable pub noted : Config → List Placed → List ℕ
noted config [] = []
noted config (p ∷ older) = noted config older ++ lines_of (notes_of_packet config older p)
