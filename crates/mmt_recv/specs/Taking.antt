-- What a receiver does with a heard packet at its clock, once packets have left the window.
use Rattle.std.specs.Prelude.{◌≡◌, ℕ, max, List, [], ◌∷◌, map, length}
use Rattle.mmt_model.specs.declared.programmes.Params.{Params}
use Rattle.mmt_model.specs.Packets.{Heard}
use Rattle.mmt_model.specs.Keeping.{Outcome, bytes_of, kept_after, outcome}
use Rattle.mmt_model.specs.Entries.{Entry, learn, names_if_stored}
use Rattle.mmt_model.specs.Units.{names_of}
use Rattle.mmt_output.specs.declared.notes.Note.{Note}
use Rattle.mmt_output.specs.declared.notes.Note.TheVariants as notes
use Rattle.mmt_packet.specs.declared.packet.Packet.{Packet}
use Rattle.mmt_packet.specs.Spelling.{view as mmtp_of}
use Rattle.mmt_pool.specs.declared.types.NotStored.{NotStored}
use Rattle.mmt_pool.specs.declared.types.NotStored.TheVariants as why
use Rattle.mmt_pool.specs.Holding.{Holding, held}
use Rattle.mmt_times.specs.Known.{Known}
use Rattle.mmt_runs.specs.Reading.{heard}
use Rattle.mmt_tune.specs.Tuning.{HeardAt, heard_as}
use Rattle.mmt_naming.specs.declared.by.By.{By}
use Rattle.mmt_naming.specs.Findings.{Finding, findings_by, names_in, notes_of}
use Rattle.mmt_recv.specs.Noting.{PlacedNote, at_place, kind_notes, outcome_notes, payload_place}
use Rattle.mmt_recv.specs.declared.taking.Outcome.{Outcome as Answer}
use Rattle.mmt_recv.specs.declared.taking.Outcome.TheVariants as answers

-- a packet at a place, as it is heard
abbrev pub packet_at : ℕ → Packet → HeardAt
packet_at place packet = record { place = place; packet = mmtp_of packet }

-- a packet with what its payload spells
abbrev pub heard_packet : Packet → Heard
heard_packet packet = heard_as (mmtp_of packet)

-- by what a packet is taken: the timescale of descriptors without one, the values of tuning, the receiver's bound, and its clock
pub record Rules : Type 0 where
  pub timescale : ℕ
  pub values : Params
  pub bound : ℕ
  pub clock : ℕ

-- the rules that a packet's messages are read by, with the receiver's bound
abbrev pub rules_at : By → ℕ → Rules
rules_at by bound = record { timescale = by.timescale; values = by.tuned; bound = bound; clock = by.clock.0 }

-- the rules of keeping
abbrev pub keeping : Rules → Params
keeping r = record { bound = r.bound; window = r.values.window; delay = r.values.delay }

-- what becomes of a packet where these are still kept
abbrev pub outcome_by : Rules → List Heard → HeardAt → Outcome
outcome_by r rest h = outcome (keeping r) r.clock rest (heard_as h.packet)

-- what is kept once the packet was taken
abbrev pub kept_then : Rules → List Heard → HeardAt → List Heard
kept_then r rest h = kept_after (outcome_by r rest h) rest (heard_as h.packet)

-- what the messages of the packet say once it is kept
abbrev pub findings_then : Rules → List Heard → HeardAt → List Finding
findings_then r rest h = findings_by r.timescale r.values (kept_then r rest h) (heard_as h.packet) (heard_as h.packet).payload

-- what is noted of a packet, where these are still kept and these entries live (this project's rule)
abbrev pub notes_taken : Rules → List Heard → List Entry → HeardAt → List PlacedNote
notes_taken r rest live h =
    kind_notes h h.packet.kind (outcome_notes r.clock (bytes_of rest) (length h.packet.payload) h
    (at_place (payload_place h) (notes_of r.clock live (findings_then r rest h))) (outcome_by r rest h))

-- what is kept and which entries live once a packet was taken (this project's rule)
pub record Takes (r : Rules) (old : Holding) (live : Known) (h : HeardAt) (new : Holding) (next : Known) : Type 0 where
  pub kept : map heard new.kept ≡ kept_then r (map heard old.kept) h
  pub bound : new.bound ≡ old.bound
  pub peak : new.peak ≡ max old.peak (held new.kept)
  pub entries : next.entries ≡ learn r.clock live.entries (names_if_stored (outcome_by r (map heard old.kept) h) (names_of (names_in r.timescale) (kept_then r (map heard old.kept) h) (heard_as h.packet)))
  pub base : next.sample_base ≡ live.sample_base

-- the outcome that an answer tells of
abbrev pub answered : Answer → Outcome
answered answers.Unopened = Outcome.Unopened
answered answers.Late = Outcome.Late
answered answers.Repeat = Outcome.Repeat
answered answers.Full = Outcome.Full
answered answers.Stored = Outcome.Stored

-- what is noted of a packet that is not stored
abbrev pub reason_note : NotStored → List Note
reason_note (why.Late now) = notes.Late now ∷ []
reason_note why.Repeat = notes.Repeat ∷ []
reason_note (why.Full sum size) = notes.Full sum size ∷ []
reason_note why.OutOfMemory = []

-- the outcome of a packet that is not stored
abbrev pub reason_outcome : NotStored → Outcome
reason_outcome (why.Late now) = Outcome.Late
reason_outcome why.Repeat = Outcome.Repeat
reason_outcome (why.Full sum size) = Outcome.Full
reason_outcome why.OutOfMemory = Outcome.Stored
