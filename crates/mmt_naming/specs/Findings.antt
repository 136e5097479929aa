-- What the messages of a stored signalling packet say to a receiver: the MPUs that they name, and what is noted. M is the number of a message among those of its packet, and 0 for one that was joined from parts.
use Rattle.std.specs.Prelude.{ℕ, ◌+◌, ◌*◌, Bool, ◌&&◌, ◌==◌, List, [], ◌∷◌, ◌++◌, map, length, Result, Ok, Err, if◌then◌else◌}
use Rattle.std.specs.List.{flat_map}
use Rattle.mmt_base.specs.declared.refused.Refused.{Refused}
use Rattle.mmt_model.specs.declared.programmes.Params.{Params}
use Rattle.mmt_model.specs.declared.keys.Part.TheVariants as parts
use Rattle.mmt_model.specs.Packets.{Heard, Payload}
use Rattle.mmt_model.specs.Entries.{Entry, learn_one}
use Rattle.mmt_model.specs.Units.{Message}
use Rattle.mmt_sig.specs.declared.message.MessageWhy.{MessageWhy}
use Rattle.mmt_sig.specs.Tables.{ListedTable}
use Rattle.mmt_sig.specs.Message.{MessageValue, PaMessage, HrbmMessage, OtherMessage}
use Rattle.mmt_sig.specs.MessageReading.{message_of}
use Rattle.mmt_mpt.specs.declared.mpt_why.MptWhy.{MptWhy}
use Rattle.mmt_mpt.specs.Table.{MptValue, mpt_id}
use Rattle.mmt_mpt.specs.TableReading.{mpt_of}
use Rattle.mmt_times.specs.NamesOf.{NamedValue, IsEntry, IsRefused, names_of}
use Rattle.mmt_times.specs.Learning.{Verdict, verdict}
use Rattle.mmt_runs.specs.Messages.{messages_with, is_short}
use Rattle.mmt_output.specs.declared.notes.Note.{Note}
use Rattle.mmt_output.specs.declared.notes.Note.TheVariants as notes

-- a note, or the entry of an MPU that a message names
pub data Finding : Type 0 where
  Remark : Note → Finding
  Naming : (message : ℕ) → Entry → Finding

-- ---- the names alone

-- the entries among the names of a table
abbrev pub entry_in : NamedValue → List Entry
entry_in (IsEntry e) = e ∷ []
entry_in (IsRefused at why) = []

-- the entries of a table that is an MPT, with the configured timescale (ARIB STD-B60, the MPT)
abbrev pub entries_by : ℕ → Result MptValue (Refused MptWhy) → List Entry
entries_by timescale (Ok m) = flat_map entry_in (names_of timescale m)
entries_by timescale (Err e) = []

-- the entries of a table of a PA message
abbrev pub entries_of_table : ℕ → ListedTable → List Entry
entries_of_table timescale t = if t.id == mpt_id then entries_by timescale (mpt_of t.bytes) else []

-- the entries of a message: those of the MPTs of a PA message, in order (ISO/IEC 23008-1, PA message)
abbrev pub entries_of_message : ℕ → Result MessageValue (Refused MessageWhy) → List Entry
entries_of_message timescale (Ok (PaMessage p)) = flat_map (entries_of_table timescale) p.tables
entries_of_message timescale (Ok (HrbmMessage h)) = []
entries_of_message timescale (Ok (OtherMessage id bytes)) = []
entries_of_message timescale (Err e) = []

-- the entries that the bytes of a message name
unfoldable pub names_in : ℕ → List ℕ → List Entry
names_in timescale bytes = entries_of_message timescale (message_of bytes)

-- ---- the names with what is noted

-- a name of the table at a place of message M
abbrev pub finding_of : ℕ → ℕ → NamedValue → Finding
finding_of message at (IsEntry e) = Naming message e
finding_of message at (IsRefused inner why) = Remark (notes.Times message (at + inner) why)

-- an MPT at a place of message M: its names, or its refusal (this project's rule)
abbrev pub findings_of_mpt : ℕ → ℕ → ℕ → Result MptValue (Refused MptWhy) → List Finding
findings_of_mpt timescale message at (Ok m) = map (finding_of message at) (names_of timescale m)
findings_of_mpt timescale message at (Err e) = Remark (notes.Mpt message (at + e.at) e.why) ∷ []

-- a table at a place of message M
abbrev pub findings_of_table : ℕ → ℕ → ℕ → ListedTable → List Finding
findings_of_table timescale message at t = if t.id == mpt_id then findings_of_mpt timescale message at (mpt_of t.bytes) else []

-- tables that follow one another from a place of message M on
unfoldable pub findings_of_tables : ℕ → ℕ → ℕ → List ListedTable → List Finding
findings_of_tables timescale message at [] = []
findings_of_tables timescale message at (t ∷ ts) = findings_of_table timescale message at t ++ findings_of_tables timescale message (at + length t.bytes) ts

-- two buffer messages have the same values
abbrev pub are_same : Params → Params → Bool
are_same p q = (p.bound == q.bound) && ((p.window == q.window) && (p.delay == q.delay))

-- message M, where the receiver was tuned by these values; the first table of a PA message stands after its directory (this project's rule)
abbrev pub findings_of_message : ℕ → Params → ℕ → Result MessageValue (Refused MessageWhy) → List Finding
findings_of_message timescale tuned message (Ok (PaMessage p)) = findings_of_tables timescale message (8 + 4 * length p.tables) p.tables
findings_of_message timescale tuned message (Ok (HrbmMessage h)) = if are_same h.params tuned then [] else Remark (notes.HrbmDiffers message) ∷ []
findings_of_message timescale tuned message (Ok (OtherMessage id bytes)) = []
findings_of_message timescale tuned message (Err e) = Remark (notes.Message message e.at e.why) ∷ []

-- the bytes of message M
unfoldable pub findings_in : ℕ → Params → ℕ → List ℕ → List Finding
findings_in timescale tuned message bytes = findings_of_message timescale tuned message (message_of bytes)

-- messages that follow one another, numbered from M on
unfoldable pub findings_from : ℕ → Params → ℕ → List (List ℕ) → List Finding
findings_from timescale tuned message [] = []
findings_from timescale tuned message (m ∷ ms) = findings_in timescale tuned message m ++ findings_from timescale tuned (message + 1) ms

-- a message that was joined from parts is read where it has at most 131,072 bytes (this project's limit)
abbrev pub findings_of_joined : ℕ → Params → Message → List Finding
findings_of_joined timescale tuned m = if is_short m then findings_in timescale tuned 0 m.bytes else Remark (notes.MessageLong 0 (length m.bytes)) ∷ []

-- the messages of a packet's payload where they are whole, otherwise the one that the packet is a part of among the kept packets (ISO/IEC 23008-1, the signalling payload)
abbrev pub findings_by : ℕ → Params → List Heard → Heard → Payload → List Finding
findings_by timescale tuned kept h (Payload.Signalling parts.Whole messages) = findings_from timescale tuned 0 messages
findings_by timescale tuned kept h (Payload.Signalling parts.First messages) = flat_map (findings_of_joined timescale tuned) (messages_with kept h.packet_id h.number)
findings_by timescale tuned kept h (Payload.Signalling parts.Middle messages) = flat_map (findings_of_joined timescale tuned) (messages_with kept h.packet_id h.number)
findings_by timescale tuned kept h (Payload.Signalling parts.Last messages) = flat_map (findings_of_joined timescale tuned) (messages_with kept h.packet_id h.number)
findings_by timescale tuned kept h (Payload.Media part timed mpu data_units) = []
findings_by timescale tuned kept h Payload.Other = []

-- ---- what becomes of findings

-- the entry that a finding names
abbrev pub name_in : Finding → List Entry
name_in (Remark note) = []
name_in (Naming message e) = e ∷ []

-- the entries that findings name
abbrev pub names_among : List Finding → List Entry
names_among fs = flat_map name_in fs

-- what is noted of an entry: where it is left out because another is kept or 1,024 are (this project's rule)
abbrev pub notes_of_name : ℕ → Entry → Verdict → List Note
notes_of_name message e Verdict.New = []
notes_of_name message e Verdict.Known = []
notes_of_name message e (Verdict.Differs kept) = notes.NamesDiffer message e.packet_id e.mpu ∷ []
notes_of_name message e Verdict.Past = []
notes_of_name message e Verdict.EntriesFull = notes.NamesFull message e.packet_id e.mpu ∷ []

-- what is noted of findings at a clock, where the entries live that were kept and those that the findings before add
unfoldable pub notes_of : ℕ → List Entry → List Finding → List Note
notes_of now live [] = []
notes_of now live (Remark note ∷ fs) = note ∷ notes_of now live fs
notes_of now live (Naming message e ∷ fs) = notes_of_name message e (verdict now live e) ++ notes_of now (learn_one now live e) fs
