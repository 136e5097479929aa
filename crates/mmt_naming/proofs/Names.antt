-- The names among findings are the names in messages.
use Rattle.std.proofs.Common.{◌≡◌, ℕ, ◌+◌, Bool, true, false, ◌==◌, cond, List, [], ◌∷◌, ◌++◌, map, length, refl, ap, ap₂, sym, ◌∙◌}
use Rattle.std.specs.Prelude.{Result, Ok, Err}
use Rattle.std.specs.List.{flat_map, filter}
use Rattle.mmt_base.specs.declared.refused.Refused.{Refused}
use Rattle.mmt_model.specs.declared.programmes.Params.{Params}
use Rattle.mmt_model.specs.declared.keys.Part.TheVariants as parts
use Rattle.mmt_model.specs.Packets.{Heard, Payload}
use Rattle.mmt_model.specs.Units.{Message, messages_by, part_messages, names_of as names_by}
use Rattle.mmt_sig.specs.declared.message.MessageWhy.{MessageWhy}
use Rattle.mmt_sig.specs.Tables.{ListedTable}
use Rattle.mmt_sig.specs.Message.{MessageValue, PaMessage, HrbmMessage, OtherMessage}
use Rattle.mmt_sig.specs.MessageReading.{message_of}
use Rattle.mmt_mpt.specs.declared.mpt_why.MptWhy.{MptWhy}
use Rattle.mmt_mpt.specs.Table.{MptValue, mpt_id}
use Rattle.mmt_mpt.specs.TableReading.{mpt_of}
use Rattle.mmt_times.specs.NamesOf.{NamedValue, IsEntry, IsRefused, names_of}
use Rattle.mmt_runs.specs.Messages.{messages_with, is_short, short_bytes}
use Rattle.mmt_runs.proofs.Whole.{short_messages}
use Rattle.mmt_output.specs.declared.notes.Note.TheVariants as notes
use Rattle.mmt_naming.specs.Findings.{Remark, names_among, entry_in, entries_by, entries_of_table, entries_of_message, names_in, finding_of, findings_of_mpt, findings_of_table, findings_of_tables, are_same, findings_of_message, findings_in, findings_from, findings_of_joined, findings_by}
use Rattle.mmt_naming.proofs.Taking.{names_both}

-- ---- one message

names_of_names : (message at : ℕ) (ns : List NamedValue) → names_among (map (finding_of message at) ns) ≡ flat_map entry_in ns
names_of_names message at [] = refl
names_of_names message at (IsEntry e ∷ ns) = ap (λ es. e ∷ es) (names_of_names message at ns)
names_of_names message at (IsRefused inner why ∷ ns) = names_of_names message at ns

names_of_mpt : (timescale message at : ℕ) (m : Result MptValue (Refused MptWhy)) → names_among (findings_of_mpt timescale message at m) ≡ entries_by timescale m
names_of_mpt timescale message at (Ok m) = names_of_names message at (names_of timescale m)
names_of_mpt timescale message at (Err e) = refl

names_of_table : (timescale message at : ℕ) (t : ListedTable) → names_among (findings_of_table timescale message at t) ≡ entries_of_table timescale t
names_of_table timescale message at t = go (t.id == mpt_id)
  where
    go : (b : Bool) → names_among (cond b (findings_of_mpt timescale message at (mpt_of t.bytes)) []) ≡ cond b (entries_by timescale (mpt_of t.bytes)) []
    go true = names_of_mpt timescale message at (mpt_of t.bytes)
    go false = refl

names_of_tables : (timescale message at : ℕ) (ts : List ListedTable) → names_among (findings_of_tables timescale message at ts) ≡ flat_map (entries_of_table timescale) ts
unfolding findings_of_tables
names_of_tables timescale message at [] = refl
names_of_tables timescale message at (t ∷ ts) =
    names_both (findings_of_table timescale message at t) (findings_of_tables timescale message (at + length t.bytes) ts)
    ∙ ap₂ (λ x y. x ++ y) (names_of_table timescale message at t) (names_of_tables timescale message (at + length t.bytes) ts)

names_of_message : (timescale : ℕ) (tuned : Params) (message : ℕ) (m : Result MessageValue (Refused MessageWhy)) → names_among (findings_of_message timescale tuned message m) ≡ entries_of_message timescale m
names_of_message timescale tuned message (Ok (PaMessage p)) = names_of_tables timescale message _ p.tables
names_of_message timescale tuned message (Ok (HrbmMessage h)) = go (are_same h.params tuned)
  where
    go : (b : Bool) → names_among (cond b [] (Remark (notes.HrbmDiffers message) ∷ [])) ≡ []
    go true = refl
    go false = refl
names_of_message timescale tuned message (Ok (OtherMessage id bytes)) = refl
names_of_message timescale tuned message (Err e) = refl

-- the names among the findings of a message are the names in it
pub names_of_in : (timescale : ℕ) (tuned : Params) (message : ℕ) (bytes : List ℕ) → names_among (findings_in timescale tuned message bytes) ≡ names_in timescale bytes
unfolding findings_in names_in
names_of_in timescale tuned message bytes = names_of_message timescale tuned message (message_of bytes)

-- ---- several messages

-- the same of messages that follow one another
pub names_of_from : (timescale : ℕ) (tuned : Params) (message : ℕ) (ms : List (List ℕ)) → names_among (findings_from timescale tuned message ms) ≡ flat_map (names_in timescale) ms
unfolding findings_from
names_of_from timescale tuned message [] = refl
names_of_from timescale tuned message (m ∷ ms) =
    names_both (findings_in timescale tuned message m) (findings_from timescale tuned (message + 1) ms)
    ∙ ap₂ (λ x y. x ++ y) (names_of_in timescale tuned message m) (names_of_from timescale tuned (message + 1) ms)

-- the same of messages that were joined from parts, of which the long ones are not read
pub names_of_joined : (timescale : ℕ) (tuned : Params) (ms : List Message) → names_among (flat_map (findings_of_joined timescale tuned) ms) ≡ flat_map (names_in timescale) (short_bytes ms)
names_of_joined timescale tuned [] = refl
names_of_joined timescale tuned (m ∷ ms) =
    names_both (findings_of_joined timescale tuned m) (flat_map (findings_of_joined timescale tuned) ms)
    ∙ (ap (λ x. names_among (findings_of_joined timescale tuned m) ++ x) (names_of_joined timescale tuned ms) ∙ go (is_short m))
  where
    go : (b : Bool) → names_among (cond b (findings_in timescale tuned 0 m.bytes) (Remark (notes.MessageLong 0 (length m.bytes)) ∷ [])) ++ flat_map (names_in timescale) (short_bytes ms) ≡ flat_map (names_in timescale) (map (λ m. m.bytes) (cond b (m ∷ filter is_short ms) (filter is_short ms)))
    go true = ap (λ x. x ++ flat_map (names_in timescale) (short_bytes ms)) (names_of_in timescale tuned 0 m.bytes)
    go false = refl

-- ---- the messages of a packet

names_of_parts : (timescale : ℕ) (tuned : Params) (kept : List Heard) (h : Heard) → names_among (flat_map (findings_of_joined timescale tuned) (messages_with kept h.packet_id h.number)) ≡ flat_map (names_in timescale) (part_messages kept h)
names_of_parts timescale tuned kept h =
    names_of_joined timescale tuned (messages_with kept h.packet_id h.number) ∙ ap (flat_map (names_in timescale)) (sym (short_messages kept h h.packet_id h.number refl refl))

names_of_payload : (timescale : ℕ) (tuned : Params) (kept : List Heard) (h : Heard) (p : Payload) → names_among (findings_by timescale tuned kept h p) ≡ flat_map (names_in timescale) (messages_by kept h p)
unfolding messages_by
names_of_payload timescale tuned kept h (Payload.Signalling parts.Whole messages) = names_of_from timescale tuned 0 messages
names_of_payload timescale tuned kept h (Payload.Signalling parts.First messages) = names_of_parts timescale tuned kept h
names_of_payload timescale tuned kept h (Payload.Signalling parts.Middle messages) = names_of_parts timescale tuned kept h
names_of_payload timescale tuned kept h (Payload.Signalling parts.Last messages) = names_of_parts timescale tuned kept h
names_of_payload timescale tuned kept h (Payload.Media part timed mpu data_units) = refl
names_of_payload timescale tuned kept h Payload.Other = refl

-- the names among the findings of a packet are the names in its messages
pub names_of_packet : (timescale : ℕ) (tuned : Params) (kept : List Heard) (h : Heard) → names_among (findings_by timescale tuned kept h h.payload) ≡ names_by (names_in timescale) kept h
unfolding names_by
names_of_packet timescale tuned kept h = names_of_payload timescale tuned kept h h.payload
