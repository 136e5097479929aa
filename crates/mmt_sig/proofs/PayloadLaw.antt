-- What is read as a signalling payload was spelled so, and what is spelled so is read.
use Rattle.std.proofs.Common.{◌≡◌, ℕ, ◌+◌, ◌/◌, ◌%◌, ◌<◌, Bool, true, false, ◌||◌, eqb, leb, List, [], ◌∷◌, ◌++◌, length, refl, sym, ap, ◌∙◌, append_assoc, arith}
use Rattle.std.specs.List.{flat_map}
use Rattle.std.specs.Int.{byte_len}
use Rattle.std.proofs.lemmas.Bool.{le-leb}
use Rattle.std.proofs.lemmas.List.{length-append, append-nil}
use Rattle.std.proofs.lemmas.List.Concat.{flat_map-cons}
use Rattle.mmt_fields.specs.Reading.{number_at, big_endian}
use Rattle.mmt_fields.proofs.Codec.{Stage, Field, Format, Always, field, field_of, checked, checked_rest, made, last, spelled}
use Rattle.mmt_fields.proofs.Numbers.{u8_field, u16_field, u32_field, bytes_field}
use Rattle.mmt_lists.proofs.CountedItems.{items_all}
use Rattle.mmt_sig.specs.declared.head.SigWhy.TheVariants as why
use Rattle.mmt_sig.specs.Payload.{flags, length_width, length_limit, message_bytes, itself, messages_bytes, spelling, MessageFits, MessagesFit, Fits}
use Rattle.mmt_model.specs.Parts.{part_of}
use Rattle.mmt_sig.specs.PayloadReading.{message_at, messages_of, payload_of}
use Rattle.mmt_sig.proofs.MessageSteps.{Step, message_shorter}
use Rattle.mmt_sig.proofs.Bits.{flags_below, flags_long, flags_aggregated, flags_reserved, flags_part, whole_right, whole_back, flags_again}

-- ---- a message after its length

length_field : (long : Bool) (at : ℕ) → Field (λ bytes. number_at (length_width long) bytes at why.Short) (big_endian (length_width long)) (λ n. n < length_limit long)
length_field true at = u32_field at why.Short
length_field false at = u16_field at why.Short

message_stage : (long : Bool) (at : ℕ) → Stage {V = Step} (λ p. MessageFits long p.0) Always Always (message_at long at) (λ p. big_endian (length_width long) (length p.0) ++ (p.0 ++ p.1))
unfolding message_at
message_stage long at =
    field _ (λ p. length p.0) (length_field long at) (λ v c f. f) (λ len len_lt.
    checked_rest (λ rest. leb len (length rest)) at why.Overrun _
    (λ v c f. let is_len : length v.0 ≡ len = c.0 in le-leb _ _ (omega (arith, length-append v.0 v.1))) (
    field _ (λ p. p.0) (bytes_field len (at + byte_len (length_width long)) why.Short) (λ v c f. c.0) (λ message message_len.
    made (λ p. p.1) (λ rest. (message, rest)) (λ rest are known. (refl, (refl, (message_len, tt)), rw message_len len_lt)) (λ v c f. rw (← c.0) refl))))

message_field : (long : Bool) (at : ℕ) → Field (message_at long at) (message_bytes long) (MessageFits long)
unfolding message_bytes
message_field long at = field_of (message_bytes long) (message_stage long at) (λ v. simp append_assoc)

-- ---- all messages, or the one that takes the rest

many_format : (long : Bool) → Format (MessagesFit true long) (messages_of true long) (messages_bytes true long)
unfolding messages_of messages_bytes
many_format long = items_all (message_at long) (message_bytes long) (MessageFits long) (message_shorter long) (message_field long) 2

alone : (bytes : List ℕ) → flat_map itself (bytes ∷ []) ≡ bytes
alone bytes = flat_map-cons itself bytes [] ∙ append-nil bytes

one_again : (ms : List (List ℕ)) → length ms ≡ 1 → flat_map itself ms ∷ [] ≡ ms
one_again [] e = absurd (omega arith)
one_again (m ∷ []) e = ap (λ (b : List ℕ). b ∷ []) (alone m)
one_again (m ∷ n ∷ ms) e = absurd (omega arith)

one_format : (long : Bool) → Format (MessagesFit false long) (messages_of false long) (messages_bytes false long)
unfolding messages_of messages_bytes
one_format long = made (flat_map itself) (λ bytes. bytes ∷ []) (λ bytes are known. (sym (alone bytes), tt, refl)) (λ ms c f. one_again ms f)

messages_format : (aggregated long : Bool) → Format (MessagesFit aggregated long) (messages_of aggregated long) (messages_bytes aggregated long)
messages_format true long = many_format long
messages_format false long = one_format long

-- ---- the payload

pub payload_format : Format Fits payload_of spelling
unfolding payload_of spelling
payload_format =
    field _ (λ v. flags v.head) (u8_field 0 why.Short) (λ v c f. flags_below v.head f.reserved) (λ a a_lt.
    checked (eqb (a % 2) 0 || eqb (a / 64) 0) 0 why.AggregatedPart _ (λ v c f. rw (← c.0) (whole_right v.head f.reserved f.part)) (λ whole.
    field _ (λ v. v.head.counter) (u8_field 1 why.Short) (λ v c f. f.counter) (λ counter counter_lt.
    spelled (λ v. messages_bytes (eqb (a % 2) 1) (eqb (a / 2 % 2) 1) v.messages) (λ v c f. rw (← c.1.0, flags_aggregated v.head f.reserved, flags_long v.head f.reserved) refl) (
    last (λ found. record { head = record { part = part_of (a / 64); reserved = a / 4 % 16; long = eqb (a / 2 % 2) 1; aggregated = eqb (a % 2) 1; counter = counter }; messages = found }) (λ v. v.messages)
    (messages_format (eqb (a % 2) 1) (eqb (a / 2 % 2) 1))
    (λ v c f. rw (← c.1.0, flags_aggregated v.head f.reserved, flags_long v.head f.reserved) f.messages)
    (λ x fits known. (refl, (refl, (flags_again a a_lt, tt)), record { part = whole_back a whole; reserved = omega arith; counter = counter_lt; messages = fits }))
    (λ v c f.
    let part : part_of (a / 64) ≡ v.head.part = rw (← c.1.0) (flags_part v.head f.reserved) in
    let reserved : a / 4 % 16 ≡ v.head.reserved = rw (← c.1.0) (flags_reserved v.head f.reserved) in
    let long : eqb (a / 2 % 2) 1 ≡ v.head.long = rw (← c.1.0) (flags_long v.head f.reserved) in
    let aggregated : eqb (a % 2) 1 ≡ v.head.aggregated = rw (← c.1.0) (flags_aggregated v.head f.reserved) in
    rw (part, reserved, long, aggregated, ← c.0) refl)))))
