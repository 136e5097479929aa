-- Reading a signalling payload from left to right, up to the first refusal.
use Rattle.std.specs.Prelude.{ℕ, ◌+◌, ◌/◌, ◌%◌, Bool, true, false, ◌||◌, ◌==◌, nat_le, List, [], ◌∷◌, length, Result, Ok}
use Rattle.std.specs.Int.{w8, byte_len}
use Rattle.mmt_base.specs.declared.refused.Refused.{Refused}
use Rattle.mmt_fields.specs.Reading.{◌>>=◌, number_at, bytes_at, check}
use Rattle.mmt_fields.specs.Items.{items_of}
use Rattle.mmt_model.specs.Parts.{part_of}
use Rattle.mmt_sig.specs.declared.head.SigWhy.{SigWhy}
use Rattle.mmt_sig.specs.declared.head.SigWhy.TheVariants as why
use Rattle.mmt_sig.specs.Payload.{Payload, length_width}

-- one of several messages: its length, which must not pass the end, and its bytes (ISO/IEC 23008-1)
unfoldable pub message_at : Bool → ℕ → List ℕ → Result (List ℕ × List ℕ) (Refused SigWhy)
message_at long at bytes = do
  len ← number_at (length_width long) bytes at why.Short
  whole ← check (nat_le len.0 (length len.1)) at why.Overrun
  message ← bytes_at len.0 len.1 (at + byte_len (length_width long)) why.Short
  Ok (message.0, message.1)

-- all messages where A is 1, and else the one message that takes the rest (ISO/IEC 23008-1)
unfoldable pub messages_of : Bool → Bool → List ℕ → Result (List (List ℕ)) (Refused SigWhy)
messages_of true long bytes = items_of (message_at long) 2 bytes
messages_of false long bytes = Ok (bytes ∷ [])

-- a payload, field by field (ISO/IEC 23008-1; the order of the checks is this project's rule)
unfoldable pub payload_of : List ℕ → Result Payload (Refused SigWhy)
payload_of bytes = do
  a ← number_at w8 bytes 0 why.Short
  whole ← check ((a.0 % 2 == 0) || (a.0 / 64 == 0)) 0 why.AggregatedPart
  counter ← number_at w8 a.1 1 why.Short
  messages ← messages_of (a.0 % 2 == 1) (a.0 / 2 % 2 == 1) counter.1
  Ok (record { head = record { part = part_of (a.0 / 64); reserved = a.0 / 4 % 16; long = (a.0 / 2 % 2 == 1); aggregated = (a.0 % 2 == 1); counter = counter.0 }; messages = messages })
