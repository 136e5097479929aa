-- Reading a signalling message from left to right, up to the first refusal.
use Rattle.std.specs.Prelude.{ℕ, ◌+◌, ◌-◌, ◌*◌, ◌^◌, Bool, ◌&&◌, ◌==◌, nat_le, nat_lt, List, length, Result, Ok, if◌then◌else◌}
use Rattle.std.specs.Int.{w8, w16, w32}
use Rattle.mmt_base.specs.declared.refused.Refused.{Refused}
use Rattle.mmt_fields.specs.Reading.{◌>>=◌, number_at, bytes_at, check}
use Rattle.mmt_lists.specs.Counted.{counted_of}
use Rattle.mmt_sig.specs.declared.message.MessageWhy.{MessageWhy}
use Rattle.mmt_sig.specs.declared.message.MessageWhy.TheVariants as why
use Rattle.mmt_sig.specs.Tables.{OwnTable, listed_tables}
use Rattle.mmt_sig.specs.Message.{PaValue, HrbmValue, MessageValue, PaMessage, HrbmMessage, OtherMessage, hrbm_id}

-- a directory entry, one field of 32 bits (ISO/IEC 23008-1, PA message)
unfoldable pub listed_at : ℕ → List ℕ → Result (ℕ × List ℕ) (Refused MessageWhy)
listed_at at bytes = number_at w32 bytes at why.Short

-- a table by its own header, refused at its first byte where it does not fit (ISO/IEC 23008-1; the place is this project's rule)
unfoldable pub table_at : ℕ → List ℕ → Result (OwnTable × List ℕ) (Refused MessageWhy)
table_at at bytes = do
  id ← number_at w8 bytes at why.Short
  version ← number_at w8 id.1 at why.Short
  len ← number_at w16 version.1 at why.Short
  whole ← bytes_at (4 + len.0) bytes at why.Short
  Ok (record { id = id.0; version = version.0; bytes = whole.0 }, whole.1)

-- a PA message after its id: exactly as many tables as it says, and nothing after them (ISO/IEC 23008-1, PA message; this project's rule)
unfoldable pub pa_of : List ℕ → Result PaValue (Refused MessageWhy)
pa_of bytes = do
  version ← number_at w8 bytes 2 why.Short
  len ← number_at w32 version.1 3 why.Short
  whole ← check (length len.1 == len.0) 3 why.Length
  count ← number_at w8 len.1 7 why.Short
  listed ← counted_of count.0 listed_at 8 count.1
  tables ← counted_of count.0 table_at (8 + 4 * count.0) listed.1
  ended ← check (length tables.1 == 0) (7 + len.0 - length tables.1) why.Length
  Ok (record { version = version.0; tables = listed_tables listed.0 tables.0 })

-- whether a buffer message may carry the values (this project's rule)
abbrev pub are_right : ℕ → ℕ → ℕ → Bool
are_right bound window delay = nat_le 1 bound && (nat_le 1 delay && (nat_lt delay window && nat_le window (2 ^ 24)))

-- a buffer message after its id (this project's own)
unfoldable pub hrbm_of : List ℕ → Result HrbmValue (Refused MessageWhy)
hrbm_of bytes = do
  version ← number_at w8 bytes 2 why.Short
  len ← number_at w16 version.1 3 why.Short
  whole ← check ((len.0 == 12) && (length len.1 == len.0)) 3 why.Length
  bound ← number_at w32 len.1 5 why.Short
  window ← number_at w32 bound.1 9 why.Short
  delay ← number_at w32 window.1 13 why.Short
  right ← check (are_right bound.0 window.0 delay.0) 5 why.HrbmValues
  Ok (record { version = version.0; params = record { bound = bound.0; window = window.0; delay = delay.0 } })

-- what follows an id (ISO/IEC 23008-1, signalling messages)
unfoldable pub body_by : ℕ → List ℕ → Result MessageValue (Refused MessageWhy)
body_by id bytes = if id == 0 then (pa_of bytes >>= λ p. Ok (PaMessage p)) else (if id == hrbm_id then (hrbm_of bytes >>= λ h. Ok (HrbmMessage h)) else Ok (OtherMessage id bytes))

-- a message, field by field (ISO/IEC 23008-1, signalling messages; the order of the checks is this project's rule)
unfoldable pub message_of : List ℕ → Result MessageValue (Refused MessageWhy)
message_of bytes = do
  id ← number_at w16 bytes 0 why.Short
  body_by id.0 id.1
