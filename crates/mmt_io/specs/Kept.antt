-- What a port in memory keeps: its history, the bytes still to be read, and its room.
use Rattle.std.specs.Prelude.{◌≡◌, ℕ, ◌+◌, ◌≤◌, Bool, ◌||◌, nat_le, nat_lt, List, length}
use Rattle.mmt_io.specs.declared.log.Piece.{Piece}
use Rattle.mmt_io.specs.History.{Event, bytes_written, bytes_noted}
use Rattle.mmt_io.specs.Pieces.{total, at_read, at_write, at_note}

-- the history, the bytes still to be read, and the room: the most pieces of the history, and the most bytes of its pieces of
-- output and notes together
pub record Kept : Type 0 where
  pub history : List Event
  pub unread : List ℕ
  pub calls : ℕ
  pub bytes : ℕ

-- one more piece, with so many bytes of output or notes, would pass the room
abbrev pub passes_room : Kept → ℕ → Bool
passes_room kept size = nat_le kept.calls (length kept.history) || nat_lt kept.bytes (length (bytes_written kept.history) + length (bytes_noted kept.history) + size)

-- what always holds of the fields that keep it: the pieces account for the bytes, and the room was taken
pub record IsKept (input : List ℕ) (taken : ℕ) (written noted : List ℕ) (pieces : List Piece) (calls bytes written_room noted_room piece_room : ℕ) : Type 0 where
  pub within : taken ≤ length input
  pub read : total at_read pieces ≡ taken
  pub out : total at_write pieces ≡ length written
  pub note : total at_note pieces ≡ length noted
  pub used : length written + length noted ≤ bytes
  pub pieces_fit : calls ≤ piece_room
  pub written_fit : bytes ≤ written_room
  pub noted_fit : bytes ≤ noted_room
