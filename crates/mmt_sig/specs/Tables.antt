-- The tables of a PA message (ISO/IEC 23008-1, PA message).
use Rattle.std.specs.Prelude.{◌≡◌, ℕ, ◌+◌, ◌-◌, ◌*◌, ◌^◌, ◌<◌, List, [], ◌∷◌, ◌++◌, length, take, drop, slice_index}
use Rattle.std.specs.Int.{w8, w16}
use Rattle.mmt_fields.specs.Reading.{big_endian}

-- a table: its own id and version, and its bytes with its header (ISO/IEC 23008-1)
pub record OwnTable : Type 0 where
  pub id : ℕ
  pub version : ℕ
  pub bytes : List ℕ

-- a table with the directory entry that lists it (ISO/IEC 23008-1; that the entry is free is this project's rule)
pub record ListedTable : Type 0 where
  pub id : ℕ
  pub version : ℕ
  pub listed : ℕ
  pub bytes : List ℕ

-- the table alone
abbrev pub own : ListedTable → OwnTable
own t = record { id = t.id; version = t.version; bytes = t.bytes }

-- a table's bytes begin with its id, its version and a length that counts the bytes after these four (ISO/IEC 23008-1)
pub record IsTable (t : OwnTable) : Type 0 where
  pub id : t.id < 2 ^ 8
  pub version : t.version < 2 ^ 8
  pub len : length t.bytes < 4 + 2 ^ 16
  pub header : t.bytes ≡ big_endian w8 t.id ++ (big_endian w8 t.version ++ (big_endian w16 (length t.bytes - 4) ++ drop 4 t.bytes))

-- each directory entry with the table that it lists
abbrev pub listed_tables : List ℕ → List OwnTable → List ListedTable
listed_tables [] ts = []
listed_tables (n ∷ ns) [] = []
listed_tables (n ∷ ns) (t ∷ ts) = record { id = t.id; version = t.version; listed = n; bytes = t.bytes } ∷ listed_tables ns ts

-- the table that a sender lists: by its own id and version and the length of the whole table (this project's rule)
abbrev pub sent_table : List ℕ → ListedTable
sent_table bytes = record { id = slice_index bytes 0; version = slice_index bytes 1; listed = slice_index bytes 0 * 2 ^ 24 + slice_index bytes 1 * 2 ^ 16 + length bytes; bytes = bytes }

-- the third and fourth byte of a table count the bytes after these four (ISO/IEC 23008-1)
abbrev pub HasOwnLength : List ℕ → Type 0
HasOwnLength bytes = take 2 (drop 2 bytes) ≡ big_endian w16 (length bytes - 4)
