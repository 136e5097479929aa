-- Signalling messages (ISO/IEC 23008-1, signalling messages), and their one spelling.
use Rattle.std.specs.Prelude.{◌≡◌, ℕ, ◌^◌, ◌<◌, ◌≤◌, List, ◌++◌, length, map}
use Rattle.std.specs.List.{flat_map, All}
use Rattle.std.specs.Int.{w8, w16, w32}
use Rattle.mmt_fields.specs.Reading.{big_endian}
use Rattle.mmt_model.specs.declared.programmes.Params.{Params}
use Rattle.mmt_sig.specs.Tables.{ListedTable, IsTable, own}

-- a PA message: its version and its tables (ISO/IEC 23008-1, PA message)
pub record PaValue : Type 0 where
  pub version : ℕ
  pub tables : List ListedTable

-- a buffer message: its version, and the bound, the window and the delay (this project's own message, after the HRBM message of ISO/IEC 23008-1)
pub record HrbmValue : Type 0 where
  pub version : ℕ
  pub params : Params

-- a message: a PA message, a buffer message, or the bytes after any other id (ISO/IEC 23008-1)
pub data MessageValue : Type 0 where
  PaMessage : PaValue → MessageValue
  HrbmMessage : HrbmValue → MessageValue
  OtherMessage : (id : ℕ) (bytes : List ℕ) → MessageValue

-- the id of the buffer message, 0xF100 (this project's own)
abbrev pub hrbm_id : ℕ
hrbm_id = 61696

-- the bytes after a PA message's length: the number of tables, the directory and the tables (ISO/IEC 23008-1, PA message)
unfoldable pub pa_inner : List ListedTable → List ℕ
pa_inner ts = big_endian w8 (length ts) ++ (flat_map (big_endian w32) (map (λ t. t.listed) ts) ++ flat_map (λ t. t.bytes) (map own ts))

-- the bytes of a PA message after its id (ISO/IEC 23008-1, PA message)
unfoldable pub pa_bytes : PaValue → List ℕ
pa_bytes v = big_endian w8 v.version ++ (big_endian w32 (length (pa_inner v.tables)) ++ pa_inner v.tables)

-- the bytes of a buffer message after its id (this project's own)
unfoldable pub hrbm_bytes : HrbmValue → List ℕ
hrbm_bytes v = big_endian w8 v.version ++ (big_endian w16 12 ++ (big_endian w32 v.params.bound ++ (big_endian w32 v.params.window ++ big_endian w32 v.params.delay)))

-- the message's id (ISO/IEC 23008-1, message_id)
abbrev pub id_of : MessageValue → ℕ
id_of (PaMessage p) = 0
id_of (HrbmMessage h) = hrbm_id
id_of (OtherMessage id bytes) = id

-- the bytes after the id
abbrev pub body_of : MessageValue → List ℕ
body_of (PaMessage p) = pa_bytes p
body_of (HrbmMessage h) = hrbm_bytes h
body_of (OtherMessage id bytes) = bytes

-- the message's bytes (ISO/IEC 23008-1, signalling messages)
unfoldable pub message_spelling : MessageValue → List ℕ
message_spelling v = big_endian w16 (id_of v) ++ body_of v

-- ---- what has a spelling

-- the PA messages that have a spelling: each field fits its bits
pub record PaFits (v : PaValue) : Type 0 where
  pub version : v.version < 2 ^ 8
  pub count : length v.tables < 2 ^ 8
  pub len : length (pa_inner v.tables) < 2 ^ 32
  pub listed : All (λ n. n < 2 ^ 32) (map (λ t. t.listed) v.tables)
  pub tables : All IsTable (map own v.tables)

-- the values that a buffer message may carry: a bound of at least a byte, and a delay of at least a tick below the window, which is at most 2^24 ticks (this project's rule)
pub record AreRight (p : Params) : Type 0 where
  pub bound : 1 ≤ p.bound
  pub delay : 1 ≤ p.delay
  pub window : p.delay < p.window
  pub widest : p.window ≤ 2 ^ 24

-- the buffer messages that have a spelling
pub record HrbmFits (v : HrbmValue) : Type 0 where
  pub version : v.version < 2 ^ 8
  pub bound : v.params.bound < 2 ^ 32
  pub right : AreRight v.params

-- another message has neither of the two ids
pub record OtherFits (n : ℕ) : Type 0 where
  pub id : n < 2 ^ 16
  pub not_pa : n ≡ 0 → ⊥
  pub not_hrbm : n ≡ hrbm_id → ⊥

-- the messages that have a spelling
abbrev pub MessageIsRight : MessageValue → Type 0
MessageIsRight (PaMessage p) = PaFits p
MessageIsRight (HrbmMessage h) = HrbmFits h
MessageIsRight (OtherMessage id bytes) = OtherFits id
