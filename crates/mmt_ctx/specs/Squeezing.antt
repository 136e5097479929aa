-- The bodies that a squeezer writes, call by call.
use Rattle.std.specs.Prelude.{◌≡◌, ◌⊎◌, ℕ, ◌%◌, ◌<◌, ◌==◌, List, ◌∷◌, Some, None, Ok, if◌then◌else◌}
use Rattle.mmt_ip.specs.declared.packet.Ip6Header.{Ip6Header}
use Rattle.mmt_ip.specs.Spelling.{HeaderFits}
use Rattle.mmt_ctx.specs.Spelling.{Value, spelling}
use Rattle.mmt_ctx.specs.Headers.{last_header, opened_after}

-- a squeezer at its call number `call`, counted from 0
pub record Squeezing : Type 0 where
  pub context : ℕ
  pub full_every : ℕ
  pub header : Ip6Header
  pub number : ℕ
  pub since : ℕ

-- its next call is this one: the sequence number is the call modulo 16, and `since` counts the calls since the last full header
pub record IsAtCall (call : ℕ) (s : Squeezing) : Type 0 where
  pub number : s.number ≡ call % 16
  pub since : s.since ≡ call % s.full_every

-- the packet of a call: with a full header exactly where the call is a multiple of `full_every`
abbrev pub packet_at : ℕ → Squeezing → List ℕ → Value
packet_at call s payload = record { context = s.context; number = call % 16; header = (if call % s.full_every == 0 then Some s.header else None); payload = payload }

-- What a call of a squeezer writes, read after earlier bodies whose last header for the context was the squeezer's own, or
-- with the header in it: its header, the call modulo 16 and the payload; and the header last carried is the squeezer's again.
pub record IsReadBack (call : ℕ) (s : Squeezing) (payload : List ℕ) (earlier : List (List ℕ)) : Type 0 where
  pub opened : opened_after earlier (spelling (packet_at call s payload)) ≡ Ok (record { context = s.context; number = call % 16; full = (call % s.full_every == 0); header = s.header; payload = payload })
  pub last : last_header (spelling (packet_at call s payload) ∷ earlier) s.context ≡ Some s.header

-- the same for every call, payload and list of earlier bodies
abbrev pub SqueezedIsRead : Type 0
SqueezedIsRead = (call : ℕ) (s : Squeezing) (payload : List ℕ) (earlier : List (List ℕ)) → s.context < 4096 → HeaderFits s.header
    → (last_header earlier s.context ≡ Some s.header) ⊎ (call % s.full_every ≡ 0) → IsReadBack call s payload earlier
