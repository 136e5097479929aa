-- Which header a packet without one has: that of the nearest earlier packet that carries one for the same context
-- (ARIB STD-B32 Part 3, header-compressed IP packet). A list of bodies is the newest first.
use Rattle.std.specs.Prelude.{◌≡◌, ℕ, ◌<◌, Bool, true, false, ◌==◌, List, [], ◌∷◌, Option, Some, None, Result, Ok, Err, slice_index_or, slice_set, if◌then◌else◌}
use Rattle.mmt_base.specs.declared.refused.Refused.{Refused}
use Rattle.mmt_fields.specs.Reading.{refuse}
use Rattle.mmt_ip.specs.declared.packet.Ip6Header.{Ip6Header}
use Rattle.mmt_ctx.specs.declared.packet.CtxWhy.{CtxWhy}
use Rattle.mmt_ctx.specs.declared.packet.CtxWhy.TheVariants as why
use Rattle.mmt_ctx.specs.declared.packet.Opened.{Opened}
use Rattle.mmt_ctx.specs.Spelling.{Value}
use Rattle.mmt_ctx.specs.Reading.{packet_of}

-- the header that a body carries for a context: none where it is refused, carries none, or is of another context
abbrev pub carried_by : ℕ → Result Value (Refused CtxWhy) → Option Ip6Header
carried_by context (Ok v) = if v.context == context then v.header else None
carried_by context (Err e) = None

-- the first of two that is there
abbrev pub first_of : Option Ip6Header → Option Ip6Header → Option Ip6Header
first_of (Some h) other = Some h
first_of None other = other

-- the header last carried for a context among these bodies
abbrev pub last_header : List (List ℕ) → ℕ → Option Ip6Header
last_header [] context = None
last_header (body ∷ earlier) context = first_of (carried_by context (packet_of body)) (last_header earlier context)

-- a packet with its header, wherever that came from
pub record Header : Type 0 where
  pub context : ℕ
  pub number : ℕ
  pub full : Bool
  pub header : Ip6Header
  pub payload : List ℕ

abbrev pub with_header : Value → Bool → Option Ip6Header → Result Header (Refused CtxWhy)
with_header v full (Some h) = Ok (record { context = v.context; number = v.number; full = full; header = h; payload = v.payload })
with_header v full None = refuse 0 (why.NoContext v.context)

-- a packet that was read: its own header, or the one that its context has
abbrev pub opened_by : (ℕ → Option Ip6Header) → Value → Option Ip6Header → Result Header (Refused CtxWhy)
opened_by headers v (Some h) = with_header v true (Some h)
opened_by headers v None = with_header v false (headers v.context)

abbrev pub opened : (ℕ → Option Ip6Header) → Result Value (Refused CtxWhy) → Result Header (Refused CtxWhy)
opened headers (Ok v) = opened_by headers v v.header
opened headers (Err e) = Err e

-- what a body says after the earlier ones, or its first refusal; a packet without a header whose context has none is refused
abbrev pub opened_after : List (List ℕ) → List ℕ → Result Header (Refused CtxWhy)
opened_after earlier body = opened (last_header earlier) (packet_of body)

abbrev pub view : Opened → Header
view o = record { context = o.context; number = o.number; full = o.full; header = o.header; payload = o.payload.now }

-- the header of each context in a table
abbrev pub at_context : List (Option Ip6Header) → ℕ → Option Ip6Header
at_context table context = slice_index_or table context None

-- a table has, for each context, the header last carried for it among these bodies
abbrev pub HasRead : List (List ℕ) → List (Option Ip6Header) → Type 0
HasRead bodies table = (context : ℕ) → context < 4096 → at_context table context ≡ last_header bodies context

-- the header that was carried takes the place of its context's
abbrev pub remembered : List (Option Ip6Header) → ℕ → Option Ip6Header → List (Option Ip6Header)
remembered table context (Some h) = slice_set table context (Some h)
remembered table context None = table

-- a table after a body: changed exactly where the body is read and carries a header
abbrev pub after_body : List (Option Ip6Header) → Result Value (Refused CtxWhy) → List (Option Ip6Header)
after_body table (Ok v) = remembered table v.context v.header
after_body table (Err e) = table
