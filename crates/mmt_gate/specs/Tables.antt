-- The table of headers of an expander.
use Rattle.std.specs.Prelude.{ℕ, List, Option, IfSome}
use Rattle.mmt_ip.specs.declared.packet.Ip6Header.{Ip6Header}
use Rattle.mmt_ip.specs.Spelling.{HeaderFits}
use Rattle.mmt_ctx.specs.Headers.{at_context}

-- each header of the table has fields within their widths (RFC 8200, RFC 768)
abbrev pub AllFit : List (Option Ip6Header) → Type 0
AllFit table = (context : ℕ) → IfSome (at_context table context) HeaderFits
