-- Reading a header-compressed IP packet from left to right, up to the first refusal.
use Rattle.std.specs.Prelude.{ℕ, ◌/◌, ◌%◌, ◌^◌, ◌||◌, ◌==◌, nat_le, List, length, Result, Ok}
use Rattle.std.specs.Int.{w8, w16, w32, w128}
use Rattle.mmt_base.specs.declared.refused.Refused.{Refused}
use Rattle.mmt_fields.specs.Reading.{◌>>=◌, number_at, check, optional_at}
use Rattle.mmt_ip.specs.declared.packet.Ip6Header.{Ip6Header}
use Rattle.mmt_ctx.specs.declared.packet.CtxWhy.{CtxWhy}
use Rattle.mmt_ctx.specs.declared.packet.CtxWhy.TheVariants as why
use Rattle.mmt_ctx.specs.Spelling.{Value}

-- The 42 bytes of the first test hold all the fields of the header, so none among them is short.
unfoldable pub header_at : List ℕ → Result (Ip6Header × List ℕ) (Refused CtxWhy)
header_at bytes = do
  whole ← check (nat_le 42 (length bytes)) 3 why.Short
  word ← number_at w32 bytes 3 why.Short
  version ← check (word.0 / 2 ^ 28 == 6) 3 (why.Version (word.0 / 2 ^ 28))
  next ← number_at w8 word.1 7 why.Short
  udp ← check (next.0 == 17) 7 (why.NextHeader next.0)
  hop ← number_at w8 next.1 8 why.Short
  source ← number_at w128 hop.1 9 why.Short
  destination ← number_at w128 source.1 25 why.Short
  source_port ← number_at w16 destination.1 41 why.Short
  destination_port ← number_at w16 source_port.1 43 why.Short
  Ok (record { traffic_class = word.0 / 2 ^ 20 % 2 ^ 8; flow_label = word.0 % 2 ^ 20; hop_limit = hop.0; source = source.0; destination = destination.0; source_port = source_port.0; destination_port = destination_port.0 }, destination_port.1)

-- the packet that the bytes spell, or the first check that they fail
unfoldable pub packet_of : List ℕ → Result Value (Refused CtxWhy)
packet_of bytes = do
  whole ← check (nat_le 3 (length bytes)) 0 why.Short
  word ← number_at w16 bytes 0 why.Short
  kind ← number_at w8 word.1 2 why.Short
  known ← check ((kind.0 == 96) || (kind.0 == 97)) 2 (why.OtherKind kind.0)
  header ← optional_at (kind.0 == 96) header_at kind.1
  Ok (record { context = word.0 / 16; number = word.0 % 16; header = header.0; payload = header.1 })
