-- Reading a packet from left to right, to the value or the first refusal. The fields are those of RFC 8200, section 3, and
-- RFC 768; the order of the checks, and a checksum of 0 as none, are this project's rules.
use Rattle.std.specs.Prelude.{ℕ, ◌/◌, ◌%◌, ◌^◌, not, ◌||◌, ◌==◌, nat_le, List, length, Result, Ok}
use Rattle.std.specs.Int.{w8, w16, w32, w128}
use Rattle.mmt_base.specs.declared.refused.Refused.{Refused}
use Rattle.mmt_fields.specs.Reading.{◌>>=◌, number_at, check}
use Rattle.mmt_ip.specs.declared.packet.IpWhy.{IpWhy}
use Rattle.mmt_ip.specs.declared.packet.IpWhy.TheVariants as why
use Rattle.mmt_ip.specs.Spelling.{Value, checksum}

-- the packet that the bytes are, or the first check that they fail with its place; the forty bytes of the first test hold the fields up to the destination, and the eight of the second the rest, so no
-- field among them is short.
unfoldable pub packet_of : List ℕ → Result Value (Refused IpWhy)
packet_of bytes = do
  whole ← check (nat_le 40 (length bytes)) 0 why.Short
  word ← number_at w32 bytes 0 why.Short
  version ← check (word.0 / 2 ^ 28 == 6) 0 (why.Version (word.0 / 2 ^ 28))
  len ← number_at w16 word.1 4 why.Short
  next ← number_at w8 len.1 6 why.Short
  udp ← check (next.0 == 17) 6 (why.NextHeader next.0)
  hop ← number_at w8 next.1 7 why.Short
  source ← number_at w128 hop.1 8 why.Short
  destination ← number_at w128 source.1 24 why.Short
  fits ← check (length destination.1 == len.0) 4 why.Length
  datagram ← check (nat_le 8 (length destination.1)) 40 why.Short
  source_port ← number_at w16 destination.1 40 why.Short
  destination_port ← number_at w16 source_port.1 42 why.Short
  udp_len ← number_at w16 destination_port.1 44 why.Short
  same ← check (udp_len.0 == len.0) 44 why.Length
  sum ← number_at w16 udp_len.1 46 why.Short
  header ← Ok (record { traffic_class = word.0 / 2 ^ 20 % 2 ^ 8; flow_label = word.0 % 2 ^ 20; hop_limit = hop.0; source = source.0; destination = destination.0; source_port = source_port.0; destination_port = destination_port.0 })
  right ← check ((sum.0 == 0) || (sum.0 == checksum header sum.1)) 46 why.Checksum
  Ok (record { header = header; summed = not (sum.0 == 0); payload = sum.1 })
