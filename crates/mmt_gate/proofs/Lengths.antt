-- How long the bodies of packets are.
use Rattle.std.proofs.Common.{◌≡◌, ◌+◌, ◌≤◌, length, Option, Some, None, arith}
use Rattle.std.proofs.lemmas.List.{length-append}
use Rattle.mmt_fields.specs.Reading.{optional}
use Rattle.mmt_fields.proofs.Numbers.{length_big_endian}
use Rattle.mmt_ip.specs.declared.packet.Ip6Header.{Ip6Header}
use Rattle.mmt_ip.specs.Spelling.{Value as Plain, spelling as plain_spelling}
use Rattle.mmt_ctx.specs.Spelling.{Value as Compressed, full_header, spelling as compressed_spelling}

-- the two headers of a plain packet take 48 bytes
pub length_plain : (v : Plain) → length (plain_spelling v) ≡ 48 + length v.payload
unfolding plain_spelling
length_plain v = simp (length-append, length_big_endian) (omega arith)

full_long : (h : Ip6Header) → length (full_header h) ≡ 42
unfolding full_header
full_long h = simp (length-append, length_big_endian) (omega arith)

carried_long : (o : Option Ip6Header) → length (optional full_header o) ≤ 42
carried_long None = omega arith
carried_long (Some h) = omega (arith, full_long h)

-- before the payload of a compressed packet stand at most 45 bytes
pub length_compressed : (v : Compressed) → length (compressed_spelling v) ≤ 45 + length v.payload
unfolding compressed_spelling
length_compressed v = simp (length-append, length_big_endian) (omega (arith, carried_long v.header))
