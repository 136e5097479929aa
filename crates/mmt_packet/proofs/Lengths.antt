-- How long a spelling is.
use Rattle.std.proofs.Common.{◌≡◌, ℕ, ◌+◌, ◌*◌, length, Option, Some, None, refl, arith}
use Rattle.std.specs.Option.{is_some}
use Rattle.std.specs.Int.{w32, from_bool}
use Rattle.std.proofs.lemmas.List.{length-append}
use Rattle.mmt_fields.specs.Reading.{optional, big_endian}
use Rattle.mmt_fields.proofs.Numbers.{length_big_endian}
use Rattle.mmt_packet.specs.Spelling.{Value, Ext, extension, extension_length, head_length, spelling}

counter_long : (o : Option ℕ) → length (optional (big_endian w32) o) ≡ 4 * from_bool (is_some o)
counter_long None = refl
counter_long (Some n) = length_big_endian w32 n

extension_long : (o : Option Ext) → length (optional extension o) ≡ extension_length o
unfolding extension
extension_long None = refl
extension_long (Some e) = simp (length-append, length_big_endian) (omega arith)

pub length_spelling : (v : Value) → length (spelling v) ≡ head_length v + length v.payload
unfolding spelling
length_spelling v = simp (length-append, length_big_endian, counter_long, extension_long) (omega arith)
