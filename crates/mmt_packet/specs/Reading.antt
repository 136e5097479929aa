-- Reading a packet from left to right, to the value or the first refusal. The fields are those of ISO/IEC 23008-1, the MMTP
-- packet header; the order of the checks is this project's rule.
use Rattle.std.specs.Prelude.{ℕ, zero, suc, ◌+◌, ◌*◌, ◌/◌, ◌%◌, Bool, true, false, not, ◌==◌, nat_lt, List, Result, Ok}
use Rattle.std.specs.Int.{w8, w16, w32}
use Rattle.mmt_base.specs.declared.refused.Refused.{Refused}
use Rattle.mmt_fields.specs.Reading.{◌>>=◌, number_at, bytes_at, check, optional_at}
use Rattle.mmt_packet.specs.declared.packet.Kind.{Kind}
use Rattle.mmt_packet.specs.declared.packet.Kind.TheVariants as kinds
use Rattle.mmt_packet.specs.declared.packet.PacketWhy.{PacketWhy}
use Rattle.mmt_packet.specs.declared.packet.PacketWhy.TheVariants as why
use Rattle.mmt_packet.specs.Spelling.{Value, Ext, is_scrambled}

-- the kind of a type below 3 (ISO/IEC 23008-1, the MMTP packet header, type)
abbrev pub kind_of : ℕ → Kind
kind_of zero = kinds.Mpu
kind_of (suc zero) = kinds.Generic
kind_of (suc (suc n)) = kinds.Signalling

-- the packet counter, four bytes at place 12
abbrev pub counter_at : List ℕ → Result (ℕ × List ℕ) (Refused PacketWhy)
counter_at bytes = number_at w32 bytes 12 why.Short

-- the extension at a place: its type, its length, so many bytes, which do not say that the payload is scrambled
unfoldable pub extension_at : ℕ → List ℕ → Result (Ext × List ℕ) (Refused PacketWhy)
extension_at at bytes = do
  kind ← number_at w16 bytes at why.Short
  len ← number_at w16 kind.1 (at + 2) why.Short
  body ← bytes_at len.0 len.1 (at + 4) why.Short
  clear ← check (not (is_scrambled (record { kind = kind.0; bytes = body.0 }))) (at + 4) why.Scrambled
  Ok (record { kind = kind.0; bytes = body.0 }, body.1)

-- where the extension begins: after the packet counter, if that is there
abbrev pub extension_place : Bool → ℕ
extension_place true = 16
extension_place false = 12

-- the packet that the bytes are, or the first check that they fail with its place
unfoldable pub packet_of : List ℕ → Result Value (Refused PacketWhy)
packet_of bytes = do
  a ← number_at w8 bytes 0 why.Short
  version ← check (a.0 / 64 == 0) 0 (why.Version (a.0 / 64))
  fec ← check (a.0 / 8 % 4 == 0) 0 (why.Fec (a.0 / 8 % 4))
  b ← number_at w8 a.1 1 why.Short
  known ← check (nat_lt (b.0 % 64) 3) 1 (why.Kind (b.0 % 64))
  id ← number_at w16 b.1 2 why.Short
  time ← number_at w32 id.1 4 why.Short
  number ← number_at w32 time.1 8 why.Short
  counter ← optional_at (a.0 / 32 % 2 == 1) counter_at number.1
  extension ← optional_at (a.0 / 2 % 2 == 1) (extension_at (extension_place (a.0 / 32 % 2 == 1))) counter.1
  Ok (record { counter = counter.0; rap = (a.0 % 2 == 1); reserved = 4 * (a.0 / 4 % 2) + b.0 / 64; kind = kind_of (b.0 % 64); packet_id = id.0; time = time.0; number = number.0; extension = extension.0; payload = extension.1 })
