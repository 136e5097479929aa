-- A stored packet as contracts see it.
use Rattle.std.specs.Prelude.{ℕ, ◌+◌, ◌*◌, ◌/◌, ◌%◌, ◌^◌, List, map}
use Rattle.mmt_pool.specs.declared.types.Span.{Span}
use Rattle.mmt_pool.specs.declared.pool.Stored.{Stored}
use Rattle.mmt_pool.specs.Holding.{Kept, Holding}

-- the key of a packet in the map: its packet id times 2^32 plus its number, which orders the keys by packet id and then number (this project's rule)
abbrev pub key_of : Span → ℕ
key_of s = s.packet_id * 2 ^ 32 + s.number

-- an entry of the map, under the key of a packet id and a number, as a kept packet
abbrev pub entry_of : ℕ × Stored → Kept
entry_of e = record { packet_id = e.0 / 2 ^ 32; number = e.0 % 2 ^ 32; time = e.1.time.0; kind = e.1.kind; payload = e.1.payload }

-- the entries of the map, with the bound and the peak, as a pool
abbrev pub holding_of : List (ℕ × Stored) → ℕ → ℕ → Holding
holding_of entries bound peak = record { kept = map entry_of entries; bound = bound; peak = peak }
