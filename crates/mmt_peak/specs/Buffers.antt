-- What the buffer of `peak` is after heard packets, of which the newest is the first.
use Rattle.std.specs.Prelude.{◌≡◌, ℕ, ◌+◌, true, List, [], ◌∷◌, length, map, Option, Some, None, count_by}
use Rattle.mmt_base.specs.Ticks.{advance}
use Rattle.mmt_model.specs.declared.programmes.Params.{Params}
use Rattle.mmt_model.specs.Packets.{Heard, Payload}
use Rattle.mmt_model.specs.Keeping.{Outcome, clock, is_full, is_late, is_repeated, is_stored, kept, peak}
use Rattle.mmt_pool.specs.Holding.{Kept, Holding}
use Rattle.mmt_model.specs.Counts.{counted}
use Rattle.mmt_model.specs.Sessions.{outcomes, start_of}

-- a kept packet as the definition of keeping sees it
abbrev pub shown : Kept → Heard
shown k = record { time = k.time; packet_id = k.packet_id; number = k.number; length = length k.payload; is_opened = true; payload = Payload.Other }

-- how many packets were stored, late, repeated and without room
pub record Tally : Type 0 where
  pub stored : ℕ
  pub late : ℕ
  pub repeats : ℕ
  pub full : ℕ

-- one packet more, by what becomes of it
abbrev pub tallied : Outcome → Tally → Tally
tallied Outcome.Unopened t = t
tallied Outcome.Late t = record t { late = counted (t.late + 1) }
tallied Outcome.Repeat t = record t { repeats = counted (t.repeats + 1) }
tallied Outcome.Full t = record t { full = counted (t.full + 1) }
tallied Outcome.Stored t = record t { stored = counted (t.stored + 1) }

-- the counts of heard packets
abbrev pub tally_of : Params → List Heard → Tally
tally_of r history = record {
  stored = counted (count_by is_stored (outcomes r history));
  late = counted (count_by is_late (outcomes r history));
  repeats = counted (count_by is_repeated (outcomes r history));
  full = counted (count_by is_full (outcomes r history));
}

-- a buffer: its delay, window and bound, its pool, the clock once a packet was heard, and the counts
pub record BufferState : Type 0 where
  pub params : Params
  pub pool : Holding
  pub clock : Option ℕ
  pub heard : ℕ
  pub tally : Tally

-- the clock once a packet with this timestamp was heard
abbrev pub clock_with : Option ℕ → ℕ → ℕ
clock_with None time = time
clock_with (Some clock) time = advance clock time

-- the clock after heard packets
abbrev pub clock_after : List Heard → Option ℕ
clock_after [] = None
clock_after (h ∷ older) = Some (clock (start_of (h ∷ older)) (h ∷ older))

-- the buffer was given these packets
pub record HasTaken (history : List Heard) (b : BufferState) : Type 0 where
  pub bound : b.pool.bound ≡ b.params.bound
  pub clock : b.clock ≡ clock_after history
  pub kept : map shown b.pool.kept ≡ kept b.params (start_of history) history
  pub peak : b.pool.peak ≡ peak b.params (start_of history) history
  pub heard : b.heard ≡ counted (length history)
  pub tally : b.tally ≡ tally_of b.params history
