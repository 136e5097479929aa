-- How the queue of kept packets is tied to the map of them.
use Rattle.std.specs.Prelude.{◌≡◌, ℕ, ◌<◌, ◌^◌, Bool, false, ◌==◌, List, map, Option, Some, None}
use Rattle.std.specs.Map.{lookup}
use Rattle.std.specs.Ordering.{is_eq, nat_cmp}
use Rattle.mmt_pool.specs.declared.queue.Queued.{Queued}
use Rattle.mmt_pool.specs.declared.pool.Stored.{Stored}
use Rattle.mmt_pool.specs.Queue.{has}
use Rattle.mmt_pool.specs.Holding.{IsSound, held}
use Rattle.mmt_pool.specs.Stored.{key_of, entry_of, holding_of}

-- what the map has under a key, if anything, has this timestamp
abbrev pub has_time : ℕ → Option Stored → Bool
has_time time None = false
has_time time (Some v) = v.time.0 == time

-- the packets in the queue, with numbers of 32 bits, are those in the map, each under its timestamp (this project's rule)
pub record IsTied (queue : List Queued) (entries : List (ℕ × Stored)) : Type 0 where
  pub same : (q : Queued) → q.span.number < 2 ^ 32 → has queue q ≡ has_time q.time (lookup (λ k. is_eq (nat_cmp (key_of q.span) k)) entries)

-- what is true of the fields of every pool (this project's rule)
pub record IsKept (entries : List (ℕ × Stored)) (queue : List Queued) (total bound peak : ℕ) : Type 0 where
  pub sound : IsSound (holding_of entries bound peak)
  pub sum : total ≡ held (map entry_of entries)
  pub tied : IsTied queue entries
