-- What was told of a pool and of the names.
use Rattle.std.specs.Prelude.{◌≡◌, ℕ, Bool, true, List, Some, IfSome}
use Rattle.mmt_pool.specs.declared.types.Span.{Span}
use Rattle.mmt_pool.specs.Holding.{Kept, IsInOrder, packet_at}
use Rattle.mmt_times.specs.Known.{Known, HasOneEach}
use Rattle.mmt_runs.specs.declared.index.Due.{Due}
use Rattle.mmt_runs.specs.Index.{HasTimes, at_span, begun_by, spelled_at}

-- what contracts see of what was told: the packets that units may begin in, each with its MPU, and the index of times, if it is kept (this project's rule)
pub record Tracked : Type 0 where
  pub starts : List (Span × ℕ)
  pub index : List Due
  pub is_indexed : Bool

-- every kept packet that units may begin in is known, and the index, if it is kept, has the times of those units (this project's rule)
pub record IsIndexed (told : Tracked) (kept : List Kept) (known : Known) : Type 0 where
  pub in_order : IsInOrder kept
  pub one_each : HasOneEach known.entries
  pub begins : (s : Span) → IfSome (begun_by (spelled_at (packet_at kept s.packet_id s.number))) (λ mpu. at_span told.starts s ≡ Some mpu)
  pub has_times : told.is_indexed ≡ true → (s : Span) → HasTimes told.index known s (spelled_at (packet_at kept s.packet_id s.number))

-- every packet that was stored and every one that was taken out was told of, and so was every name that was learned (this project's rule)
unfoldable pub IsTold : Tracked → List Kept → Known → Type 0
IsTold told kept known = IsIndexed told kept known
