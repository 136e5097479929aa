-- What becomes of an entry that a table names.
use Rattle.std.specs.Prelude.{ℕ, Bool, not, ◌&&◌, ◌==◌, nat_eq, nat_lt, List, length, Option, Some, None, if◌then◌else◌}
use Rattle.std.specs.Cmp.Lexicographic.{pointwise}
use Rattle.mmt_base.specs.Ticks.{is_after, low}
use Rattle.mmt_model.specs.Entries.{Entry, last_due}
use Rattle.mmt_times.specs.Known.{entry_of}

-- what becomes of an entry; with Differs the time of the MPU by the entry that is kept (this project's rule)
pub data Verdict : Type 0 where
  New : Verdict
  Known : Verdict
  Differs : ℕ → Verdict
  Past : Verdict
  EntriesFull : Verdict

-- two entries have the same time and the same times of access units (this project's rule)
abbrev pub has_same_times : Entry → Entry → Bool
has_same_times e f = (e.time == f.time) && pointwise nat_eq e.aus f.aus

-- what becomes of an entry whose last due tick is after the clock: Known or Differs where its MPU has an entry, and else EntriesFull where 1,024 are kept (this project's rule)
abbrev pub verdict_beside : List Entry → Entry → Option Entry → Verdict
verdict_beside entries e (Some kept) = if has_same_times kept e then Verdict.Known else Verdict.Differs kept.time
verdict_beside entries e None = if nat_lt (length entries) 1024 then Verdict.New else Verdict.EntriesFull

-- what becomes of an entry: Past where its last due tick is not after the clock (this project's rule)
abbrev pub verdict : ℕ → List Entry → Entry → Verdict
verdict now entries e = if not (is_after (low (last_due e)) now) then Verdict.Past else verdict_beside entries e (entry_of entries e.packet_id e.mpu)
