-- A cast that is paced with a step (this project's rules).
use Rattle.std.specs.Prelude.{◌≡◌, ℕ, ◌+◌, ◌-◌, ◌/◌, nat_lt, min, List, map, Result, Ok, Err, if◌then◌else◌}
use Rattle.mmt_cast.specs.Casting.{greatest}
use Rattle.mmt_model.specs.Survival.{sent_at}
use Rattle.mmt_model.specs.declared.casts.Cast.{Cast}
use Rattle.mmt_pace.specs.Deadlines.{jobs_by}
use Rattle.mmt_pace.specs.Recast.{paced_by}
use Rattle.mmt_slots.specs.Schedule.{Answers}
use Rattle.mmt_slots.specs.declared.row.Job.{Job}
use Rattle.mmt_slots.specs.declared.row.NoSchedule.{NoSchedule}
use Rattle.mmt_slots.specs.declared.row.Slots.{Slots}

-- the deadline of a job
abbrev pub deadline_by : Job → ℕ
deadline_by job = job.deadline

-- how many slots stand from a tick to another, a step apart, and at most 16,777,216
unfoldable pub slots_to : ℕ → ℕ → ℕ → ℕ
slots_to start step to = if nat_lt to start then 0 else min 16777216 ((to - start) / step + 1)

-- the slots of a cast: from its first timestamp to the greatest deadline of its jobs
unfoldable pub slots_by : Cast → ℕ → Slots
slots_by cast step =
    record { start = sent_at cast.packets 0; step = step; count = slots_to (sent_at cast.packets 0) step (greatest (map deadline_by (jobs_by cast))) }

-- what pacing answers: the cast that is paced by a schedule of its jobs over its slots, or an interval in which more packets have to go than it has slots
abbrev pub Paces : Cast → ℕ → Result Cast NoSchedule → Type 0
Paces cast step (Ok new) = (given : List ℕ) × Answers (jobs_by cast) (slots_by cast step) (Ok given) × (new ≡ paced_by (slots_by cast step) given cast)
Paces cast step (Err end) = Answers (jobs_by cast) (slots_by cast step) (Err end)
