-- The slot schedule (this project's rules): jobs, slots, what a schedule is, and what forbids one.
use Rattle.std.specs.Prelude.{◌≡◌, ◌≢◌, ℕ, zero, suc, ◌+◌, ◌*◌, ◌<◌, ◌≤◌, Bool, ◌&&◌, nat_le, List, length, get_or, Result, Ok, Err, ⊤, ◌⊎◌}
use Rattle.std.specs.List.{count_by}
use Rattle.mmt_model.specs.Counts.{as_number}
use Rattle.mmt_slots.specs.declared.row.Job.{Job}
use Rattle.mmt_slots.specs.declared.row.Slots.{Slots}
use Rattle.mmt_slots.specs.declared.row.NoSchedule.{NoSchedule}
use Rattle.mmt_slots.specs.declared.row.NoSchedule.TheVariants.{Overfull, OutOfMemory}

-- the tick of slot k
abbrev pub tick_of : Slots → ℕ → ℕ
tick_of slots k = slots.start + k * slots.step

-- the release of the job at a place
abbrev pub release_of : List Job → ℕ → ℕ
release_of jobs i = (get_or jobs i (record { release = 0; deadline = 0 })).release

-- the deadline of the job at a place
abbrev pub deadline_of : List Job → ℕ → ℕ
deadline_of jobs i = (get_or jobs i (record { release = 0; deadline = 0 })).deadline

-- the slot that is given to the job at a place
abbrev pub slot_of : List ℕ → ℕ → ℕ
slot_of given i = get_or given i 0

-- each job has a slot of its own, not before its release and not after its deadline
pub record IsSchedule (jobs : List Job) (slots : Slots) (given : List ℕ) : Type 0 where
  pub one_each : length given ≡ length jobs
  pub in_row : (i : ℕ) → i < length jobs → slot_of given i < slots.count
  pub released : (i : ℕ) → i < length jobs → release_of jobs i ≤ tick_of slots (slot_of given i)
  pub in_time : (i : ℕ) → i < length jobs → tick_of slots (slot_of given i) ≤ deadline_of jobs i
  pub own : (i j : ℕ) → i < length jobs → j < length jobs → slot_of given i ≡ slot_of given j → i ≡ j

-- no job has slot k
abbrev pub IsFree : List ℕ → ℕ → Type 0
IsFree given k = (i : ℕ) → i < length given → slot_of given i ≢ k

-- the job at x goes before the one at y: by deadline, then by place
abbrev pub GoesBefore : List Job → ℕ → ℕ → Type 0
GoesBefore jobs x y = (deadline_of jobs x < deadline_of jobs y) ⊎ ((deadline_of jobs x ≡ deadline_of jobs y) × (x < y))

-- no job that is released by a free slot has a later one, and of two jobs that could both have had the earlier slot the one that goes before has it
pub record IsEarliestFirst (jobs : List Job) (slots : Slots) (given : List ℕ) : Type 0 where
  pub none_waits : (k i : ℕ) → k < slots.count → IsFree given k → i < length jobs → release_of jobs i ≤ tick_of slots k → slot_of given i ≤ k
  pub earliest : (x y : ℕ) → x < length jobs → y < length jobs → slot_of given x < slot_of given y → release_of jobs y ≤ tick_of slots (slot_of given x) → GoesBefore jobs x y

-- how many numbers below n pass a test
unfoldable pub count_below : (ℕ → Bool) → ℕ → ℕ
count_below test zero = 0
count_below test (suc n) = count_below test n + as_number (test n)

-- how many jobs are released at `from` or later and due at `to` or before
abbrev pub jobs_within : List Job → ℕ → ℕ → ℕ
jobs_within jobs from to = count_by (λ job. nat_le from job.release && nat_le job.deadline to) jobs

-- how many slots stand from `from` to `to`
abbrev pub slots_within : Slots → ℕ → ℕ → ℕ
slots_within slots from to = count_below (λ k. nat_le from (tick_of slots k) && nat_le (tick_of slots k) to) slots.count

-- an interval has more jobs than slots
abbrev pub IsOverfull : List Job → Slots → ℕ → ℕ → Type 0
IsOverfull jobs slots from to = slots_within slots from to < jobs_within jobs from to

-- an overfull interval with its jobs and slots counted, from the release of a job in it to the deadline of a job in it
pub record IsCounted (jobs : List Job) (slots : Slots) (from to found room : ℕ) : Type 0 where
  pub overfull : IsOverfull jobs slots from to
  pub jobs_counted : found ≡ jobs_within jobs from to
  pub slots_counted : room ≡ slots_within slots from to
  pub from_release : (i : ℕ) × (i < length jobs) × (release_of jobs i ≡ from) × (deadline_of jobs i ≤ to)
  pub to_deadline : (i : ℕ) × (i < length jobs) × (from ≤ release_of jobs i) × (deadline_of jobs i ≡ to)

-- what an answer says: a schedule, earliest deadline first, where no interval is overfull, or an overfull interval
abbrev pub Answers : List Job → Slots → Result (List ℕ) NoSchedule → Type 0
Answers jobs slots (Ok given) = IsSchedule jobs slots given × IsEarliestFirst jobs slots given × ((from to : ℕ) → IsOverfull jobs slots from to → ⊥)
Answers jobs slots (Err (Overfull from to found room)) = IsCounted jobs slots from to found room
Answers jobs slots (Err OutOfMemory) = ⊤

-- an overfull interval excludes any schedule
abbrev pub OverfullForbids : Type 0
OverfullForbids = (jobs : List Job) (slots : Slots) (given : List ℕ) (from to : ℕ) → IsOverfull jobs slots from to → IsSchedule jobs slots given → ⊥

-- of the schedules with the earliest deadline first there is one
abbrev pub SchedulesAreOne : Type 0
SchedulesAreOne =
    (jobs : List Job) (slots : Slots) (given other : List ℕ) → IsSchedule jobs slots given → IsEarliestFirst jobs slots given → IsSchedule jobs slots other → IsEarliestFirst jobs slots other → given ≡ other
