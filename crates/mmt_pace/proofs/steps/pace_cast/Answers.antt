use Rattle.std.proofs.Common.{List, length, arith, ap, sym, subst}
use Rattle.mmt_admit.specs.Faults.{IsReadable}
use Rattle.mmt_pace.proofs.Fitting.{paced-readable}
use Rattle.mmt_pace.proofs.Stepping.{length-jobs, paced-its, slots-few, slots-given, slots-start, slots-step}
use Rattle.mmt_slots.specs.Schedule.{IsSchedule}
use Rattle.mmt_slots.specs.declared.row.Job.{Job}
use Rattle.mmt_slots.specs.declared.row.Slots.{Slots}
use Rattle.mmt_pace.proofs.steps.pace_cast.Goals as goal

pub schedule-requires-clause-jobs : goal.schedule-requires-clause-jobs
schedule-requires-clause-jobs c = omega (arith, ap (λ (js : List Job). length js) c.in-Ok.ensures, length-jobs c.args.cast.now, c.requires.cast.readable.packets.few)

pub schedule-requires-clause-step : goal.schedule-requires-clause-step
schedule-requires-clause-step c = omega (arith, ap (λ (s : Slots). s.step) c.slots_of-slots.ensures, slots-step c.args.cast.now c.args.step, c.requires.step)

pub schedule-requires-clause-count : goal.schedule-requires-clause-count
schedule-requires-clause-count c = omega (arith, ap (λ (s : Slots). s.count) c.slots_of-slots.ensures, slots-few c.args.cast.now c.args.step)

pub schedule-requires-clause-start : goal.schedule-requires-clause-start
schedule-requires-clause-start c = omega (arith, ap (λ (s : Slots). s.start) c.slots_of-slots.ensures, slots-start c.args.cast.now c.args.step, c.requires.start)

pub paced-requires-clause-row : goal.paced-requires-clause-row
paced-requires-clause-row c = record {
  step = omega (arith, ap (λ (s : Slots). s.step) c.slots_of-slots.ensures, slots-step c.args.cast.now c.args.step, c.requires.step);
  count = omega (arith, ap (λ (s : Slots). s.count) c.slots_of-slots.ensures, slots-few c.args.cast.now c.args.step);
  start = omega (arith, ap (λ (s : Slots). s.start) c.slots_of-slots.ensures, slots-start c.args.cast.now c.args.step, c.requires.start);
}

pub paced-requires-clause-given : goal.paced-requires-clause-given
paced-requires-clause-given c =
    slots-given c.args.cast.now c.slots_of-slots.result c.in-Ok-schedule.given
    (subst (λ (js : List Job). IsSchedule js c.slots_of-slots.result c.in-Ok-schedule.given) c.in-Ok.ensures c.in-Ok-schedule.ensures.0)

pub returns-in-Ok-paced-clause-its : goal.returns-in-Ok-paced-clause-its
returns-in-Ok-paced-clause-its c = λ programme is. paced-its c.slots_of-slots.result c.in-Ok-schedule.given c.args.cast.now c.in-Ok-paced.cast programme c.in-Ok-paced.ensures is

pub returns-in-Ok-paced-clause-readable : goal.returns-in-Ok-paced-clause-readable
returns-in-Ok-paced-clause-readable c =
    let step = ap (λ (s : Slots). s.step) c.slots_of-slots.ensures in
    subst IsReadable (sym c.in-Ok-paced.ensures)
    (paced-readable c.slots_of-slots.result c.in-Ok-schedule.given c.args.cast.now c.requires.cast
    (record {
      step = omega (arith, step, slots-step c.args.cast.now c.args.step, c.requires.step);
      count = omega (arith, ap (λ (s : Slots). s.count) c.slots_of-slots.ensures, slots-few c.args.cast.now c.args.step);
      start = omega (arith, ap (λ (s : Slots). s.start) c.slots_of-slots.ensures, slots-start c.args.cast.now c.args.step, c.requires.start);
    })
    (omega (arith, step, slots-step c.args.cast.now c.args.step, c.ranges.step.fits))
    (slots-given c.args.cast.now c.slots_of-slots.result c.in-Ok-schedule.given (subst (λ (js : List Job). IsSchedule js c.slots_of-slots.result c.in-Ok-schedule.given) c.in-Ok.ensures c.in-Ok-schedule.ensures.0)))
