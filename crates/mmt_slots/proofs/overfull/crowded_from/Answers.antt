use Rattle.std.proofs.Common.{◌≡◌, ◌+◌, ◌-◌, drop, arith}
use Rattle.mmt_slots.specs.declared.line.Waiting.{Waiting}
use Rattle.mmt_slots.specs.Lines.{waiting_within, IsCrowded}
use Rattle.mmt_slots.proofs.Searching.{search_found, search_more, search_later}
use Rattle.mmt_slots.proofs.overfull.crowded_from.Goals as goal
use Rattle.mmt_slots.proofs.overfull.crowded_from.Goals.{then-job-to+else-slots_within-jobs, else-job-to}

pub returns-then-slots_within-jobs : goal.returns-then-slots_within-jobs
returns-then-slots_within-jobs c =
    search_found c.args.slots.now c.args.order.now c.loop-job.job-index c.loop-job.invariant.1.0 c.args.to c.loop-job.jobs _ c.requires.sorted c.loop-job-test.true c.if-job-to.true c.loop-job.invariant.0 (omega (arith, c.slots_within.ensures, c.if-slots_within-jobs.true)) c.loop-job.invariant.1.1

pub loop-job-preserved : goal.loop-job-preserved
loop-job-preserved c = elim c.if-job-to.branch [
  | then-job-to+else-slots_within-jobs w ↦
      let d : Waiting = record { deadline = 0; place = 0; release = 0 } in
      let s : (c.loop-job.jobs - 1 ≡ waiting_within (drop (c.loop-job.job-index + 1) c.args.order.now) 0 c.args.to) × IsCrowded c.args.slots.now c.loop-job.invariant.1.0 c.args.to (drop (c.loop-job.job-index + 1) c.args.order.now) =
      search_more c.args.slots.now c.args.order.now c.loop-job.job-index c.loop-job.invariant.1.0 c.args.to c.loop-job.jobs d c.loop-job-test.true w.if-job-to.true c.loop-job.invariant.0 (omega (arith, w.slots_within.ensures, w.if-slots_within-jobs.false)) c.loop-job.invariant.1.1 in
      (omega (arith, w.jobs-is, s.0), (c.loop-job.invariant.1.0, s.1))
  | else-job-to w ↦
      let d : Waiting = record { deadline = 0; place = 0; release = 0 } in
      let s : (c.loop-job.jobs ≡ waiting_within (drop (c.loop-job.job-index + 1) c.args.order.now) 0 c.args.to) × IsCrowded c.args.slots.now c.loop-job.invariant.1.0 c.args.to (drop (c.loop-job.job-index + 1) c.args.order.now) =
      search_later c.args.slots.now c.args.order.now c.loop-job.job-index c.loop-job.invariant.1.0 c.args.to c.loop-job.jobs d c.loop-job-test.true w.if-job-to.false c.loop-job.invariant.0 c.loop-job.invariant.1.1 in
      (omega (arith, w.jobs-is, s.0), (c.loop-job.invariant.1.0, s.1))
]
