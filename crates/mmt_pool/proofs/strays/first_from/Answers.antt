use Rattle.std.proofs.Common.{refl}
use Rattle.mmt_pool.specs.declared.queue.Queued.{Queued}
use Rattle.mmt_pool.proofs.QueueOrder.{found_from, none_from}
use Rattle.mmt_pool.proofs.strays.first_from.Goals as goal

pub returns-in_err-queued : goal.returns-in_err-queued
returns-in_err-queued c =
    let from : Queued = record { time = c.args.time; span = record { packet_id = 0; number = 0 } } in
    rw c.from_residual.ensures (none_from c.args.strays.now from c.range.result refl refl (c.range.ensures.in_range tt) c.in_err-queued.ensures.steps.0)

pub returns : goal.returns
returns c =
    let from : Queued = record { time = c.args.time; span = record { packet_id = 0; number = 0 } } in
    found_from c.args.strays.now from c.in_ok-queued.queued.now c.range.result c.next.new.self refl refl (c.range.ensures.in_range tt) c.in_ok-queued.ensures.steps
