use Rattle.std.proofs.Common.{◌≡◌, ◌++◌, false, arith}
use Rattle.mmt_pool.specs.Queue.{has}
use Rattle.mmt_pool.proofs.Queues.{queue-row, queue-stray}
use Rattle.mmt_pool.proofs.queue.Queue.put.Goals as goal

pub invariant_of-self : goal.invariant_of-self
invariant_of-self c =
    let absent : has (c.self.inside.row.items ++ c.self.inside.strays.keys) c.args.queued ≡ false = rw c.self.view_is c.requires.absent in
    rw c.in_ok-push_back.ensures.items (queue-row c.self.inside.row.items c.self.inside.strays.keys c.args.queued c.self.invariant (omega arith) (c.ends_by.ensures.0 c.if-ends_by.true) absent)

pub invariant_of-self-in_ok-insert : goal.invariant_of-self-in_ok-insert
invariant_of-self-in_ok-insert c =
    let absent : has (c.self.inside.row.items ++ c.self.inside.strays.keys) c.args.queued ≡ false = rw c.self.view_is c.requires.absent in
    queue-stray c.self.inside.row.items c.self.inside.strays.keys c.insert.new.self.keys c.args.queued c.self.invariant (omega arith) c.in_ok-insert.ensures.updates.0 absent
