use Rattle.std.proofs.Common.{refl, arith, ◌≡◌, ◌<◌, List, length, Some, slice_index_or}
use Rattle.std.specs.List.{remove}
use Rattle.mmt_pool.specs.declared.queue.Queued.{Queued}
use Rattle.mmt_pool.specs.Queue.{StandsAt}
use Rattle.mmt_pool.proofs.RowOrder.{stands-at}
use Rattle.mmt_pool.proofs.Queues.{queue-less, takes-row, queue-fewer, takes-stray, takes-none}
use Rattle.mmt_pool.proofs.queue.Queue.take_out.Goals as goal

-- some packet
any : Queued
any = record { time = 0; span = record { packet_id = 0; number = 0 } }

pub invariant_of-self : goal.invariant_of-self
invariant_of-self c =
    let row : List Queued = c.self.inside.row.items in
    let q : Queued = slice_index_or row c.in-Some.place any in
    let stands : StandsAt row c.in-Some.place q = stands-at row c.in-Some.place any c.in-Some.ensures.0 in
    let within : c.in-Some.place < c.self.inside.row.len = rw c.self.inside.row.ok.0 stands.within in
    let is : c.remove.new.self.items ≡ remove row c.in-Some.place = rw (c.remove.ensures.succeeds any within) at c.remove.ensures.items in
    rw is (queue-less row c.self.inside.strays.keys c.in-Some.place q c.self.invariant stands)

pub returns-in-Some : goal.returns-in-Some
returns-in-Some c =
    let row : List Queued = c.self.inside.row.items in
    let q : Queued = slice_index_or row c.in-Some.place any in
    let stands : StandsAt row c.in-Some.place q = stands-at row c.in-Some.place any c.in-Some.ensures.0 in
    let within : c.in-Some.place < c.self.inside.row.len = rw c.self.inside.row.ok.0 stands.within in
    let is : c.remove.new.self.items ≡ remove row c.in-Some.place = rw (c.remove.ensures.succeeds any within) at c.remove.ensures.items in
    rw (c.remove.ensures.succeeds any within, is, ← c.self.view_is) (takes-row row c.self.inside.strays.keys c.in-Some.place q _ _ c.self.invariant stands (c.in-Some.ensures.1 q stands))

pub invariant_of-self-2 : goal.invariant_of-self-2
invariant_of-self-2 c = queue-fewer c.self.inside.row.items c.self.inside.strays.keys c.remove-2.new.self.keys c.in_ok-queued.queued c.self.invariant c.remove-2.ensures.updates.0
