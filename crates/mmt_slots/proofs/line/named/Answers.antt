use Rattle.mmt_slots.proofs.Naming.{named-more}
use Rattle.mmt_slots.proofs.line.named.Goals as goal

pub loop-place-preserved : goal.loop-place-preserved
loop-place-preserved c = let e = named-more c.args.jobs.now c.loop-place.place (record { release = 0; deadline = 0 }) c.loop-place-test.true in cc (c.in_ok-push.ensures.items, c.loop-place.invariant)
