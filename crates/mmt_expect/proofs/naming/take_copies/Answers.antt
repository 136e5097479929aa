use Rattle.std.proofs.Common.{refl}
use Rattle.mmt_expect.proofs.Taking.{named-by-next, named-by-none}
use Rattle.mmt_expect.proofs.naming.take_copies.Goals as goal

pub loop-c-init : goal.loop-c-init
loop-c-init c = named-by-none c.args.copies.now c.args.signals.now c.args.named.now c.requires.none

pub loop-c-preserved : goal.loop-c-preserved
loop-c-preserved c = named-by-next c.args.copies.now c.args.signals.now c.loop-c.c _ _ c.copy_at-copy.result.now c.as_slice.result.now c.loop-c.named c.lower.new.numbers c.copy_at-copy.ensures c.as_slice.ensures refl c.loop-c.invariant c.lower.ensures
