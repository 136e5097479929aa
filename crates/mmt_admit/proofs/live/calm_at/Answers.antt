use Rattle.std.proofs.Common.{refl, arith}
use Rattle.mmt_admit.specs.declared.live.Calm.{Calm}
use Rattle.mmt_admit.proofs.Calming.{copy-calm, stretch-calm, tick-calm}
use Rattle.mmt_admit.proofs.live.calm_at.Goals as goal

pub returns-then-tick-calm-clause-none : goal.returns-then-tick-calm-clause-none
returns-then-tick-calm-clause-none c = copy-calm c.args.cast.now c.args.c c.copy_last-tick.result c.args.calm c.copy_last-tick.ensures c.requires.calm c.if-calm-tick.true c.if-tick-calm.true

pub returns-then-living-le1024-clause-calm : goal.returns-then-living-le1024-clause-calm
returns-then-living-le1024-clause-calm c =
    stretch-calm c.args.cast.now.mpus (record { low = c.copy_last-tick.result; high = c.saturating_add-high.result; step = c.saturating_mul-step.result }) c.living.result c.living.ensures c.if-living-le1024.true

pub returns-then-living-le1024-clause-none : goal.returns-then-living-le1024-clause-none
returns-then-living-le1024-clause-none c =
    let calm : Calm = record { low = c.copy_last-tick.result; high = c.saturating_add-high.result; step = c.saturating_mul-step.result } in
    copy-calm c.args.cast.now c.args.c c.copy_last-tick.result calm c.copy_last-tick.ensures (stretch-calm c.args.cast.now.mpus calm c.living.result c.living.ensures c.if-living-le1024.true) (omega arith) (omega arith)

pub returns-in-None-clause-calm : goal.returns-in-None-clause-calm
returns-in-None-clause-calm c =
    tick-calm c.args.cast.now c.args.c c.copy_last-tick.result (record { low = c.copy_last-tick.result; high = c.copy_last-tick.result; step = c.max.result }) c.copy_last-tick.ensures c.in-None.ensures refl refl
