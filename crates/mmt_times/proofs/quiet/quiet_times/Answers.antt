use Rattle.std.proofs.Common.{arith}
use Rattle.mmt_times.proofs.Quietness.{times-on}
use Rattle.mmt_times.proofs.quiet.quiet_times.Goals as goal

pub loop-time-preserved : goal.loop-time-preserved
loop-time-preserved c =
    record {
      at_most = omega (arith, c.quiet_time-ticks.ensures.at_most, c.loop-time.invariant.at_most);
      quiet = times-on c.args.clock.0 c.loop-time.ticks c.quiet_time-ticks.result c.loop-time.time-index c.args.times.now _ c.loop-time-test.true c.quiet_time-ticks.ensures.at_most c.quiet_time-ticks.ensures.quiet c.loop-time.invariant.quiet;
    }
