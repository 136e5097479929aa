use Rattle.std.proofs.Common.{map, take}
use Rattle.mmt_times.specs.TimesLeft.{view_time}
use Rattle.mmt_times.proofs.Quietness.{more-times}
use Rattle.mmt_times.proofs.quiet.quiet_slot.Goals as goal

pub returns-clause-quiet : goal.returns-clause-quiet
returns-clause-quiet c =
    more-times c.args.clock.0 c.quiet_times-rest.result c.quiet_time.result c.args.slot.now.time.0 (map view_time (take c.args.slot.now.count c.args.slot.now.aus)) c.quiet_time.ensures.at_most c.quiet_time.ensures.quiet (rw c.aus.ensures at c.quiet_times-rest.ensures.quiet)
