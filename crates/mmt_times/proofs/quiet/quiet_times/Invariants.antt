use Rattle.std.proofs.Common.{◌≡◌, ◌≤◌, false, map, take}
use Rattle.std.specs.List.{list_any}
use Rattle.mmt_times.specs.Quiet.{is_soon}
use Rattle.mmt_times.specs.TimesLeft.{view_time}
use Rattle.mmt_times.proofs.quiet.quiet_times.Given as goal

abbrev pub invariant-loop-time : goal.invariant-loop-time
invariant-loop-time l = record {
  at_most : l.ticks ≤ l.most;
  quiet : list_any (is_soon l.clock.0 l.ticks) (map view_time (take l.time-index l.times)) ≡ false;
}
