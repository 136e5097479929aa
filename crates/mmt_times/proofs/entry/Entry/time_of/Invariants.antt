use Rattle.std.proofs.Common.{◌≡◌, ◌<◌, length, get_or}
use Rattle.mmt_times.specs.TimesLeft.{times_left}
use Rattle.mmt_times.proofs.entry.Entry.time_of.Given as goal

abbrev pub invariant-loop-left : goal.invariant-loop-left
invariant-loop-left l = record {
  some : l.left < length (times_left l.times);
  same : get_or (times_left l.times) l.left 0 ≡ get_or (times_left l.self.times) l.place 0;
}

abbrev pub decreases-loop-left : goal.decreases-loop-left
decreases-loop-left l = l.left
