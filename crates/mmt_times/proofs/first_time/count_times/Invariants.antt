use Rattle.std.proofs.Common.{◌≡◌, ◌+◌, ◌≤◌, length}
use Rattle.std.specs.Option.{is_some}
use Rattle.mmt_times.specs.Times.{all_in_range}
use Rattle.mmt_times.specs.TimesLeft.{units_left, times_left}
use Rattle.mmt_times.proofs.first_time.count_times.Given as goal

abbrev pub invariant-loop-after : goal.invariant-loop-after
invariant-loop-after l = record {
  all : is_some (all_in_range (units_left l.rest)) ≡ is_some (all_in_range (units_left l.times));
  counted : length (times_left l.rest) + l.times.left ≡ length (times_left l.times) + l.rest.left;
  fewer : l.rest.left ≤ l.times.left;
}

abbrev pub decreases-loop-after : goal.decreases-loop-after
decreases-loop-after l = l.rest.left
