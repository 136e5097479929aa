use Rattle.std.proofs.Common.{◌≡◌, map, nat_eq}
use Rattle.std.specs.Cmp.Lexicographic.{pointwise}
use Rattle.mmt_times.specs.TimesLeft.{view_time, times_left}
use Rattle.mmt_times.proofs.slot.are.Given as goal

abbrev pub invariant-loop-time : goal.invariant-loop-time
invariant-loop-time l = pointwise nat_eq (map view_time l.rest) (times_left l.time-iterator) ≡ pointwise nat_eq (map view_time l.fn.kept) (times_left l.fn.times)
