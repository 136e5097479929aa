use Rattle.std.proofs.Common.{◌≡◌, ◌+◌, ◌++◌, length, map, take}
use Rattle.mmt_times.specs.TimesLeft.{view_time, times_left}
use Rattle.mmt_times.proofs.slot.copied.Given as goal

abbrev pub invariant-loop-time : goal.invariant-loop-time
invariant-loop-time l =
    (length l.aus ≡ 255)
    × (l.count + length (times_left l.time-iterator) ≡ length (times_left l.fn.times))
    × (map view_time (take l.count l.aus) ++ times_left l.time-iterator ≡ times_left l.fn.times)
