use Rattle.std.proofs.Common.{◌≡◌, max}
use Rattle.std.specs.List.{fold}
use Rattle.mmt_times.specs.TimesLeft.{times_left}
use Rattle.mmt_times.proofs.entry.Entry.greatest.Given as goal

abbrev pub invariant-loop-time : goal.invariant-loop-time
invariant-loop-time l = fold max l.greatest.0 (times_left l.time-iterator) ≡ fold max l.self.times.time.0 (times_left l.self.times)
