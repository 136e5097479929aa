use Rattle.std.proofs.Common.{◌≡◌, ◌≤◌, ◌*◌, max}
use Rattle.std.specs.List.{fold}
use Rattle.mmt_casting.proofs.InTime.{times_from}
use Rattle.mmt_casting.specs.Timed.{times_of}
use Rattle.mmt_times.specs.Times.{in_range}
use Rattle.mmt_casting.proofs.due.last_time.Given as goal

abbrev pub invariant-loop-i : goal.invariant-loop-i
invariant-loop-i l = record {
  last : fold max l.mpu.time.0 (in_range (times_of l.mpu l.timescale)) ≡ fold max l.last.0 (in_range (times_from l.mpu.time.0 l.mpu.decoding_offset l.timescale l.i l.before l.aus));
  before : l.before ≤ l.i * 65535;
}
