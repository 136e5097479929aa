use Rattle.std.proofs.Common.{◌≡◌, ◌≤◌, ◌-◌, ◌*◌, get_or, None}
use Rattle.mmt_casting.proofs.InTime.{times_from}
use Rattle.mmt_casting.specs.Timed.{times_of}
use Rattle.mmt_casting.proofs.due.au_time.Given as goal

abbrev pub invariant-loop-i : goal.invariant-loop-i
invariant-loop-i l = record {
  at : get_or (times_of l.mpu l.timescale) l.place None ≡ get_or (times_from l.mpu.time.0 l.mpu.decoding_offset l.timescale l.i l.before l.aus) (l.place - l.i) None;
  before : l.before ≤ l.i * 65535;
}
