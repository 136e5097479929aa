use Rattle.std.proofs.Common.{◌≡◌, ◌≤◌, ◌*◌}
use Rattle.mmt_casting.proofs.FirstOut.{out_from}
use Rattle.mmt_casting.proofs.ranges.first_out.Given as goal

abbrev pub invariant-loop-i : goal.invariant-loop-i
invariant-loop-i l = (out_from l.mpu.time.0 l.mpu.decoding_offset l.timescale 0 0 l.aus ≡ out_from l.mpu.time.0 l.mpu.decoding_offset l.timescale l.i l.before l.aus) × (l.before ≤ l.i * 65535)
