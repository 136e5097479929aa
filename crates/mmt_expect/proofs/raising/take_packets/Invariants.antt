use Rattle.std.proofs.Common.{length}
use Rattle.mmt_expect.specs.Latest.{AreUpTo, signal_in, unit_in}
use Rattle.mmt_expect.proofs.raising.take_packets.Given as goal

abbrev pub invariant-loop-place : goal.invariant-loop-place
invariant-loop-place l = record {
  units : AreUpTo unit_in l.packets l.reaches l.place (length l.fn.units) l.units;
  signals : AreUpTo signal_in l.packets l.reaches l.place (length l.fn.signals) l.signals;
}
