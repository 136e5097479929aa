use Rattle.std.proofs.Common.{◌≡◌, ◌+◌, ◌-◌, ◌≤◌, ◌<◌, [], length}
use Rattle.std.specs.Prelude.{IsTrue}
use Rattle.mmt_stream.specs.Driving.{Turn}
use Rattle.mmt_stream.proofs.drive.read_through.Given as goal

abbrev pub invariant-reads : goal.invariant-reads
invariant-reads g l =
    let port = g.P.Port in
    let consumer = g.C.Consumer in
    let m = consumer.meaning l.fn.consumer in
    record {
      tells : port.tells l.port ≡ port.tells l.fn.port;
      later_reads : port.read_faults l.fn.port ≤ port.read_faults l.port;
      later_writes : port.write_faults l.fn.port ≤ port.write_faults l.port;
      size : l.cutter.place + length l.cutter.held ≡ l.taken;
      bound : l.taken ≤ l.limit;
      room : 0 < length l.buffer;
      same : consumer.meaning l.consumer ≡ m;
      turn : IsTrue (port.tells l.fn.port) →
          Turn m consumer.stands l.limit (port.history l.fn.port) (port.history l.fn.port) (port.left l.fn.port) (port.left l.fn.port) [] l.fn.cutter l.fn.consumer (consumer.gathered l.fn.consumer) →
          Turn m consumer.stands l.limit (port.history l.fn.port) (port.history l.port) (port.left l.fn.port) (port.left l.port) [] l.cutter l.consumer (consumer.gathered l.consumer);
    }

abbrev pub decreases-reads : goal.decreases-reads
decreases-reads g l = l.limit - l.taken
