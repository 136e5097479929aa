use Rattle.std.proofs.Common.{◌≡◌, ◌≤◌, length}
use Rattle.std.specs.Prelude.{IsTrue}
use Rattle.mmt_io.specs.Port.{OnlySends}
use Rattle.mmt_runs.specs.Lending.{the_presentation}
use Rattle.mmt_output.specs.Records.{record_of}
use Rattle.mmt_output.proofs.Recording.{Begun}
use Rattle.mmt_output.proofs.writing.write_unit.Given as goal

abbrev pub invariant-parts : goal.invariant-parts
invariant-parts g l =
    let port = g.P.Port in
    record {
      sends : OnlySends port.tells port.left port.read_faults port.write_faults l.fn.port l.port;
      begun : IsTrue (port.tells l.fn.port) → Begun (port.history l.fn.port) (port.history l.port) (record_of (the_presentation l.fn.unit)) l.unit.left;
    }

abbrev pub decreases-parts : goal.decreases-parts
decreases-parts g l = length l.unit.left
