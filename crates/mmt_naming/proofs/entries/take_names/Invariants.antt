use Rattle.std.proofs.Common.{◌≡◌, ◌≤◌, map}
use Rattle.std.specs.Prelude.{IsTrue}
use Rattle.std.specs.List.{AllByRecursion}
use Rattle.mmt_io.specs.Port.{OnlySends}
use Rattle.mmt_runs.specs.Told.{IsTold}
use Rattle.mmt_times.specs.NamedLeft.{named_left}
use Rattle.mmt_naming.specs.Findings.{finding_of}
use Rattle.mmt_naming.specs.Places.{IsInTable}
use Rattle.mmt_naming.specs.Lines.{learned_by, lines_of}
use Rattle.mmt_naming.specs.Begun.{Begun}
use Rattle.mmt_naming.proofs.entries.take_names.Given as goal

abbrev pub invariant-loop-named : goal.invariant-loop-named
invariant-loop-named g l =
    let port = g.P.Port in
    let of = finding_of l.fn.spot.message l.fn.spot.at in
    record {
      sends : OnlySends port.tells port.left port.read_faults port.write_faults l.fn.port l.port;
      places : AllByRecursion IsInTable (named_left l.named-iterator);
      told : IsTold l.runs l.fn.pool.kept l.names;
      names : learned_by l.fn.by.clock.0 l.names (map of (named_left l.named-iterator)) ≡ learned_by l.fn.by.clock.0 l.fn.names (map of (named_left l.fn.entries));
      begun : IsTrue (port.tells l.fn.port) → Begun (port.history l.fn.port) (port.history l.port) (lines_of l.fn.by.place l.fn.by.clock.0 l.fn.names.entries (map of (named_left l.fn.entries))) (lines_of l.fn.by.place l.fn.by.clock.0 l.names.entries (map of (named_left l.named-iterator)));
    }
