use Rattle.std.proofs.Common.{◌≡◌, ◌+◌, ◌*◌, ◌^◌, ◌<◌, ◌≤◌, length, slice_index}
use Rattle.std.specs.Prelude.{IsTrue}
use Rattle.std.specs.List.{All}
use Rattle.mmt_io.specs.Port.{OnlySends}
use Rattle.mmt_runs.specs.Told.{IsTold}
use Rattle.mmt_sig.specs.MessageView.{tables_left}
use Rattle.mmt_naming.specs.Findings.{findings_of_tables}
use Rattle.mmt_naming.specs.Lines.{learned_by, lines_of}
use Rattle.mmt_naming.specs.Begun.{Begun}
use Rattle.mmt_naming.proofs.tables.take_tables.Given as goal

abbrev pub invariant-loop-table : goal.invariant-loop-table
invariant-loop-table g l =
    let port = g.P.Port in
    let of = findings_of_tables l.fn.by.timescale l.fn.spot.message in
    let now = l.fn.by.clock.0 in
    record {
      sends : OnlySends port.tells port.left port.read_faults port.write_faults l.fn.port l.port;
      fits : l.at + 2 ^ 17 * (length (tables_left l.table-iterator) + 1) < 2 ^ 32;
      within : All (λ t. length t.bytes < 2 ^ 17) (tables_left l.table-iterator);
      begin : All (λ t. slice_index t.bytes 0 ≡ t.id) (tables_left l.table-iterator);
      told : IsTold l.runs l.fn.pool.kept l.names;
      names : learned_by now l.names (of l.at (tables_left l.table-iterator)) ≡ learned_by now l.fn.names (of l.fn.spot.at (tables_left l.fn.tables));
      begun : IsTrue (port.tells l.fn.port) → Begun (port.history l.fn.port) (port.history l.port) (lines_of l.fn.by.place now l.fn.names.entries (of l.fn.spot.at (tables_left l.fn.tables))) (lines_of l.fn.by.place now l.names.entries (of l.at (tables_left l.table-iterator)));
    }
