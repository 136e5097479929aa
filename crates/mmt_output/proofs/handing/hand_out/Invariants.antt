use Rattle.std.proofs.Common.{◌≡◌, ◌≤◌, List, map, length}
use Rattle.std.specs.Prelude.{IsTrue}
use Rattle.mmt_io.specs.Port.{OnlySends}
use Rattle.mmt_model.specs.Handing.{Presentation, due_units}
use Rattle.mmt_model.specs.Units.{units_of}
use Rattle.mmt_runs.specs.Leading.{rest_after}
use Rattle.mmt_runs.specs.Reading.{heard}
use Rattle.mmt_output.proofs.Amounts.{HandsOut}
use Rattle.mmt_output.proofs.handing.hand_out.Given as goal

abbrev pub invariant-units : goal.invariant-units
invariant-units g l =
    let port = g.P.Port in
    let due : List Presentation = due_units l.names.sample_base l.names.entries (units_of (map heard l.pool.kept)) l.from.0 l.to.0 in
    record {
      sends : OnlySends port.tells port.left port.read_faults port.write_faults l.fn.port l.port;
      hands : HandsOut (IsTrue (port.tells l.fn.port)) (port.history l.fn.port) (port.history l.port) due (rest_after l.after due) l.handed;
    }

abbrev pub decreases-units : goal.decreases-units
decreases-units g l = length (rest_after l.after (due_units l.names.sample_base l.names.entries (units_of (map heard l.pool.kept)) l.from.0 l.to.0))
