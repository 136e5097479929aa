use Rattle.std.proofs.Common.{◌≡◌, ◌-◌, map}
use Rattle.mmt_runs.specs.Reading.{heard}
use Rattle.mmt_runs.specs.MessageParts.{first_before}
use Rattle.mmt_runs.proofs.messages.walk_back.Given as goal

abbrev pub invariant-loop-step : goal.invariant-loop-step
invariant-loop-step l =
    first_before (map heard l.pool.kept) l.span.packet_id l.most l.span.number
    ≡ first_before (map heard l.pool.kept) l.span.packet_id (l.most - l._step) l.number
