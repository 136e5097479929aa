use Rattle.std.proofs.Common.{◌≡◌, ℕ, ◌+◌, ◌-◌, ◌≤◌, map, Some, None}
use Rattle.mmt_model.specs.Units.{rest_of_run, signal_link}
use Rattle.mmt_runs.specs.Reading.{heard}
use Rattle.mmt_runs.specs.MessageParts.{Ends}
use Rattle.mmt_runs.proofs.Sums.{weights}
use Rattle.mmt_runs.proofs.messages.rest_of.Given as goal

abbrev pub invariant-loop-step : goal.invariant-loop-step
invariant-loop-step l =
    let kept = map heard l.pool.kept in
    let most = l.most in
    record {
      none : rest_of_run signal_link kept l.span.packet_id (most - l._step) l.number ≡ None → rest_of_run signal_link kept l.span.packet_id most l.span.number ≡ None;
      some : (c t : ℕ) → Ends kept l.span.packet_id (most - l._step) l.number (Some (c, t)) → Ends kept l.span.packet_id most l.span.number (Some (l.count + c, l.length + t));
      count : l.count ≤ l._step;
      within : l.length + weights (λ h. h.length) kept l.span.packet_id (most - l._step) l.number ≤ most;
    }
