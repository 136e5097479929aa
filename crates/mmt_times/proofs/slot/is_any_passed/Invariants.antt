use Rattle.std.proofs.Common.{◌≡◌, map, drop}
use Rattle.std.specs.List.{list_any}
use Rattle.mmt_base.specs.Ticks.{due_of, is_passed, low}
use Rattle.mmt_times.specs.TimesLeft.{view_time}
use Rattle.mmt_times.proofs.slot.is_any_passed.Given as goal

abbrev pub invariant-loop-time : goal.invariant-loop-time
invariant-loop-time l =
    list_any (λ t. is_passed (low (due_of t)) l.from.0 l.to.0) (map view_time (drop l.time-index l.times)) ≡ list_any (λ t. is_passed (low (due_of t)) l.from.0 l.to.0) (map view_time l.times)
