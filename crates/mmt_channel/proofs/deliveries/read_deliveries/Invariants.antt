use Rattle.std.proofs.Common.{◌≡◌, ◌+◌, ◌<◌, ◌≤◌, ◌++◌, length}
use Rattle.std.specs.List.{AllByRecursion, flat_map}
use Rattle.mmt_channel.specs.Lists.{line_of}
use Rattle.mmt_channel.proofs.deliveries.read_deliveries.Given as goal

abbrev pub invariant-loop-rest : goal.invariant-loop-rest
invariant-loop-rest l = record {
  lines : l.text ≡ flat_map line_of l.list ++ l.rest;
  places : AllByRecursion (λ d. d < l.sent) l.list;
  few : length l.list + length l.rest ≤ length l.text;
}

abbrev pub decreases-loop-rest : goal.decreases-loop-rest
decreases-loop-rest l = length l.rest
