use Rattle.std.proofs.Common.{◌≡◌, ◌+◌, drop}
use Rattle.std.specs.List.{sum_by}
use Rattle.mmt_cast.specs.Tables.{descriptors_length, extended_length}
use Rattle.mmt_signals.specs.Named.{named}
use Rattle.mmt_signals.proofs.named.descriptors_size.Given as goal

abbrev pub invariant-loop-name : goal.invariant-loop-name
invariant-loop-name l = l.size + sum_by extended_length (named l.asset (drop l.name-index l.names)) ≡ descriptors_length (named l.asset l.names)
