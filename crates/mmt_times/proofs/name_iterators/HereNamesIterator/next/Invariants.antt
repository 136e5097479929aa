use Rattle.std.proofs.Common.{◌≡◌, length}
use Rattle.mmt_times.specs.NamesLeft.{ids_left}
use Rattle.mmt_times.specs.AssetNamesLeft.{here_left}
use Rattle.mmt_times.proofs.name_iterators.HereNamesIterator.next.Given as goal

abbrev pub invariant-loop-named : goal.invariant-loop-named
invariant-loop-named l = here_left l.self ≡ here_left l.initial.self

abbrev pub decreases-loop-named : goal.decreases-loop-named
decreases-loop-named l = length (ids_left l.self.ids)
