use Rattle.std.proofs.Common.{◌≡◌, length}
use Rattle.mmt_mpt.specs.AssetsLeft.{assets_left}
use Rattle.mmt_times.specs.NamedLeft.{named_left}
use Rattle.mmt_times.proofs.entries.EntriesIterator.next.Given as goal

abbrev pub invariant-loop-self : goal.invariant-loop-self
invariant-loop-self l = named_left l.self ≡ named_left l.initial.self

abbrev pub decreases-loop-self : goal.decreases-loop-self
decreases-loop-self l = length (assets_left l.self.assets)
