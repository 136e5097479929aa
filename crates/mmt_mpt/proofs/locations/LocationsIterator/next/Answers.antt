use Rattle.mmt_lists.proofs.CountedSteps.{items_zero}
use Rattle.mmt_mpt.specs.AssetReading.{place_at}
use Rattle.mmt_mpt.proofs.locations.LocationsIterator.next.Goals as goal

pub returns-then-self-eq0-clause-steps : goal.returns-then-self-eq0-clause-steps
returns-then-self-eq0-clause-steps c =
    let none = items_zero place_at c.args.self.now.left c.args.self.now.at c.args.self.now.rest.now c.if-self-eq0.true in
    (none, none)
