use Rattle.mmt_lists.proofs.CountedSteps.{items_zero}
use Rattle.mmt_services.specs.PackageReading.{package_at}
use Rattle.mmt_services.proofs.packages.PackagesIterator.next.Goals as goal

pub returns-then-self-eq0-clause-steps : goal.returns-then-self-eq0-clause-steps
returns-then-self-eq0-clause-steps c =
    let none = items_zero package_at c.args.self.now.left c.args.self.now.at c.args.self.now.rest.now c.if-self-eq0.true in
    (none, none)
