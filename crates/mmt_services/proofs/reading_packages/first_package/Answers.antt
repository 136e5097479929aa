use Rattle.mmt_lists.proofs.CountedSteps.{first_item, no_item}
use Rattle.mmt_services.specs.PackageReading.{package_at}
use Rattle.mmt_services.proofs.reading_packages.first_package.Goals as goal

pub returns-in-Ok-clause-first : goal.returns-in-Ok-clause-first
returns-in-Ok-clause-first c = first_item package_at c.args.left c.args.at c.args.bytes.now _ c.requires.some c.in-Ok.ensures.gives

pub returns-in-Err-clause-first : goal.returns-in-Err-clause-first
returns-in-Err-clause-first c = no_item package_at c.args.left c.args.at c.args.bytes.now _ c.in-Err.ensures.gives
