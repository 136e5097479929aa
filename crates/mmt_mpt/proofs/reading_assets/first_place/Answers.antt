use Rattle.mmt_lists.proofs.CountedSteps.{first_item, no_item}
use Rattle.mmt_mpt.specs.AssetReading.{place_at}
use Rattle.mmt_mpt.proofs.reading_assets.first_place.Goals as goal

pub returns-in-Ok-clause-first : goal.returns-in-Ok-clause-first
returns-in-Ok-clause-first c = first_item place_at c.args.left c.args.at c.args.bytes.now _ c.requires.some c.in-Ok.ensures.gives

pub returns-in-Err-clause-first : goal.returns-in-Err-clause-first
returns-in-Err-clause-first c = no_item place_at c.args.left c.args.at c.args.bytes.now _ c.in-Err.ensures.gives
