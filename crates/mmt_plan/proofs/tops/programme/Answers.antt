use Rattle.serde_json.specs.View.{view}
use Rattle.mmt_plan.proofs.Counts.{programme_is_few}
use Rattle.mmt_plan.proofs.tops.programme.Goals as goal

pub returns-clause-few : goal.returns-clause-few
returns-clause-few c = programme_is_few (view c.args.value.now) c.programme_at.result c.requires (rw c.top_spot.ensures at c.programme_at.ensures.value)
