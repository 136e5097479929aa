use Rattle.serde_json.specs.View.{view, items_view}
use Rattle.mmt_plan.proofs.Counts.{through}
use Rattle.mmt_plan.proofs.members.array.Goals as goal

pub returns-in-Some-clause-within : goal.returns-in-Some-clause-within
returns-in-Some-clause-within c =
    through c.args.spot c.args.field c.args.name.now (view c.args.object.now) (view c.in_ok-member.field-0.now) (items_view c.in-Some.items.now.items) c.in_ok-member.ensures c.in-Some.ensures
