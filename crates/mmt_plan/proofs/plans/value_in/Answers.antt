use Rattle.serde_json.specs.View.{view}
use Rattle.mmt_plan.proofs.Nodes.{read_nodes}
use Rattle.mmt_plan.proofs.Outcomes.{json, no_json}
use Rattle.mmt_plan.proofs.plans.value_in.Goals as goal

pub returns-in-Ok : goal.returns-in-Ok
returns-in-Ok c = record {
  value = json c.args.bytes.now (view c.in-Ok.value) c.in-Ok.ensures.ok.0 c.in-Ok.ensures.ok.1;
  size = read_nodes c.args.bytes.now (view c.in-Ok.value) c.in-Ok.ensures.ok.1;
}

pub returns-else-is_memory : goal.returns-else-is_memory
returns-else-is_memory c = record { value = rw c.refused.ensures (no_json c.args.bytes.now (c.in-Err.ensures.err (λ m. let e = c.is_memory.ensures.1 m in cc))); size = tt }
