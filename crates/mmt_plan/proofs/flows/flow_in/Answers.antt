use Rattle.mmt_plan.proofs.FlowTexts.{reads, ranges}
use Rattle.mmt_plan.proofs.flows.flow_in.Goals as goal

pub returns-clause-value : goal.returns-clause-value
returns-clause-value c = reads c.args.text.now c.flow_of.result c.flow_of.ensures.some c.flow_of.ensures.range c.flow_of.ensures.none

pub returns-clause-range : goal.returns-clause-range
returns-clause-range c = ranges c.flow_of.result c.flow_of.ensures.range
