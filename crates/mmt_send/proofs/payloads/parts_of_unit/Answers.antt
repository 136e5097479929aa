use Rattle.mmt_send.proofs.EachKind.{count-is}
use Rattle.mmt_send.proofs.payloads.parts_of_unit.Goals as goal

pub returns : goal.returns
returns c = count-is c.args.job.now.cast.now c.as_slice-units.result.now c.args.unit _ c.as_slice-units.ensures c.requires
