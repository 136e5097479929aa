use Rattle.std.proofs.Common.{ap}
use Rattle.mmt_casting.proofs.Grouped.{group-sent}
use Rattle.mmt_model.specs.declared.programmes.Asset.{Asset}
use Rattle.mmt_model.specs.declared.programmes.Unit.{Unit as PlannedUnit}
use Rattle.mmt_casting.proofs.sending.group_packet.Goals as goal

pub returns : goal.returns
returns c =
    group-sent c.args.programme.now c.args.spot c.args.group c.args.number c.unit_of.result.now.at c.asset_of.result.now.packet_id c.requires.spot c.requires.inside c.requires.group c.requires.several
    (ap (λ (x : PlannedUnit). x.at) c.unit_of.ensures) (ap (λ (x : Asset). x.packet_id) c.asset_of.ensures)
