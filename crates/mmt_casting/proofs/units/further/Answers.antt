use Rattle.std.proofs.Common.{arith}
use Rattle.mmt_casting.proofs.Spots.{further-spot, spot-fits}
use Rattle.mmt_casting.proofs.units.further.Goals as goal

pub overflow_add-result : goal.overflow_add-result
overflow_add-result c =
    let f = spot-fits c.args.programme.now c.requires.right c.args.spot c.requires.spot c.requires.inside in
    omega (arith, f.own, c.requires.within)

pub overflow_add-result-2 : goal.overflow_add-result-2
overflow_add-result-2 c =
    let f = spot-fits c.args.programme.now c.requires.right c.args.spot c.requires.spot c.requires.inside in
    omega (arith, f.room, f.units, c.requires.within, (c.requires.spot.inside c.requires.inside).1)

pub returns-clause-spot : goal.returns-clause-spot
returns-clause-spot c = further-spot c.args.programme.now c.args.spot c.args.by c.requires.spot c.requires.inside c.requires.within
