use Rattle.std.proofs.Common.{◌<◌, length, arith, ap}
use Rattle.mmt_casting.proofs.Sendings.{packets_in, sendings-end, units-counted}
use Rattle.mmt_casting.proofs.Spots.{group-end}
use Rattle.mmt_casting.specs.Places.{sendings_from}
use Rattle.mmt_casting.proofs.counting.media_packets.Goals as goal

pub loop-spot-init : goal.loop-spot-init
loop-spot-init c = record {
  spot = c.first-spot.ensures.spot c.args.programme.now c.requires;
  count = omega (arith, ap (λ u. packets_in c.args.programme.now (sendings_from c.args.programme.now u)) c.first-spot.ensures.place);
  few = omega arith;
  within = omega (arith, c.first-spot.ensures.place);
}

pub loop-spot-smaller : goal.loop-spot-smaller
loop-spot-smaller c =
    let g = group-end c.args.programme.now c.requires c.loop-spot.spot c.group_at-group.result c.loop-spot.invariant.spot (omega (arith, c.loop-spot-test.true, c.len-assets.ensures)) c.group_at-group.ensures in
    omega (arith, g, c.after-spot.ensures.place, c.group_at-group.ensures.some)

pub loop-spot-preserved : goal.loop-spot-preserved
loop-spot-preserved c =
    let inside : c.loop-spot.spot.asset < length c.args.programme.now.assets = omega (arith, c.loop-spot-test.true, c.len-assets.ensures) in
    let g = group-end c.args.programme.now c.requires c.loop-spot.spot c.group_at-group.result c.loop-spot.invariant.spot inside c.group_at-group.ensures in
    let n = units-counted c.args.programme.now c.loop-spot.spot c.group_at-group.result c.group_packets.result (omega (arith, g, c.group_at-group.ensures.some)) c.group_at-group.ensures c.group_packets.ensures.count in
    let p = ap (λ u. packets_in c.args.programme.now (sendings_from c.args.programme.now u)) c.after-spot.ensures.place in
    record {
      spot = c.after-spot.ensures.spot;
      count = omega (arith, c.loop-spot.invariant.count, n, p);
      few = omega (arith, c.loop-spot.invariant.few, c.group_packets.ensures.few, c.after-spot.ensures.place, c.group_at-group.ensures.some);
      within = omega (arith, g, c.after-spot.ensures.place);
    }

pub returns-clause-count : goal.returns-clause-count
returns-clause-count c =
    omega (
      arith,
      c.loop-spot.invariant.count,
      ap (packets_in c.args.programme.now) (sendings-end c.args.programme.now c.loop-spot.spot c.loop-spot.invariant.spot (omega (arith, c.loop-spot-test.false, c.len-assets.ensures))),
    )
