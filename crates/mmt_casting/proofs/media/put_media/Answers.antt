use Rattle.std.proofs.Common.{◌<◌, length, arith, ap}
use Rattle.mmt_casting.proofs.Counts.{times-none}
use Rattle.mmt_casting.proofs.Progress.{number-fits, sent-first, sent-next, sent-packets, sent-units}
use Rattle.mmt_casting.proofs.Spots.{group-end}
use Rattle.mmt_casting.specs.declared.units.Run.{Run}
use Rattle.mmt_casting.proofs.media.put_media.Goals as goal

pub loop-spot-init : goal.loop-spot-init
loop-spot-init c = record {
  spot = c.first-spot.ensures.spot c.args.programme.now c.requires.right;
  sent = sent-first c.args.programme.now c.requires.right c.first-spot.result c.args.packets.now.items c.args.units.now.items c.first-spot.ensures.place c.requires.packets c.requires.units;
  within = omega (arith, c.first-spot.ensures.place);
}

pub put_group-requires-clause-numbers : goal.put_group-requires-clause-numbers
put_group-requires-clause-numbers c =
    number-fits c.args.programme.now c.loop-spot.spot c.group_at-group.result c.loop-spot.number c.loop-spot.packets.items c.loop-spot.units.items c.requires.none c.loop-spot.invariant.spot (omega (arith, c.loop-spot-test.true, c.len-assets.ensures)) c.group_at-group.ensures
    c.loop-spot.invariant.sent

pub put_units-requires-clause-timed : goal.put_units-requires-clause-timed
put_units-requires-clause-timed c = times-none c.args.programme.now c.requires.none

pub overflow_add-number : goal.overflow_add-number
overflow_add-number c =
    omega (
      arith,
      number-fits c.args.programme.now c.loop-spot.spot c.group_at-group.result c.loop-spot.number c.loop-spot.packets.items c.loop-spot.units.items c.requires.none c.loop-spot.invariant.spot (omega (arith, c.loop-spot-test.true, c.len-assets.ensures)) c.group_at-group.ensures
          c.loop-spot.invariant.sent,
      ap (λ (r : Run). r.count) c.run_of-run.ensures,
    )

pub loop-spot-smaller : goal.loop-spot-smaller
loop-spot-smaller c =
    let g = group-end c.args.programme.now c.requires.right c.loop-spot.spot c.group_at-group.result c.loop-spot.invariant.spot (omega (arith, c.loop-spot-test.true, c.len-assets.ensures)) c.group_at-group.ensures in
    omega (arith, g, c.after-next.ensures.place, c.group_at-group.ensures.some)

pub loop-spot-preserved : goal.loop-spot-preserved
loop-spot-preserved c =
    let inside : c.loop-spot.spot.asset < length c.args.programme.now.assets = omega (arith, c.loop-spot-test.true, c.len-assets.ensures) in
    let g = group-end c.args.programme.now c.requires.right c.loop-spot.spot c.group_at-group.result c.loop-spot.invariant.spot inside c.group_at-group.ensures in
    record {
      spot = c.after-next.ensures.spot;
      sent = rw c.next_number-number.ensures
          (sent-next c.args.programme.now c.requires.right c.loop-spot.spot c.after-next.result c.group_at-group.result c.loop-spot.number c.run_of-run.result c.loop-spot.packets.items c.put_group.new.out.items c.loop-spot.units.items c.put_units.new.out.items
          c.loop-spot.invariant.spot inside c.group_at-group.ensures c.loop-spot.invariant.sent c.in_ok-put_group.ensures c.run_of-run.ensures c.in_ok-put_units.ensures c.after-next.ensures.place c.after-next.ensures.low c.after-next.ensures.high);
      within = omega (arith, g, c.after-next.ensures.place);
    }

pub returns-clause-packets : goal.returns-clause-packets
returns-clause-packets c =
    sent-packets c.args.programme.now c.loop-spot.spot c.loop-spot.number c.loop-spot.packets.items c.loop-spot.units.items c.loop-spot.invariant.spot (omega (arith, c.loop-spot-test.false, c.len-assets.ensures)) c.loop-spot.invariant.sent

pub returns-clause-units : goal.returns-clause-units
returns-clause-units c =
    sent-units c.args.programme.now c.loop-spot.spot c.loop-spot.number c.loop-spot.packets.items c.loop-spot.units.items c.loop-spot.invariant.spot (omega (arith, c.loop-spot-test.false, c.len-assets.ensures)) c.loop-spot.invariant.within
    c.loop-spot.invariant.sent
