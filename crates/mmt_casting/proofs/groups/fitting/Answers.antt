use Rattle.std.proofs.Common.{arith}
use Rattle.mmt_casting.proofs.Gathering.{fits-end, fits-no, fits-yes, room-end, room-no, room-yes}
use Rattle.mmt_casting.proofs.groups.fitting.Goals as goal

pub returns-then-not-goes_in-clause-count : goal.returns-then-not-goes_in-clause-count
returns-then-not-goes_in-clause-count c =
    omega (arith, c.loop-i.invariant.fits, fits-no c.args.header c.args.limit c.args.at.0 c.loop-i.room c.loop-i.i c.args.units.now _ c.loop-i-test.true c.if-not-goes_in.ensures)

pub returns-then-not-goes_in-clause-room : goal.returns-then-not-goes_in-clause-room
returns-then-not-goes_in-clause-room c =
    omega (arith, c.loop-i.invariant.room, room-no c.args.header c.args.limit c.args.at.0 c.loop-i.room c.loop-i.i c.args.units.now _ c.loop-i-test.true c.if-not-goes_in.ensures)

pub loop-i-preserved : goal.loop-i-preserved
loop-i-preserved c = record {
  from = omega arith;
  fits = omega (arith, c.loop-i.invariant.fits, fits-yes c.args.header c.args.limit c.args.at.0 c.loop-i.room c.loop-i.i c.args.units.now _ c.loop-i-test.true c.if-not-goes_in.ensures);
  room = omega (arith, c.loop-i.invariant.room, room-yes c.args.header c.args.limit c.args.at.0 c.loop-i.room c.loop-i.i c.args.units.now _ c.loop-i-test.true c.if-not-goes_in.ensures);
  within = omega arith;
}

pub returns-clause-count : goal.returns-clause-count
returns-clause-count c = omega (arith, c.loop-i.invariant.fits, fits-end c.args.header c.args.limit c.args.at.0 c.loop-i.room c.loop-i.i c.args.units.now c.loop-i-test.false)

pub returns-clause-room : goal.returns-clause-room
returns-clause-room c = omega (arith, c.loop-i.invariant.room, room-end c.args.header c.args.limit c.args.at.0 c.loop-i.room c.loop-i.i c.args.units.now c.loop-i-test.false)
