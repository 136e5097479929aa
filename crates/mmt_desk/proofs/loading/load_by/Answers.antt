use Rattle.std.proofs.Common.{◌≡◌, ◌<◌, ◌≤◌, Ok, Err, length, length-take, IsTrue, arith, rules}
use Rattle.mmt_io.specs.Shelf.{Shows}
use Rattle.mmt_io.specs.declared.shelf.ShelfFault.TheVariants.{Absent}
use Rattle.mmt_plan.proofs.Fronts.{begins, goes_on, whole, absent, too_long, ended, failed, stays, stays_on, shown}
use Rattle.mmt_desk.proofs.loading.load_by.Goals as goal

pub pieces-init : goal.pieces-init
pieces-init g c = record { shelf = stays; front = rw c.new-bytes.ensures.items (begins (g.H.Shelf.tells c.args.shelf.now) (g.H.Shelf.file c.args.shelf.now c.args.name.now)) }

pub returns-in-Err-Absent-clause-bytes : goal.returns-in-Err-Absent-clause-bytes
returns-in-Err-Absent-clause-bytes g c =
    rw c.refused.ensures (absent (g.H.Shelf.tells c.args.shelf.now) (g.H.Shelf.file c.args.shelf.now c.args.name.now) c.len-at.result c.read_at.new.buf
    (shown c.args.name.now c.len-at.result (Err Absent) c.read_at.new.buf c.pieces.invariant.shelf (rw c.in-Err-Absent.field-0-is at c.in-Err-Absent.ensures.bytes)))

pub returns-in-Err-Failed-clause-bytes : goal.returns-in-Err-Failed-clause-bytes
returns-in-Err-Failed-clause-bytes g c = failed (g.H.Shelf.tells c.args.shelf.now) (g.H.Shelf.file c.args.shelf.now c.args.name.now)

pub returns-then-count-eq0-clause-bytes : goal.returns-then-count-eq0-clause-bytes
returns-then-count-eq0-clause-bytes g c =
    let at : c.len-at.result ≡ length c.pieces.bytes.items = search rules in
    let room : 0 < length c.read_at.new.buf = omega (arith, length-take c.min-room.result c.pieces.piece) in
    let le : length c.pieces.bytes.items ≤ 16777216 = omega arith in
    let shows : IsTrue (g.H.Shelf.tells c.args.shelf.now) → Shows (g.H.Shelf.file c.args.shelf.now c.args.name.now) c.len-at.result (Ok c.in-Ok.count) c.read_at.new.buf =
    shown c.args.name.now c.len-at.result (Ok c.in-Ok.count) c.read_at.new.buf c.pieces.invariant.shelf c.in-Ok.ensures.bytes in
    whole (g.H.Shelf.tells c.args.shelf.now) (g.H.Shelf.file c.args.shelf.now c.args.name.now) c.pieces.bytes.items c.read_at.new.buf c.pieces.invariant.front (rw (at, c.if-count-eq0.true) at shows) room le

pub pieces-preserved : goal.pieces-preserved
pieces-preserved g c = record {
  shelf = stays_on c.pieces.invariant.shelf c.read_at.ensures.tells c.read_at.ensures.files c.read_at.ensures.later;
  front =
      let at : c.len-at.result ≡ length c.pieces.bytes.items = search rules in
      let shows : IsTrue (g.H.Shelf.tells c.args.shelf.now) → Shows (g.H.Shelf.file c.args.shelf.now c.args.name.now) c.len-at.result (Ok c.in-Ok.count) c.read_at.new.buf =
      shown c.args.name.now c.len-at.result (Ok c.in-Ok.count) c.read_at.new.buf c.pieces.invariant.shelf c.in-Ok.ensures.bytes in
      rw c.in-Ok-extend_from_slice.ensures.items
      (goes_on (g.H.Shelf.tells c.args.shelf.now) (g.H.Shelf.file c.args.shelf.now c.args.name.now) c.pieces.bytes.items c.read_at.new.buf c.in-Ok.count c.pieces.invariant.front (rw at at shows));
}

pub returns-in-Err-clause-bytes : goal.returns-in-Err-clause-bytes
returns-in-Err-clause-bytes g c = ended (g.H.Shelf.tells c.args.shelf.now) (g.H.Shelf.file c.args.shelf.now c.args.name.now)

pub returns-clause-bytes : goal.returns-clause-bytes
returns-clause-bytes g c =
    rw c.refused-2.ensures (too_long (g.H.Shelf.tells c.args.shelf.now) (g.H.Shelf.file c.args.shelf.now c.args.name.now) c.pieces.bytes.items c.pieces.invariant.front (omega arith))
