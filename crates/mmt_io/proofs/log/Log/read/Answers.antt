use Rattle.std.proofs.Common.{arith}
use Rattle.mmt_io.proofs.Keeping.{Keeps, fits_room, kept_read}
use Rattle.mmt_io.proofs.log.Log.read.Goals as goal

pub push_piece-requires : goal.push_piece-requires
push_piece-requires c =
    let keeps : Keeps c.self.inside.input.items c.self.inside.taken c.self.inside.written.items c.self.inside.noted.items c.self.inside.pieces.items c.self.inside.calls c.self.inside.bytes c.args.self.now = record { view = c.self.view_is; out = c.self.invariant.out; note = c.self.invariant.note; used = c.self.invariant.used } in
    let fits = fits_room _ _ _ _ _ _ _ c.args.self.now 0 keeps c.requires in
    omega (arith, fits.0, c.self.invariant.pieces_fit)

pub returns-clause-kept : goal.returns-clause-kept
returns-clause-kept c = kept_read _ _ _ _ _ _ _ _ c.args.self.now c.min-count.result c.self.view_is c.self.invariant.read c.push_piece.ensures.pushed
