use Rattle.std.proofs.Common.{◌≡◌, ◌+◌, rules, length, arith}
use Rattle.mmt_io.proofs.Keeping.{Keeps, fits_room, kept_write}
use Rattle.mmt_io.proofs.log.Log.write.Goals as goal

pub push_piece-requires : goal.push_piece-requires
push_piece-requires c =
    let keeps : Keeps c.self.inside.input.items c.self.inside.taken c.self.inside.written.items c.self.inside.noted.items c.self.inside.pieces.items c.self.inside.calls c.self.inside.bytes c.args.self.now = record { view = c.self.view_is; out = c.self.invariant.out; note = c.self.invariant.note; used = c.self.invariant.used } in
    let fits = fits_room _ _ _ _ _ _ _ c.args.self.now (length c.args.bytes.now) keeps c.requires in
    omega (arith, fits.0, c.self.invariant.pieces_fit)

pub append-requires : goal.append-requires
append-requires c =
    let keeps : Keeps c.self.inside.input.items c.self.inside.taken c.self.inside.written.items c.self.inside.noted.items c.self.inside.pieces.items c.self.inside.calls c.self.inside.bytes c.args.self.now = record { view = c.self.view_is; out = c.self.invariant.out; note = c.self.invariant.note; used = c.self.invariant.used } in
    let fits = fits_room _ _ _ _ _ _ _ c.args.self.now (length c.args.bytes.now) keeps c.requires in
    omega (arith, fits.1, c.self.invariant.written_fit)

pub returns : goal.returns
returns c = kept_write _ _ _ _ _ _ _ _ _ c.args.self.now c.args.bytes.now c.self.view_is c.self.invariant.out c.push_piece.ensures.pushed c.append.ensures.bytes

pub invariant_of-self : goal.invariant_of-self
invariant_of-self c =
    let keeps : Keeps c.self.inside.input.items c.self.inside.taken c.self.inside.written.items c.self.inside.noted.items c.self.inside.pieces.items c.self.inside.calls c.self.inside.bytes c.args.self.now = record { view = c.self.view_is; out = c.self.invariant.out; note = c.self.invariant.note; used = c.self.invariant.used } in
    let fits = fits_room _ _ _ _ _ _ _ c.args.self.now (length c.args.bytes.now) keeps c.requires in
    let longer : length c.append.new.kept.items ≡ length c.self.inside.written.items + length c.args.bytes.now = search rules in
    record {
      within = c.self.invariant.within;
      read = search rules;
      out = search rules;
      note = search rules;
      used = omega (arith, fits.1, longer);
      pieces_fit = omega (arith, c.self.invariant.pieces_fit, c.push_piece.ensures.room);
      written_fit = omega (arith, c.self.invariant.written_fit, c.append.ensures.room);
      noted_fit = omega (arith, c.self.invariant.noted_fit, c.append.ensures.room);
    }
