use Rattle.std.proofs.Common.{◌∙◌, inl}
use Rattle.mmt_mux.proofs.Castable.{cast_answered, cast_sent, not_cast}
use Rattle.mmt_mux.proofs.Sending.{none_sent, readable, same_files}
use Rattle.mmt_mux.proofs.muxing.mux.Goals as goal

pub send_cast-requires-clause-its : goal.send_cast-requires-clause-its
send_cast-requires-clause-its g c = inl c.in-Ok.ensures.cast

pub send_cast-requires-clause-readable : goal.send_cast-requires-clause-readable
send_cast-requires-clause-readable g c = readable c.in-Ok.both.0 c.in-Ok.both.1 c.in-Ok.ensures.right c.in-Ok.ensures.none c.in-Ok.ensures.cast

pub returns-in-Err-clause-answer : goal.returns-in-Err-clause-answer
returns-in-Err-clause-answer g c = λ told. not_cast (g.H.Shelf.file c.args.shelf.now) c.args.name.now c.in-Err.end (c.in-Err.ensures.refused told)

pub returns-clause-answer : goal.returns-clause-answer
returns-clause-answer g c = λ told.
    let file = g.H.Shelf.file c.args.shelf.now in
    let read = c.in-Ok.ensures.read told in
    cast_answered file c.args.name.now c.in-Ok.both.0 c.in-Ok.both.1 c.send_cast.result read c.in-Ok.ensures.none c.in-Ok.ensures.cast
    (c.send_cast.ensures.answer (c.in-Ok.ensures.shelf.tells ∙ told) (same_files file (g.H.Shelf.file c.read.new.shelf) c.in-Ok.both.0 (c.in-Ok.ensures.shelf.files told) read.files))

pub returns-clause-muxes : goal.returns-clause-muxes
returns-clause-muxes g c = λ told ported.
    cast_sent (g.H.Shelf.file c.args.shelf.now) (g.H.Shelf.file c.read.new.shelf) c.args.name.now c.in-Ok.both.0 c.in-Ok.both.1 c.send_cast.result (g.P.Port.history c.args.port.now) (g.P.Port.history c.send_cast.new.port) (c.in-Ok.ensures.shelf.files told) (c.in-Ok.ensures.read told) c.in-Ok.ensures.none c.in-Ok.ensures.cast
    (c.send_cast.ensures.sends (c.in-Ok.ensures.shelf.tells ∙ told) ported)
