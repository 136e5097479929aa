use Rattle.std.proofs.Common.{◌∙◌, ap, sym, subst, Err}
use Rattle.mmt_mux.proofs.Castable.{is_castable}
use Rattle.mmt_mux.proofs.Paced.{is_paced, nothing_sent, overfull_answer, paced_answer, paced_begun, paced_sent, refused_answer}
use Rattle.mmt_mux.proofs.Sending.{same_files}
use Rattle.mmt_mux.specs.Pacing.{IsPaceAnswer, IsPaced, PaceSends, castable}
use Rattle.mmt_mux.specs.declared.ends.PaceEnd.TheVariants as paces
use Rattle.mmt_pace.specs.Asked.{CanBePaced}
use Rattle.mmt_mux.proofs.muxing.pace.Goals as goal

pub pace_cast-requires-clause-cast : goal.pace_cast-requires-clause-cast
pace_cast-requires-clause-cast g c = subst CanBePaced (sym c.in-Ok.ensures.cast) (c.casts_can_be_paced.ensures c.in-Ok.both.0 c.in-Ok.ensures.right c.in-Ok.ensures.none)

pub returns-in-Err-clause-answer : goal.returns-in-Err-clause-answer
returns-in-Err-clause-answer g c = λ told. refused_answer (g.H.Shelf.file c.args.shelf.now) c.args.name.now c.args.step c.in-Err.end (c.in-Err.ensures.refused told)

pub returns-in-Err-clause-sends : goal.returns-in-Err-clause-sends
returns-in-Err-clause-sends g c = λ told ported. nothing_sent (g.H.Shelf.file c.args.shelf.now) c.args.name.now c.args.step (paces.Ended c.in-Err.end) (g.P.Port.history c.args.port.now)

pub returns-in-Err-pace_cast-clause-answer : goal.returns-in-Err-pace_cast-clause-answer
returns-in-Err-pace_cast-clause-answer g c = λ told.
    let file = g.H.Shelf.file c.args.shelf.now in
    let is = is_castable file c.args.name.now c.in-Ok.both.0 (c.in-Ok.ensures.read told) c.in-Ok.ensures.none in
    subst (λ e. IsPaceAnswer file c.args.name.now c.args.step (Err e)) (sym c.from.ensures)
    (overfull_answer file c.args.name.now c.args.step c.in-Ok.both.0 c.in-Ok.both.1 c.in-Err-pace_cast.end is c.in-Ok.ensures.cast c.in-Err-pace_cast.ensures.paces)

pub returns-in-Ok-send_cast-clause-answer : goal.returns-in-Ok-send_cast-clause-answer
returns-in-Ok-send_cast-clause-answer g c = λ told.
    let file = g.H.Shelf.file c.args.shelf.now in
    let read = c.in-Ok.ensures.read told in
    let is = is_castable file c.args.name.now c.in-Ok.both.0 read c.in-Ok.ensures.none in
    let paced = is_paced file c.args.name.now c.args.step c.in-Ok.both.0 c.in-Ok.both.1 c.in-Ok-pace_cast.paced is c.in-Ok.ensures.cast c.in-Ok-pace_cast.ensures.paces in
    let ok = c.in-Ok-send_cast.ensures.answer (c.in-Ok.ensures.shelf.tells ∙ told) (same_files file (g.H.Shelf.file c.read.new.shelf) c.in-Ok.both.0 (c.in-Ok.ensures.shelf.files told) read.files) in
    (c.in-Ok.both.0, c.in-Ok-pace_cast.paced, record { is = paced; admitted = ok })

pub returns-in-Ok-send_cast-clause-sends : goal.returns-in-Ok-send_cast-clause-sends
returns-in-Ok-send_cast-clause-sends g c = λ told ported.
    let file = g.H.Shelf.file c.args.shelf.now in
    let now = g.H.Shelf.file c.read.new.shelf in
    let read = c.in-Ok.ensures.read told in
    let is = is_castable file c.args.name.now c.in-Ok.both.0 read c.in-Ok.ensures.none in
    let paced = is_paced file c.args.name.now c.args.step c.in-Ok.both.0 c.in-Ok.both.1 c.in-Ok-pace_cast.paced is c.in-Ok.ensures.cast c.in-Ok-pace_cast.ensures.paces in
    let ok = c.in-Ok-send_cast.ensures.answer (c.in-Ok.ensures.shelf.tells ∙ told) (same_files file now c.in-Ok.both.0 (c.in-Ok.ensures.shelf.files told) read.files) in
    paced_sent file now c.args.name.now c.args.step c.in-Ok.both.0 c.in-Ok-pace_cast.paced (g.P.Port.history c.args.port.now) (g.P.Port.history c.send_cast.new.port) (c.in-Ok.ensures.shelf.files told) paced ok
    (c.in-Ok-send_cast.ensures.sends (c.in-Ok.ensures.shelf.tells ∙ told) ported)

pub returns-clause-answer : goal.returns-clause-answer
returns-clause-answer g c = λ told.
    let file = g.H.Shelf.file c.args.shelf.now in
    let read = c.in-Ok.ensures.read told in
    let is = is_castable file c.args.name.now c.in-Ok.both.0 read c.in-Ok.ensures.none in
    let paced = is_paced file c.args.name.now c.args.step c.in-Ok.both.0 c.in-Ok.both.1 c.in-Ok-pace_cast.paced is c.in-Ok.ensures.cast c.in-Ok-pace_cast.ensures.paces in
    paced_answer file c.args.name.now c.args.step c.in-Ok.both.0 c.in-Ok-pace_cast.paced c.in-Err-send_cast.end paced
    (c.in-Err-send_cast.ensures.answer (c.in-Ok.ensures.shelf.tells ∙ told) (same_files file (g.H.Shelf.file c.read.new.shelf) c.in-Ok.both.0 (c.in-Ok.ensures.shelf.files told) read.files))

pub returns-clause-sends : goal.returns-clause-sends
returns-clause-sends g c = λ told ported.
    let file = g.H.Shelf.file c.args.shelf.now in
    let now = g.H.Shelf.file c.read.new.shelf in
    let read = c.in-Ok.ensures.read told in
    let is = is_castable file c.args.name.now c.in-Ok.both.0 read c.in-Ok.ensures.none in
    let paced = is_paced file c.args.name.now c.args.step c.in-Ok.both.0 c.in-Ok.both.1 c.in-Ok-pace_cast.paced is c.in-Ok.ensures.cast c.in-Ok-pace_cast.ensures.paces in
    let answered = c.in-Err-send_cast.ensures.answer (c.in-Ok.ensures.shelf.tells ∙ told) (same_files file now c.in-Ok.both.0 (c.in-Ok.ensures.shelf.files told) read.files) in
    paced_begun file now c.args.name.now c.args.step c.in-Ok.both.0 c.in-Ok-pace_cast.paced c.in-Err-send_cast.end (g.P.Port.history c.args.port.now) (g.P.Port.history c.send_cast.new.port) (c.in-Ok.ensures.shelf.files told) paced answered
    (c.in-Err-send_cast.ensures.sends (c.in-Ok.ensures.shelf.tells ∙ told) ported)
