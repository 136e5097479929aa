use Rattle.std.proofs.Common.{◌≡◌, ◌++◌, Err, sym, subst}
use Rattle.mmt_model.specs.Admission.{fault}
use Rattle.mmt_model.specs.declared.casts.Cast.{Cast}
use Rattle.mmt_mux.proofs.Sending.{all_sent, none_sent, part_sent, send_ended}
use Rattle.mmt_mux.specs.Casts.{IsCastAnswer}
use Rattle.mmt_mux.specs.declared.ends.MuxEnd.TheVariants as ends
use Rattle.mmt_pace.specs.Recast.{IsItsCast}
use Rattle.mmt_send.specs.Files.{files_on}
use Rattle.mmt_send.specs.Writes.{HasBegun, pieces}
use Rattle.mmt_sent.specs.Stream.{stream}
use Rattle.mmt_mux.proofs.muxing.send_cast.Goals as goal

pub send-requires-clause-cast : goal.send-requires-clause-cast
send-requires-clause-cast g c = subst (IsItsCast c.args.programme.now) (sym c.in-Ok.ensures.admitted) c.requires.its

pub returns-in-Err-clause-sends : goal.returns-in-Err-clause-sends
returns-in-Err-clause-sends g c = λ told ported. none_sent _ (ends.NotAdmitted c.in-Err.refusal) (g.P.Port.history c.args.port.now)

pub returns-in-Ok-send-clause-sends : goal.returns-in-Ok-send-clause-sends
returns-in-Ok-send-clause-sends g c = λ told ported.
    let p = c.args.programme.now in
    let files = files_on (g.H.Shelf.file c.args.shelf.now) p in
    let old = g.P.Port.history c.args.port.now in
    let new = g.P.Port.history c.send.new.port in
    all_sent (fault c.args.cast.now) (stream p c.args.cast.now files) old new c.in-Ok.ensures.none
    (subst (λ (k : Cast). new ≡ old ++ pieces (stream p k files)) c.in-Ok.ensures.admitted (c.in-Ok-send.ensures.done told ported))

pub returns-in-Err-send-clause-answer : goal.returns-in-Err-send-clause-answer
returns-in-Err-send-clause-answer g c = λ told files.
    subst (λ end. IsCastAnswer (fault c.args.cast.now) (Err end)) (sym c.end_of_send.ensures)
    (send_ended (g.H.Shelf.file c.args.shelf.now) (fault c.args.cast.now) c.args.programme.now c.args.cast.now _ _ _ c.in-Err-send.end files told c.in-Err-send.ensures.cause)

pub returns-in-Err-send-clause-sends : goal.returns-in-Err-send-clause-sends
returns-in-Err-send-clause-sends g c = λ told ported.
    let p = c.args.programme.now in
    let files = files_on (g.H.Shelf.file c.args.shelf.now) p in
    let old = g.P.Port.history c.args.port.now in
    let new = g.P.Port.history c.send.new.port in
    part_sent (fault c.args.cast.now) (stream p c.args.cast.now files) c.end_of_send.result old new c.in-Ok.ensures.none
    (subst (λ (k : Cast). HasBegun old new (stream p k files)) c.in-Ok.ensures.admitted (c.in-Err-send.ensures.begun told ported))
