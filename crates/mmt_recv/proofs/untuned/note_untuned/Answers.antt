use Rattle.std.proofs.Common.{◌≡◌, ◌+◌, ◌∙◌, ap, refl, arith}
use Rattle.mmt_packet.specs.Spelling.{view, head_length}
use Rattle.mmt_sig.specs.PayloadReading.{payload_of}
use Rattle.mmt_recv.specs.Noting.{lines_of, untuned_signals}
use Rattle.mmt_recv.proofs.Lines.{put_same}
use Rattle.mmt_recv.proofs.Heads.{head_is, head_small, signals_are}
use Rattle.mmt_recv.proofs.untuned.note_untuned.Goals as goal

pub note_signals-requires-clause-place : goal.note_signals-requires-clause-place
note_signals-requires-clause-place g c =
    omega (arith, c.requires.place, head_is (view c.args.packet.now) c.header_length.result c.header_length.ensures, head_small (view c.args.packet.now) c.requires.fits)

pub returns-in-Signalling-clause-put : goal.returns-in-Signalling-clause-put
returns-in-Signalling-clause-put g c = λ told.
    let at : c.header_length.result ≡ head_length (view c.args.packet.now) = head_is (view c.args.packet.now) c.header_length.result c.header_length.ensures in
    let lines = ap (λ n. lines_of (untuned_signals c.args.bound (c.args.place + n) (payload_of (view c.args.packet.now).payload))) at
    ∙ signals_are c.args.bound c.args.place (view c.args.packet.now) (rw c.in-Signalling.is (rw c.if-packet-ne0.false refl)) in
    put_same _ _ _ _ _ lines (c.note_signals.ensures.put told)
