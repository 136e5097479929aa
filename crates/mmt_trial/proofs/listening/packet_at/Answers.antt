use Rattle.std.proofs.Common.{◌≡◌, ℕ, List, [], length, arith, ap, sym, ◌∙◌}
use Rattle.mmt_tlv.specs.Framing.{spelling}
use Rattle.mmt_trial.proofs.Heard.{no-packet, only, piece-absent, piece-there}
use Rattle.mmt_trial.proofs.listening.packet_at.Goals as goal

pub returns-in-None-clause-given : goal.returns-in-None-clause-given
returns-in-None-clause-given c = λ packet fits e. no-packet packet (sym (piece-absent c.args.sent.now c.args.place c.in-None.ensures) ∙ e)

pub returns-then-used-bytes-clause-given : goal.returns-then-used-bytes-clause-given
returns-then-used-bytes-clause-given c = λ packet fits e. sym (piece-there c.args.sent.now c.args.place c.in-Some.bytes.now c.in-Some.ensures) ∙ e

pub returns-else-used-bytes-clause-given : goal.returns-else-used-bytes-clause-given
returns-else-used-bytes-clause-given c = λ packet fits e.
    let is : c.in-Some.bytes.now ≡ spelling packet = sym (piece-there c.args.sent.now c.args.place c.in-Some.bytes.now c.in-Some.ensures) ∙ e in
    let whole = c.in-Whole.ensures.whole packet [] fits (only c.in-Some.bytes.now packet is) in
    omega (arith, whole.1, ap (λ (b : List ℕ). length b) is)

pub returns-in-Short-clause-given : goal.returns-in-Short-clause-given
returns-in-Short-clause-given c = λ packet fits e.
    c.in-Short.ensures.whole packet [] fits (only c.in-Some.bytes.now packet (sym (piece-there c.args.sent.now c.args.place c.in-Some.bytes.now c.in-Some.ensures) ∙ e))

pub returns-in-Sync-clause-given : goal.returns-in-Sync-clause-given
returns-in-Sync-clause-given c = λ packet fits e.
    c.in-Sync.ensures.whole packet [] fits (only c.in-Some.bytes.now packet (sym (piece-there c.args.sent.now c.args.place c.in-Some.bytes.now c.in-Some.ensures) ∙ e))
