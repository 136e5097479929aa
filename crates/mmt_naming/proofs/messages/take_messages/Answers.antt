use Rattle.std.proofs.Common.{◌<◌, ◌^◌, ◌+◌, ◌∙◌, sym, subst, ap, length, arith}
use Rattle.std.specs.Prelude.{IsTrue}
use Rattle.std.proofs.lemmas.List.Elements.{All-tail}
use Rattle.mmt_io.proofs.Sends.{sends_both}
use Rattle.mmt_sig.specs.View.{messages_left}
use Rattle.mmt_naming.specs.Findings.{findings_in, findings_from}
use Rattle.mmt_naming.specs.Lines.{lines_of}
use Rattle.mmt_naming.proofs.Several.{messages_more, messages_none}
use Rattle.mmt_naming.proofs.Whole.{learned_step, lines_step, lines_stop, learned_end, lines_end}
use Rattle.mmt_naming.proofs.messages.take_messages.Goals as goal

pub loop-message-preserved : goal.loop-message-preserved
loop-message-preserved g c =
    let i = c.loop-message.invariant in
    let e = c.in-Ok.ensures in
    let n = c.in-Some.ensures.steps in
    let timescale = c.args.by.now.timescale in
    let tuned = c.args.by.now.tuned in
    let now = c.args.by.now.clock.0 in
    let place = c.args.by.now.place in
    let m = c.in-Some.message.now in
    let number = c.loop-message.number in
    let rest = messages_left c.next.new.self in
    let all = findings_from timescale tuned 0 (messages_left c.args.messages) in
    let whole = findings_from timescale tuned number (messages_left c.loop-message.message-iterator) in
    let here = findings_in timescale tuned number m in
    let left = findings_from timescale tuned (number + 1) rest in
    let split = ap (findings_from timescale tuned number) n ∙ messages_more timescale tuned number m rest in
    record {
      sends = sends_both i.sends e.sends;
      count = omega (arith, ap length n, i.count);
      within = All-tail (λ x. length x < 2 ^ 31) _ _ (rw n at i.within);
      told = e.told;
      names = learned_step now c.args.names.now c.loop-message.names c.take_message.new.names all whole here left split i.names e.names;
      begun = λ told.
          lines_step place now _ _ _ (lines_of place now c.args.names.now.entries all) c.loop-message.names c.take_message.new.names whole here left split (i.begun told) e.names (e.put (subst IsTrue (sym i.sends.telling) told));
    }

pub returns-in-Err-clause-put : goal.returns-in-Err-clause-put
returns-in-Err-clause-put g c = λ told.
    let i = c.loop-message.invariant in
    let n = c.in-Some.ensures.steps in
    let timescale = c.args.by.now.timescale in
    let tuned = c.args.by.now.tuned in
    let now = c.args.by.now.clock.0 in
    let place = c.args.by.now.place in
    let m = c.in-Some.message.now in
    let number = c.loop-message.number in
    let rest = messages_left c.next.new.self in
    let all = findings_from timescale tuned 0 (messages_left c.args.messages) in
    let whole = findings_from timescale tuned number (messages_left c.loop-message.message-iterator) in
    let here = findings_in timescale tuned number m in
    let left = findings_from timescale tuned (number + 1) rest in
    lines_stop place now _ _ _ (lines_of place now c.args.names.now.entries all) c.loop-message.names whole here left (ap (findings_from timescale tuned number) n ∙ messages_more timescale tuned number m rest) (i.begun told)
    (c.in-Err.ensures.put (subst IsTrue (sym i.sends.telling) told))

pub returns-clause-names : goal.returns-clause-names
returns-clause-names g c =
    let of = findings_from c.args.by.now.timescale c.args.by.now.tuned in
    learned_end c.args.by.now.clock.0 c.args.names.now c.loop-message.names (of 0 (messages_left c.args.messages)) (of c.loop-message.number (messages_left c.loop-message.message-iterator))
    (ap (of c.loop-message.number) c.in-None.ensures.steps.0 ∙ messages_none c.args.by.now.timescale c.args.by.now.tuned c.loop-message.number) c.loop-message.invariant.names

pub returns-clause-put : goal.returns-clause-put
returns-clause-put g c = λ told.
    let of = findings_from c.args.by.now.timescale c.args.by.now.tuned in
    lines_end c.args.by.now.place c.args.by.now.clock.0 _ _ (lines_of c.args.by.now.place c.args.by.now.clock.0 c.args.names.now.entries (of 0 (messages_left c.args.messages))) c.loop-message.names (of c.loop-message.number (messages_left c.loop-message.message-iterator))
    (ap (of c.loop-message.number) c.in-None.ensures.steps.0 ∙ messages_none c.args.by.now.timescale c.args.by.now.tuned c.loop-message.number) (c.loop-message.invariant.begun told)
