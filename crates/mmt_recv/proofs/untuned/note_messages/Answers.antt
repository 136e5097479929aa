use Rattle.std.proofs.Common.{◌<◌, ◌^◌, length, ap, sym, subst, arith}
use Rattle.std.specs.Prelude.{IsTrue}
use Rattle.std.proofs.lemmas.List.Elements.{All-tail}
use Rattle.mmt_io.proofs.Sends.{sends_both}
use Rattle.mmt_sig.specs.View.{messages_left}
use Rattle.mmt_naming.proofs.Begun.{begun_more, begun_part, begun_end}
use Rattle.mmt_recv.proofs.Lines.{untuned_more, untuned_none}
use Rattle.mmt_recv.proofs.untuned.note_messages.Goals as goal

pub returns-in-Err-clause-put : goal.returns-in-Err-clause-put
returns-in-Err-clause-put g c = λ told.
    let b = rw c.in-Some.ensures.steps at c.loop-message.invariant.begun told in
    begun_part _ _ _ _ _ _ (rw (untuned_more c.args.place c.args.bound c.loop-message.number c.in-Some.message.now (messages_left c.next.new.self)) at b)
    (c.in-Err.ensures.put (subst IsTrue (sym c.loop-message.invariant.sends.telling) told))

pub loop-message-preserved : goal.loop-message-preserved
loop-message-preserved g c =
    let i = c.loop-message.invariant in
    let e = c.in-Ok.ensures in
    record {
      sends = sends_both i.sends e.sends;
      short = All-tail (λ m. length m < 2 ^ 31) _ _ (rw c.in-Some.ensures.steps at i.short);
      numbers = omega (arith, i.numbers, ap length c.in-Some.ensures.steps);
      begun = λ told.
          let b = rw c.in-Some.ensures.steps at i.begun told in
          begun_more _ _ _ _ _ _ (rw (untuned_more c.args.place c.args.bound c.loop-message.number c.in-Some.message.now (messages_left c.next.new.self)) at b)
          (e.put (subst IsTrue (sym i.sends.telling) told));
    }

pub returns-clause-put : goal.returns-clause-put
returns-clause-put g c = λ told.
    let b = rw c.in-None.ensures.steps.0 at c.loop-message.invariant.begun told in
    begun_end _ _ _ (rw (untuned_none c.args.place c.args.bound c.loop-message.number) at b)
