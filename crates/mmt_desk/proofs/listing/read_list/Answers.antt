use Rattle.std.proofs.Common.{ℕ, List, Err, arith, refl, ap, sym, ◌∙◌, subst, length}
use Rattle.mmt_channel.specs.Lists.{IsListText, IsRefusedAt}
use Rattle.mmt_desk.proofs.Lists.{list-absent, list-few, list-in, list-line, list-long}
use Rattle.mmt_desk.specs.Lists.{IsListAnswer}
use Rattle.mmt_mux.specs.declared.ends.MuxEnd.{MuxEnd}
use Rattle.mmt_plan.specs.Plan.{bytes_of}
use Rattle.mmt_desk.proofs.listing.read_list.Goals as goal

pub returns-then-is_absent-clause-answer : goal.returns-then-is_absent-clause-answer
returns-then-is_absent-clause-answer g c = λ t.
    let file = g.H.Shelf.file c.args.shelf.now c.args.name.now in
    let read = rw c.in-Err-Refused.field-0-is at c.in-Err-Refused.ensures.bytes in
    subst (λ (e : MuxEnd). IsListAnswer file c.args.sent (Err e)) (sym c.refused.ensures)
    (list-absent file c.args.sent c.in-Err-Refused.reason c.in-Err-Refused.field-0-1 (sym c.in-Err-Refused.reason-is ∙ c.if-is_absent.ensures.absent refl) (ap bytes_of (sym (read.told t)) ∙ read.answer))

pub returns-in-Err-Refused-clause-answer : goal.returns-in-Err-Refused-clause-answer
returns-in-Err-Refused-clause-answer g c = λ t.
    let file = g.H.Shelf.file c.args.shelf.now c.args.name.now in
    let read = rw c.in-Err-Refused.field-0-is at c.in-Err-Refused.ensures.bytes in
    subst (λ (e : MuxEnd). IsListAnswer file c.args.sent (Err e)) (sym c.refused-in-Err-Refused.ensures)
    (list-long file c.args.sent c.in-Err-Refused.reason c.in-Err-Refused.field-0-1 (λ e. c.if-is_absent.ensures.other refl (c.in-Err-Refused.reason-is ∙ e)) (ap bytes_of (sym (read.told t)) ∙ read.answer))

pub returns-in-Ok-read_deliveries-clause-few : goal.returns-in-Ok-read_deliveries-clause-few
returns-in-Ok-read_deliveries-clause-few g c =
    omega (arith, list-few c.args.sent c.deref.result.now c.in-Ok-read_deliveries.list c.in-Ok-read_deliveries.ensures.read, c.in-Ok.ensures.size, ap (λ (b : List ℕ). length b) c.deref.ensures.value)

pub returns-in-Ok-read_deliveries-clause-answer : goal.returns-in-Ok-read_deliveries-clause-answer
returns-in-Ok-read_deliveries-clause-answer g c = λ t.
    let file = g.H.Shelf.file c.args.shelf.now c.args.name.now in
    let read = c.in-Ok.ensures.bytes in
    list-in file c.in-Ok.bytes.items c.in-Ok-read_deliveries.list c.args.sent (ap bytes_of (sym (read.told t)) ∙ read.answer)
    (subst (λ (b : List ℕ). IsListText c.args.sent b c.in-Ok-read_deliveries.list) c.deref.ensures.value c.in-Ok-read_deliveries.ensures.read)

pub returns-in-Err-Line-clause-answer : goal.returns-in-Err-Line-clause-answer
returns-in-Err-Line-clause-answer g c = λ t.
    let file = g.H.Shelf.file c.args.shelf.now c.args.name.now in
    let read = c.in-Ok.ensures.bytes in
    let at = rw c.in-Err-Line.field-0-is at c.in-Err-Line.ensures.refused in
    subst (λ (e : MuxEnd). IsListAnswer file c.args.sent (Err e)) (sym c.refused-in-Err-Line.ensures)
    (list-line file c.in-Ok.bytes.items c.args.sent c.in-Err-Line.line (ap bytes_of (sym (read.told t)) ∙ read.answer) (subst (λ (b : List ℕ). IsRefusedAt c.args.sent c.in-Err-Line.line b) c.deref.ensures.value at))
