use Rattle.std.proofs.Common.{◌≡◌, List, subst, ap, sym, ◌∙◌}
use Rattle.mmt_model.specs.Delivery.{newest_first}
use Rattle.mmt_io.specs.Output.{only_written, Puts, PutsPrefix}
use Rattle.mmt_tune.specs.Tuning.{Placed}
use Rattle.mmt_recv.specs.Receiving.{State, Stands, summary_of}
use Rattle.mmt_take.specs.Taking.{placed, line_of, last_records}
use Rattle.mmt_take.proofs.Turns.{finishes, finishes_start, finishes_part}
use Rattle.mmt_take.proofs.command.TakeCommandConsumer.finish.Goals as goal

pub returns-in-Err-clause-finished : goal.returns-in-Err-clause-finished
returns-in-Err-clause-finished g c = λ told packets stood.
    let ps : List Placed = placed (newest_first packets) in
    let same : c.into_inner.result ≡ c.args.self = c.into_inner.ensures ∙ c.self.view_is in
    let before : Stands c.into_inner.result ps = subst (λ s. Stands s ps) (sym same) stood in
    finishes_part c.args.self.config packets _ _
    (subst (λ (s : State). PutsPrefix (g.P.Port.history c.args.port.now) (g.P.Port.history c.finish.new.port) (only_written (last_records s.config ps))) same (c.in-Err.ensures.put told ps before))

pub returns-in-Ok-note-clause-finished : goal.returns-in-Ok-note-clause-finished
returns-in-Ok-note-clause-finished g c = λ told packets stood.
    let ps : List Placed = placed (newest_first packets) in
    let same : c.into_inner.result ≡ c.args.self = c.into_inner.ensures ∙ c.self.view_is in
    let before : Stands c.into_inner.result ps = subst (λ s. Stands s ps) (sym same) stood in
    let line : c.deref.result.now ≡ line_of (summary_of c.args.self.config ps) =
    c.deref.ensures.value ∙ (c.put_line.ensures ∙ ap line_of (c.in-Ok.ensures.summary ps before ∙ ap (λ (s : State). summary_of s.config ps) same)) in
    finishes c.args.self.config packets _ (g.P.Port.history c.finish.new.port) _ c.deref.result.now
    (subst (λ (s : State). Puts (g.P.Port.history c.args.port.now) (g.P.Port.history c.finish.new.port) (only_written (last_records s.config ps))) same (c.in-Ok.ensures.put told ps before))
    line (c.in-Ok-note.ensures.bytes (rw c.finish.ensures.sends.telling told))

pub returns-clause-finished : goal.returns-clause-finished
returns-clause-finished g c = λ told packets stood.
    let ps : List Placed = placed (newest_first packets) in
    let same : c.into_inner.result ≡ c.args.self = c.into_inner.ensures ∙ c.self.view_is in
    let before : Stands c.into_inner.result ps = subst (λ s. Stands s ps) (sym same) stood in
    let line : c.deref.result.now ≡ line_of (summary_of c.args.self.config ps) =
    c.deref.ensures.value ∙ (c.put_line.ensures ∙ ap line_of (c.in-Ok.ensures.summary ps before ∙ ap (λ (s : State). summary_of s.config ps) same)) in
    finishes_start c.args.self.config packets _ (g.P.Port.history c.finish.new.port) _ c.deref.result.now
    (subst (λ (s : State). Puts (g.P.Port.history c.args.port.now) (g.P.Port.history c.finish.new.port) (only_written (last_records s.config ps))) same (c.in-Ok.ensures.put told ps before))
    line (c.in-Err-note.ensures.bytes (rw c.finish.ensures.sends.telling told))
