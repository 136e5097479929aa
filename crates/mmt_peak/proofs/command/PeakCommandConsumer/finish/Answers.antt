use Rattle.std.proofs.Common.{◌≡◌, ℕ, List, [], ap, subst, ◌∙◌}
use Rattle.mmt_model.specs.Delivery.{newest_first}
use Rattle.mmt_stream.specs.Output.{nothing}
use Rattle.mmt_stream.specs.Consuming.{EmitsStart}
use Rattle.mmt_peak.specs.Commanding.{PeakState, numbers_in}
use Rattle.mmt_peak.specs.Peaking.{line_after, line_of}
use Rattle.mmt_peak.proofs.Ends.{fails}
use Rattle.mmt_peak.proofs.Lines.{line_is}
use Rattle.mmt_peak.proofs.command.PeakCommandConsumer.finish.Goals as goal

pub returns-clause-finished : goal.returns-clause-finished
returns-clause-finished g c = λ told packets stood.
    let line : c.deref-2.result.now ≡ line_after c.args.self.flow c.args.self.buffer.params (newest_first packets) =
    c.deref-2.ensures.value ∙ (c.put_last_line.ensures ∙ (ap (λ (s : PeakState). line_of (numbers_in s) s.buffer.pool.peak) (c.deref.ensures ∙ c.self.view_is) ∙ line_is c.args.self (newest_first packets) stood)) in
    let P : List ℕ → Type 0 = λ b. EmitsStart (g.P.Port.history c.args.port.now) (g.P.Port.history c.write.new.self) nothing nothing (record { written = b; noted = [] }) in
    subst P line (fails _ _ _ (c.in-Err.ensures.bytes told))
