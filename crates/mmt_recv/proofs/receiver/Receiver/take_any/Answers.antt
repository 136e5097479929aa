use Rattle.std.proofs.Common.{◌≡◌, Some, ap, sym, subst, ◌∙◌}
use Rattle.mmt_packet.specs.Spelling.{view}
use Rattle.mmt_io.specs.Output.{Put}
use Rattle.mmt_tune.specs.Tuning.{HeardAt, heard_as, history}
use Rattle.mmt_recv.specs.Written.{HasWritten}
use Rattle.mmt_recv.proofs.Over.{more_tuned, over_clock, over_holds, over_ok, values_more}
use Rattle.mmt_recv.proofs.receiver.Receiver.take_any.Goals as goal

pub returns-in-Some-clause-over : goal.returns-in-Some-clause-over
returns-in-Some-clause-over g c = λ hs o.
    let h : HeardAt = record { place = c.args.place; packet = view c.args.packet.now } in
    let is : c.args.self.now.tuned ≡ Some c.in-Some.tuned = ap (λ s. s.tuned) (sym c.self.view_is) ∙ c.in-Some.is in
    let clock = over_clock c.args.self.now hs c.in-Some.tuned (heard_as h.packet) o is in
    over_ok c.take_heard.result c.take_heard.new.self c.args.self.now.config hs h c.in-Some.tuned.params (values_more c.args.self.now hs c.in-Some.tuned h o is) c.take_heard.ensures.config
    (c.take_heard.ensures.tuned (history c.args.self.now.config hs) clock)
    (c.take_heard.ensures.holds (history c.args.self.now.config hs) (over_holds c.args.self.now hs c.in-Some.tuned o is) clock)

pub returns-in-Some-clause-put : goal.returns-in-Some-clause-put
returns-in-Some-clause-put g c = λ told hs o.
    let h : HeardAt = record { place = c.args.place; packet = view c.args.packet.now } in
    let is : c.args.self.now.tuned ≡ Some c.in-Some.tuned = ap (λ s. s.tuned) (sym c.self.view_is) ∙ c.in-Some.is in
    subst (λ x. Put (g.P.Port.history c.args.port.now) (g.P.Port.history c.take_heard.new.port) x c.take_heard.result)
    (more_tuned c.args.self.now.config hs h c.in-Some.tuned.params (values_more c.args.self.now hs c.in-Some.tuned h o is))
    (c.take_heard.ensures.put told (history c.args.self.now.config hs) (over_holds c.args.self.now hs c.in-Some.tuned o is) (over_clock c.args.self.now hs c.in-Some.tuned (heard_as h.packet) o is))

pub returns-in-Some-clause-written : goal.returns-in-Some-clause-written
returns-in-Some-clause-written g c = λ told hs o refused.
    let h : HeardAt = record { place = c.args.place; packet = view c.args.packet.now } in
    let is : c.args.self.now.tuned ≡ Some c.in-Some.tuned = ap (λ s. s.tuned) (sym c.self.view_is) ∙ c.in-Some.is in
    subst (λ x. HasWritten (g.P.Port.history c.args.port.now) (g.P.Port.history c.take_heard.new.port) x.written)
    (more_tuned c.args.self.now.config hs h c.in-Some.tuned.params (values_more c.args.self.now hs c.in-Some.tuned h o is))
    (c.take_heard.ensures.written told (history c.args.self.now.config hs) (over_holds c.args.self.now hs c.in-Some.tuned o is) (over_clock c.args.self.now hs c.in-Some.tuned (heard_as h.packet) o is) refused)
