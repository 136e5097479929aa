use Rattle.std.proofs.Common.{◌≡◌, ◌∷◌, Some, None, sym, subst, ◌∙◌}
use Rattle.mmt_packet.specs.Spelling.{view}
use Rattle.mmt_io.specs.Output.{Put, Puts, PutsPrefix}
use Rattle.mmt_tune.specs.Tuning.{HeardAt, history, tuned, values_by}
use Rattle.mmt_recv.specs.Noting.{lines_of, untuned_notes}
use Rattle.mmt_recv.specs.Written.{HasWritten}
use Rattle.mmt_recv.proofs.Refusing.{wrote_nothing}
use Rattle.mmt_recv.proofs.Over.{fresh_clock, fresh_holds, more_tuned, more_untuned, over_ok, over_still, values_first}
use Rattle.mmt_recv.proofs.receiver.Receiver.take_untuned.Goals as goal

pub returns-in-Some-clause-over : goal.returns-in-Some-clause-over
returns-in-Some-clause-over g c = λ hs o.
    let h : HeardAt = record { place = c.args.place; packet = view c.args.packet.now } in
    let values : c.tuning_values.result ≡ values_by c.args.self.now.config.assumed c.args.self.now.config.bound h.packet = rw (sym c.self.view_is) c.tuning_values.ensures in
    let is : tuned c.args.self.now.config (h ∷ hs) ≡ Some c.in-Some.params = values_first c.args.self.now hs c.tuning_values.result h o c.requires.untuned values ∙ c.in-Some.is in
    let clock = fresh_clock c.args.self.now hs h o c.requires.untuned in
    over_ok c.take_heard.result c.take_heard.new.self c.args.self.now.config hs h c.in-Some.params is c.take_heard.ensures.config
    (c.take_heard.ensures.tuned (history c.args.self.now.config hs) clock)
    (c.take_heard.ensures.holds (history c.args.self.now.config hs) (fresh_holds c.args.self.now hs c.in-Some.params o c.requires.untuned) clock)

pub returns-in-Some-clause-put : goal.returns-in-Some-clause-put
returns-in-Some-clause-put g c = λ told hs o.
    let h : HeardAt = record { place = c.args.place; packet = view c.args.packet.now } in
    let values : c.tuning_values.result ≡ values_by c.args.self.now.config.assumed c.args.self.now.config.bound h.packet = rw (sym c.self.view_is) c.tuning_values.ensures in
    let is : tuned c.args.self.now.config (h ∷ hs) ≡ Some c.in-Some.params = values_first c.args.self.now hs c.tuning_values.result h o c.requires.untuned values ∙ c.in-Some.is in
    subst (λ x. Put (g.P.Port.history c.args.port.now) (g.P.Port.history c.take_heard.new.port) x c.take_heard.result)
    (more_tuned c.args.self.now.config hs h c.in-Some.params is)
    (c.take_heard.ensures.put told (history c.args.self.now.config hs) (fresh_holds c.args.self.now hs c.in-Some.params o c.requires.untuned) (fresh_clock c.args.self.now hs h o c.requires.untuned))

pub returns-in-Ok-clause-over : goal.returns-in-Ok-clause-over
returns-in-Ok-clause-over g c = λ hs o.
    let h : HeardAt = record { place = c.args.place; packet = view c.args.packet.now } in
    let values : c.tuning_values.result ≡ values_by c.args.self.now.config.assumed c.args.self.now.config.bound h.packet = rw (sym c.self.view_is) c.tuning_values.ensures in
    over_still c.args.self.now hs h o c.requires.untuned (values_first c.args.self.now hs c.tuning_values.result h o c.requires.untuned values ∙ c.in-None.is)

pub returns-in-Ok-clause-put : goal.returns-in-Ok-clause-put
returns-in-Ok-clause-put g c = λ told hs o.
    let h : HeardAt = record { place = c.args.place; packet = view c.args.packet.now } in
    let values : c.tuning_values.result ≡ values_by c.args.self.now.config.assumed c.args.self.now.config.bound h.packet = rw (sym c.self.view_is) c.tuning_values.ensures in
    let is : tuned c.args.self.now.config (h ∷ hs) ≡ None = values_first c.args.self.now hs c.tuning_values.result h o c.requires.untuned values ∙ c.in-None.is in
    subst (λ x. Puts (g.P.Port.history c.args.port.now) (g.P.Port.history c.note_untuned.new.port) x) (more_untuned c.args.self.now.config hs h is) (rw (sym c.self.view_is) (c.in-Ok.ensures.put told))

pub returns-in-Err-clause-put : goal.returns-in-Err-clause-put
returns-in-Err-clause-put g c = λ told hs o.
    let h : HeardAt = record { place = c.args.place; packet = view c.args.packet.now } in
    let values : c.tuning_values.result ≡ values_by c.args.self.now.config.assumed c.args.self.now.config.bound h.packet = rw (sym c.self.view_is) c.tuning_values.ensures in
    let is : tuned c.args.self.now.config (h ∷ hs) ≡ None = values_first c.args.self.now hs c.tuning_values.result h o c.requires.untuned values ∙ c.in-None.is in
    subst (λ x. PutsPrefix (g.P.Port.history c.args.port.now) (g.P.Port.history c.note_untuned.new.port) x) (more_untuned c.args.self.now.config hs h is) (rw (sym c.self.view_is) (c.in-Err.ensures.put told))

pub returns-in-Some-clause-written : goal.returns-in-Some-clause-written
returns-in-Some-clause-written g c = λ told hs o refused.
    let h : HeardAt = record { place = c.args.place; packet = view c.args.packet.now } in
    let values : c.tuning_values.result ≡ values_by c.args.self.now.config.assumed c.args.self.now.config.bound h.packet = rw (sym c.self.view_is) c.tuning_values.ensures in
    let is : tuned c.args.self.now.config (h ∷ hs) ≡ Some c.in-Some.params = values_first c.args.self.now hs c.tuning_values.result h o c.requires.untuned values ∙ c.in-Some.is in
    subst (λ x. HasWritten (g.P.Port.history c.args.port.now) (g.P.Port.history c.take_heard.new.port) x.written)
    (more_tuned c.args.self.now.config hs h c.in-Some.params is)
    (c.take_heard.ensures.written told (history c.args.self.now.config hs) (fresh_holds c.args.self.now hs c.in-Some.params o c.requires.untuned) (fresh_clock c.args.self.now hs h o c.requires.untuned) refused)

pub returns-in-Err-clause-written : goal.returns-in-Err-clause-written
returns-in-Err-clause-written g c = λ told hs o refused.
    let h : HeardAt = record { place = c.args.place; packet = view c.args.packet.now } in
    let values : c.tuning_values.result ≡ values_by c.args.self.now.config.assumed c.args.self.now.config.bound h.packet = rw (sym c.self.view_is) c.tuning_values.ensures in
    let is : tuned c.args.self.now.config (h ∷ hs) ≡ None = values_first c.args.self.now hs c.tuning_values.result h o c.requires.untuned values ∙ c.in-None.is in
    subst (λ x. HasWritten (g.P.Port.history c.args.port.now) (g.P.Port.history c.note_untuned.new.port) x.written) (more_untuned c.args.self.now.config hs h is)
    (wrote_nothing (g.P.Port.history c.args.port.now) (g.P.Port.history c.note_untuned.new.port) (lines_of (untuned_notes c.args.self.now.config.bound h)) (rw (sym c.self.view_is) (c.in-Err.ensures.put told)))
