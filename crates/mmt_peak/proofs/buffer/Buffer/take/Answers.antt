use Rattle.std.proofs.Common.{◌≡◌, true, refl, sym, ◌∙◌}
use Rattle.mmt_packet.specs.Spelling.{view}
use Rattle.mmt_model.specs.Keeping.{Outcome, kept_after}
use Rattle.mmt_model.specs.Packets.{Heard}
use Rattle.mmt_peak.specs.Peaking.{offered, is_offered}
use Rattle.mmt_peak.specs.Buffers.{HasTaken}
use Rattle.mmt_peak.specs.Views.{tick_in, tally_in}
use Rattle.mmt_peak.proofs.Steps.{taken_so, passed_by, peak_stays}
use Rattle.mmt_peak.proofs.Stores.{bound_stays, becomes}
use Rattle.mmt_peak.proofs.buffer.Buffer.take.Goals as goal

pub returns-then-not-is_offered-clause-taken : goal.returns-then-not-is_offered-clause-taken
unfolding kept_after
returns-then-not-is_offered-clause-taken c = λ history t.
    let h : Heard = offered (view c.args.packet.now) in
    taken_so history h c.self.inside.params c.self.inside.pool c.expire.new.pool c.expire.new.pool Outcome.Unopened (tick_in c.self.inside.clock) c.self.inside.heard (tally_in c.self.inside.counts)
    c.clock_at-clock.result.0 c.saturating_add-self-inside.result (tally_in c.self.inside.counts)
    (rw c.self.view_is t) c.clock_at-clock.ensures c.saturating_add-self-inside.ensures refl
    c.expire.ensures.kept c.expire.ensures.bound c.expire.ensures.peak
    (passed_by c.self.inside.params c.clock_at-clock.result.0 _ h (sym c.is_offered.ensures ∙ c.if-not-is_offered.true)) refl refl (peak_stays c.expire.new.pool c.expire.ensures.held)

pub returns-clause-taken : goal.returns-clause-taken
returns-clause-taken c = λ history t.
    let h : Heard = offered (view c.args.packet.now) in
    let before : HasTaken history (record { params = c.self.inside.params; pool = c.self.inside.pool; clock = tick_in c.self.inside.clock; heard = c.self.inside.heard; tally = tally_in c.self.inside.counts }) = rw c.self.view_is t in
    let told = c.in_ok-self-inside.ensures in
    let offers : is_offered (view c.args.packet.now) ≡ true = sym c.is_offered.ensures ∙ c.if-not-is_offered.false in
    let stored = becomes c.self.inside.params c.expire.new.pool c.clock_at-clock.result.0 c.args.packet.now c.count-answer.result c.count-answer.new.self told.0
    (c.expire.ensures.bound ∙ before.bound) offers c.count-answer.ensures.model told.1 in
    taken_so history h c.self.inside.params c.self.inside.pool c.expire.new.pool c.count-answer.new.self told.0 (tick_in c.self.inside.clock) c.self.inside.heard (tally_in c.self.inside.counts)
    c.clock_at-clock.result.0 c.saturating_add-self-inside.result (tally_in c.in_ok-self-inside.field-0)
    before c.clock_at-clock.ensures c.saturating_add-self-inside.ensures told.2
    c.expire.ensures.kept c.expire.ensures.bound c.expire.ensures.peak
    stored.0 stored.1 (bound_stays c.expire.new.pool c.clock_at-clock.result.0 c.self.inside.params.delay _ c.count-answer.result c.count-answer.new.self c.count-answer.ensures.stores) c.count-answer.ensures.peak
