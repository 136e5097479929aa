use Rattle.std.proofs.Common.{Some, ap, sym, ◌∙◌, arith}
use Rattle.mmt_packet.specs.Spelling.{view}
use Rattle.mmt_tune.specs.Tuning.{HeardAt}
use Rattle.mmt_recv.specs.Receiving.{Holds, State}
use Rattle.mmt_recv.proofs.Next.{Now, clock_now, handed_lines, holds_next, is_now, notes_now, puts_next, starts_first, starts_next}
use Rattle.mmt_recv.proofs.Refusing.{wrote_all}
use Rattle.mmt_recv.proofs.Bounded.{forgotten_bounded, learned_bounded, left_bounded, taken_bounded}
use Rattle.mmt_recv.proofs.receiver.Receiver.take_heard.Goals as goal

pub returns-in-Err-clause-put : goal.returns-in-Err-clause-put
returns-in-Err-clause-put g c = λ told session holds before.
    let r = c.self.inside in
    let s : State = record { config = r.config; headers = r.hearer; tuned = r.tuned; pool = r.pool; names = r.names; handed = record { units = r.counts.units; bytes = r.counts.bytes }; losses = record { late = r.counts.late; repeat = r.counts.repeat; full = r.counts.full } } in
    let h : HeardAt = record { place = c.args.place; packet = view c.args.packet.now } in
    let o : Holds s session c.args.tuned.params = rw c.self.view_is holds in
    rw (sym c.self.view_is) (starts_first _ _ _ _ _ (handed_lines s c.args.tuned.params session h c.args.tuned.clock.0 c.advance-clock.result.0 o before c.advance-clock.ensures) (c.in-Err.ensures.put told))

pub returns-in-Err-take_packet-clause-put : goal.returns-in-Err-take_packet-clause-put
returns-in-Err-take_packet-clause-put g c = λ told session holds before.
    let r = c.self.inside in
    let s : State = record { config = r.config; headers = r.hearer; tuned = r.tuned; pool = r.pool; names = r.names; handed = record { units = r.counts.units; bytes = r.counts.bytes }; losses = record { late = r.counts.late; repeat = r.counts.repeat; full = r.counts.full } } in
    let h : HeardAt = record { place = c.args.place; packet = view c.args.packet.now } in
    let o : Holds s session c.args.tuned.params = rw c.self.view_is holds in
    let e = c.in-Ok.ensures in
    let n : Now s.config c.args.tuned.params session h c.advance_to.new.pool c.advance_to.new.names c.advance-clock.result.0 =
    is_now s c.args.tuned.params session h c.advance_to.new.pool c.advance_to.new.names c.args.tuned.clock.0 c.advance-clock.result.0 o before c.advance-clock.ensures e.names e.kept e.bound in
    rw (sym c.self.view_is)
    (starts_next _ _ _ _ _ _ _ (handed_lines s c.args.tuned.params session h c.args.tuned.clock.0 c.advance-clock.result.0 o before c.advance-clock.ensures)
    (notes_now s.config c.args.tuned.params session h c.advance_to.new.pool c.advance_to.new.names c.advance-clock.result.0 n)
    (e.put told) (c.in-Err-take_packet.ensures.put (rw e.sends.telling told)))

pub returns-in-Err-take_packet-clause-written : goal.returns-in-Err-take_packet-clause-written
returns-in-Err-take_packet-clause-written g c = λ told session holds before refused.
    let r = c.self.inside in
    let s : State = record { config = r.config; headers = r.hearer; tuned = r.tuned; pool = r.pool; names = r.names; handed = record { units = r.counts.units; bytes = r.counts.bytes }; losses = record { late = r.counts.late; repeat = r.counts.repeat; full = r.counts.full } } in
    let h : HeardAt = record { place = c.args.place; packet = view c.args.packet.now } in
    let o : Holds s session c.args.tuned.params = rw c.self.view_is holds in
    let e = c.in-Ok.ensures in
    rw (sym c.self.view_is)
    (wrote_all _ _ _ _ _ _ (handed_lines s c.args.tuned.params session h c.args.tuned.clock.0 c.advance-clock.result.0 o before c.advance-clock.ensures)
    (e.put told) (c.in-Err-take_packet.ensures.put (rw e.sends.telling told)))

pub returns-clause-tuned : goal.returns-clause-tuned
returns-clause-tuned g c = λ session before.
    ap (λ n. Some (record { params = c.args.tuned.params; clock = record { 0 = n } })) (clock_now session (record { place = c.args.place; packet = view c.args.packet.now }) c.args.tuned.clock.0 c.advance-clock.result.0 before c.advance-clock.ensures)

pub returns-clause-holds : goal.returns-clause-holds
returns-clause-holds g c = λ session holds before.
    let r = c.self.inside in
    let s : State = record { config = r.config; headers = r.hearer; tuned = r.tuned; pool = r.pool; names = r.names; handed = record { units = r.counts.units; bytes = r.counts.bytes }; losses = record { late = r.counts.late; repeat = r.counts.repeat; full = r.counts.full } } in
    let h : HeardAt = record { place = c.args.place; packet = view c.args.packet.now } in
    let o : Holds s session c.args.tuned.params = rw c.self.view_is holds in
    let e = c.in-Ok.ensures in
    let n : Now s.config c.args.tuned.params session h c.advance_to.new.pool c.advance_to.new.names c.advance-clock.result.0 =
    is_now s c.args.tuned.params session h c.advance_to.new.pool c.advance_to.new.names c.args.tuned.clock.0 c.advance-clock.result.0 o before c.advance-clock.ensures e.names e.kept e.bound in
    holds_next s _ _ c.take_packet.new.pool c.take_packet.new.names c.in-Ok.handed _ _ c.args.tuned.params session h c.advance_to.new.pool c.advance_to.new.names c.args.tuned.clock.0 c.advance-clock.result.0 _
    o n before (ap (λ x. x.sample_base) e.names) e.peak c.in-Ok-take_packet.ensures.takes c.in-Ok-take_packet.ensures.outcome e.counts c.count-self-inside.ensures.handed c.count-self-inside.ensures.losses

pub returns-clause-put : goal.returns-clause-put
returns-clause-put g c = λ told session holds before.
    let r = c.self.inside in
    let s : State = record { config = r.config; headers = r.hearer; tuned = r.tuned; pool = r.pool; names = r.names; handed = record { units = r.counts.units; bytes = r.counts.bytes }; losses = record { late = r.counts.late; repeat = r.counts.repeat; full = r.counts.full } } in
    let h : HeardAt = record { place = c.args.place; packet = view c.args.packet.now } in
    let o : Holds s session c.args.tuned.params = rw c.self.view_is holds in
    let e = c.in-Ok.ensures in
    let n : Now s.config c.args.tuned.params session h c.advance_to.new.pool c.advance_to.new.names c.advance-clock.result.0 =
    is_now s c.args.tuned.params session h c.advance_to.new.pool c.advance_to.new.names c.args.tuned.clock.0 c.advance-clock.result.0 o before c.advance-clock.ensures e.names e.kept e.bound in
    rw (sym c.self.view_is)
    (puts_next _ _ _ _ _ _ _ (handed_lines s c.args.tuned.params session h c.args.tuned.clock.0 c.advance-clock.result.0 o before c.advance-clock.ensures)
    (notes_now s.config c.args.tuned.params session h c.advance_to.new.pool c.advance_to.new.names c.advance-clock.result.0 n)
    (e.put told) (c.in-Ok-take_packet.ensures.put (rw e.sends.telling told)))

pub invariant_of-self-in-Err-take_packet : goal.invariant_of-self-in-Err-take_packet
invariant_of-self-in-Err-take_packet g c =
    let e = c.in-Ok.ensures in
    let i = c.self.invariant in (
      c.let_go.ensures.told,
      i.1,
      c.let_go.ensures.bound ∙ (c.take_packet.ensures.bound ∙ (e.bound ∙ i.2)),
      omega (arith, c.let_go.ensures.held, c.let_go.ensures.bound, c.take_packet.ensures.bound, e.bound, i.2),
      c.let_go.ensures.live,
      c.take_packet.ensures.room i.5,
    )

pub invariant_of-self-2 : goal.invariant_of-self-2
invariant_of-self-2 g c =
    let e = c.in-Ok.ensures in
    let t = c.in-Ok-take_packet.ensures.takes in
    let i = c.self.invariant in
    let left = left_bounded c.self.inside.pool c.advance_to.new.pool _ c.self.inside.config.bound e.kept i.3 in
    let kept = taken_bounded _ c.advance_to.new.pool c.advance_to.new.names _ c.take_packet.new.pool c.take_packet.new.names t (omega (arith, left, e.bound, i.2)) in (
      c.in-Ok-take_packet.ensures.told,
      i.1,
      t.bound ∙ (e.bound ∙ i.2),
      omega (arith, kept, e.bound, i.2),
      learned_bounded _ c.advance_to.new.pool c.advance_to.new.names _ c.take_packet.new.pool c.take_packet.new.names t (forgotten_bounded c.self.inside.names c.advance_to.new.names _ _ e.names i.4),
      c.take_packet.ensures.room i.5,
    )

pub returns-clause-bounded : goal.returns-clause-bounded
returns-clause-bounded g c = let i = invariant_of-self-2 g c in record { bytes = i.3; live = i.4 }
