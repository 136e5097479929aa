use Rattle.std.proofs.Common.{ap, sym, subst, ◌∙◌}
use Rattle.mmt_io.specs.Output.{Puts, PutsPrefix, only_written}
use Rattle.mmt_output.specs.Records.{amount_of, records}
use Rattle.mmt_output.proofs.Putting.{puts_nothing}
use Rattle.mmt_recv.specs.Receiving.{Stands, State}
use Rattle.mmt_recv.proofs.Ending.{left_none, left_some, due_to}
use Rattle.mmt_recv.proofs.receiver.Receiver.hand_out_rest.Goals as goal

pub returns-in-None-clause-put : goal.returns-in-None-clause-put
returns-in-None-clause-put g c = λ told ps stood.
    let r = c.self.inside in
    let s : State = record { config = r.config; headers = r.hearer; tuned = r.tuned; pool = r.pool; names = r.names; handed = record { units = r.counts.units; bytes = r.counts.bytes }; losses = record { late = r.counts.late; repeat = r.counts.repeat; full = r.counts.full } } in
    let o : Stands s ps = rw c.self.view_is stood in
    rw (sym c.self.view_is) (subst (λ ds. Puts (g.P.Port.history c.args.port.now) (g.P.Port.history c.args.port.now) (only_written (records ds))) (left_none s ps o c.in-None.is) (puts_nothing (g.P.Port.history c.args.port.now)))

pub returns-in-None-clause-counts : goal.returns-in-None-clause-counts
returns-in-None-clause-counts g c = λ ps stood.
    let r = c.self.inside in
    let s : State = record { config = r.config; headers = r.hearer; tuned = r.tuned; pool = r.pool; names = r.names; handed = record { units = r.counts.units; bytes = r.counts.bytes }; losses = record { late = r.counts.late; repeat = r.counts.repeat; full = r.counts.full } } in
    let o : Stands s ps = rw c.self.view_is stood in
    rw (sym c.self.view_is) (c.nothing.ensures ∙ ap amount_of (left_none s ps o c.in-None.is))

pub returns-in-Ok-clause-put : goal.returns-in-Ok-clause-put
returns-in-Ok-clause-put g c = λ told ps stood.
    let r = c.self.inside in
    let s : State = record { config = r.config; headers = r.hearer; tuned = r.tuned; pool = r.pool; names = r.names; handed = record { units = r.counts.units; bytes = r.counts.bytes }; losses = record { late = r.counts.late; repeat = r.counts.repeat; full = r.counts.full } } in
    let o : Stands s ps = rw c.self.view_is stood in
    rw (sym c.self.view_is) (subst (λ ds. Puts (g.P.Port.history c.args.port.now) (g.P.Port.history c.hand_out.new.port) (only_written (records ds)))
    (due_to s c.in-Some.tuned.clock.0 c.last_after-to.result.0 c.last_after-to.ensures.tick ∙ left_some s ps c.in-Some.tuned o c.in-Some.is c.last_after-to.ensures.small) (c.in-Ok.ensures.put told))

pub returns-in-Ok-clause-counts : goal.returns-in-Ok-clause-counts
returns-in-Ok-clause-counts g c = λ ps stood.
    let r = c.self.inside in
    let s : State = record { config = r.config; headers = r.hearer; tuned = r.tuned; pool = r.pool; names = r.names; handed = record { units = r.counts.units; bytes = r.counts.bytes }; losses = record { late = r.counts.late; repeat = r.counts.repeat; full = r.counts.full } } in
    let o : Stands s ps = rw c.self.view_is stood in
    rw (sym c.self.view_is) (c.in-Ok.ensures.counts ∙ ap amount_of (due_to s c.in-Some.tuned.clock.0 c.last_after-to.result.0 c.last_after-to.ensures.tick ∙ left_some s ps c.in-Some.tuned o c.in-Some.is c.last_after-to.ensures.small))

pub returns-in-Err-clause-put : goal.returns-in-Err-clause-put
returns-in-Err-clause-put g c = λ told ps stood.
    let r = c.self.inside in
    let s : State = record { config = r.config; headers = r.hearer; tuned = r.tuned; pool = r.pool; names = r.names; handed = record { units = r.counts.units; bytes = r.counts.bytes }; losses = record { late = r.counts.late; repeat = r.counts.repeat; full = r.counts.full } } in
    let o : Stands s ps = rw c.self.view_is stood in
    rw (sym c.self.view_is) (subst (λ ds. PutsPrefix (g.P.Port.history c.args.port.now) (g.P.Port.history c.hand_out.new.port) (only_written (records ds)))
    (due_to s c.in-Some.tuned.clock.0 c.last_after-to.result.0 c.last_after-to.ensures.tick ∙ left_some s ps c.in-Some.tuned o c.in-Some.is c.last_after-to.ensures.small) (c.in-Err.ensures.put told))
