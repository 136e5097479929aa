use Rattle.std.proofs.Common.{◌≡◌, sym, subst}
use Rattle.mmt_output.specs.Records.{amount_of}
use Rattle.mmt_recv.specs.Receiving.{Stands, State, session_of, units_left, values_of}
use Rattle.mmt_recv.proofs.Ending.{handed_so_far, summary_is}
use Rattle.mmt_recv.proofs.receiver.Receiver.finish.Goals as goal

pub returns-clause-summary : goal.returns-clause-summary
returns-clause-summary g c = λ ps stood.
    let r = c.self.inside in
    let s : State = record { config = r.config; headers = r.hearer; tuned = r.tuned; pool = r.pool; names = r.names; handed = record { units = r.counts.units; bytes = r.counts.bytes }; losses = record { late = r.counts.late; repeat = r.counts.repeat; full = r.counts.full } } in
    let o : Stands s ps = rw c.self.view_is stood in
    rw (sym c.self.view_is)
    (summary_is s ps c.count.result c.in-Ok.handed c.peak.result o (subst (λ (x : State). c.in-Ok.handed ≡ amount_of (units_left x.config (session_of x.config ps) (values_of x.config ps))) (sym c.self.view_is) (c.in-Ok.ensures.counts ps stood)) c.count.ensures.handed c.count.ensures.losses c.peak.ensures.value (handed_so_far s ps o))
