use Rattle.std.proofs.Common.{length, sym, subst}
use Rattle.mmt_packet.specs.Spelling.{view}
use Rattle.mmt_io.specs.Output.{Put, Puts, PutsPrefix}
use Rattle.mmt_output.proofs.Putting.{puts_nothing}
use Rattle.mmt_tune.specs.Tuning.{Placed, heard_of, packets_of}
use Rattle.mmt_recv.specs.Receiving.{Stands, State}
use Rattle.mmt_recv.specs.Written.{HasWritten}
use Rattle.mmt_recv.proofs.Refusing.{wrote_nothing}
use Rattle.mmt_recv.proofs.Received.{more_heard, more_not_ours, more_refused, not_ours_same, over_headers, over_same, refused_same, stands_heard}
use Rattle.mmt_recv.proofs.Places.{places_heard, places_not_ours, places_refused}
use Rattle.mmt_recv.proofs.receiver.Receiver.receive.Goals as goal

pub returns-in-Packet-clause-stands : goal.returns-in-Packet-clause-stands
returns-in-Packet-clause-stands g c = λ ps packet stood fits tlv.
    let r = c.self.inside in
    let s : State = record { config = r.config; headers = r.hearer; tuned = r.tuned; pool = r.pool; names = r.names; handed = record { units = r.counts.units; bytes = r.counts.bytes }; losses = record { late = r.counts.late; repeat = r.counts.repeat; full = r.counts.full } } in
    let o : Stands s ps = rw c.self.view_is stood in
    let p : Placed = record { place = c.args.place; packet = packet } in
    stands_heard c.take_any.result c.take_any.new.self s ps p (view c.in-Packet.packet) c.in-Packet.from c.hear.new.self (c.in-Packet.ensures.heard (packets_of ps) packet fits tlv o.heard) c.take_any.ensures.config c.take_any.ensures.headers (c.in-Packet.ensures.next (packets_of ps) packet fits tlv o.heard)
    (c.take_any.ensures.over (heard_of s.config.flow ps) (over_headers s c.hear.new.self (heard_of s.config.flow ps) o.over))

pub returns-in-Packet-clause-put : goal.returns-in-Packet-clause-put
returns-in-Packet-clause-put g c = λ told ps packet stood fits tlv.
    let r = c.self.inside in
    let s : State = record { config = r.config; headers = r.hearer; tuned = r.tuned; pool = r.pool; names = r.names; handed = record { units = r.counts.units; bytes = r.counts.bytes }; losses = record { late = r.counts.late; repeat = r.counts.repeat; full = r.counts.full } } in
    let o : Stands s ps = rw c.self.view_is stood in
    let p : Placed = record { place = c.args.place; packet = packet } in
    rw (sym c.self.view_is)
    (subst (λ x. Put (g.P.Port.history c.args.port.now) (g.P.Port.history c.take_any.new.port) x c.take_any.result) (more_heard s.config ps p (view c.in-Packet.packet) c.in-Packet.from (c.in-Packet.ensures.heard (packets_of ps) packet fits tlv o.heard))
    (c.take_any.ensures.put told (heard_of s.config.flow ps) (over_headers s c.hear.new.self (heard_of s.config.flow ps) o.over)))

pub returns-in-NotOurs-clause-stands : goal.returns-in-NotOurs-clause-stands
returns-in-NotOurs-clause-stands g c = λ ps packet stood fits tlv.
    let r = c.self.inside in
    let s : State = record { config = r.config; headers = r.hearer; tuned = r.tuned; pool = r.pool; names = r.names; handed = record { units = r.counts.units; bytes = r.counts.bytes }; losses = record { late = r.counts.late; repeat = r.counts.repeat; full = r.counts.full } } in
    let o : Stands s ps = rw c.self.view_is stood in
    let p : Placed = record { place = c.args.place; packet = packet } in
    over_same s c.hear.new.self ps p (not_ours_same s.config ps p (c.in-NotOurs.ensures.heard (packets_of ps) packet fits tlv o.heard)) o (c.in-NotOurs.ensures.next (packets_of ps) packet fits tlv o.heard)

pub returns-in-NotOurs-clause-put : goal.returns-in-NotOurs-clause-put
returns-in-NotOurs-clause-put g c = λ told ps packet stood fits tlv.
    let r = c.self.inside in
    let s : State = record { config = r.config; headers = r.hearer; tuned = r.tuned; pool = r.pool; names = r.names; handed = record { units = r.counts.units; bytes = r.counts.bytes }; losses = record { late = r.counts.late; repeat = r.counts.repeat; full = r.counts.full } } in
    let o : Stands s ps = rw c.self.view_is stood in
    let p : Placed = record { place = c.args.place; packet = packet } in
    rw (sym c.self.view_is)
    (subst (λ x. Puts (g.P.Port.history c.args.port.now) (g.P.Port.history c.args.port.now) x) (more_not_ours s.config ps p (c.in-NotOurs.ensures.heard (packets_of ps) packet fits tlv o.heard)) (puts_nothing (g.P.Port.history c.args.port.now)))

pub returns-in-Ok-clause-stands : goal.returns-in-Ok-clause-stands
returns-in-Ok-clause-stands g c = λ ps packet stood fits tlv.
    let r = c.self.inside in
    let s : State = record { config = r.config; headers = r.hearer; tuned = r.tuned; pool = r.pool; names = r.names; handed = record { units = r.counts.units; bytes = r.counts.bytes }; losses = record { late = r.counts.late; repeat = r.counts.repeat; full = r.counts.full } } in
    let o : Stands s ps = rw c.self.view_is stood in
    let p : Placed = record { place = c.args.place; packet = packet } in
    over_same s c.hear.new.self ps p (refused_same s.config ps p c.in-Refused.at c.in-Refused.why (c.in-Refused.ensures.heard (packets_of ps) packet fits tlv o.heard)) o (c.in-Refused.ensures.next (packets_of ps) packet fits tlv o.heard)

pub returns-in-Ok-clause-put : goal.returns-in-Ok-clause-put
returns-in-Ok-clause-put g c = λ told ps packet stood fits tlv.
    let r = c.self.inside in
    let s : State = record { config = r.config; headers = r.hearer; tuned = r.tuned; pool = r.pool; names = r.names; handed = record { units = r.counts.units; bytes = r.counts.bytes }; losses = record { late = r.counts.late; repeat = r.counts.repeat; full = r.counts.full } } in
    let o : Stands s ps = rw c.self.view_is stood in
    let p : Placed = record { place = c.args.place; packet = packet } in
    rw (sym c.self.view_is)
    (subst (λ x. Puts (g.P.Port.history c.args.port.now) (g.P.Port.history c.tell.new.port) x) (more_refused s.config ps p c.in-Refused.at c.in-Refused.why (c.in-Refused.ensures.heard (packets_of ps) packet fits tlv o.heard)) (c.in-Ok.ensures.put told))

pub returns-in-Err-clause-put : goal.returns-in-Err-clause-put
returns-in-Err-clause-put g c = λ told ps packet stood fits tlv.
    let r = c.self.inside in
    let s : State = record { config = r.config; headers = r.hearer; tuned = r.tuned; pool = r.pool; names = r.names; handed = record { units = r.counts.units; bytes = r.counts.bytes }; losses = record { late = r.counts.late; repeat = r.counts.repeat; full = r.counts.full } } in
    let o : Stands s ps = rw c.self.view_is stood in
    let p : Placed = record { place = c.args.place; packet = packet } in
    rw (sym c.self.view_is)
    (subst (λ x. PutsPrefix (g.P.Port.history c.args.port.now) (g.P.Port.history c.tell.new.port) x) (more_refused s.config ps p c.in-Refused.at c.in-Refused.why (c.in-Refused.ensures.heard (packets_of ps) packet fits tlv o.heard)) (c.in-Err.ensures.put told))

pub returns-in-Packet-clause-places : goal.returns-in-Packet-clause-places
returns-in-Packet-clause-places g c = λ ps packet stood fits tlv.
    let r = c.self.inside in
    let s : State = record { config = r.config; headers = r.hearer; tuned = r.tuned; pool = r.pool; names = r.names; handed = record { units = r.counts.units; bytes = r.counts.bytes }; losses = record { late = r.counts.late; repeat = r.counts.repeat; full = r.counts.full } } in
    let o : Stands s ps = rw c.self.view_is stood in
    let p : Placed = record { place = c.args.place; packet = packet } in
    rw (sym c.self.view_is) (places_heard s.config ps p (view c.in-Packet.packet) c.in-Packet.from (length c.args.tlv.now) (c.in-Packet.ensures.heard (packets_of ps) packet fits tlv o.heard) c.in-Packet.ensures.lies.1)

pub returns-in-NotOurs-clause-places : goal.returns-in-NotOurs-clause-places
returns-in-NotOurs-clause-places g c = λ ps packet stood fits tlv.
    let r = c.self.inside in
    let s : State = record { config = r.config; headers = r.hearer; tuned = r.tuned; pool = r.pool; names = r.names; handed = record { units = r.counts.units; bytes = r.counts.bytes }; losses = record { late = r.counts.late; repeat = r.counts.repeat; full = r.counts.full } } in
    let o : Stands s ps = rw c.self.view_is stood in
    let p : Placed = record { place = c.args.place; packet = packet } in
    rw (sym c.self.view_is) (places_not_ours s.config ps p (length c.args.tlv.now) (c.in-NotOurs.ensures.heard (packets_of ps) packet fits tlv o.heard))

pub returns-in-Ok-clause-places : goal.returns-in-Ok-clause-places
returns-in-Ok-clause-places g c = λ ps packet stood fits tlv.
    let r = c.self.inside in
    let s : State = record { config = r.config; headers = r.hearer; tuned = r.tuned; pool = r.pool; names = r.names; handed = record { units = r.counts.units; bytes = r.counts.bytes }; losses = record { late = r.counts.late; repeat = r.counts.repeat; full = r.counts.full } } in
    let o : Stands s ps = rw c.self.view_is stood in
    let p : Placed = record { place = c.args.place; packet = packet } in
    rw (sym c.self.view_is) (places_refused s.config ps p c.in-Refused.at (length c.args.tlv.now) c.in-Refused.why (c.in-Refused.ensures.heard (packets_of ps) packet fits tlv o.heard) c.in-Refused.ensures.lies)

pub returns-in-Err-clause-places : goal.returns-in-Err-clause-places
returns-in-Err-clause-places g c = λ ps packet stood fits tlv.
    let r = c.self.inside in
    let s : State = record { config = r.config; headers = r.hearer; tuned = r.tuned; pool = r.pool; names = r.names; handed = record { units = r.counts.units; bytes = r.counts.bytes }; losses = record { late = r.counts.late; repeat = r.counts.repeat; full = r.counts.full } } in
    let o : Stands s ps = rw c.self.view_is stood in
    let p : Placed = record { place = c.args.place; packet = packet } in
    rw (sym c.self.view_is) (places_refused s.config ps p c.in-Refused.at (length c.args.tlv.now) c.in-Refused.why (c.in-Refused.ensures.heard (packets_of ps) packet fits tlv o.heard) c.in-Refused.ensures.lies)

pub returns-in-Packet-clause-written : goal.returns-in-Packet-clause-written
returns-in-Packet-clause-written g c = λ told ps packet stood fits tlv refused.
    let r = c.self.inside in
    let s : State = record { config = r.config; headers = r.hearer; tuned = r.tuned; pool = r.pool; names = r.names; handed = record { units = r.counts.units; bytes = r.counts.bytes }; losses = record { late = r.counts.late; repeat = r.counts.repeat; full = r.counts.full } } in
    let o : Stands s ps = rw c.self.view_is stood in
    let p : Placed = record { place = c.args.place; packet = packet } in
    rw (sym c.self.view_is)
    (subst (λ x. HasWritten (g.P.Port.history c.args.port.now) (g.P.Port.history c.take_any.new.port) x.written) (more_heard s.config ps p (view c.in-Packet.packet) c.in-Packet.from (c.in-Packet.ensures.heard (packets_of ps) packet fits tlv o.heard))
    (c.take_any.ensures.written told (heard_of s.config.flow ps) (over_headers s c.hear.new.self (heard_of s.config.flow ps) o.over) refused))

pub returns-in-Err-clause-written : goal.returns-in-Err-clause-written
returns-in-Err-clause-written g c = λ told ps packet stood fits tlv refused.
    let r = c.self.inside in
    let s : State = record { config = r.config; headers = r.hearer; tuned = r.tuned; pool = r.pool; names = r.names; handed = record { units = r.counts.units; bytes = r.counts.bytes }; losses = record { late = r.counts.late; repeat = r.counts.repeat; full = r.counts.full } } in
    let o : Stands s ps = rw c.self.view_is stood in
    let p : Placed = record { place = c.args.place; packet = packet } in
    rw (sym c.self.view_is)
    (subst (λ x. HasWritten (g.P.Port.history c.args.port.now) (g.P.Port.history c.tell.new.port) x.written) (more_refused s.config ps p c.in-Refused.at c.in-Refused.why (c.in-Refused.ensures.heard (packets_of ps) packet fits tlv o.heard))
    (wrote_nothing _ _ _ (c.in-Err.ensures.put told)))
