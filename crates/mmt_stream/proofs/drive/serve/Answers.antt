use Rattle.std.proofs.Common.{rules, sym, ◌∙◌, subst, arith}
use Rattle.std.specs.Prelude.{IsTrue, Ok, Err, length}
use Rattle.std.proofs.lemmas.List.{take_rest, length-drop}
use Rattle.mmt_io.proofs.Sends.{sends_both}
use Rattle.mmt_tlv.proofs.Stands.{stands_packet, stands_lent}
use Rattle.mmt_stream.specs.Consuming.{Meaning, Pushes}
use Rattle.mmt_stream.proofs.Framings.{framed, bytes-drop}
use Rattle.mmt_stream.proofs.Turns.{turn_taken, turn_lost, turn_pushed, turn_halted}
use Rattle.mmt_stream.proofs.drive.serve.Goals as goal

pub returns-in-Taken-clause-served : goal.returns-in-Taken-clause-served
returns-in-Taken-clause-served g c = λ told limit start left t.
    turn_taken _ _ limit start left _ _ _ c.packets.cutter c.feed.new.self c.packets.consumer _ (c.packets.invariant.turn told limit start left t) (rw c.in-None.ensures.none at c.in-Taken.ensures.fed)

pub returns-in-Sync-clause-served : goal.returns-in-Sync-clause-served
returns-in-Sync-clause-served g c = λ told limit start left t.
    turn_lost _ _ limit start left _ _ _ _ c.packets.cutter c.feed.new.self c.packets.consumer _ (c.packets.invariant.turn told limit start left t) (rw c.in-None.ensures.none at c.in-Sync.ensures.fed)

pub returns-in-Err-clause-served : goal.returns-in-Err-clause-served
returns-in-Err-clause-served g c = λ told limit start left t.
    let m : Meaning = g.C.Consumer.meaning c.args.consumer in
    let here = c.packets.invariant.turn told limit start left t in
    let told_here : IsTrue (g.P.Port.tells c.packets.port) = subst IsTrue (sym c.packets.invariant.sends.telling) told in
    let n = stands_lent here.taken c.packets.rest.now c.in-Some.tlv.now here.packets c.packets.cutter c.lend.new.self here.cut c.in-Some.ensures.lent in
    let pushed = c.in-Err.ensures.pushed told_here here.packets n.next.packet here.stood n.next.fits n.spelled (omega (arith, n.place, c.place.ensures)) in
    let pushed' : Pushes m g.C.Consumer.stands g.C.Consumer.gathered c.packets.consumer here.packets n.next.packet (g.P.Port.history c.packets.port) (g.P.Port.history c.push.new.port) (Err c.in-Err.reason) = rw c.packets.invariant.same at pushed in
    turn_halted m g.C.Consumer.stands limit start left _ _ _ _ c.packets.rest.now _ c.packets.cutter _ c.packets.consumer _ c.in-Err.reason (g.met.C.Consumer.grows c.args.consumer) (framed _ (bytes-drop (length c.in-Some.tlv.now) c.packets.rest.now c.packets.invariant.bytes)) here n.next pushed' (c.in-Err.ensures.sends.unread told_here)

pub returns-in-Err-push-clause-served : goal.returns-in-Err-push-clause-served
returns-in-Err-push-clause-served g c = λ told limit start left t.
    let m : Meaning = g.C.Consumer.meaning c.args.consumer in
    let here = c.packets.invariant.turn told limit start left t in
    let told_here : IsTrue (g.P.Port.tells c.packets.port) = subst IsTrue (sym c.packets.invariant.sends.telling) told in
    let n = stands_packet here.taken c.packets.rest.now c.in-Packet.used here.packets c.packets.cutter c.feed.new.self here.cut (rw c.in-None.ensures.none at c.in-Packet.ensures.fed) in
    let pushed = c.in-Err-push.ensures.pushed told_here here.packets n.packet here.stood n.fits (c.packet.ensures ∙ n.held) (c.place-in-Packet.ensures ∙ n.place) in
    let pushed' : Pushes m g.C.Consumer.stands g.C.Consumer.gathered c.packets.consumer here.packets n.packet (g.P.Port.history c.packets.port) (g.P.Port.history c.push-in-Packet.new.port) (Err c.in-Err-push.reason) = rw c.packets.invariant.same at pushed in
    turn_halted m g.C.Consumer.stands limit start left _ _ _ _ c.packets.rest.now c.in-Packet.used c.packets.cutter c.feed.new.self c.packets.consumer _ c.in-Err-push.reason (g.met.C.Consumer.grows c.args.consumer) (framed _ (bytes-drop c.in-Packet.used c.packets.rest.now c.packets.invariant.bytes)) here n pushed' (c.in-Err-push.ensures.sends.unread told_here)

pub packets-preserved-in-Some : goal.packets-preserved-in-Some
packets-preserved-in-Some g c =
    record {
      sends = sends_both c.packets.invariant.sends c.in-Ok.ensures.sends;
      size = rw (take_rest c.packets.rest.now (length c.in-Some.tlv.now), length-drop (length c.in-Some.tlv.now) c.packets.rest.now) (omega (arith, c.in-Some.ensures.size, c.in-Some.ensures.lent.2, c.packets.invariant.size));
      bytes = rw (take_rest c.packets.rest.now (length c.in-Some.tlv.now)) (bytes-drop (length c.in-Some.tlv.now) c.packets.rest.now c.packets.invariant.bytes);
      same = c.in-Ok.ensures.same ∙ c.packets.invariant.same;
      turn = λ told limit start left t.
          let m : Meaning = g.C.Consumer.meaning c.args.consumer in
          let here = c.packets.invariant.turn told limit start left t in
          let told_here : IsTrue (g.P.Port.tells c.packets.port) = subst IsTrue (sym c.packets.invariant.sends.telling) told in
          let n = stands_lent here.taken c.packets.rest.now c.in-Some.tlv.now here.packets c.packets.cutter c.lend.new.self here.cut c.in-Some.ensures.lent in
          let pushed = c.in-Ok.ensures.pushed told_here here.packets n.next.packet here.stood n.next.fits n.spelled (omega (arith, n.place, c.place.ensures)) in
          let pushed' : Pushes m g.C.Consumer.stands g.C.Consumer.gathered c.packets.consumer here.packets n.next.packet (g.P.Port.history c.packets.port) (g.P.Port.history c.push.new.port) (Ok c.in-Ok.next) = rw c.packets.invariant.same at pushed in
          rw (take_rest c.packets.rest.now (length c.in-Some.tlv.now))
          (turn_pushed m g.C.Consumer.stands limit start left _ _ _ _ c.packets.rest.now (length c.in-Some.tlv.now) c.packets.cutter c.lend.new.self c.packets.consumer c.in-Ok.next _ _ here n.next.packet n.stands pushed'.0 pushed'.1 (c.in-Ok.ensures.sends.unread told_here));
    }

pub packets-preserved : goal.packets-preserved
packets-preserved g c =
    record {
      sends = sends_both c.packets.invariant.sends c.in-Ok-push.ensures.sends;
      size = rw (take_rest c.packets.rest.now c.in-Packet.used, length-drop c.in-Packet.used c.packets.rest.now) (omega (arith, rw c.in-None.ensures.none at c.in-Packet.ensures.size, c.in-Packet.ensures.fed.2, c.packets.invariant.size));
      bytes = rw (take_rest c.packets.rest.now c.in-Packet.used) (bytes-drop c.in-Packet.used c.packets.rest.now c.packets.invariant.bytes);
      same = c.in-Ok-push.ensures.same ∙ c.packets.invariant.same;
      turn = λ told limit start left t.
          let m : Meaning = g.C.Consumer.meaning c.args.consumer in
          let here = c.packets.invariant.turn told limit start left t in
          let told_here : IsTrue (g.P.Port.tells c.packets.port) = subst IsTrue (sym c.packets.invariant.sends.telling) told in
          let n = stands_packet here.taken c.packets.rest.now c.in-Packet.used here.packets c.packets.cutter c.feed.new.self here.cut (rw c.in-None.ensures.none at c.in-Packet.ensures.fed) in
          let pushed = c.in-Ok-push.ensures.pushed told_here here.packets n.packet here.stood n.fits (c.packet.ensures ∙ n.held) (c.place-in-Packet.ensures ∙ n.place) in
          let pushed' : Pushes m g.C.Consumer.stands g.C.Consumer.gathered c.packets.consumer here.packets n.packet (g.P.Port.history c.packets.port) (g.P.Port.history c.push-in-Packet.new.port) (Ok c.in-Ok-push.next) = rw c.packets.invariant.same at pushed in
          rw (take_rest c.packets.rest.now c.in-Packet.used)
          (turn_pushed m g.C.Consumer.stands limit start left _ _ _ _ c.packets.rest.now c.in-Packet.used c.packets.cutter c.feed.new.self c.packets.consumer c.in-Ok-push.next _ _ here n.packet n.stands pushed'.0 pushed'.1 (c.in-Ok-push.ensures.sends.unread told_here));
    }
