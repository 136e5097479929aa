use Rattle.std.proofs.Common.{rules, length, arith}
use Rattle.std.proofs.lemmas.List.{take_rest, length-drop}
use Rattle.mmt_tlv.proofs.CutLemmas.{cuts_packet, cuts_taken, cuts_sync}
use Rattle.mmt_tlv.proofs.stream.feed_all.Goals as goal

pub packets-preserved : goal.packets-preserved
packets-preserved c = record {
  size = rw (take_rest c.packets.rest.now c.in-Packet.used, length-drop c.in-Packet.used c.packets.rest.now) (omega (arith, c.in-Packet.ensures.size, c.in-Packet.ensures.fed.2, c.packets.invariant.size));
  cut = λ stream before. rw (take_rest c.packets.rest.now c.in-Packet.used)
      (cuts_packet stream c.packets.rest.now c.in-Packet.used c.packets.cutter c.feed.new.self c.packets.spans.items _ c.place.result (length c.packet.result.now)
      (c.packets.invariant.cut stream before) c.in-Packet.ensures.fed (search rules) (search rules) (search rules));
}

pub returns-in-Taken : goal.returns-in-Taken
returns-in-Taken c = λ stream before. cuts_taken stream c.packets.rest.now c.packets.cutter c.feed.new.self c.packets.spans.items (c.packets.invariant.cut stream before) c.in-Taken.ensures.fed

pub returns-in-Sync : goal.returns-in-Sync
returns-in-Sync c = λ stream before. cuts_sync stream c.packets.rest.now c.in-Sync.place c.packets.cutter c.feed.new.self c.packets.spans.items (c.packets.invariant.cut stream before) c.in-Sync.ensures.fed
