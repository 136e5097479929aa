use Rattle.std.proofs.Common.{List, ℕ, true, length, arith, refl, sym, ap, ◌∙◌}
use Rattle.mmt_ip.specs.Spelling.{Value as Datagram, spelling as datagram_spelling}
use Rattle.mmt_sent.specs.Packets.{addressed}
use Rattle.mmt_tlv.specs.Framing.{spelling}
use Rattle.mmt_send.proofs.Addressed.{head-first, plain-addressed, plain-short}
use Rattle.mmt_send.proofs.addressing.put_plain.Goals as goal

pub put_length-requires : goal.put_length-requires
put_length-requires c =
    let v : Datagram = record { header = c.args.header.now; summed = true; payload = c.as_slice.result.now } in
    plain-short c.write_ip6udp.new.out.items v (head-first 2 c.clear.new.self.items c.write_tlv.new.out.items c.write_ip6udp.new.out.items (datagram_spelling v) c.clear.ensures.items c.in_ok-write_tlv.ensures.ok c.in_ok-write_ip6udp.ensures.ok)
    (omega (arith, c.requires.short, ap (λ (xs : List ℕ). length xs) c.as_slice.ensures.value))

pub returns : goal.returns
returns c a call is =
    let v : Datagram = record { header = c.args.header.now; summed = true; payload = c.as_slice.result.now } in
    c.put_length.ensures (record { kind = 2; body = datagram_spelling v })
    (head-first 2 c.clear.new.self.items c.write_tlv.new.out.items c.write_ip6udp.new.out.items (datagram_spelling v) c.clear.ensures.items c.in_ok-write_tlv.ensures.ok c.in_ok-write_ip6udp.ensures.ok)
    ∙ ap spelling (sym (plain-addressed a call c.args.header.now c.as_slice.result.now (datagram_spelling v) is.0 is.1 refl))
    ∙ ap (λ (payload : List ℕ). spelling (addressed a call payload)) c.as_slice.ensures.value
