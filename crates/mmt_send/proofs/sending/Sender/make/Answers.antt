use Rattle.std.proofs.Common.{List, length, arith, ap}
use Rattle.mmt_model.specs.declared.casts.Sent.{Sent}
use Rattle.mmt_sent.specs.Packets.{Addressing}
use Rattle.mmt_sent.specs.Stream.{addressing_of}
use Rattle.mmt_send.specs.Calls.{IsAt}
use Rattle.mmt_send.specs.Files.{files_on}
use Rattle.mmt_send.specs.declared.addressing.Addresser.TheVariants.{Plain, Squeezed}
use Rattle.mmt_send.proofs.Addressed.{at-variant}
use Rattle.mmt_send.proofs.EachCarried.{at-slice, each-carried}
use Rattle.mmt_send.proofs.Mmtp.{alone, begun-is, packet-is}
use Rattle.mmt_send.proofs.sending.Sender.make.Goals as goal

pub put_packet-requires-clause-carried : goal.put_packet-requires-clause-carried
put_packet-requires-clause-carried g c =
    each-carried c.args.job.now.programme.now c.args.job.now.cast.now c.as_slice-packets.result.now c.args.place _ c.requires.job.right c.requires.job.is c.as_slice-packets.ensures
    (omega (arith, c.requires.place, ap (λ (xs : List Sent). length xs) c.as_slice-packets.ensures))

pub put_packet-requires-in-Squeezed-clause-carried : goal.put_packet-requires-in-Squeezed-clause-carried
put_packet-requires-in-Squeezed-clause-carried g c =
    each-carried c.args.job.now.programme.now c.args.job.now.cast.now c.as_slice-packets.result.now c.args.place _ c.requires.job.right c.requires.job.is c.as_slice-packets.ensures
    (omega (arith, c.requires.place, ap (λ (xs : List Sent). length xs) c.as_slice-packets.ensures))

pub begin_squeezed-requires : goal.begin_squeezed-requires
begin_squeezed-requires g c =
    let a : Addressing = addressing_of c.args.job.now.programme.now in
    (a, c.args.place, at-variant a c.args.place c.args.self.now.addresser (Squeezed c.in-Squeezed.squeezer) c.in-Squeezed.is c.requires.ready.at)

pub returns-in_ok-put_packet-in-Squeezed-clause-ready : goal.returns-in_ok-put_packet-in-Squeezed-clause-ready
returns-in_ok-put_packet-in-Squeezed-clause-ready g c =
    let a : Addressing = addressing_of c.args.job.now.programme.now in
    let at : IsAt a c.args.place (Squeezed c.in-Squeezed.squeezer) = at-variant a c.args.place c.args.self.now.addresser (Squeezed c.in-Squeezed.squeezer) c.in-Squeezed.is c.requires.ready.at in
    record { room = c.in_ok-put_packet-in-Squeezed.ensures.room; at = c.in_ok-begin_squeezed-in-Squeezed.ensures.next a c.args.place at; label = tt }

pub returns-in_ok-put_plain-in-Plain-clause-packet : goal.returns-in_ok-put_plain-in-Plain-clause-packet
returns-in_ok-put_plain-in-Plain-clause-packet g c t =
    let a : Addressing = addressing_of c.args.job.now.programme.now in
    let at : IsAt a c.args.place (Plain c.in-Plain.header) = at-variant a c.args.place c.args.self.now.addresser (Plain c.in-Plain.header) c.in-Plain.is c.requires.ready.at in
    packet-is c.args.job.now.programme.now c.args.job.now.cast.now (files_on (g.H.Shelf.file c.args.shelf.now) c.args.job.now.programme.now) c.args.place _ c.put_plain.new.made.outer.items c.put_packet.new.out.items
    (at-slice c.args.job.now.cast.now c.as_slice-packets.result.now c.args.place _ c.as_slice-packets.ensures (omega (arith, c.requires.place, ap (λ (xs : List Sent). length xs) c.as_slice-packets.ensures)))
    (alone _ _ _ c.clear.ensures.items (c.in_ok-put_packet-in-Plain.ensures.packet t)) (c.in_ok-put_plain-in-Plain.ensures a c.args.place at)

pub returns-in_ok-put_packet-in-Squeezed-clause-packet : goal.returns-in_ok-put_packet-in-Squeezed-clause-packet
returns-in_ok-put_packet-in-Squeezed-clause-packet g c t =
    let a : Addressing = addressing_of c.args.job.now.programme.now in
    let at : IsAt a c.args.place (Squeezed c.in-Squeezed.squeezer) = at-variant a c.args.place c.args.self.now.addresser (Squeezed c.in-Squeezed.squeezer) c.in-Squeezed.is c.requires.ready.at in
    begun-is c.args.job.now.programme.now c.args.job.now.cast.now (files_on (g.H.Shelf.file c.args.shelf.now) c.args.job.now.programme.now) c.args.place _ c.begin_squeezed.new.out.items c.put_packet-in-Squeezed.new.out.items c.put_length.new.out.items
    (at-slice c.args.job.now.cast.now c.as_slice-packets.result.now c.args.place _ c.as_slice-packets.ensures (omega (arith, c.requires.place, ap (λ (xs : List Sent). length xs) c.as_slice-packets.ensures)))
    (c.in_ok-put_packet-in-Squeezed.ensures.packet t) (c.in_ok-begin_squeezed-in-Squeezed.ensures.head a c.args.place at) c.put_length.ensures
