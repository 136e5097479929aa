-- A sent packet is read, and is heard as the one at its place of the cast.
use Rattle.std.proofs.Common.{◌≡◌, ℕ, ◌<◌, ◌^◌, true, length, get_or, refl, sym, ◌∙◌, arith}
use Rattle.std.proofs.lemmas.List.{length-append}
use Rattle.mmt_base.specs.Ticks.{low}
use Rattle.mmt_fields.proofs.Numbers.{length_big_endian}
use Rattle.mmt_model.specs.Carrying.{Contents, payload_carried}
use Rattle.mmt_model.specs.Packets.{Heard, Payload}
use Rattle.mmt_model.specs.Survival.{heard_of, no_packet}
use Rattle.mmt_model.specs.declared.casts.Cast.{Cast}
use Rattle.mmt_model.specs.declared.casts.Sent.{Sent}
use Rattle.mmt_packet.specs.Spelling.{Fits as PacketFits, spelling as packet_spelling}
use Rattle.mmt_packet.proofs.Law.{packet_format}
use Rattle.mmt_runs.specs.Reading.{heard}
use Rattle.mmt_sent.specs.Payloads.{Message, Units, Written, bytes_of}
use Rattle.mmt_headline.specs.Heard.{HasItsId, IsSentAt, PacketsAreHeard, PayloadIs}
use Rattle.mmt_sent.specs.Packets.{mmtp_at, written_at}
use Rattle.mmt_headline.proofs.Payloads.{payloads, spell}

id-fits : (w : Written) (packet_id : ℕ) → HasItsId w packet_id → packet_id < 2 ^ 16
id-fits (Units head units) packet_id id = id
id-fits (Message part counter message) packet_id id = omega (arith, id)

low-fits : (t : ℕ) → low t < 2 ^ 32
unfolding low
low-fits t = omega arith

pub packet-fits : (cast : Cast) (contents : Contents) (n : ℕ) → IsSentAt cast contents n → PacketFits (mmtp_at cast contents n)
unfolding mmtp_at
packet-fits cast contents n s =
    let p : Sent = get_or cast.packets n no_packet in
    record { counter = tt; reserved = omega arith; packet_id = id-fits (written_at cast contents n) p.packet_id s.id; time = low-fits p.at.0; number = s.number; extension = tt }

pub packet-long : (cast : Cast) (contents : Contents) (n : ℕ) → IsSentAt cast contents n → length (packet_spelling (mmtp_at cast contents n)) < 65012
unfolding packet_spelling mmtp_at
packet-long cast contents n s =
    let is : PayloadIs (written_at cast contents n) (get_or cast.packets n no_packet).packet_id = payloads (written_at cast contents n) (get_or cast.packets n no_packet).packet_id s.can s.id in
    simp (length-append, length_big_endian) (omega (arith, is.long, s.long, s.short))

heard-alike : (time packet_id number l k : ℕ) (x y : Payload) → l ≡ k → x ≡ y
    → ◌≡◌ {A = Heard} (record { time = time; packet_id = packet_id; number = number; length = l; is_opened = true; payload = x }) (record { time = time; packet_id = packet_id; number = number; length = k; is_opened = true; payload = y })
heard-alike time packet_id number l k x y e f = rw (e, f) refl

pub packets-heard : PacketsAreHeard
unfolding mmtp_at heard heard_of
packets-heard cast contents n s =
    let p : Sent = get_or cast.packets n no_packet in
    let w : Written = written_at cast contents n in
    let is : PayloadIs w p.packet_id = payloads w p.packet_id s.can s.id in
    record {
      read = let law = packet_format in law.again (mmtp_at cast contents n) tt (packet-fits cast contents n s);
      heard = rw (is.opened) (heard-alike (low p.at.0) p.packet_id p.number (length (bytes_of w)) p.length _ (payload_carried cast contents p.carries) (is.long ∙ sym s.long) (is.payload ∙ spell cast contents p.carries));
    }
