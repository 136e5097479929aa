-- Of a delivery the packets are heard from the first that has a full header on.
use Rattle.std.proofs.Common.{◌≡◌, ℕ, ◌<◌, Bool, true, false, ◌==◌, List, [], ◌∷◌, map, length, refl, sym, ap, ap₂, ◌∙◌}
use Rattle.std.specs.List.{AllByRecursion}
use Rattle.mmt_model.specs.Carrying.{Contents, packets_of}
use Rattle.mmt_model.specs.Delivery.{from_heard, newest_first}
use Rattle.mmt_model.specs.Packets.{Heard}
use Rattle.mmt_model.specs.Survival.{AreOf, heard_of}
use Rattle.mmt_model.specs.declared.casts.Cast.{Cast}
use Rattle.mmt_model.specs.declared.programmes.FlowChoice.{FlowChoice}
use Rattle.mmt_hear.specs.Hearing.{is_ours}
use Rattle.mmt_tune.specs.Tuning.{HeardAt, Placed, heard_as, heard_of as heard_in, packets_of as tlv_of}
use Rattle.mmt_headline.specs.Heard.{AddressFits, IsSentAt, DeliveriesAreHeard, PacketIs}
use Rattle.mmt_sent.specs.Packets.{Addressing, mmtp_at, tlv_at}
use Rattle.mmt_headline.proofs.Packets.{packets-heard}
use Rattle.mmt_headline.proofs.Hearing.{IsHeard, heard_packets, plain-all, plain-places, squeezed-all}
use Rattle.mmt_headline.proofs.Turned.{each-heard, each-turned, heard-turned, heard_places, turned-map, turned-twice}

pub all-sent : (cast : Cast) (contents : Contents) (ds : List ℕ) → ((n : ℕ) → n < length cast.packets → IsSentAt cast contents n) → AreOf cast.packets ds → AllByRecursion (IsSentAt cast contents) ds
all-sent cast contents [] h of = tt
all-sent cast contents (d ∷ ds) h of = (h d of.0, all-sent cast contents ds h of.1)

by-header : (a : Addressing) (cast : Cast) (contents : Contents) (flow : FlowChoice) (ps : List Placed) (hist : List ℕ) → AddressFits a → is_ours flow a.header ≡ true
    → AllByRecursion (IsSentAt cast contents) hist → tlv_of ps ≡ map (tlv_at a cast contents) hist
    → (b : Bool) → (a.full_every == 0) ≡ b → heard_packets (heard_in flow ps) ≡ map (mmtp_at cast contents) (heard_places a.full_every hist)
by-header a cast contents flow ps hist fits ours s same true e =
    plain-all a cast contents flow fits ours e ps hist s same ∙ ap (map (mmtp_at cast contents)) (sym (plain-places a.full_every e hist))
by-header a cast contents flow ps hist fits ours s same false e = let h : IsHeard a cast contents flow ps hist = squeezed-all a cast contents flow fits ours e ps hist s same in h.packets

as-heard : (hs : List HeardAt) → map (λ h. heard_as h.packet) hs ≡ map heard_as (heard_packets hs)
as-heard [] = refl
as-heard (h ∷ hs) = ap (λ (xs : List Heard). heard_as h.packet ∷ xs) (as-heard hs)

as-sent : (cast : Cast) (contents : Contents) (hist : List ℕ) → AllByRecursion (IsSentAt cast contents) hist → map heard_as (map (mmtp_at cast contents) hist) ≡ map (heard_of (packets_of cast contents)) hist
as-sent cast contents [] s = refl
as-sent cast contents (n ∷ hist) s =
    let is : PacketIs cast contents n = packets-heard cast contents n s.0 in
    ap₂ (λ (h : Heard) (hs : List Heard). h ∷ hs) is.heard (as-sent cast contents hist s.1)

pub deliveries-heard : DeliveriesAreHeard
deliveries-heard a cast contents flow delivery ps fits ours sent of same =
    let hist : List ℕ = newest_first delivery in
    let all : AllByRecursion (IsSentAt cast contents) hist = each-turned (IsSentAt cast contents) delivery (all-sent cast contents delivery sent of) in
    let packets : heard_packets (heard_in flow ps) ≡ map (mmtp_at cast contents) (heard_places a.full_every hist) =
    by-header a cast contents flow ps hist fits ours all (same ∙ sym (turned-map (tlv_at a cast contents) delivery)) (a.full_every == 0) refl in
    let heard : List Heard = map (heard_of (packets_of cast contents)) (heard_places a.full_every hist) in
    let turned : map (λ h. heard_as h.packet) (heard_in flow ps) ≡ heard =
    as-heard (heard_in flow ps) ∙ ap (map heard_as) packets ∙ as-sent cast contents (heard_places a.full_every hist) (each-heard (IsSentAt cast contents) a.full_every hist all) in
    record {
      packets = newest_first (heard_in flow ps);
      stream = sym (turned-twice (heard_in flow ps));
      places = turned-map (λ (h : HeardAt). heard_as h.packet) (heard_in flow ps)
          ∙ ap newest_first turned
          ∙ sym (turned-map (heard_of (packets_of cast contents)) (heard_places a.full_every hist))
          ∙ ap (λ (ns : List ℕ). map (heard_of (packets_of cast contents)) (newest_first ns)) (heard-turned a.full_every delivery)
          ∙ ap (map (heard_of (packets_of cast contents))) (turned-twice (from_heard a.full_every delivery));
    }
