-- Which packets of a delivery are heard, the newest first.
use Rattle.std.proofs.Common.{◌≡◌, ◌⊎◌, inl, inr, ℕ, ◌%◌, ◌<◌, Bool, true, false, ◌||◌, ◌==◌, cond, List, [], ◌∷◌, ◌++◌, map, length, Option, Some, None, Result, Ok, refl, sym, ap, ap₂, ◌∙◌, arith, eq-eqb}
use Rattle.std.specs.List.{AllByRecursion}
use Rattle.std.proofs.lemmas.Bool.{eqb-true}
use Rattle.mmt_base.specs.declared.refused.Refused.{Refused}
use Rattle.mmt_model.specs.Carrying.{Contents}
use Rattle.mmt_model.specs.declared.casts.Cast.{Cast}
use Rattle.mmt_model.specs.declared.programmes.FlowChoice.{FlowChoice}
use Rattle.mmt_tlv.specs.Framing.{Packet as Tlv}
use Rattle.mmt_ip.specs.declared.packet.Ip6Header.{Ip6Header}
use Rattle.mmt_ip.specs.Spelling.{Value as Datagram, spelling as datagram_spelling}
use Rattle.mmt_ip.specs.Reading.{packet_of as datagram_of}
use Rattle.mmt_ip.proofs.Law.{packet_format as datagram_format}
use Rattle.mmt_ctx.specs.declared.packet.CtxWhy.{CtxWhy}
use Rattle.mmt_ctx.specs.Spelling.{Value as Compressed, spelling as compressed_spelling}
use Rattle.mmt_ctx.specs.Reading.{packet_of as compressed_of}
use Rattle.mmt_ctx.specs.Headers.{carried_by, first_of, last_header, opened}
use Rattle.mmt_ctx.specs.Squeezing.{IsReadBack, packet_at}
use Rattle.mmt_ctx.proofs.Law.{packet_format as compressed_format}
use Rattle.mmt_ctx.proofs.ReadBack.{squeezed_is_read_back}
use Rattle.mmt_packet.specs.Spelling.{Value as Mmtp, spelling as packet_spelling}
use Rattle.mmt_hear.specs.Hearing.{Hearing, compressed_bodies, heard_compressed, heard_datagram, heard_flow, heard_payload, hearing, is_ours, payload_place}
use Rattle.mmt_tune.specs.Tuning.{HeardAt, Placed, heard_at, heard_of as heard_in, packets_of as tlv_of}
use Rattle.mmt_headline.specs.Heard.{AddressFits, IsSentAt, PacketIs}
use Rattle.mmt_sent.specs.Packets.{Addressing, addressed, mmtp_at, squeezing, tlv_at}
use Rattle.mmt_headline.proofs.Packets.{packet-long, packets-heard}
use Rattle.mmt_headline.proofs.Turned.{any_full, heard_places, is_full}

-- the packets that are heard
abbrev pub heard_packets : List HeardAt → List Mmtp
heard_packets hs = map (λ h. h.packet) hs

packets-append : (xs ys : List HeardAt) → heard_packets (xs ++ ys) ≡ heard_packets xs ++ heard_packets ys
packets-append [] ys = refl
packets-append (x ∷ xs) ys = ap (λ (ps : List Mmtp). x.packet ∷ ps) (packets-append xs ys)

-- ---- plain IPv6

unfoldable pub plain : Addressing → List ℕ → Tlv
plain a payload = record { kind = 2; body = datagram_spelling (record { header = a.header; summed = true; payload = payload }) }

pub plain-is : (a : Addressing) (call : ℕ) (payload : List ℕ) → (a.full_every == 0) ≡ true → addressed a call payload ≡ plain a payload
unfolding addressed plain
plain-is a call payload e = ap (λ (b : Bool). cond b (record { kind = 2; body = datagram_spelling (record { header = a.header; summed = true; payload = payload }) }) (record { kind = 3; body = compressed_spelling (packet_at call (squeezing a call) payload) })) e

pub plain-heard : (a : Addressing) (cast : Cast) (contents : Contents) (flow : FlowChoice) (earlier : List Tlv) (n : ℕ) → AddressFits a → is_ours flow a.header ≡ true → IsSentAt cast contents n
    → hearing flow earlier (plain a (packet_spelling (mmtp_at cast contents n))) ≡ Hearing.Heard (mmtp_at cast contents n) 52
unfolding hearing plain
plain-heard a cast contents flow earlier n fits ours s =
    let payload : List ℕ = packet_spelling (mmtp_at cast contents n) in
    let v : Datagram = record { header = a.header; summed = true; payload = payload } in
    let long : length payload < 65012 = packet-long cast contents n s in
    let read : datagram_of (datagram_spelling v) ≡ Ok v = (let law = datagram_format in law.again v tt (record { header = fits.header; len = omega arith })) in
    let is : PacketIs cast contents n = packets-heard cast contents n s in
    ap (heard_datagram flow) read ∙ ap (λ (b : Bool). heard_flow b 52 payload) ours ∙ ap (heard_payload 52) is.read

-- all are heard
pub plain-all : (a : Addressing) (cast : Cast) (contents : Contents) (flow : FlowChoice) → AddressFits a → is_ours flow a.header ≡ true → (a.full_every == 0) ≡ true
    → (ps : List Placed) (hist : List ℕ) → AllByRecursion (IsSentAt cast contents) hist → tlv_of ps ≡ map (tlv_at a cast contents) hist
    → heard_packets (heard_in flow ps) ≡ map (mmtp_at cast contents) hist
unfolding heard_in
plain-all a cast contents flow fits ours e [] [] s same = refl
plain-all a cast contents flow fits ours e [] (n ∷ hist) s same = absurd cc
plain-all a cast contents flow fits ours e (p ∷ ps) [] s same = absurd cc
plain-all a cast contents flow fits ours e (p ∷ ps) (n ∷ hist) s same =
    let first : p.packet ≡ tlv_at a cast contents n = cc in
    let rest : tlv_of ps ≡ map (tlv_at a cast contents) hist = cc in
    let is : hearing flow (tlv_of ps) p.packet ≡ Hearing.Heard (mmtp_at cast contents n) 52 =
    ap (hearing flow (tlv_of ps)) (first ∙ plain-is a n (packet_spelling (mmtp_at cast contents n)) e) ∙ plain-heard a cast contents flow (tlv_of ps) n fits ours s.0 in
    packets-append (heard_at p.place (hearing flow (tlv_of ps) p.packet)) (heard_in flow ps)
    ∙ ap (λ (h : Hearing). heard_packets (heard_at p.place h) ++ heard_packets (heard_in flow ps)) is
    ∙ ap (λ (ms : List Mmtp). mmtp_at cast contents n ∷ ms) (plain-all a cast contents flow fits ours e ps hist s.1 rest)

pub plain-places : (full_every : ℕ) → (full_every == 0) ≡ true → (hist : List ℕ) → heard_places full_every hist ≡ hist
plain-places full_every e [] = refl
plain-places full_every e (n ∷ older) = rw e (ap (λ (ns : List ℕ). n ∷ ns) (plain-places full_every e older))

-- ---- header-compressed

unfoldable pub value : Addressing → ℕ → List ℕ → Compressed
value a call payload = packet_at call (squeezing a call) payload

unfoldable pub squeezed : Addressing → ℕ → List ℕ → Tlv
unfolding value
squeezed a call payload = record { kind = 3; body = compressed_spelling (value a call payload) }

pub squeezed-is : (a : Addressing) (call : ℕ) (payload : List ℕ) → (a.full_every == 0) ≡ false → addressed a call payload ≡ squeezed a call payload
unfolding addressed squeezed value
squeezed-is a call payload e = ap (λ (b : Bool). cond b (record { kind = 2; body = datagram_spelling (record { header = a.header; summed = true; payload = payload }) }) (record { kind = 3; body = compressed_spelling (packet_at call (squeezing a call) payload) })) e

-- the header that is known of the context
abbrev pub known : Addressing → Bool → Option Ip6Header
known a true = Some a.header
known a false = None

-- where the header is known or comes with the packet
pub squeezed-heard : (a : Addressing) (cast : Cast) (contents : Contents) (flow : FlowChoice) (earlier : List Tlv) (n : ℕ) → AddressFits a → is_ours flow a.header ≡ true → IsSentAt cast contents n
    → (last_header (compressed_bodies earlier) a.context ≡ Some a.header) ⊎ (n % a.full_every ≡ 0)
    → (hearing flow earlier (squeezed a n (packet_spelling (mmtp_at cast contents n))) ≡ Hearing.Heard (mmtp_at cast contents n) (payload_place (n % a.full_every == 0)))
    × (last_header (compressed_spelling (value a n (packet_spelling (mmtp_at cast contents n))) ∷ compressed_bodies earlier) a.context ≡ Some a.header)
unfolding hearing squeezed value
squeezed-heard a cast contents flow earlier n fits ours s with_header =
    let payload : List ℕ = packet_spelling (mmtp_at cast contents n) in
    let full : Bool = n % a.full_every == 0 in
    let back : IsReadBack n (squeezing a n) payload (compressed_bodies earlier) = squeezed_is_read_back n (squeezing a n) payload (compressed_bodies earlier) fits.context fits.header with_header in
    let is : PacketIs cast contents n = packets-heard cast contents n s in
    (ap (heard_compressed flow) back.opened ∙ ap (λ (b : Bool). heard_flow b (payload_place full) payload) ours ∙ ap (heard_payload (payload_place full)) is.read, back.last)

-- where it is not
pub without : (a : Addressing) (call : ℕ) (payload : List ℕ) → AddressFits a → (call % a.full_every == 0) ≡ false
    → compressed_of (compressed_spelling (value a call payload)) ≡ Ok (record { context = a.context; number = call % 16; header = None; payload = payload })
unfolding value
without a call payload fits e =
    let v : Compressed = record { context = a.context; number = call % 16; header = None; payload = payload } in
    let same : packet_at call (squeezing a call) payload ≡ v = ap (λ (b : Bool). bare b) e in
    ap (λ (w : Compressed). compressed_of (compressed_spelling w)) same ∙ (let law = compressed_format in law.again v tt (record { context = fits.context; number = omega arith; header = tt }))
  where
    bare : Bool → Compressed
    bare b = record { context = a.context; number = call % 16; header = cond b (Some a.header) None; payload = payload }

squeezed-unheard : (a : Addressing) (flow : FlowChoice) (earlier : List Tlv) (place n : ℕ) (payload : List ℕ) → AddressFits a
    → last_header (compressed_bodies earlier) a.context ≡ None → (n % a.full_every == 0) ≡ false
    → (heard_at place (hearing flow earlier (squeezed a n payload)) ≡ []) × (last_header (compressed_spelling (value a n payload) ∷ compressed_bodies earlier) a.context ≡ None)
unfolding hearing squeezed
squeezed-unheard a flow earlier place n payload fits none short =
    let read = without a n payload fits short in
    let bodies : List (List ℕ) = compressed_bodies earlier in (
      ap (λ (r : Result Compressed (Refused CtxWhy)). heard_at place (heard_compressed flow (opened (last_header bodies) r))) read ∙ rw none refl,
      ap (λ (r : Result Compressed (Refused CtxWhy)). first_of (carried_by a.context r) (last_header bodies a.context)) read ∙ rw (eq-eqb a.context a.context refl, none) refl,
    )

-- what is known after packets
pub record IsHeard (a : Addressing) (cast : Cast) (contents : Contents) (flow : FlowChoice) (ps : List Placed) (hist : List ℕ) : Type 0 where
  pub packets : heard_packets (heard_in flow ps) ≡ map (mmtp_at cast contents) (heard_places a.full_every hist)
  pub header : last_header (compressed_bodies (tlv_of ps)) a.context ≡ known a (any_full a.full_every hist)

or-false : (a b : Bool) → a ≡ false → (a || b) ≡ b
or-false true b e = absurd cc
or-false false b e = refl

-- with a packet more: by whether it has a full header, and whether one came before
one-more : (a : Addressing) (cast : Cast) (contents : Contents) (flow : FlowChoice) (ps : List Placed) (place n : ℕ) (hist : List ℕ) → AddressFits a → is_ours flow a.header ≡ true → IsSentAt cast contents n
    → IsHeard a cast contents flow ps hist → (full before : Bool) → (n % a.full_every == 0) ≡ full → any_full a.full_every hist ≡ before
    → (heard_packets (heard_at place (hearing flow (tlv_of ps) (squeezed a n (packet_spelling (mmtp_at cast contents n))))) ++ heard_packets (heard_in flow ps)
    ≡ map (mmtp_at cast contents) (cond (full || before) (n ∷ heard_places a.full_every hist) []))
    × (last_header (compressed_spelling (value a n (packet_spelling (mmtp_at cast contents n))) ∷ compressed_bodies (tlv_of ps)) a.context ≡ known a (full || before))
unfolding squeezed
one-more a cast contents flow ps place n hist fits ours s h true before full_is before_is =
    let r = squeezed-heard a cast contents flow (tlv_of ps) n fits ours s (inr (eqb-true (n % a.full_every) 0 full_is)) in
    (ap₂ (λ (x : Hearing) (ms : List Mmtp). heard_packets (heard_at place x) ++ ms) r.0 h.packets, r.1)
one-more a cast contents flow ps place n hist fits ours s h false true full_is before_is =
    let r = squeezed-heard a cast contents flow (tlv_of ps) n fits ours s (inl (h.header ∙ ap (known a) before_is)) in
    (ap₂ (λ (x : Hearing) (ms : List Mmtp). heard_packets (heard_at place x) ++ ms) r.0 h.packets, r.1)
one-more a cast contents flow ps place n hist fits ours s h false false full_is before_is =
    let r = squeezed-unheard a flow (tlv_of ps) place n (packet_spelling (mmtp_at cast contents n)) fits (h.header ∙ ap (known a) before_is) full_is in
    (ap₂ (λ (xs : List HeardAt) (ms : List Mmtp). heard_packets xs ++ ms) r.0 (h.packets ∙ ap (map (mmtp_at cast contents)) (none-places a.full_every hist before_is)), r.1)
  where
    none-places : (full_every : ℕ) (hist : List ℕ) → any_full full_every hist ≡ false → heard_places full_every hist ≡ []
    none-places full_every [] e = refl
    none-places full_every (n ∷ older) e = ap (λ (b : Bool). cond b (n ∷ heard_places full_every older) []) e

full-is : (full_every n : ℕ) → (full_every == 0) ≡ false → is_full full_every n ≡ (n % full_every == 0)
full-is full_every n e = or-false (full_every == 0) (n % full_every == 0) e

pub squeezed-all : (a : Addressing) (cast : Cast) (contents : Contents) (flow : FlowChoice) → AddressFits a → is_ours flow a.header ≡ true → (a.full_every == 0) ≡ false
    → (ps : List Placed) (hist : List ℕ) → AllByRecursion (IsSentAt cast contents) hist → tlv_of ps ≡ map (tlv_at a cast contents) hist → IsHeard a cast contents flow ps hist
unfolding heard_in squeezed
squeezed-all a cast contents flow fits ours e [] [] s same = record { packets = refl; header = refl }
squeezed-all a cast contents flow fits ours e [] (n ∷ hist) s same = absurd cc
squeezed-all a cast contents flow fits ours e (p ∷ ps) [] s same = absurd cc
squeezed-all a cast contents flow fits ours e (p ∷ ps) (n ∷ hist) s same =
    let first : p.packet ≡ tlv_at a cast contents n = cc in
    let rest : tlv_of ps ≡ map (tlv_at a cast contents) hist = cc in
    let payload : List ℕ = packet_spelling (mmtp_at cast contents n) in
    let is : p.packet ≡ squeezed a n payload = first ∙ squeezed-is a n payload e in
    let h : IsHeard a cast contents flow ps hist = squeezed-all a cast contents flow fits ours e ps hist s.1 rest in
    let before : Bool = any_full a.full_every hist in
    let full : Bool = n % a.full_every == 0 in
    let more = one-more a cast contents flow ps p.place n hist fits ours s.0 h full before refl refl in
    let any : any_full a.full_every (n ∷ hist) ≡ (full || before) = ap (λ (b : Bool). b || before) (full-is a.full_every n e) in
    record {
      packets = packets-append (heard_at p.place (hearing flow (tlv_of ps) p.packet)) (heard_in flow ps)
          ∙ ap (λ (x : Tlv). heard_packets (heard_at p.place (hearing flow (tlv_of ps) x)) ++ heard_packets (heard_in flow ps)) is
          ∙ more.0
          ∙ ap (λ (b : Bool). map (mmtp_at cast contents) (cond b (n ∷ heard_places a.full_every hist) [])) (sym any);
      header = ap (λ (x : Tlv). last_header (compressed_bodies (x ∷ tlv_of ps)) a.context) is ∙ more.1 ∙ ap (known a) (sym any);
    }
