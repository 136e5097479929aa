-- A packet of a delivery is heard, or it is refused since no full header came before.
use Rattle.std.proofs.Common.{◌≡◌, ◌⊎◌, inl, inr, ℕ, ◌%◌, Bool, true, false, ◌==◌, List, ◌∷◌, map, None, Result, refl, ap, ◌∙◌}
use Rattle.std.specs.List.{AllByRecursion}
use Rattle.std.proofs.lemmas.Bool.{eqb-true}
use Rattle.mmt_base.specs.declared.refused.Refused.{Refused}
use Rattle.mmt_model.specs.Carrying.{Contents}
use Rattle.mmt_model.specs.declared.casts.Cast.{Cast}
use Rattle.mmt_model.specs.declared.programmes.FlowChoice.{FlowChoice}
use Rattle.mmt_tlv.specs.Framing.{Packet as Tlv}
use Rattle.mmt_ctx.specs.declared.packet.CtxWhy.{CtxWhy}
use Rattle.mmt_ctx.specs.Spelling.{Value as Compressed}
use Rattle.mmt_ctx.specs.Headers.{last_header, opened}
use Rattle.mmt_packet.specs.Spelling.{spelling as packet_spelling}
use Rattle.mmt_hear.specs.Hearing.{Hearing, compressed_bodies, heard_compressed, hearing, is_ours, payload_place}
use Rattle.mmt_tune.specs.Tuning.{Placed, packets_of as tlv_of}
use Rattle.mmt_headline.specs.Heard.{AddressFits, IsSentAt, EachIsHeard}
use Rattle.mmt_sent.specs.Packets.{Addressing, mmtp_at, tlv_at}
use Rattle.mmt_headline.proofs.Delivered.{all-sent}
use Rattle.mmt_headline.proofs.Hearing.{IsHeard, known, plain-heard, plain-is, squeezed, squeezed-all, squeezed-heard, squeezed-is, value, without}
use Rattle.mmt_headline.proofs.Turned.{any_full}
use Rattle.mmt_hear.specs.declared.why.Why.TheVariants as why

-- ---- where no header is known

refused : (a : Addressing) (flow : FlowChoice) (earlier : List Tlv) (n : ℕ) (payload : List ℕ) → AddressFits a
    → last_header (compressed_bodies earlier) a.context ≡ None → (n % a.full_every == 0) ≡ false → hearing flow earlier (squeezed a n payload) ≡ Hearing.Refusal 4 (why.CtxNone a.context)
unfolding hearing squeezed value
refused a flow earlier n payload fits none short =
    ap (λ (r : Result Compressed (Refused CtxWhy)). heard_compressed flow (opened (last_header (compressed_bodies earlier)) r)) (without a n payload fits short) ∙ rw none refl

-- what a packet of a delivery is heard as
abbrev IsOne : Addressing → Cast → Contents → FlowChoice → ℕ → List Placed → Tlv → Type 0
IsOne a cast contents flow n older packet = ((from : ℕ) × (hearing flow (tlv_of older) packet ≡ Hearing.Heard (mmtp_at cast contents n) from)) ⊎ (hearing flow (tlv_of older) packet ≡ Hearing.Refusal 4 (why.CtxNone a.context))

by-header : (a : Addressing) (cast : Cast) (contents : Contents) (flow : FlowChoice) (hist : List ℕ) (n : ℕ) (older : List Placed) (packet : Tlv) → AddressFits a → is_ours flow a.header ≡ true → IsSentAt cast contents n
    → IsHeard a cast contents flow older hist → packet ≡ squeezed a n (packet_spelling (mmtp_at cast contents n))
    → (full before : Bool) → (n % a.full_every == 0) ≡ full → any_full a.full_every hist ≡ before → IsOne a cast contents flow n older packet
by-header a cast contents flow hist n older packet fits ours s h is true before full_is before_is =
    inl (payload_place (n % a.full_every == 0), ap (hearing flow (tlv_of older)) is ∙ (squeezed-heard a cast contents flow (tlv_of older) n fits ours s (inr (eqb-true (n % a.full_every) 0 full_is))).0)
by-header a cast contents flow hist n older packet fits ours s h is false true full_is before_is =
    inl (payload_place (n % a.full_every == 0), ap (hearing flow (tlv_of older)) is ∙ (squeezed-heard a cast contents flow (tlv_of older) n fits ours s (inl (h.header ∙ ap (known a) before_is))).0)
by-header a cast contents flow hist n older packet fits ours s h is false false full_is before_is =
    inr (ap (hearing flow (tlv_of older)) is ∙ refused a flow (tlv_of older) n (packet_spelling (mmtp_at cast contents n)) fits (h.header ∙ ap (known a) before_is) full_is)

by-kind : (a : Addressing) (cast : Cast) (contents : Contents) (flow : FlowChoice) (hist : List ℕ) (n : ℕ) (older : List Placed) (packet : Tlv) → AddressFits a → is_ours flow a.header ≡ true
    → AllByRecursion (IsSentAt cast contents) (n ∷ hist) → tlv_of older ≡ map (tlv_at a cast contents) hist → packet ≡ tlv_at a cast contents n
    → (b : Bool) → (a.full_every == 0) ≡ b → IsOne a cast contents flow n older packet
by-kind a cast contents flow hist n older packet fits ours s same is true e =
    inl (52, ap (hearing flow (tlv_of older)) (is ∙ plain-is a n (packet_spelling (mmtp_at cast contents n)) e) ∙ plain-heard a cast contents flow (tlv_of older) n fits ours s.0)
by-kind a cast contents flow hist n older packet fits ours s same is false e =
    by-header a cast contents flow hist n older packet fits ours s.0 (squeezed-all a cast contents flow fits ours e older hist s.1 same) (is ∙ squeezed-is a n (packet_spelling (mmtp_at cast contents n)) e) (n % a.full_every == 0) (any_full a.full_every hist) refl refl

pub each-heard-or-refused : EachIsHeard
each-heard-or-refused a cast contents flow hist n older packet fits ours sent of same is = by-kind a cast contents flow hist n older packet fits ours (all-sent cast contents (n ∷ hist) sent of) same is (a.full_every == 0) refl
