-- What a packet of each type is heard as.
use Rattle.std.proofs.Common.{◌≡◌, ◌≢◌, ℕ, List, refl, sym, ap, ◌∙◌}
use Rattle.std.proofs.lemmas.Bool.{ne_eqb}
use Rattle.mmt_model.specs.declared.programmes.FlowChoice.{FlowChoice}
use Rattle.mmt_tlv.specs.Framing.{Packet}
use Rattle.mmt_ip.specs.Reading.{packet_of as datagram_of}
use Rattle.mmt_ctx.specs.Headers.{opened_after}
use Rattle.mmt_hear.specs.declared.why.Why.TheVariants as why
use Rattle.mmt_hear.specs.Hearing.{Hearing, hearing, heard_datagram, heard_compressed, compressed_bodies}

-- a packet that says this
abbrev pub packet : ℕ → List ℕ → Packet
packet kind body = record { kind = kind; body = body }

pub ip4_is : (flow : FlowChoice) (earlier : List Packet) (body : List ℕ) → hearing flow earlier (packet 1 body) ≡ Hearing.Refusal 1 why.Ip4
unfolding hearing
ip4_is flow earlier body = refl

pub ip6_is : (flow : FlowChoice) (earlier : List Packet) (body : List ℕ) → hearing flow earlier (packet 2 body) ≡ heard_datagram flow (datagram_of body)
unfolding hearing
ip6_is flow earlier body = refl

pub ctx_is : (flow : FlowChoice) (earlier : List Packet) (body : List ℕ) → hearing flow earlier (packet 3 body) ≡ heard_compressed flow (opened_after (compressed_bodies earlier) body)
unfolding hearing
ctx_is flow earlier body = refl

pub signal_is : (flow : FlowChoice) (earlier : List Packet) (body : List ℕ) → hearing flow earlier (packet 254 body) ≡ Hearing.NotOurs
unfolding hearing
signal_is flow earlier body = refl

pub null_is : (flow : FlowChoice) (earlier : List Packet) (body : List ℕ) → hearing flow earlier (packet 255 body) ≡ Hearing.NotOurs
unfolding hearing
null_is flow earlier body = refl

pub other_is : (flow : FlowChoice) (earlier : List Packet) (kind : ℕ) (body : List ℕ) → kind ≢ 1 → kind ≢ 2 → kind ≢ 3 → kind ≢ 254 → kind ≢ 255
    → hearing flow earlier (packet kind body) ≡ Hearing.Refusal 1 (why.TlvKind kind)
unfolding hearing
other_is flow earlier kind body a b c d e = rw (ne_eqb kind 1 a, ne_eqb kind 2 b, ne_eqb kind 3 c, ne_eqb kind 254 d, ne_eqb kind 255 e) refl

-- what a packet is heard as, where it says this and its type is known
pub heard_as : (flow : FlowChoice) (earlier : List Packet) (p : Packet) (kind n : ℕ) (body : List ℕ) (answer : Hearing) → p ≡ packet kind body → kind ≡ n
    → hearing flow earlier (packet n body) ≡ answer → answer ≡ hearing flow earlier p
heard_as flow earlier p kind n body answer says is same = sym (ap (λ (q : Packet). hearing flow earlier q) (says ∙ ap (λ (k : ℕ). packet k body) is) ∙ same)
