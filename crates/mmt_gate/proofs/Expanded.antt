-- What packets become when they are expanded.
use Rattle.std.proofs.Common.{◌≡◌, ◌≢◌, ℕ, ◌≤◌, true, List, ◌++◌, length, Ok, refl, sym, ap, ◌∙◌, arith, eq-eqb}
use Rattle.std.proofs.lemmas.Bool.{le-leb, ne_eqb}
use Rattle.mmt_tlv.specs.Framing.{Packet, spelling}
use Rattle.mmt_ip.specs.declared.packet.Ip6Header.{Ip6Header}
use Rattle.mmt_ip.specs.Spelling.{spelling as plain_spelling}
use Rattle.mmt_ctx.specs.Headers.{Header as Opened, opened_after}
use Rattle.mmt_hear.specs.Hearing.{compressed_bodies}
use Rattle.mmt_gate.specs.Expanding.{plain_packet, expanded_opened, expanded}

pub expands_short : (old new : List ℕ) (h : Ip6Header) (payload : List ℕ) → length payload ≤ 65487 → new ≡ old ++ spelling (record { kind = 2; body = plain_spelling (record { header = h; summed = true; payload = payload }) })
    → (v : Opened) → v.header ≡ h → v.payload ≡ payload → (x : Packet) × (expanded_opened (Ok v) ≡ Ok x) × (new ≡ old ++ spelling x)
expands_short old new h payload short grown v header same = (
  plain_packet v,
  rw (le-leb (length v.payload) 65487 (omega (arith, ap (λ (x : List ℕ). length x) same, short))) refl,
  rw (header, same) grown,
)

pub expanded_three : (earlier : List Packet) (p : Packet) (kind : ℕ) (body : List ℕ) → p ≡ record { kind = kind; body = body } → kind ≡ 3
    → expanded_opened (opened_after (compressed_bodies earlier) body) ≡ expanded earlier p
unfolding expanded
expanded_three earlier p kind body says three = sym (ap (λ (q : Packet). expanded earlier q) says ∙ rw (eq-eqb kind 3 three) refl)

pub expanded_other : (earlier : List Packet) (p : Packet) (kind : ℕ) (body : List ℕ) → p ≡ record { kind = kind; body = body } → kind ≢ 3 → expanded earlier p ≡ Ok p
unfolding expanded
expanded_other earlier p kind body says other =
    let is : p.kind ≡ kind = ap (λ (q : Packet). q.kind) says in
    rw (ne_eqb p.kind 3 (λ three. other (sym is ∙ three))) refl
