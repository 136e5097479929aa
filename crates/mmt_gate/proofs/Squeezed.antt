-- What packets become when they are squeezed.
use Rattle.std.proofs.Common.{◌≡◌, ◌≢◌, ℕ, List, ◌∷◌, Ok, Err, refl, sym, ap, ◌∙◌, arith, eq-eqb}
use Rattle.std.specs.List.{cons_option}
use Rattle.std.proofs.lemmas.Bool.{ne_eqb}
use Rattle.mmt_tlv.specs.Framing.{Packet}
use Rattle.mmt_ip.specs.Reading.{packet_of as plain_of}
use Rattle.mmt_gate.specs.declared.shrinker.ShrinkEnd.TheVariants as end
use Rattle.mmt_gate.specs.Flows.{Options, header_read, header_of, headers}
use Rattle.mmt_gate.specs.Shrinking.{squeezed_plain, squeezed}

pub three_becomes : (o : Options) (earlier : List Packet) (p : Packet) (kind : ℕ) (body : List ℕ) → p ≡ record { kind = kind; body = body } → kind ≡ 3 → squeezed o earlier p ≡ Err end.Squeezed
unfolding squeezed
three_becomes o earlier p kind body says three =
    let is : p.kind ≡ 3 = ap (λ (q : Packet). q.kind) says ∙ three in
    rw (ne_eqb p.kind 2 (λ two. omega (arith, is, two)), eq-eqb p.kind 3 is) refl

pub two_becomes : (o : Options) (earlier : List Packet) (p : Packet) (kind : ℕ) (body : List ℕ) → p ≡ record { kind = kind; body = body } → kind ≡ 2 → squeezed o earlier p ≡ Ok (squeezed_plain o (headers earlier) p (plain_of body))
unfolding squeezed
two_becomes o earlier p kind body says two =
    let is : p.kind ≡ 2 = ap (λ (q : Packet). q.kind) says ∙ two in
    rw (eq-eqb p.kind 2 is) (ap (λ (b : List ℕ). Ok (squeezed_plain o (headers earlier) p (plain_of b))) (ap (λ (q : Packet). q.body) says))

pub other_becomes : (o : Options) (earlier : List Packet) (p : Packet) (kind : ℕ) (body : List ℕ) → p ≡ record { kind = kind; body = body } → kind ≢ 2 → kind ≢ 3 → squeezed o earlier p ≡ Ok p
unfolding squeezed
other_becomes o earlier p kind body says two three =
    let is : p.kind ≡ kind = ap (λ (q : Packet). q.kind) says in
    rw (ne_eqb p.kind 2 (λ e. two (sym is ∙ e)), ne_eqb p.kind 3 (λ e. three (sym is ∙ e))) refl

-- the headers after one packet more
pub two_headers : (earlier : List Packet) (p : Packet) (kind : ℕ) (body : List ℕ) → p ≡ record { kind = kind; body = body } → kind ≡ 2 → headers (p ∷ earlier) ≡ cons_option (header_read (plain_of body)) (headers earlier)
unfolding headers header_of
two_headers earlier p kind body says two =
    let is : p.kind ≡ 2 = ap (λ (q : Packet). q.kind) says ∙ two in
    rw (eq-eqb p.kind 2 is) (ap (λ (b : List ℕ). cons_option (header_read (plain_of b)) (headers earlier)) (ap (λ (q : Packet). q.body) says))

pub other_headers : (earlier : List Packet) (p : Packet) (kind : ℕ) (body : List ℕ) → p ≡ record { kind = kind; body = body } → kind ≢ 2 → headers (p ∷ earlier) ≡ headers earlier
unfolding headers header_of
other_headers earlier p kind body says two =
    let is : p.kind ≡ kind = ap (λ (q : Packet). q.kind) says in
    rw (ne_eqb p.kind 2 (λ e. two (sym is ∙ e))) refl
