-- What a squeezer writes is read back.
use Rattle.std.proofs.Common.{◌≡◌, ◌⊎◌, inl, inr, ℕ, ◌%◌, ◌<◌, Bool, true, false, eqb, cond, List, Some, None, Result, Ok, refl, ap, ◌∙◌, arith, eq-eqb}
use Rattle.std.specs.Prelude.{IfSome}
use Rattle.mmt_base.specs.declared.refused.Refused.{Refused}
use Rattle.mmt_ip.specs.declared.packet.Ip6Header.{Ip6Header}
use Rattle.mmt_ip.specs.Spelling.{HeaderFits}
use Rattle.mmt_ctx.specs.declared.packet.CtxWhy.{CtxWhy}
use Rattle.mmt_ctx.specs.Spelling.{Value, spelling}
use Rattle.mmt_ctx.specs.Reading.{packet_of}
use Rattle.mmt_ctx.specs.Headers.{Header, carried_by, first_of, last_header, opened}
use Rattle.mmt_ctx.specs.Squeezing.{Squeezing, IsReadBack}
use Rattle.mmt_ctx.proofs.Law.{packet_format}

-- a packet that carries the header, or none
abbrev value : Bool → ℕ → Squeezing → List ℕ → Value
value full call s payload = record { context = s.context; number = call % 16; header = cond full (Some s.header) None; payload = payload }

abbrev answer : Bool → ℕ → Squeezing → List ℕ → Header
answer full call s payload = record { context = s.context; number = call % 16; full = full; header = s.header; payload = payload }

carried_fits : (full : Bool) (h : Ip6Header) → HeaderFits h → IfSome (cond full (Some h) None) HeaderFits
carried_fits true h fits = fits
carried_fits false h fits = tt

spelled_is_read : (full : Bool) (call : ℕ) (s : Squeezing) (payload : List ℕ) → s.context < 4096 → HeaderFits s.header → packet_of (spelling (value full call s payload)) ≡ Ok (value full call s payload)
spelled_is_read full call s payload below fits = packet_format.again (value full call s payload) tt (record { context = below; number = omega arith; header = carried_fits full s.header fits })

opened_back : (full : Bool) (call : ℕ) (s : Squeezing) (payload : List ℕ) (earlier : List (List ℕ)) → (last_header earlier s.context ≡ Some s.header) ⊎ (full ≡ true)
    → opened (last_header earlier) (Ok (value full call s payload)) ≡ Ok (answer full call s payload)
opened_back true call s payload earlier known = refl
opened_back false call s payload earlier (inl known) = rw known refl
opened_back false call s payload earlier (inr known) = absurd cc

last_again : (full : Bool) (call : ℕ) (s : Squeezing) (payload : List ℕ) (earlier : List (List ℕ)) → (last_header earlier s.context ≡ Some s.header) ⊎ (full ≡ true)
    → first_of (carried_by s.context (Ok (value full call s payload))) (last_header earlier s.context) ≡ Some s.header
last_again true call s payload earlier known = rw (eq-eqb s.context s.context refl) refl
last_again false call s payload earlier (inl known) = rw (eq-eqb s.context s.context refl) known
last_again false call s payload earlier (inr known) = absurd cc

is_full : (call : ℕ) (s : Squeezing) (earlier : List (List ℕ)) → (last_header earlier s.context ≡ Some s.header) ⊎ (call % s.full_every ≡ 0)
    → (last_header earlier s.context ≡ Some s.header) ⊎ (eqb (call % s.full_every) 0 ≡ true)
is_full call s earlier (inl known) = inl known
is_full call s earlier (inr known) = inr (eq-eqb _ _ known)

pub squeezed_is_read_back : (call : ℕ) (s : Squeezing) (payload : List ℕ) (earlier : List (List ℕ)) → s.context < 4096 → HeaderFits s.header
    → (last_header earlier s.context ≡ Some s.header) ⊎ (call % s.full_every ≡ 0) → IsReadBack call s payload earlier
squeezed_is_read_back call s payload earlier below fits known =
    let full : Bool = eqb (call % s.full_every) 0 in
    let read : packet_of (spelling (value full call s payload)) ≡ Ok (value full call s payload) = spelled_is_read full call s payload below fits in
    record {
      opened = ap (λ (r : Result Value (Refused CtxWhy)). opened (last_header earlier) r) read ∙ opened_back full call s payload earlier (is_full call s earlier known);
      last = ap (λ (r : Result Value (Refused CtxWhy)). first_of (carried_by s.context r) (last_header earlier s.context)) read ∙ last_again full call s payload earlier (is_full call s earlier known);
    }
