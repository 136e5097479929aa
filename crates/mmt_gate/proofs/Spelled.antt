-- The TLV packets that are written.
use Rattle.std.proofs.Common.{◌≡◌, ℕ, ◌+◌, ◌/◌, ◌%◌, ◌<◌, List, [], ◌∷◌, ◌++◌, length, ap, sym, ◌∙◌, append_assoc}
use Rattle.mmt_tlv.specs.Framing.{spelling}
use Rattle.mmt_ip.specs.Spelling.{Value as Plain, spelling as plain_spelling}
use Rattle.mmt_gate.proofs.Lengths.{length_plain}

pub plain_written : (old mid new : List ℕ) (v : Plain) → mid ≡ old ++ (127 ∷ 2 ∷ ((48 + length v.payload) / 256) ∷ ((48 + length v.payload) % 256) ∷ []) → new ≡ mid ++ plain_spelling v
    → new ≡ old ++ spelling (record { kind = 2; body = plain_spelling v })
plain_written old mid new v first second =
    second
    ∙ (ap (λ (m : List ℕ). m ++ plain_spelling v) first
    ∙ (append_assoc old (127 ∷ 2 ∷ ((48 + length v.payload) / 256) ∷ ((48 + length v.payload) % 256) ∷ []) (plain_spelling v)
    ∙ ap (λ (n : ℕ). old ++ (127 ∷ 2 ∷ (n / 256) ∷ (n % 256) ∷ plain_spelling v)) (sym (length_plain v))))

-- all of a compressed packet but the length of its body
pub squeezed_begun : (old mid new : List ℕ) (place : ℕ) (body : List ℕ) → place ≡ length old → mid ≡ old ++ (127 ∷ 3 ∷ 0 ∷ 0 ∷ []) → new ≡ mid ++ body → length body < 65536
    → (o b : List ℕ) × (length o ≡ place) × (length b < 65536) × (new ≡ o ++ (127 ∷ 3 ∷ 0 ∷ 0 ∷ b))
squeezed_begun old mid new place body at first second short = (
  old,
  body,
  sym at,
  short,
  second ∙ (ap (λ (m : List ℕ). m ++ body) first ∙ append_assoc old (127 ∷ 3 ∷ 0 ∷ 0 ∷ []) body),
)
