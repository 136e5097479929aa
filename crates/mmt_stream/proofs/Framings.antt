-- Each list of bytes is whole packets and a rest.
use Rattle.std.proofs.Common.{◌≡◌, inl, inr, ℕ, zero, suc, ◌+◌, ◌*◌, ◌<◌, ◌≤◌, List, [], ◌∷◌, ◌++◌, length, get_or, take, drop, refl, ap, sym, ◌∙◌, arith, append_assoc}
use Rattle.std.proofs.lemmas.Bool.{cases_lt, cases_order}
use Rattle.std.proofs.lemmas.List.{length-take, length-drop, take-append-drop, get_or-drop}
use Rattle.std.proofs.lemmas.List.Elements.{All-append}
use Rattle.std.proofs.lemmas.Grind.{flat_map-append}
use Rattle.std.specs.Prelude.{All}
use Rattle.mmt_tlv.specs.Framing.{Packet, Fits, spelling, joined, Framed}
use Rattle.mmt_tlv.proofs.Fronts.{front_nil, front_header, front_body, quotient, remainder}

-- each number of the list is a byte
abbrev pub AreBytes : List ℕ → Type 0
AreBytes bytes = (i : ℕ) → get_or bytes i 0 < 256

-- some packets and a rest are the bytes
abbrev pub IsFramed : List ℕ → Type 0
IsFramed bytes = (packets : List Packet) × (tail : List ℕ) × Framed bytes packets tail

no_packets : All Fits []
no_packets k d within = absurd (omega arith)

one_more : (packet : Packet) (packets : List Packet) → Fits packet → All Fits packets → All Fits (packet ∷ packets)
one_more packet packets fits each zero d within = fits
one_more packet packets fits each (suc k) d within = each k d (omega arith)

lost : (x : ℕ) (bytes : List ℕ) → (x ≡ 127 → ⊥) → IsFramed (x ∷ bytes)
lost x bytes other = ([], x ∷ bytes, record { whole = refl; each = no_packets; left = inr other })

short : (bytes : List ℕ) → AreBytes bytes → (0 < length bytes → get_or bytes 0 0 ≡ 127) → length bytes < 4 → IsFramed bytes
short bytes are first few = ([], bytes, record { whole = refl; each = no_packets; left = inl (front_header bytes are first few) })

-- a packet stands before what is framed
first_packet : (kind high low : ℕ) (body : List ℕ) → kind < 256 → high < 256 → low < 256 → 256 * high + low ≤ length body → IsFramed (drop (256 * high + low) body) → IsFramed (127 ∷ kind ∷ high ∷ low ∷ body)
first_packet kind high low body k h l enough (packets, tail, framed) =
    let n : ℕ = 256 * high + low in
    let packet : Packet = record { kind = kind; body = take n body } in
    let size : length packet.body ≡ n = omega (arith, length-take n body) in
    let parts : body ≡ take n body ++ (joined packets ++ tail) = sym (take-append-drop n body) ∙ ap (λ x. take n body ++ x) framed.whole in
    let spelled : 127 ∷ kind ∷ high ∷ low ∷ take n body ≡ spelling packet = rw (quotient (length packet.body) high low l size, remainder (length packet.body) high low l size) refl in (
      packet ∷ packets,
      tail,
      record {
        whole = ap (λ x. 127 ∷ kind ∷ high ∷ low ∷ x) parts ∙ (ap (λ x. x ++ (joined packets ++ tail)) spelled ∙ sym (append_assoc (spelling packet) (joined packets) tail));
        each = one_more packet packets (record { kind = k; length = omega arith }) framed.each;
        left = framed.left;
      },
    )

frames : (n : ℕ) (bytes : List ℕ) → length bytes ≤ n → AreBytes bytes → IsFramed bytes
frames n [] few are = ([], [], record { whole = refl; each = no_packets; left = inl front_nil })
frames zero (x ∷ bytes) few are = absurd (omega arith)
frames (suc n) (a ∷ []) few are = elim (cases_order a 127) [
  | inl is ↦ short (a ∷ []) are (λ some. is) (omega arith)
  | inr (inl lt) ↦ lost a [] (λ is. absurd (omega (arith, lt, is)))
  | inr (inr gt) ↦ lost a [] (λ is. absurd (omega (arith, gt, is)))
]
frames (suc n) (a ∷ b ∷ []) few are = elim (cases_order a 127) [
  | inl is ↦ short (a ∷ b ∷ []) are (λ some. is) (omega arith)
  | inr (inl lt) ↦ lost a (b ∷ []) (λ is. absurd (omega (arith, lt, is)))
  | inr (inr gt) ↦ lost a (b ∷ []) (λ is. absurd (omega (arith, gt, is)))
]
frames (suc n) (a ∷ b ∷ h ∷ []) few are = elim (cases_order a 127) [
  | inl is ↦ short (a ∷ b ∷ h ∷ []) are (λ some. is) (omega arith)
  | inr (inl lt) ↦ lost a (b ∷ h ∷ []) (λ is. absurd (omega (arith, lt, is)))
  | inr (inr gt) ↦ lost a (b ∷ h ∷ []) (λ is. absurd (omega (arith, gt, is)))
]
frames (suc n) (a ∷ b ∷ h ∷ l ∷ body) few are = elim (cases_order a 127) [
  | inl is ↦ elim (cases_lt (length body) (256 * h + l)) [
    | inl less ↦ ([], a ∷ b ∷ h ∷ l ∷ body, record { whole = refl; each = no_packets; left = inl (rw is (front_body b h l body (are 1) (are 2) (are 3) less)) })
    | inr enough ↦ rw is
        (first_packet b h l body (are 1) (are 2) (are 3) enough
        (frames n (drop (256 * h + l) body) (omega (arith, length-drop (256 * h + l) body, few))
        (λ i. rw (get_or-drop (256 * h + l) body i 0) (are (suc (suc (suc (suc (256 * h + l + i)))))))))
  ]
  | inr (inl lt) ↦ lost a (b ∷ h ∷ l ∷ body) (λ is. absurd (omega (arith, lt, is)))
  | inr (inr gt) ↦ lost a (b ∷ h ∷ l ∷ body) (λ is. absurd (omega (arith, gt, is)))
]

pub framed : (bytes : List ℕ) → AreBytes bytes → IsFramed bytes
framed bytes are = frames (length bytes) bytes (omega arith) are

pub bytes-drop : (n : ℕ) (bytes : List ℕ) → AreBytes bytes → AreBytes (drop n bytes)
bytes-drop n bytes are = λ i. rw (get_or-drop n bytes i 0) (are (n + i))

-- packets stand before what is framed
pub framed_behind : (packets : List Packet) (bytes : List ℕ) → All Fits packets → IsFramed bytes → IsFramed (joined packets ++ bytes)
framed_behind packets bytes each (more, tail, f) = (
  packets ++ more,
  tail,
  record {
    whole = ap (λ x. joined packets ++ x) f.whole ∙ (sym (append_assoc (joined packets) (joined more) tail) ∙ ap (λ x. x ++ tail) (sym (flat_map-append spelling packets more)));
    each = All-append Fits packets more each f.each;
    left = f.left;
  },
)
