-- Big-endian numbers of any count of bytes, which the library has up to eight.
use Rattle.std.proofs.Common.{◌≡◌, ℕ, zero, suc, ◌+◌, ◌*◌, ◌/◌, ◌%◌, ◌^◌, ◌<◌, List, [], ◌∷◌, length, refl, ap, ◌∙◌, arith, pow-suc, mul_comm}
use Rattle.std.specs.Int.{w128, byte_at, bytes_high_first, from_be_bytes}
use Rattle.std.proofs.Math.Nat.{pow-le-pow_right}
use Rattle.std.proofs.Math.Arith.{mod-mul}
use Rattle.std.proofs.lemmas.Nat.{div-mul-add, mod-mul-add}
use Rattle.mmt_fields.proofs.Codec.{IsBytes}

-- what bytes are be_value, the first the most
abbrev pub be_value : List ℕ → ℕ
be_value [] = 0
be_value (b ∷ bs) = b * 256 ^ length bs + be_value bs

pow_some : (k : ℕ) → 0 < 256 ^ k
pow_some k = pow-le-pow_right {n = 256} (omega arith) {i = 0} {j = k} (omega arith)

tail_is_bytes : (b : ℕ) (bs : List ℕ) → IsBytes (b ∷ bs) → IsBytes bs
tail_is_bytes b bs h i = h (suc i)

row : (b p w m : ℕ) → b < 256 → w < p → m ≡ 256 * p → b * p + w < m
row b p w m hb hw e = grind arith

pub be_value_below : (bs : List ℕ) → IsBytes bs → be_value bs < 256 ^ length bs
be_value_below [] h = omega arith
be_value_below (b ∷ bs) h =
    let wider : 256 ^ suc (length bs) ≡ 256 * 256 ^ length bs = pow-suc 256 (length bs) ∙ mul_comm (256 ^ length bs) 256 in
    row b (256 ^ length bs) (be_value bs) (256 ^ suc (length bs)) (h 0) (be_value_below bs (tail_is_bytes b bs h)) wider

pub byte_is : (k n : ℕ) → byte_at k n ≡ n / 256 ^ k % 256
byte_is zero n = omega arith
byte_is (suc k) n = refl

regroup : (h b p w m : ℕ) → m ≡ 256 * p → h * m + (b * p + w) ≡ (h * 256 + b) * p + w
regroup h b p w m e = rw e (omega arith)

pub bytes_back : (bs : List ℕ) (h : ℕ) → IsBytes bs → bytes_high_first (length bs) (h * 256 ^ length bs + be_value bs) ≡ bs
bytes_back [] h are = refl
bytes_back (b ∷ bs) h are =
    let p = 256 ^ length bs in
    let w = be_value bs in
    let wider : 256 ^ suc (length bs) ≡ 256 * p = pow-suc 256 (length bs) ∙ mul_comm p 256 in
    let is : h * 256 ^ suc (length bs) + (b * p + w) ≡ (h * 256 + b) * p + w = regroup h b p w (256 ^ suc (length bs)) wider in
    let low : w < p = be_value_below bs (tail_is_bytes b bs are) in
    let head : byte_at (length bs) ((h * 256 + b) * p + w) ≡ b = byte_is (length bs) ((h * 256 + b) * p + w) ∙ rw (div-mul-add (h * 256 + b) p w low) (mod-mul-add h 256 b (are 0)) in
    ap (λ (n : ℕ). byte_at (length bs) n ∷ bytes_high_first (length bs) n) is
    ∙ ap (λ (x : ℕ). x ∷ bytes_high_first (length bs) ((h * 256 + b) * p + w)) head
    ∙ ap (λ (xs : List ℕ). b ∷ xs) (bytes_back bs (h * 256 + b) (tail_is_bytes b bs are))

pub length_high : (k n : ℕ) → length (bytes_high_first k n) ≡ k
length_high zero n = refl
length_high (suc k) n = ap suc (length_high k n)

pub be_value_again : (k n : ℕ) → be_value (bytes_high_first k n) ≡ n % 256 ^ k
be_value_again zero n = omega arith
be_value_again (suc k) n =
    let wider : 256 ^ suc k ≡ 256 * 256 ^ k = pow-suc 256 k ∙ mul_comm (256 ^ k) 256 in
    rw (length_high k n, be_value_again k n, byte_is k n, wider, mod-mul n {m = 256} {c = 256 ^ k} (omega arith) (pow_some k)) refl

pub is_be_value_16 : (bs : List ℕ) → length bs ≡ 16 → from_be_bytes w128 bs ≡ be_value bs
is_be_value_16 (a ∷ b ∷ c ∷ d ∷ e ∷ f ∷ g ∷ h ∷ i ∷ j ∷ k ∷ l ∷ m ∷ n ∷ o ∷ p ∷ []) len = omega arith
is_be_value_16 bs len = absurd (omega arith)
