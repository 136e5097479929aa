-- The sum of words without carries, and what it says of the one's complement sum (RFC 1071, section 2).
use Rattle.std.proofs.Common.{◌≡◌, ℕ, zero, suc, ◌+◌, ◌-◌, ◌*◌, ◌/◌, ◌%◌, ◌^◌, ◌<◌, ◌≤◌, List, [], ◌∷◌, ◌++◌, length, take, drop, refl, sym, ap, ◌∙◌, arith}
use Rattle.std.proofs.lemmas.Bool.Decides.{nat_tests}
use Rattle.std.specs.Int.{Width, w16, w32, w128, byte_len, from_le_bytes}
use Rattle.std.proofs.lemmas.List.{take-append-drop, length-take}
use Rattle.mmt_fields.specs.Reading.{big_endian}
use Rattle.mmt_fields.proofs.Codec.{IsBytes}
use Rattle.mmt_fields.proofs.Numbers.{IsBytes-append, IsBytes-big_endian, length_big_endian}
use Rattle.mmt_ip.specs.declared.packet.Ip6Header.{Ip6Header}
use Rattle.mmt_ip.specs.Spelling.{covered, checksum, udp_length}
use Rattle.mmt_ip.specs.Sum.{ones_add, ones_sum, written, word_sum}

-- a number with its carries brought back: 0, or a number from 1 to 65535
abbrev pub folded : ℕ → ℕ
folded zero = 0
folded (suc n) = 1 + n % 65535

fold_on : (w n : ℕ) → w < 65536 → ones_add w (folded n) ≡ folded (w + n)
fold_on zero zero lt = refl
fold_on zero (suc n) lt = grind (arith, nat_tests)
fold_on (suc w) zero lt = grind (arith, nat_tests)
fold_on (suc w) (suc n) lt = grind (arith, nat_tests)

folded_small : (n : ℕ) → n < 65536 → folded n ≡ n
folded_small zero lt = refl
folded_small (suc n) lt = omega arith

tail2 : (a b : ℕ) (bytes : List ℕ) → IsBytes (a ∷ b ∷ bytes) → IsBytes bytes
tail2 a b bytes h i = h (suc (suc i))

-- the one's complement sum is the plain sum with its carries brought back
pub ones_is : (bytes : List ℕ) → IsBytes bytes → ones_sum bytes ≡ folded (word_sum bytes)
ones_is [] are = refl
ones_is (a ∷ []) are = let lt = are 0 in sym (folded_small (a * 256) (omega arith))
ones_is (a ∷ b ∷ bytes) are =
    let lt = are 0 in
    let lt2 = are 1 in
    rw (ones_is bytes (tail2 a b bytes are)) (fold_on (a * 256 + b) (word_sum bytes) (omega arith))

-- the complement by a remainder
complement : (n : ℕ) → 0 < n → written (65535 - folded n) ≡ 65535 - n % 65535
complement zero lt = absurd (omega arith)
complement (suc n) lt = of_rest (65535 - (1 + n % 65535)) refl
  where
    of_rest : (m : ℕ) → 65535 - (1 + n % 65535) ≡ m → written m ≡ 65535 - suc n % 65535
    of_rest zero e = omega arith
    of_rest (suc m) e = omega arith

-- a word is at most 65535, and each has a byte or more
pub sum_below : (bytes : List ℕ) → IsBytes bytes → word_sum bytes ≤ 65535 * length bytes
sum_below [] are = omega arith
sum_below (a ∷ []) are = let lt = are 0 in omega arith
sum_below (a ∷ b ∷ bytes) are = let lt = are 0 in let lt2 = are 1 in omega (arith, sum_below bytes (tail2 a b bytes are))

-- words of an even number of bytes and of what follows
even_words : (front rest : List ℕ) → length front % 2 ≡ 0 → word_sum (front ++ rest) ≡ word_sum front + word_sum rest
even_words [] rest even = omega arith
even_words (a ∷ []) rest even = absurd (omega arith)
even_words (a ∷ b ∷ front) rest even = omega (arith, even_words front rest (omega arith))

part : (w : Width) (n : ℕ) (rest : List ℕ) → byte_len w % 2 ≡ 0 → word_sum (big_endian w n ++ rest) ≡ word_sum (big_endian w n) + word_sum rest
part w n rest even = even_words (big_endian w n) rest (rw (length_big_endian w n) even)

word_2 : (n : ℕ) → n < 2 ^ 16 → word_sum (big_endian w16 n) ≡ n
unfolding big_endian
word_2 n lt = omega arith

word_4 : (n : ℕ) → n < 2 ^ 16 → word_sum (big_endian w32 n) ≡ n
unfolding big_endian
word_4 n lt = omega arith

covered_are : (h : Ip6Header) (payload : List ℕ) → IsBytes payload → IsBytes (covered h payload)
unfolding covered
covered_are h payload are =
    IsBytes-append _ _ (IsBytes-big_endian w128 h.source) (IsBytes-append _ _ (IsBytes-big_endian w128 h.destination) (IsBytes-append _ _ (IsBytes-big_endian w32 (udp_length payload)) (IsBytes-append _ _ (IsBytes-big_endian w32 17)
    (IsBytes-append _ _ (IsBytes-big_endian w16 h.source_port) (IsBytes-append _ _ (IsBytes-big_endian w16 h.destination_port) (IsBytes-append _ _ (IsBytes-big_endian w16 (udp_length payload)) (IsBytes-append _ _ (IsBytes-big_endian w16 0) are)))))))

-- the plain sum of what the checksum is taken over
abbrev pub total_of : Ip6Header → List ℕ → ℕ
total_of h payload = word_sum (big_endian w128 h.source) + (word_sum (big_endian w128 h.destination) + (udp_length payload + (17 + (h.source_port + (h.destination_port + (udp_length payload + word_sum payload))))))

covered_total : (h : Ip6Header) (payload : List ℕ) → udp_length payload < 2 ^ 16 → h.source_port < 2 ^ 16 → h.destination_port < 2 ^ 16 → word_sum (covered h payload) ≡ total_of h payload
unfolding covered
covered_total h payload len sp dp =
    rw (
      part w128 h.source _ refl,
      part w128 h.destination _ refl,
      part w32 (udp_length payload) _ refl,
      part w32 17 _ refl,
      part w16 h.source_port _ refl,
      part w16 h.destination_port _ refl,
      part w16 (udp_length payload) _ refl,
      part w16 0 _ refl,
      word_4 (udp_length payload) len,
      word_4 17 (omega arith),
      word_2 h.source_port sp,
      word_2 h.destination_port dp,
      word_2 (udp_length payload) len,
      word_2 0 (omega arith),
    ) (omega arith)

-- the checksum is what is left of 65535 by that sum's remainder
pub checksum_is : (h : Ip6Header) (payload : List ℕ) → IsBytes payload → udp_length payload < 2 ^ 16 → h.source_port < 2 ^ 16 → h.destination_port < 2 ^ 16 → checksum h payload ≡ 65535 - total_of h payload % 65535
unfolding checksum
checksum_is h payload are len sp dp =
    let total = covered_total h payload len sp dp in
    rw (ones_is (covered h payload) (covered_are h payload are), total) (complement (total_of h payload) (omega arith))

-- what the program adds is the sum of the words modulo 65535
pub total_is : (h : Ip6Header) (payload : List ℕ) (a b p : ℕ) → 256 * a % 65535 ≡ word_sum (big_endian w128 h.source) % 65535 → 256 * b % 65535 ≡ word_sum (big_endian w128 h.destination) % 65535 → 256 * p % 65535 ≡ word_sum payload % 65535
    → (256 * ((a + b + p) % 65535) + (8 + length payload) + 17 + (h.source_port + h.destination_port) + (8 + length payload)) % 65535 ≡ total_of h payload % 65535
total_is h payload a b p ea eb ep = omega arith

-- sixteen bytes as one number, the lowest first, are 256 times their words modulo 65535 (RFC 1071, section 2, byte order independence)
sixteen_is : (front : List ℕ) → length front ≡ 16 → (k : ℕ) × (256 * from_le_bytes w128 front ≡ word_sum front + 65535 * k)
sixteen_is (a ∷ b ∷ c ∷ d ∷ e ∷ f ∷ g ∷ h ∷ i ∷ j ∷ k ∷ l ∷ m ∷ n ∷ o ∷ p ∷ []) len = (b * 1 + c * 256 + d * 65537 + e * 16777472 + f * 4295032833 + g * 1099528405248 + h * 281479271743489 + i * 72058693566333184 + j * 18447025552981295105 + k * 4722438541563211546880 + l * 1208944266640182156001281 + m * 309489732259886631936327936 + n * 79229371458530977775699951617 + o * 20282719093383930310579187613952 + p * 5192376087906286159508272029171713, omega arith)
sixteen_is front len = absurd (omega arith)

-- the same for the next sixteen bytes of a sum, whose two halves are added
pub next_sixteen : (total : ℕ) (rest front after : List ℕ) → front ≡ take 16 rest → after ≡ drop 16 rest → 16 ≤ length rest
    → (256 * (total + (from_le_bytes w128 front / 2 ^ 64 + from_le_bytes w128 front % 2 ^ 64)) + word_sum after) % 65535 ≡ (256 * total + word_sum rest) % 65535
next_sixteen total rest front after front-is after-is long =
    let len : length front ≡ 16 = ap length front-is ∙ omega (arith, length-take 16 rest) in
    let joined : front ++ after ≡ rest = rw (front-is, after-is) (take-append-drop 16 rest) in
    let words : word_sum rest ≡ word_sum front + word_sum after = ap word_sum (sym joined) ∙ even_words front after (rw len refl) in
    let e = sixteen_is front len in
    of_k total (from_le_bytes w128 front) (word_sum front) (word_sum after) (word_sum rest) e.0 e.1 words
  where
    of_k : (total x front after rest k : ℕ) → 256 * x ≡ front + 65535 * k → rest ≡ front + after → (256 * (total + (x / 2 ^ 64 + x % 2 ^ 64)) + after) % 65535 ≡ (256 * total + rest) % 65535
    of_k total x front after rest k e w = omega arith
