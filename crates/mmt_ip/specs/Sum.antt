-- The one's complement sum of 16-bit words (RFC 768; RFC 1071, section 1).
use Rattle.std.specs.Prelude.{ℕ, zero, suc, ◌+◌, ◌-◌, ◌*◌, List, [], ◌∷◌, nat_lt, if◌then◌else◌}

-- one's complement addition of two words: a carry out of the sixteen bits is added at the low end (RFC 1071, section 1)
abbrev pub ones_add : ℕ → ℕ → ℕ
ones_add a b = if nat_lt (a + b) 65536 then a + b else a + b - 65535

-- the one's complement sum of the words, where a zero byte is added to an odd number of bytes (RFC 768)
abbrev pub ones_sum : List ℕ → ℕ
ones_sum [] = 0
ones_sum (a ∷ []) = a * 256
ones_sum (a ∷ b ∷ bytes) = ones_add (a * 256 + b) (ones_sum bytes)

-- the checksum as it is written: 0 as all ones (RFC 768)
abbrev pub written : ℕ → ℕ
written zero = 65535
written (suc n) = suc n

-- the sum of the words with no carry brought back, from which the one's complement sum follows (RFC 1071, section 2)
abbrev pub word_sum : List ℕ → ℕ
word_sum [] = 0
word_sum (a ∷ []) = a * 256
word_sum (a ∷ b ∷ bytes) = a * 256 + b + word_sum bytes
