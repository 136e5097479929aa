-- Reading a byte format from left to right: a field is its value and the bytes after it, or the first refusal with its
-- place. Numbers are big-endian, as in every format of the project (network byte order: RFC 791, appendix B).
use Rattle.std.specs.Prelude.{◌≡◌, ℕ, List, [], length, take, drop, Result, Ok, Err, Option, Some, None, Bool, true, false, nat_lt, if◌then◌else◌}
use Rattle.std.specs.Int.{Width, byte_len, from_be_bytes, to_be_bytes}
use Rattle.mmt_base.specs.declared.refused.Refused.{Refused}

-- a refusal: the place of the check that failed, and what is wrong there (this project's rule)
abbrev pub refuse : {W A : Type 0} → ℕ → W → Result A (Refused W)
refuse at why = Err (record { at = at; why = why })

-- the next step of a reading, where the step before it was not refused
infixl 10 ◌>>=◌
abbrev pub ◌>>=◌ : {E A B : Type 0} → Result A E → (A → Result B E) → Result B E
(Ok x) >>= f = f x
(Err e) >>= f = Err e

-- the big-endian number of the width at the front and the bytes after it, or a refusal at its first byte where it does not fit
unfoldable pub number_at : {W : Type 0} → Width → List ℕ → ℕ → W → Result (ℕ × List ℕ) (Refused W)
number_at w bytes at short = if nat_lt (length bytes) (byte_len w) then refuse at short else Ok (from_be_bytes w (take (byte_len w) bytes), drop (byte_len w) bytes)

-- so many bytes at the front and the bytes after them, or a refusal at the first of them where they do not fit
unfoldable pub bytes_at : {W : Type 0} → ℕ → List ℕ → ℕ → W → Result (List ℕ × List ℕ) (Refused W)
bytes_at count bytes at short = if nat_lt (length bytes) count then refuse at short else Ok (take count bytes, drop count bytes)

-- a test that must hold, or a refusal at the place
abbrev pub check : {W : Type 0} → Bool → ℕ → W → Result (Unit {0}) (Refused W)
check true at why = Ok tt
check false at why = refuse at why

-- a field that is there exactly where the flag is set
abbrev pub optional_at : {W A : Type 0} → Bool → (List ℕ → Result (A × List ℕ) (Refused W)) → List ℕ → Result (Option A × List ℕ) (Refused W)
optional_at false read bytes = Ok (None, bytes)
optional_at true read bytes = read bytes >>= λ x. Ok (Some x.0, x.1)

-- what a function returned, its value seen by view, is what a reading gives
abbrev pub Gives : {X Y E : Type 0} → (X → Y) → Result X E → Result Y E → Type 0
Gives view (Ok x) read = read ≡ Ok (view x)
Gives view (Err e) read = read ≡ Err e

-- a number as the big-endian bytes of its width
unfoldable pub big_endian : Width → ℕ → List ℕ
big_endian w n = to_be_bytes w n

-- the bytes of a field that may be missing: none where it is
abbrev pub optional : {A : Type 0} → (A → List ℕ) → Option A → List ℕ
optional spell None = []
optional spell (Some x) = spell x
