-- Where a refusal lies: at most directly behind the last byte that was read.
use Rattle.std.proofs.Common.{ℕ, ◌≤◌, Bool, true, false, cond, ltb, List, length, take, drop, Result, Ok, Err, ◌≡◌, refl}
use Rattle.std.specs.Prelude.{IfErr}
use Rattle.std.specs.Int.{Width, byte_len, from_be_bytes}
use Rattle.mmt_base.specs.declared.refused.Refused.{Refused}
use Rattle.mmt_fields.specs.Reading.{◌>>=◌, number_at, bytes_at, check, refuse}

abbrev pub IsWithin : {A W : Type 0} → ℕ → Result A (Refused W) → Type 0
IsWithin last read = IfErr read (λ e. e.at ≤ last)

guarded : {A W : Type 0} (last at : ℕ) (short : W) (x : A) (b : Bool) → at ≤ last → IsWithin last (cond b (refuse at short) (Ok x))
guarded last at short x true le = le
guarded last at short x false le = tt

pub number_within : {W : Type 0} (last : ℕ) (w : Width) (bytes : List ℕ) (at : ℕ) (short : W) → at ≤ last → IsWithin last (number_at w bytes at short)
unfolding number_at
number_within last w bytes at short le = guarded last at short (from_be_bytes w (take (byte_len w) bytes), drop (byte_len w) bytes) (ltb (length bytes) (byte_len w)) le

pub bytes_within : {W : Type 0} (last count : ℕ) (bytes : List ℕ) (at : ℕ) (short : W) → at ≤ last → IsWithin last (bytes_at count bytes at short)
unfolding bytes_at
bytes_within last count bytes at short le = guarded last at short (take count bytes, drop count bytes) (ltb (length bytes) count) le

pub check_within : {W : Type 0} (last : ℕ) (b : Bool) (at : ℕ) (why : W) → at ≤ last → IsWithin last (check b at why)
check_within last true at why le = tt
check_within last false at why le = le

pub bind_within : {A B W : Type 0} (last : ℕ) (r : Result A (Refused W)) (f : A → Result B (Refused W)) → IsWithin last r → ((x : A) → r ≡ Ok x → IsWithin last (f x)) → IsWithin last (r >>= f)
bind_within last (Ok x) f here later = later x refl
bind_within last (Err e) f here later = here
