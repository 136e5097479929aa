-- The kinds of fields, each with its two laws: numbers, runs of bytes, and fields that a flag makes optional.
use Rattle.std.proofs.Common.{◌≡◌, ℕ, zero, suc, ◌+◌, ◌*◌, ◌%◌, ◌^◌, ◌<◌, ◌≤◌, Bool, true, false, cond, ltb, List, [], ◌∷◌, ◌++◌, length, take, drop, Option, Some, None, Result, Ok, Err, refl, sym, ap, subst, ◌∙◌, arith}
use Rattle.std.specs.Prelude.{IfSome}
use Rattle.std.specs.Option.{is_some}
use Rattle.std.specs.Int.{Width, w8, w16, w32, w64, w128, byte_len, from_be_bytes, to_be_bytes, bytes_high_first}
use Rattle.std.proofs.lemmas.Bool.{ltb-false, le-ltb}
use Rattle.std.proofs.lemmas.List.{take_at, drop_at, take-append-drop, length-append, length-take, length-drop}
use Rattle.std.proofs.lemmas.Nat.{be_bytes_2, be_bytes_4, be_bytes_8, from_be_bytes-to_be_bytes_2, from_be_bytes-to_be_bytes_4, from_be_bytes-to_be_bytes_8}
use Rattle.mmt_base.specs.declared.refused.Refused.{Refused}
use Rattle.mmt_fields.specs.Reading.{number_at, bytes_at, optional_at, optional, big_endian}
use Rattle.mmt_fields.proofs.Codec.{IsBytes, IsBytes-take, bind_ok, ok_is, Field}
use Rattle.mmt_fields.proofs.Wide.{be_value, be_value_below, bytes_back, be_value_again, length_high, is_be_value_16, byte_is}

-- a test that did not fail
pub guard_ok : {E A : Type 0} (b : Bool) (d : E) (x y : A) → cond b (Err d) (Ok x) ≡ Ok y → (b ≡ false) × (x ≡ y)
guard_ok true d x y e = absurd cc
guard_ok false d x y e = (refl, cc)

-- numbers below the limit and the bytes of the width stand for one another
pub record IsWide (w : Width) (limit : ℕ) : Type 0 where
  pub len : (n : ℕ) → length (to_be_bytes w n) ≡ byte_len w
  pub back : (bytes : List ℕ) → length bytes ≡ byte_len w → IsBytes bytes → to_be_bytes w (from_be_bytes w bytes) ≡ bytes
  pub again : (n : ℕ) → n < limit → from_be_bytes w (to_be_bytes w n) ≡ n
  pub below : (bytes : List ℕ) → length bytes ≡ byte_len w → IsBytes bytes → from_be_bytes w bytes < limit

one_byte : (bytes : List ℕ) → length bytes ≡ 1 → IsBytes bytes → to_be_bytes w8 (from_be_bytes w8 bytes) ≡ bytes
one_byte (a ∷ []) len are = let lt = are 0 in let e : a % 256 ≡ a = omega arith in ap (λ (x : ℕ). x ∷ []) e
one_byte bytes len are = absurd (omega arith)

pub wide8 : IsWide w8 (2 ^ 8)
wide8 = record { len = λ n. refl; back = one_byte; again = λ n lt. omega arith; below = λ bytes len are. are 0 }

pub wide16 : IsWide w16 (2 ^ 16)
wide16 = record {
  len = λ n. refl;
  back = λ bytes len are. be_bytes_2 bytes _ len are refl;
  again = λ n lt. from_be_bytes-to_be_bytes_2 n lt;
  below = λ bytes len are. omega (arith, are 0, are 1);
}

pub wide32 : IsWide w32 (2 ^ 32)
wide32 = record {
  len = λ n. refl;
  back = λ bytes len are. be_bytes_4 bytes _ len are refl;
  again = λ n lt. from_be_bytes-to_be_bytes_4 n lt;
  below = λ bytes len are. omega (arith, are 0, are 1, are 2, are 3);
}

pub wide64 : IsWide w64 (2 ^ 64)
wide64 = record {
  len = λ n. refl;
  back = λ bytes len are. be_bytes_8 bytes _ len are refl;
  again = λ n lt. from_be_bytes-to_be_bytes_8 n lt;
  below = λ bytes len are. omega (arith, are 0, are 1, are 2, are 3, are 4, are 5, are 6, are 7);
}

back16 : (bytes : List ℕ) → length bytes ≡ 16 → IsBytes bytes → to_be_bytes w128 (from_be_bytes w128 bytes) ≡ bytes
back16 bytes len are =
    let from_zero : bytes_high_first (length bytes) (0 * 256 ^ length bytes + be_value bytes) ≡ bytes = bytes_back bytes 0 are in
    let same : 0 * 256 ^ length bytes + be_value bytes ≡ be_value bytes = omega arith in
    let at : bytes_high_first (length bytes) (be_value bytes) ≡ bytes = rw same at from_zero in
    rw (is_be_value_16 bytes len) (subst (λ (k : ℕ). bytes_high_first k (be_value bytes) ≡ bytes) len at)

pub wide128 : IsWide w128 (2 ^ 128)
wide128 = record {
  len = λ n. refl;
  back = back16;
  again = λ n lt. is_be_value_16 (to_be_bytes w128 n) refl ∙ be_value_again 16 n ∙ omega arith;
  below = λ bytes len are. rw (is_be_value_16 bytes len) (subst (λ (k : ℕ). be_value bytes < 256 ^ k) len (be_value_below bytes are));
}

-- a big-endian number is a field
pub number_field : {W : Type 0} (w : Width) (limit : ℕ) → IsWide w limit → (at : ℕ) (short : W) → Field (λ bytes. number_at w bytes at short) (big_endian w) (λ n. n < limit)
unfolding number_at big_endian
number_field w limit wide at short = record {
  takes = λ bytes x rest are e.
      let g = guard_ok (ltb (length bytes) (byte_len w)) (record { at = at; why = short }) (from_be_bytes w (take (byte_len w) bytes), drop (byte_len w) bytes) (x, rest) e in
      let long : byte_len w ≤ length bytes = ltb-false _ _ g.0 in
      let x-is : from_be_bytes w (take (byte_len w) bytes) ≡ x = ap (λ (p : ℕ × List ℕ). p.0) g.1 in
      let rest-is : drop (byte_len w) bytes ≡ rest = ap (λ (p : ℕ × List ℕ). p.1) g.1 in
      let len : length (take (byte_len w) bytes) ≡ byte_len w = omega (arith, length-take (byte_len w) bytes) in
      let front_are = IsBytes-take (byte_len w) bytes are in
      let front : to_be_bytes w x ≡ take (byte_len w) bytes = rw (← x-is) (wide.back (take (byte_len w) bytes) len front_are) in
      (rw (front, ← rest-is) (sym (take-append-drop (byte_len w) bytes)), rw (← x-is) (wide.below (take (byte_len w) bytes) len front_are));
  again = λ x rest lt.
      let len = wide.len x in
      let long : ltb (length (to_be_bytes w x ++ rest)) (byte_len w) ≡ false = le-ltb _ _ (omega (arith, length-append (to_be_bytes w x) rest)) in
      rw (long, take_at (to_be_bytes w x) rest (byte_len w) len, drop_at (to_be_bytes w x) rest (byte_len w) len, wide.again x lt) refl;
}

pub u8_field : {W : Type 0} (at : ℕ) (short : W) → Field (λ bytes. number_at w8 bytes at short) (big_endian w8) (λ n. n < 2 ^ 8)
u8_field at short = number_field w8 (2 ^ 8) wide8 at short

pub u16_field : {W : Type 0} (at : ℕ) (short : W) → Field (λ bytes. number_at w16 bytes at short) (big_endian w16) (λ n. n < 2 ^ 16)
u16_field at short = number_field w16 (2 ^ 16) wide16 at short

pub u32_field : {W : Type 0} (at : ℕ) (short : W) → Field (λ bytes. number_at w32 bytes at short) (big_endian w32) (λ n. n < 2 ^ 32)
u32_field at short = number_field w32 (2 ^ 32) wide32 at short

pub u64_field : {W : Type 0} (at : ℕ) (short : W) → Field (λ bytes. number_at w64 bytes at short) (big_endian w64) (λ n. n < 2 ^ 64)
u64_field at short = number_field w64 (2 ^ 64) wide64 at short

pub u128_field : {W : Type 0} (at : ℕ) (short : W) → Field (λ bytes. number_at w128 bytes at short) (big_endian w128) (λ n. n < 2 ^ 128)
u128_field at short = number_field w128 (2 ^ 128) wide128 at short

-- how long a number is
pub length_big_endian : (w : Width) (n : ℕ) → length (big_endian w n) ≡ byte_len w
unfolding big_endian
length_big_endian w n = length_high (byte_len w) n

-- bytes are spelled as they are
abbrev pub itself : List ℕ → List ℕ
itself bytes = bytes

-- a run of bytes whose length is known is a field
pub bytes_field : {W : Type 0} (count : ℕ) (at : ℕ) (short : W) → Field (λ bytes. bytes_at count bytes at short) itself (λ x. length x ≡ count)
unfolding bytes_at
bytes_field count at short = record {
  takes = λ bytes x rest are e.
      let g = guard_ok (ltb (length bytes) count) (record { at = at; why = short }) (take count bytes, drop count bytes) (x, rest) e in
      let long : count ≤ length bytes = ltb-false _ _ g.0 in
      let len : length (take count bytes) ≡ count = omega (arith, length-take count bytes) in
      subst (λ (p : List ℕ × List ℕ). (bytes ≡ p.0 ++ p.1) × (length p.0 ≡ count)) g.1 (sym (take-append-drop count bytes), len);
  again = λ x rest len.
      let long : ltb (length (x ++ rest)) count ≡ false = le-ltb _ _ (omega (arith, length-append x rest)) in
      rw (long, take_at x rest count len, drop_at x rest count len) refl;
}

some_none : {A : Type 0} (x : A) → is_some (Some x) ≡ false → ⊥
some_none x e = cc

none_some : (A : Type 0) → is_some {T = A} None ≡ true → ⊥
none_some A e = cc

-- a field that is there exactly where the flag is set is a field
pub optional_field : {A W : Type 0} {r : List ℕ → Result (A × List ℕ) (Refused W)} {s : A → List ℕ} {F : A → Type 0} (flag : Bool) → Field r s F → Field (optional_at flag r) (optional s) (λ o. (is_some o ≡ flag) × IfSome o F)
optional_field {A} {W} {r} {s} {F} false here = record {
  takes = λ bytes x rest are e. subst (λ (p : Option A × List ℕ). (bytes ≡ optional s p.0 ++ p.1) × ((is_some p.0 ≡ false) × IfSome p.0 F)) (ok_is (None, bytes) (x, rest) e) (refl, (refl, tt));
  again = λ x rest fits. elim x as (λ o. (is_some o ≡ false) × IfSome o F → optional_at false r (optional s o ++ rest) ≡ Ok (o, rest)) [ None ↦ λ _. refl | Some y ↦ λ f. absurd (some_none y f.0) ] fits;
}
optional_field {A} {W} {r} {s} {F} true here = record {
  takes = λ bytes x rest are e.
      let b = bind_ok (r bytes) (λ x. Ok (Some x.0, x.1)) (x, rest) e in
      let h = here.takes bytes b.0.0 b.0.1 are b.1 in
      subst (λ (p : Option A × List ℕ). (bytes ≡ optional s p.0 ++ p.1) × ((is_some p.0 ≡ true) × IfSome p.0 F)) (ok_is (Some b.0.0, b.0.1) (x, rest) b.2) (h.0, (refl, h.1));
  again = λ x rest fits. elim x as (λ o. (is_some o ≡ true) × IfSome o F → optional_at true r (optional s o ++ rest) ≡ Ok (o, rest)) [ None ↦ λ f. absurd (none_some A f.0) | Some y ↦ λ f. rw (here.again y rest f.1) refl ] fits;
}

-- joined bytes are bytes
pub IsBytes-append : (front rest : List ℕ) → IsBytes front → IsBytes rest → IsBytes (front ++ rest)
IsBytes-append [] rest f r i = r i
IsBytes-append (b ∷ front) rest f r zero = f zero
IsBytes-append (b ∷ front) rest f r (suc i) = IsBytes-append front rest (λ j. f (suc j)) r i

high_is_bytes : (k n : ℕ) → IsBytes (bytes_high_first k n)
high_is_bytes zero n i = omega arith
high_is_bytes (suc k) n zero = rw (byte_is k n) (omega arith)
high_is_bytes (suc k) n (suc i) = high_is_bytes k n i

pub IsBytes-big_endian : (w : Width) (n : ℕ) → IsBytes (big_endian w n)
unfolding big_endian
IsBytes-big_endian w n = high_is_bytes (byte_len w) n

-- ---- how many bytes a field leaves

pub number_leaves : {W : Type 0} (w : Width) (bytes : List ℕ) (at : ℕ) (short : W) (x : ℕ × List ℕ) → number_at w bytes at short ≡ Ok x → length x.1 + byte_len w ≡ length bytes
unfolding number_at
number_leaves w bytes at short x e =
    let g = guard_ok (ltb (length bytes) (byte_len w)) (record { at = at; why = short }) (from_be_bytes w (take (byte_len w) bytes), drop (byte_len w) bytes) x e in
    let long : byte_len w ≤ length bytes = ltb-false _ _ g.0 in
    let is : length (drop (byte_len w) bytes) ≡ length x.1 = ap (λ (p : ℕ × List ℕ). length p.1) g.1 in
    omega (arith, length-drop (byte_len w) bytes)

pub bytes_leave : {W : Type 0} (count : ℕ) (bytes : List ℕ) (at : ℕ) (short : W) (x : List ℕ × List ℕ) → bytes_at count bytes at short ≡ Ok x → length x.1 + count ≡ length bytes
unfolding bytes_at
bytes_leave count bytes at short x e =
    let g = guard_ok (ltb (length bytes) count) (record { at = at; why = short }) (take count bytes, drop count bytes) x e in
    let long : count ≤ length bytes = ltb-false _ _ g.0 in
    let is : length (drop count bytes) ≡ length x.1 = ap (λ (p : List ℕ × List ℕ). length p.1) g.1 in
    omega (arith, length-drop count bytes)
