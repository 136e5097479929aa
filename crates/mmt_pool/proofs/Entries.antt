-- The entries of the map, as kept packets in their order.
use Rattle.std.proofs.Common.{◌≡◌, ℕ, ◌+◌, ◌*◌, ◌/◌, ◌%◌, ◌^◌, ◌<◌, ◌≤◌, ◌⊎◌, inl, inr, Bool, true, false, ◌&&◌, ◌||◌, ◌==◌, nat_lt, cond, List, [], ◌∷◌, map, arith, refl, ap, ap₂, Option, Some, None, option_map, is_some, ⊎_elim, sym, ◌∙◌, max, length}
use Rattle.std.specs.List.{list_any}
use Rattle.std.specs.Map.{lookup, remove_entry}
use Rattle.std.specs.BTreeMap.{insert_entry}
use Rattle.std.specs.Ordering.{is_eq, nat_cmp, match_ordering}
use Rattle.std.specs.declared.cmp.Ordering.{Ordering}
use Rattle.std.specs.declared.cmp.Ordering.TheVariants.{Less, Equal, Greater}
use Rattle.std.proofs.lemmas.Bool.Decides.{nat_tests}
use Rattle.std.proofs.lemmas.Bool.{cases_eq, eq-eqb, cases_lt, le-ltb}
use Rattle.mmt_model.specs.Sorted.{insert_by}
use Rattle.mmt_pool.specs.declared.types.Span.{Span}
use Rattle.mmt_pool.specs.declared.pool.Stored.{Stored}
use Rattle.mmt_pool.specs.contracts.types.SpanOrd.TheImpl.{cmp-value}
use Rattle.mmt_pool.specs.Holding.{Kept, held, is_at, is_before, is_in_window, packet_at, without}
use Rattle.mmt_base.specs.Ticks.{is_after, plus}
use Rattle.mmt_pool.specs.Stored.{key_of, entry_of, holding_of}
use Rattle.mmt_pool.specs.Doing.{with_packet}

abbrev pub order : Span → Span → Ordering
order s t = cmp-value.it s t

-- how two spans stand
pub data Stands (s t : Span) : Type 0 where
  Here : order s t ≡ Equal → s ≡ t → Stands s t
  Before : order s t ≡ Less → (nat_lt t.packet_id s.packet_id || ((t.packet_id == s.packet_id) && nat_lt t.number s.number)) ≡ false → ((t.packet_id == s.packet_id) && (t.number == s.number)) ≡ false → Stands s t
  After : order s t ≡ Greater → (nat_lt t.packet_id s.packet_id || ((t.packet_id == s.packet_id) && nat_lt t.number s.number)) ≡ true → ((t.packet_id == s.packet_id) && (t.number == s.number)) ≡ false → Stands s t

pub same_span : (s t : Span) → s.packet_id ≡ t.packet_id → s.number ≡ t.number → s ≡ t
same_span s t e f = let span = λ (a b : ℕ). (let x : Span = record { packet_id = a; number = b } in x) in ap₂ span e f

pub stands : (s t : Span) → Stands s t
stands s t =
    ⊎_elim
    (λ (e : s.packet_id ≡ t.packet_id).
    ⊎_elim
    (λ (f : s.number ≡ t.number). Here (rw (e, f) (rw (le-ltb t.packet_id t.packet_id (omega arith), eq-eqb t.packet_id t.packet_id refl, le-ltb t.number t.number (omega arith), eq-eqb t.number t.number refl) refl)) (same_span s t e f))
    (λ (n : s.number ≡ t.number → ⊥).
    ⊎_elim
    (λ (lt : s.number < t.number). Before (grind (arith, nat_tests)) (grind (arith, nat_tests)) (grind (arith, nat_tests)))
    (λ (ge : t.number ≤ s.number). After (grind (arith, nat_tests)) (grind (arith, nat_tests)) (grind (arith, nat_tests)))
    (cases_lt s.number t.number))
    (cases_eq s.number t.number))
    (λ (n : s.packet_id ≡ t.packet_id → ⊥).
    ⊎_elim
    (λ (lt : s.packet_id < t.packet_id). Before (grind (arith, nat_tests)) (grind (arith, nat_tests)) (grind (arith, nat_tests)))
    (λ (ge : t.packet_id ≤ s.packet_id). After (grind (arith, nat_tests)) (grind (arith, nat_tests)) (grind (arith, nat_tests)))
    (cases_lt s.packet_id t.packet_id))
    (cases_eq s.packet_id t.packet_id)

pub same_order : (s : Span) → is_eq (order s s) ≡ true
same_order s = grind (arith, nat_tests)

-- how the key of a span and a key of the map stand
pub data Compares (s : Span) (k : ℕ) : Type 0 where
  Same : nat_cmp (key_of s) k ≡ Equal → key_of s ≡ k → ((k / 2 ^ 32 == s.packet_id) && (k % 2 ^ 32 == s.number)) ≡ true → Compares s k
  Lower : nat_cmp (key_of s) k ≡ Less → (nat_lt (k / 2 ^ 32) s.packet_id || ((k / 2 ^ 32 == s.packet_id) && nat_lt (k % 2 ^ 32) s.number)) ≡ false → ((k / 2 ^ 32 == s.packet_id) && (k % 2 ^ 32 == s.number)) ≡ false → Compares s k
  Higher : nat_cmp (key_of s) k ≡ Greater → (nat_lt (k / 2 ^ 32) s.packet_id || ((k / 2 ^ 32 == s.packet_id) && nat_lt (k % 2 ^ 32) s.number)) ≡ true → ((k / 2 ^ 32 == s.packet_id) && (k % 2 ^ 32 == s.number)) ≡ false → Compares s k

-- the parts of a key
pub id_of_key : (s : Span) → s.number < 2 ^ 32 → key_of s / 2 ^ 32 ≡ s.packet_id
id_of_key s b = omega (arith, b)

pub number_of_key : (s : Span) → s.number < 2 ^ 32 → key_of s % 2 ^ 32 ≡ s.number
number_of_key s b = omega (arith, b)

pub whole_key : (k : ℕ) → k / 2 ^ 32 * 2 ^ 32 + k % 2 ^ 32 ≡ k
whole_key k = omega arith

-- no two spans have one key
pub same_key : (s t : Span) → s.number < 2 ^ 32 → t.number < 2 ^ 32 → key_of s ≡ key_of t → s ≡ t
same_key s t a b e = let i : s.packet_id ≡ t.packet_id = omega (arith, a, b, e) in let n : s.number ≡ t.number = omega (arith, a, b, e) in same_span s t i n

at_same : (a m b n : ℕ) → a ≡ b → m ≡ n → ((a == b) && (m == n)) ≡ true
at_same a m b n e f = grind (arith, nat_tests)

at_other : (a m b n : ℕ) → (b * 2 ^ 32 + n ≡ a * 2 ^ 32 + m → ⊥) → ((a == b) && (m == n)) ≡ false
at_other a m b n d = ⊎_elim (λ (e : a ≡ b). ⊎_elim (λ (f : m ≡ n). absurd (d (omega (arith, e, f)))) (λ (f : m ≡ n → ⊥). grind (arith, nat_tests)) (cases_eq m n)) (λ (e : a ≡ b → ⊥). grind (arith, nat_tests)) (cases_eq a b)

not_before : (a m b n : ℕ) → m < 2 ^ 32 → n < 2 ^ 32 → b * 2 ^ 32 + n < a * 2 ^ 32 + m → (nat_lt a b || ((a == b) && nat_lt m n)) ≡ false
not_before a m b n u v l = let i : b ≤ a = omega (arith, u, v, l) in let j : b < a ⊎ n ≤ m = ⊎_elim (λ (h : b < a). inl h) (λ (h : a ≤ b). inr (omega (arith, l, i, h))) (cases_lt b a) in grind (arith, nat_tests)

is_first : (a m b n : ℕ) → m < 2 ^ 32 → n < 2 ^ 32 → a * 2 ^ 32 + m < b * 2 ^ 32 + n → (nat_lt a b || ((a == b) && nat_lt m n)) ≡ true
is_first a m b n u v l = let i : a ≤ b = omega (arith, u, v, l) in let j : a < b ⊎ m < n = ⊎_elim (λ (h : a < b). inl h) (λ (h : b ≤ a). inr (omega (arith, l, i, h))) (cases_lt a b) in grind (arith, nat_tests)

-- the keys stand as packet id and then number do
pub compares : (s : Span) (k : ℕ) → s.number < 2 ^ 32 → Compares s k
compares s k b =
    ⊎_elim
    (λ (e : key_of s ≡ k). Same (grind (arith, nat_tests)) e (at_same (k / 2 ^ 32) (k % 2 ^ 32) s.packet_id s.number (omega (arith, b, e)) (omega (arith, b, e))))
    (λ (n : key_of s ≡ k → ⊥).
    let other : ((k / 2 ^ 32 == s.packet_id) && (k % 2 ^ 32 == s.number)) ≡ false = at_other (k / 2 ^ 32) (k % 2 ^ 32) s.packet_id s.number (λ e. n (e ∙ whole_key k)) in
    ⊎_elim
    (λ (lt : key_of s < k). Lower (grind (arith, nat_tests)) (not_before (k / 2 ^ 32) (k % 2 ^ 32) s.packet_id s.number (omega arith) b (omega (arith, lt))) other)
    (λ (ge : k ≤ key_of s). let gt : k < key_of s = omega (arith, ge, n) in Higher (grind (arith, nat_tests)) (is_first (k / 2 ^ 32) (k % 2 ^ 32) s.packet_id s.number (omega arith) b (omega (arith, gt))) other)
    (cases_lt (key_of s) k))
    (cases_eq (key_of s) k)

pub same_place : (k : ℕ) → is_eq (nat_cmp k k) ≡ true
same_place k = grind (arith, nat_tests)

pub packet_at-entries : (s : Span) (es : List (ℕ × Stored)) → s.number < 2 ^ 32 → packet_at (map entry_of es) s.packet_id s.number ≡ option_map (λ v. entry_of (key_of s, v)) (lookup (λ k. is_eq (nat_cmp (key_of s) k)) es)
unfolding is_at
packet_at-entries s [] w = refl
packet_at-entries s (e ∷ es) w = go (compares s e.0 w) (packet_at-entries s es w)
  where
    go : Compares s e.0 → (packet_at (map entry_of es) s.packet_id s.number ≡ option_map (λ v. entry_of (key_of s, v)) (lookup (λ k. is_eq (nat_cmp (key_of s) k)) es)) → cond ((e.0 / 2 ^ 32 == s.packet_id) && (e.0 % 2 ^ 32 == s.number)) (Some (entry_of e)) (packet_at (map entry_of es) s.packet_id s.number)
        ≡ option_map (λ v. entry_of (key_of s, v)) (cond (is_eq (nat_cmp (key_of s) e.0)) (Some e.1) (lookup (λ k. is_eq (nat_cmp (key_of s) k)) es))
    go (Same o same a) ih = rw (o, a, same) refl
    go (Lower o b a) ih = rw (o, a) ih
    go (Higher o b a) ih = rw (o, a) ih

pub any-entries : (s : Span) (es : List (ℕ × Stored)) → s.number < 2 ^ 32 → list_any (is_at s.packet_id s.number) (map entry_of es) ≡ is_some (lookup (λ k. is_eq (nat_cmp (key_of s) k)) es)
unfolding is_at
any-entries s [] w = refl
any-entries s (e ∷ es) w = go (compares s e.0 w) (any-entries s es w)
  where
    go : Compares s e.0 → (list_any (is_at s.packet_id s.number) (map entry_of es) ≡ is_some (lookup (λ k. is_eq (nat_cmp (key_of s) k)) es)) → (((e.0 / 2 ^ 32 == s.packet_id) && (e.0 % 2 ^ 32 == s.number)) || list_any (is_at s.packet_id s.number) (map entry_of es))
        ≡ is_some (cond (is_eq (nat_cmp (key_of s) e.0)) (Some e.1) (lookup (λ k. is_eq (nat_cmp (key_of s) k)) es))
    go (Same o same a) ih = rw (o, a) refl
    go (Lower o b a) ih = rw (o, a) ih
    go (Higher o b a) ih = rw (o, a) ih

pub without-entries : (s : Span) (es : List (ℕ × Stored)) → s.number < 2 ^ 32 → map entry_of (remove_entry (λ k. is_eq (nat_cmp (key_of s) k)) es) ≡ without (map entry_of es) s.packet_id s.number
unfolding is_at
without-entries s [] w = refl
without-entries s (e ∷ es) w = go (compares s e.0 w) (without-entries s es w)
  where
    go : Compares s e.0 → (map entry_of (remove_entry (λ k. is_eq (nat_cmp (key_of s) k)) es) ≡ without (map entry_of es) s.packet_id s.number) → map entry_of (cond (is_eq (nat_cmp (key_of s) e.0)) es (e ∷ remove_entry (λ k. is_eq (nat_cmp (key_of s) k)) es))
        ≡ cond ((e.0 / 2 ^ 32 == s.packet_id) && (e.0 % 2 ^ 32 == s.number)) (map entry_of es) (entry_of e ∷ without (map entry_of es) s.packet_id s.number)
    go (Same o same a) ih = rw (o, a) refl
    go (Lower o b a) ih = rw (o, a) (ap (λ l. entry_of e ∷ l) ih)
    go (Higher o b a) ih = rw (o, a) (ap (λ l. entry_of e ∷ l) ih)

pub insert-entries : (s : Span) (v : Stored) (es : List (ℕ × Stored)) → s.number < 2 ^ 32 → lookup (λ k. is_eq (nat_cmp (key_of s) k)) es ≡ None → map entry_of (insert_entry nat_cmp es (key_of s) v) ≡ insert_by is_before (entry_of (key_of s, v)) (map entry_of es)
unfolding is_before insert_by
insert-entries s v [] w none = refl
insert-entries s v (e ∷ es) w none = go (compares s e.0 w) (insert-entries s v es w) none
  where
    go : Compares s e.0 → ((lookup (λ k. is_eq (nat_cmp (key_of s) k)) es ≡ None → map entry_of (insert_entry nat_cmp es (key_of s) v) ≡ insert_by is_before (entry_of (key_of s, v)) (map entry_of es))) → cond (is_eq (nat_cmp (key_of s) e.0)) (Some e.1) (lookup (λ k. is_eq (nat_cmp (key_of s) k)) es) ≡ None → map entry_of (match_ordering (nat_cmp (key_of s) e.0) ((key_of s, v) ∷ e ∷ es) ((e.0, v) ∷ es) (e ∷ insert_entry nat_cmp es (key_of s) v))
        ≡ cond (nat_lt (e.0 / 2 ^ 32) (key_of s / 2 ^ 32) || ((e.0 / 2 ^ 32 == key_of s / 2 ^ 32) && nat_lt (e.0 % 2 ^ 32) (key_of s % 2 ^ 32))) (entry_of e ∷ insert_by is_before (entry_of (key_of s, v)) (map entry_of es)) (entry_of (key_of s, v) ∷ entry_of e ∷ map entry_of es)
    go (Same o same a) ih n = absurd (cc (rw o at n))
    go (Lower o b a) ih n = rw (o, id_of_key s w, number_of_key s w, b) refl
    go (Higher o b a) ih n = let t : (nat_lt (e.0 / 2 ^ 32) (key_of s / 2 ^ 32) || ((e.0 / 2 ^ 32 == key_of s / 2 ^ 32) && nat_lt (e.0 % 2 ^ 32) (key_of s % 2 ^ 32))) ≡ true = rw (id_of_key s w, number_of_key s w) b in rw (o, t) (ap (λ l. entry_of e ∷ l) (ih (rw o at n)))

-- whether a stored packet is in the window
pub window-entry : (clock window : ℕ) (k : ℕ) (v : Stored) (b : Bool) → is_after (plus v.time.0 window) clock ≡ b → is_in_window clock window (entry_of (k, v)) ≡ b
unfolding is_in_window
window-entry clock window k v b e = e

-- the pool with one more entry is the pool with one more packet
pub holding-insert : (s : Span) (v : Stored) (es new_es : List (ℕ × Stored)) (bound peak total new_peak : ℕ) → s.number < 2 ^ 32 → lookup (λ k. is_eq (nat_cmp (key_of s) k)) es ≡ None → new_es ≡ insert_entry nat_cmp es (key_of s) v
    → total ≡ held (map entry_of es) → new_peak ≡ max peak (total + length v.payload) → holding_of new_es bound new_peak ≡ with_packet (holding_of es bound peak) (entry_of (key_of s, v))
holding-insert s v es new_es bound peak total new_peak w n i t m = rw (i, insert-entries s v es w n, m, t) refl

-- the packet was in the map, under its span
abbrev pub Took : Span → Option Stored → Kept → Type 0
Took s None p = ⊥
Took s (Some v) p = entry_of (key_of s, v) ≡ p

-- what is taken out of the map under a kept packet's span is that packet
pub removed : (s : Span) (es : List (ℕ × Stored)) (r : Option Stored) (p : Kept) → s.number < 2 ^ 32 → packet_at (map entry_of es) s.packet_id s.number ≡ Some p → r ≡ lookup (λ k. is_eq (nat_cmp (key_of s) k)) es → Took s r p
removed s es r p w f v = took s r p (rw (sym v) at (sym (packet_at-entries s es w) ∙ f))
  where
    took : (s : Span) (r : Option Stored) (p : Kept) → option_map (λ v. entry_of (key_of s, v)) r ≡ Some p → Took s r p
    took s None p e = absurd cc
    took s (Some v) p e = cc
