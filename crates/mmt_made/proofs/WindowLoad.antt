-- How many payload bytes a window holds: those of packets that come in runs, at most N of which touch it.
use Rattle.std.proofs.Common.{◌≡◌, ℕ, ◌+◌, ◌*◌, ◌<◌, ◌≤◌, ◌&&◌, nat_lt, nat_le, zero, suc, Bool, true, false, ◌⊎◌, inl, inr, cond, List, [], ◌∷◌, ◌++◌, arith, refl, ap, sym, ◌∙◌, ⊎_elim, true≢false}
use Rattle.std.specs.List.{AllByRecursion, filter, flat_map, sum_by}
use Rattle.std.proofs.lemmas.Bool.{and_from, and_left, and_parts, and_right, cases_Bool, cases_lt, leb-true, lt-leb, lt-ltb, le-leb, le-ltb, ltb-true}
use Rattle.std.proofs.lemmas.List.Sums.{sum_by-cons}
use Rattle.std.proofs.Math.Nat.{suc-mul}
use Rattle.mmt_cast.specs.Casting.{count_of_id, is_sent_before, numbered_after, with_number}
use Rattle.mmt_model.specs.Carrying.{numbers}
use Rattle.mmt_model.specs.Sorted.{insert_by, sort_by}
use Rattle.mmt_model.specs.Survival.{load}
use Rattle.mmt_model.specs.declared.casts.Sent.{Sent}

-- a tick is in the window that ends with c
abbrev pub is_within : ℕ → ℕ → Sent → Bool
is_within window c p = nat_le p.at.0 c && nat_lt c (p.at.0 + window)

-- all payload bytes of these packets
abbrev pub total : List Sent → ℕ
total ps = sum_by (λ p. p.length) ps

-- ---- the load of lists

load-cons : (window c : ℕ) (p : Sent) (ps : List Sent) → load (p ∷ ps) window c ≡ cond (is_within window c p) p.length 0 + load ps window c
unfolding load
load-cons window c p ps = go (is_within window c p)
  where
    go : (t : Bool) → sum_by (λ (q : Sent). q.length) (cond t (p ∷ filter (is_within window c) ps) (filter (is_within window c) ps)) ≡ cond t p.length 0 + sum_by (λ (q : Sent). q.length) (filter (is_within window c) ps)
    go true = sum_by-cons (λ (q : Sent). q.length) p (filter (is_within window c) ps)
    go false = omega arith

load-none : (window c : ℕ) → load [] window c ≡ 0
unfolding load
load-none window c = refl

pub load-append : (window c : ℕ) (xs ys : List Sent) → load (xs ++ ys) window c ≡ load xs window c + load ys window c
load-append window c [] ys = omega (arith, load-none window c)
load-append window c (x ∷ xs) ys = omega (arith, load-cons window c x (xs ++ ys), load-cons window c x xs, load-append window c xs ys)

load-insert : (window c : ℕ) (x : Sent) (xs : List Sent) → load (insert_by is_sent_before x xs) window c ≡ load (x ∷ xs) window c
unfolding insert_by
load-insert window c x [] = refl
load-insert window c x (y ∷ ys) = go (is_sent_before y x) (load-insert window c x ys)
  where
    go : (b : Bool) → load (insert_by is_sent_before x ys) window c ≡ load (x ∷ ys) window c → load (cond b (y ∷ insert_by is_sent_before x ys) (x ∷ y ∷ ys)) window c ≡ load (x ∷ y ∷ ys) window c
    go true ih = omega (arith, ih, load-cons window c y (insert_by is_sent_before x ys), load-cons window c x ys, load-cons window c x (y ∷ ys), load-cons window c y ys)
    go false ih = refl

-- sorting and numbering leave the load as it is
pub load-sort : (window c : ℕ) (xs : List Sent) → load (sort_by is_sent_before xs) window c ≡ load xs window c
unfolding sort_by
load-sort window c [] = refl
load-sort window c (x ∷ xs) = omega (arith, load-insert window c x (sort_by is_sent_before xs), load-sort window c xs, load-cons window c x (sort_by is_sent_before xs), load-cons window c x xs)

pub load-numbered : (window c : ℕ) (e xs : List Sent) → load (numbered_after e xs) window c ≡ load xs window c
unfolding numbered_after with_number
load-numbered window c e [] = refl
load-numbered window c e (x ∷ xs) =
    load-cons window c (with_number x (count_of_id x.packet_id e)) (numbered_after (e ++ x ∷ []) xs) ∙ (ap (λ n. cond (is_within window c x) x.length 0 + n) (load-numbered window c (e ++ x ∷ []) xs) ∙ sym (load-cons window c x xs))

-- ---- a run of packets

-- packets that are sent from one tick to another
abbrev pub AreSentIn : ℕ → ℕ → List Sent → Type 0
AreSentIn low high ps = AllByRecursion (λ p. (low ≤ p.at.0) × (p.at.0 ≤ high)) ps

pub load-total : (window c : ℕ) (ps : List Sent) → load ps window c ≤ total ps
load-total window c [] = omega (arith, load-none window c)
load-total window c (p ∷ ps) = omega (arith, load-cons window c p ps, sum_by-cons (λ (q : Sent). q.length) p ps, load-total window c ps, least (is_within window c p))
  where
    least : (t : Bool) → cond t p.length 0 ≤ p.length
    least true = omega arith
    least false = omega arith

load-missed : (window c low high : ℕ) (ps : List Sent) → AreSentIn low high ps → (c < low) ⊎ (high + window ≤ c) → load ps window c ≡ 0
load-missed window c low high [] h o = load-none window c
load-missed window c low high (p ∷ ps) h o =
    let out : is_within window c p ≡ false =
    ⊎_elim (λ (lt : c < low). and_left (nat_le p.at.0 c) (nat_lt c (p.at.0 + window)) (lt-leb p.at.0 c (omega (arith, lt, h.0.0)))) (λ (ge : high + window ≤ c). and_right (nat_le p.at.0 c) (nat_lt c (p.at.0 + window)) (le-ltb c (p.at.0 + window) (omega (arith, ge, h.0.1)))) o in
    omega (arith, load-cons window c p ps, ap (λ (t : Bool). cond t p.length 0) out, load-missed window c low high ps h.1 o)

-- ---- runs one after the other

-- runs of packets: run k begins at `low k`, ends at most `reach` ticks later, and has at most `bytes` payload bytes
pub record AreRuns (run : ℕ → List Sent) (low : ℕ → ℕ) (reach bytes : ℕ) : Type 0 where
  pub sent : (k : ℕ) → AreSentIn (low k) (low k + reach) (run k)
  pub small : (k : ℕ) → total (run k) ≤ bytes

-- a run may have packets in the window that ends with c
abbrev touches : (ℕ → ℕ) → ℕ → ℕ → ℕ → Bool
touches low reach c k = nat_le (low k) c && nat_lt c (low k + reach)

no-run : (run : ℕ → List Sent) (low : ℕ → ℕ) (reach bytes window c k : ℕ) → AreRuns run low reach bytes → touches low (reach + window) c k ≡ false → load (run k) window c ≡ 0
no-run run low reach bytes window c k runs f =
    load-missed window c (low k) (low k + reach) (run k) (runs.sent k)
    (⊎_elim
    (λ (lt : c < low k). inl lt)
    (λ (ge : low k ≤ c).
    inr
    (⊎_elim (λ (lt : c < low k + (reach + window)). absurd (true≢false (sym (and_from (nat_le (low k) c) (nat_lt c (low k + (reach + window))) (le-leb (low k) c ge) (lt-ltb c (low k + (reach + window)) lt)) ∙ f))) (λ (out : low k + (reach + window) ≤ c). omega (arith, out)) (cases_lt c (low k + (reach + window)))))
    (cases_lt c (low k)))

-- where only the next n runs may have packets in the window
few-runs : (run : ℕ → List Sent) (low : ℕ → ℕ) (reach bytes window c : ℕ) → AreRuns run low reach bytes → (j k n : ℕ) → ((i : ℕ) → j ≤ i → touches low (reach + window) c i ≡ true → i < j + n)
    → load (flat_map run (numbers j k)) window c ≤ n * bytes
unfolding numbers
few-runs run low reach bytes window c runs j zero n h = omega (arith, load-none window c)
few-runs run low reach bytes window c runs j (suc k) zero h =
    ⊎_elim
    (λ (yes : touches low (reach + window) c j ≡ true). absurd (omega (arith, h j (omega arith) yes)))
    (λ (no : touches low (reach + window) c j ≡ false).
    omega (
      arith,
      load-append window c (run j) (flat_map run (numbers (j + 1) k)),
      no-run run low reach bytes window c j runs no,
      few-runs run low reach bytes window c runs (j + 1) k zero (λ i l t. omega (arith, h i (omega (arith, l)) t)),
    ))
    (cases_Bool (touches low (reach + window) c j))
few-runs run low reach bytes window c runs j (suc k) (suc m) h =
    ⊎_elim
    (λ (yes : touches low (reach + window) c j ≡ true).
    omega (
      arith,
      load-append window c (run j) (flat_map run (numbers (j + 1) k)),
      load-total window c (run j),
      runs.small j,
      suc-mul m bytes,
      few-runs run low reach bytes window c runs (j + 1) k m (λ i l t. omega (arith, h i (omega (arith, l)) t)),
    ))
    (λ (no : touches low (reach + window) c j ≡ false).
    omega (
      arith,
      load-append window c (run j) (flat_map run (numbers (j + 1) k)),
      no-run run low reach bytes window c j runs no,
      few-runs run low reach bytes window c runs (j + 1) k (suc m) (λ i l t. omega (arith, h i (omega (arith, l)) t)),
    ))
    (cases_Bool (touches low (reach + window) c j))

-- where no two runs that are n apart or more both have packets in the window, it holds at most the bytes of n
pub spaced-runs : (run : ℕ → List Sent) (low : ℕ → ℕ) (reach bytes window c n : ℕ) → AreRuns run low reach bytes
    → ((i k : ℕ) → low i ≤ c → c < low i + (reach + window) → low k ≤ c → c < low k + (reach + window) → k < i + n) → (j k : ℕ) → load (flat_map run (numbers j k)) window c ≤ n * bytes
unfolding numbers
spaced-runs run low reach bytes window c n runs apart j zero = omega (arith, load-none window c)
spaced-runs run low reach bytes window c n runs apart j (suc k) =
    ⊎_elim
    (λ (yes : touches low (reach + window) c j ≡ true). few-runs run low reach bytes window c runs j (suc k) n (λ i l t. apart j i (first j yes) (last j yes) (first i t) (last i t)))
    (λ (no : touches low (reach + window) c j ≡ false).
    omega (arith, load-append window c (run j) (flat_map run (numbers (j + 1) k)), no-run run low reach bytes window c j runs no, spaced-runs run low reach bytes window c n runs apart (j + 1) k))
    (cases_Bool (touches low (reach + window) c j))
  where
    first : (i : ℕ) → touches low (reach + window) c i ≡ true → low i ≤ c
    first i t = leb-true (low i) c (and_parts (nat_le (low i) c) (nat_lt c (low i + (reach + window))) t).0

    last : (i : ℕ) → touches low (reach + window) c i ≡ true → c < low i + (reach + window)
    last i t = ltb-true c (low i + (reach + window)) (and_parts (nat_le (low i) c) (nat_lt c (low i + (reach + window))) t).1
