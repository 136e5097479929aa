-- The greatest reach of the packets that pass a test.
use Rattle.std.proofs.Common.{◌≡◌, ℕ, ◌<◌, ◌≤◌, zero, suc, Bool, true, false, cond, ◌&&◌, nat_lt, max, List, ◌∷◌, length, get_or, arith, refl, ap, sym, ◌∙◌, ⊎_elim}
use Rattle.std.specs.List.{list_all}
use Rattle.std.proofs.lemmas.Bool.{ltb-true, lt-ltb, le-ltb}
use Rattle.mmt_delivery.proofs.Tests.{all-at, all-from, same_tests}
use Rattle.mmt_expect.proofs.Lasts.{last-or}
use Rattle.mmt_expect.specs.Latest.{greatest}
use Rattle.mmt_expect.specs.Reaches.{AreReaches, reach}
use Rattle.mmt_model.specs.Counts.{member}
use Rattle.mmt_model.specs.Survival.{no_packet}
use Rattle.mmt_model.specs.declared.casts.Carries.{Carries}
use Rattle.mmt_model.specs.declared.casts.Sent.{Sent}

-- one packet more
pub greatest-more : (test : Carries → Bool) (packets : List Sent) (reaches : List ℕ) (i : ℕ)
    → greatest test packets reaches (suc i) ≡ cond (test (get_or packets i no_packet).carries) (max (greatest test packets reaches i) (get_or reaches i 0)) (greatest test packets reaches i)
unfolding greatest
greatest-more test packets reaches i = refl

pub greatest-none : (test : Carries → Bool) (packets : List Sent) (reaches : List ℕ) → greatest test packets reaches 0 ≡ 0
unfolding greatest
greatest-none test packets reaches = refl

greatest-at : (test : Carries → Bool) (packets : List Sent) (reaches : List ℕ) (n i : ℕ) → n < i → test (get_or packets n no_packet).carries ≡ true → get_or reaches n 0 ≤ greatest test packets reaches i
greatest-at test packets reaches n zero l t = absurd (omega arith)
greatest-at test packets reaches n (suc i) l t =
    ⊎_elim
    (λ (same : n ≡ i).
    let here : test (get_or packets i no_packet).carries ≡ true = ap (λ k. test (get_or packets k no_packet).carries) (sym same) ∙ t in
    let e : greatest test packets reaches (suc i) ≡ max (greatest test packets reaches i) (get_or reaches i 0) = greatest-more test packets reaches i ∙ ap (λ b. cond b (max (greatest test packets reaches i) (get_or reaches i 0)) (greatest test packets reaches i)) here in
    let r : get_or reaches n 0 ≡ get_or reaches i 0 = ap (λ k. get_or reaches k 0) same in
    omega (arith, e, r))
    (λ (less : n < i).
    let h = greatest-at test packets reaches n i less t in
    let g = grows (test (get_or packets i no_packet).carries) (greatest test packets reaches i) (get_or reaches i 0) in
    omega (arith, h, g, greatest-more test packets reaches i))
    (last-or n i l)
  where
    grows : (b : Bool) (x y : ℕ) → x ≤ cond b (max x y) x
    grows true x y = omega arith
    grows false x y = omega arith

greatest-from : (test : Carries → Bool) (packets : List Sent) (reaches : List ℕ) (t i : ℕ) → 1 ≤ t → ((n : ℕ) → n < i → test (get_or packets n no_packet).carries ≡ true → get_or reaches n 0 < t) → greatest test packets reaches i < t
greatest-from test packets reaches t zero l h = omega (arith, greatest-none test packets reaches)
greatest-from test packets reaches t (suc i) l h =
    let before = greatest-from test packets reaches t i l (λ n k. h n (omega arith)) in
    let here = go (test (get_or packets i no_packet).carries) refl before in
    omega (arith, greatest-more test packets reaches i, here)
  where
    go : (b : Bool) → test (get_or packets i no_packet).carries ≡ b → greatest test packets reaches i < t → cond b (max (greatest test packets reaches i) (get_or reaches i 0)) (greatest test packets reaches i) < t
    go true e before = let x = h i (omega arith) e in omega (arith, x, before)
    go false e before = before

-- the packets of these places are all that pass a test
pub record AreThose (test : Carries → Bool) (packets : List Sent) (places : List ℕ) : Type 0 where
  pub pass : (n : ℕ) → member n places ≡ true → (n < length packets) × (test (get_or packets n no_packet).carries ≡ true)
  pub all : (n : ℕ) → n < length packets → test (get_or packets n no_packet).carries ≡ true → member n places ≡ true

pub all-below : (test : Carries → Bool) (packets : List Sent) (delay : ℕ) (hist reaches places : List ℕ) (t : ℕ) → AreReaches packets delay hist reaches → AreThose test packets places → 1 ≤ t
    → list_all (λ n. nat_lt (reach packets delay hist n) t) places ≡ nat_lt (greatest test packets reaches (length packets)) t
all-below test packets delay hist reaches places t are those l =
    same_tests (list_all (λ n. nat_lt (reach packets delay hist n) t) places) (nat_lt (greatest test packets reaches (length packets)) t)
    (λ h. lt-ltb (greatest test packets reaches (length packets)) t (greatest-from test packets reaches t (length packets) l (λ n ln p.
    (let a = ltb-true (reach packets delay hist n) t (all-at (λ n. nat_lt (reach packets delay hist n) t) places n h (those.all n ln p)) in
    omega (arith, a, are.each n ln)))))
    (λ h. all-from (λ n. nat_lt (reach packets delay hist n) t) places (λ n m.
    (let p = those.pass n m in
    let a = greatest-at test packets reaches n (length packets) p.0 p.1 in
    let b = ltb-true (greatest test packets reaches (length packets)) t h in
    lt-ltb (reach packets delay hist n) t (omega (arith, a, b, are.each n p.0)))))

pub all-below-some : (test : Carries → Bool) (packets : List Sent) (delay : ℕ) (hist reaches : List ℕ) (m : ℕ) (ms : List ℕ) (t : ℕ) → AreReaches packets delay hist reaches → AreThose test packets (m ∷ ms)
    → list_all (λ n. nat_lt (reach packets delay hist n) t) (m ∷ ms) ≡ nat_lt (greatest test packets reaches (length packets)) t
all-below-some test packets delay hist reaches m ms zero are those =
    ap (λ b. b && list_all (λ n. nat_lt (reach packets delay hist n) 0) ms) (le-ltb (reach packets delay hist m) 0 (omega arith))
    ∙ sym (le-ltb (greatest test packets reaches (length packets)) 0 (omega arith))
all-below-some test packets delay hist reaches m ms (suc t) are those = all-below test packets delay hist reaches (m ∷ ms) (suc t) are those (omega arith)
