-- Tests of lists of numbers.
use Rattle.std.proofs.Common.{◌≡◌, ℕ, Bool, true, false, ◌&&◌, ◌||◌, ◌==◌, nat_lt, cond, List, [], ◌∷◌, ◌++◌, arith, refl, ap, ap₂, sym, ◌∙◌, ⊎_elim, subst}
use Rattle.std.specs.List.{list_any, list_all, flat_map}
use Rattle.std.proofs.lemmas.Bool.Decides.{nat_tests}
use Rattle.std.proofs.lemmas.Bool.{eq-eqb, and_parts, and_from, or_cases, or_left, or_right}
use Rattle.std.specs.List.{AllByRecursion}
use Rattle.mmt_model.proofs.Counting.{any-occurrences}
use Rattle.mmt_model.specs.Counts.{member, occurrences}

pub same_tests : (a b : Bool) → (a ≡ true → b ≡ true) → (b ≡ true → a ≡ true) → a ≡ b
same_tests true true f g = refl
same_tests true false f g = sym (f refl)
same_tests false true f g = g refl
same_tests false false f g = refl

pub member-occurrences : (n : ℕ) (ks : List ℕ) → member n ks ≡ nat_lt 0 (occurrences n ks)
unfolding member
member-occurrences n ks = any-occurrences n ks

pub all-from : (p : ℕ → Bool) (ks : List ℕ) → ((k : ℕ) → member k ks ≡ true → p k ≡ true) → list_all p ks ≡ true
unfolding member
all-from p [] h = refl
all-from p (k ∷ ks) h =
    and_from (p k) (list_all p ks)
    (h k (rw (eq-eqb k k refl) refl))
    (all-from p ks (λ j m. h j (rw m (go (k == j)))))
  where
    go : (b : Bool) → (b || true) ≡ true
    go true = refl
    go false = refl

pub all-at : (p : ℕ → Bool) (ks : List ℕ) (k : ℕ) → list_all p ks ≡ true → member k ks ≡ true → p k ≡ true
unfolding member
all-at p [] k a m = absurd cc
all-at p (j ∷ ks) k a m =
    let parts = and_parts (p j) (list_all p ks) a in
    ⊎_elim
    (λ (e : (j == k) ≡ true). let same : j ≡ k = grind (arith, nat_tests) in rw (sym same) parts.0)
    (λ (e : list_any (λ i. i == k) ks ≡ true). all-at p ks k parts.1 e)
    (or_cases (j == k) (list_any (λ i. i == k) ks) m)

pub each-at : (P : ℕ → Type 0) (ks : List ℕ) (k : ℕ) → AllByRecursion P ks → member k ks ≡ true → P k
unfolding member
each-at P [] k e m = absurd cc
each-at P (j ∷ ks) k e m =
    ⊎_elim
    (λ (t : (j == k) ≡ true). let same : j ≡ k = grind (arith, nat_tests) in subst P same e.0)
    (λ (t : list_any (λ i. i == k) ks ≡ true). each-at P ks k e.1 t)
    (or_cases (j == k) (list_any (λ i. i == k) ks) m)

pub any-append : (p : ℕ → Bool) (xs ys : List ℕ) → list_any p (xs ++ ys) ≡ (list_any p xs || list_any p ys)
any-append p [] ys = refl
any-append p (x ∷ xs) ys = ap (λ b. p x || b) (any-append p xs ys) ∙ assoc (p x) (list_any p xs) (list_any p ys)
  where
    assoc : (a b c : Bool) → (a || (b || c)) ≡ ((a || b) || c)
    assoc true b c = refl
    assoc false b c = refl

pub member-flat_map : {C : Type 0} (m : ℕ) (f : C → List ℕ) (cs : List C) → member m (flat_map f cs) ≡ list_any (λ c. member m (f c)) cs
unfolding member
member-flat_map m f [] = refl
member-flat_map m f (c ∷ cs) = any-append (λ k. k == m) (f c) (flat_map f cs) ∙ ap (λ b. list_any (λ k. k == m) (f c) || b) (member-flat_map m f cs)

pub any-or : {C : Type 0} (P : C → Type 0) (p q r : C → Bool) (cs : List C) → AllByRecursion P cs → ((c : C) → P c → p c ≡ (q c || r c)) → list_any p cs ≡ (list_any q cs || list_any r cs)
any-or P p q r [] e h = refl
any-or P p q r (c ∷ cs) e h = ap₂ (λ a b. a || b) (h c e.0) (any-or P p q r cs e.1 h) ∙ mix (q c) (r c) (list_any q cs) (list_any r cs)
  where
    mix : (a b x y : Bool) → ((a || b) || (x || y)) ≡ ((a || x) || (b || y))
    mix true b x y = refl
    mix false true true y = refl
    mix false true false y = refl
    mix false false x y = refl

pub any-same : {C : Type 0} (p q : C → Bool) (cs : List C) → ((c : C) → p c ≡ q c) → list_any p cs ≡ list_any q cs
any-same p q [] h = refl
any-same p q (c ∷ cs) h = ap₂ (λ a b. a || b) (h c) (any-same p q cs h)

pub all-same : (p q : ℕ → Bool) (ks : List ℕ) → ((k : ℕ) → p k ≡ q k) → list_all p ks ≡ list_all q ks
all-same p q [] h = refl
all-same p q (k ∷ ks) h = ap₂ (λ a b. a && b) (h k) (all-same p q ks h)

pub member-cond : (m : ℕ) (b : Bool) (ks : List ℕ) → member m (cond b ks []) ≡ (b && member m ks)
unfolding member
member-cond m true ks = refl
member-cond m false ks = refl

pub any-some : {C : Type 0} (P : C → Type 0) (p : C → Bool) (cs : List C) → AllByRecursion P cs → list_any p cs ≡ true → (c : C) × P c × (p c ≡ true)
any-some P p [] e a = absurd cc
any-some P p (c ∷ cs) e a =
    ⊎_elim
    (λ (t : p c ≡ true). (c, e.0, t))
    (λ (t : list_any p cs ≡ true). any-some P p cs e.1 t)
    (or_cases (p c) (list_any p cs) a)

pub any-mono : {C : Type 0} (P : C → Type 0) (p q : C → Bool) (cs : List C) → AllByRecursion P cs → ((c : C) → P c → p c ≡ true → q c ≡ true) → list_any p cs ≡ true → list_any q cs ≡ true
any-mono P p q [] e h a = absurd cc
any-mono P p q (c ∷ cs) e h a =
    ⊎_elim
    (λ (t : p c ≡ true). or_left (q c) (list_any q cs) (h c e.0 t))
    (λ (t : list_any p cs ≡ true). or_right (q c) (list_any q cs) (any-mono P p q cs e.1 h t))
    (or_cases (p c) (list_any p cs) a)
