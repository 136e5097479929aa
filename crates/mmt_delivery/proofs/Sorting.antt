-- Rising lists of numbers, and sorting.
use Rattle.std.proofs.Common.{◌≡◌, ℕ, ◌+◌, ◌<◌, ◌≤◌, zero, suc, Bool, true, false, ◌==◌, ◌⊎◌, nat_lt, cond, List, [], ◌∷◌, ◌++◌, map, arith, refl, ap, ap₂, sym, ◌∙◌, ⊎_elim, subst, true≢false}
use Rattle.std.proofs.lemmas.Bool.{cases_eq, eq-eqb, ne_eqb, cases_lt, lt-ltb, le-ltb}
use Rattle.std.specs.List.{AllByRecursion}
use Rattle.mmt_model.proofs.Counting.{occurrences-push}
use Rattle.mmt_model.proofs.Inserting.{insert-map, occurrences-insert}
use Rattle.mmt_model.specs.Counts.{as_number, occurrences}
use Rattle.mmt_model.specs.Expected.{places}
use Rattle.mmt_model.specs.Sorted.{insert_by, sort_by}

-- an order of the numbers below n
pub record IsOrder (b : ℕ → ℕ → Bool) (n : ℕ) : Type 0 where
  pub one_way : (x y : ℕ) → b x y ≡ true → b y x ≡ true → ⊥
  pub through : (x y z : ℕ) → b x y ≡ true → b y z ≡ true → b x z ≡ true
  pub either : (x y : ℕ) → x < n → y < n → (x ≡ y → ⊥) → (b x y ≡ true) ⊎ (b y x ≡ true)

abbrev pub Rising : (ℕ → ℕ → Bool) → List ℕ → Type 0
Rising b [] = Unit {0}
Rising b (x ∷ xs) = AllByRecursion (λ y. b x y ≡ true) xs × Rising b xs

pub occurrences-append : (u : ℕ) (xs ys : List ℕ) → occurrences u (xs ++ ys) ≡ occurrences u xs + occurrences u ys
occurrences-append u [] ys = omega arith
occurrences-append u (x ∷ xs) ys = omega (arith, occurrences-append u xs ys)

pub each-occurrences : (P : ℕ → Type 0) (xs : List ℕ) → ((k : ℕ) → 0 < occurrences k xs → P k) → AllByRecursion P xs
each-occurrences P [] h = tt
each-occurrences P (x ∷ xs) h = (h x (omega (arith, ap as_number (eq-eqb x x refl))), each-occurrences P xs (λ k l. h k (omega arith)))

pub occurrences-each : (P : ℕ → Type 0) (xs : List ℕ) (k : ℕ) → AllByRecursion P xs → 0 < occurrences k xs → P k
occurrences-each P [] k e l = absurd (omega arith)
occurrences-each P (x ∷ xs) k e l =
    ⊎_elim
    (λ (same : x ≡ k). subst P same e.0)
    (λ (ne : x ≡ k → ⊥). occurrences-each P xs k e.1 (omega (arith, ap as_number (ne_eqb x k ne))))
    (cases_eq x k)

pub rising-append : (b : ℕ → ℕ → Bool) (xs ys : List ℕ) → Rising b xs → Rising b ys → ((x y : ℕ) → 0 < occurrences x xs → 0 < occurrences y ys → b x y ≡ true) → Rising b (xs ++ ys)
rising-append b [] ys rx ry h = ry
rising-append b (x ∷ xs) ys rx ry h = (
  each-occurrences (λ y. b x y ≡ true) (xs ++ ys)
      (λ k l. ⊎_elim
      (λ (a : 0 < occurrences k xs). occurrences-each (λ y. b x y ≡ true) xs k rx.0 a)
      (λ (n : occurrences k xs ≤ 0). h x k (omega (arith, ap as_number (eq-eqb x x refl))) (omega (arith, occurrences-append k xs ys)))
      (cases_lt 0 (occurrences k xs))),
  rising-append b xs ys rx.1 ry (λ i j li lj. h i j (omega arith) lj),
)

-- two rising lists of the same numbers are one
pub rising-same : (b : ℕ → ℕ → Bool) (n : ℕ) (xs ys : List ℕ) → IsOrder b n → Rising b xs → Rising b ys → ((u : ℕ) → occurrences u xs ≡ occurrences u ys) → xs ≡ ys
rising-same b n [] [] o rx ry h = refl
rising-same b n [] (y ∷ ys) o rx ry h = absurd (omega (arith, h y, ap as_number (eq-eqb y y refl)))
rising-same b n (x ∷ xs) [] o rx ry h = absurd (omega (arith, h x, ap as_number (eq-eqb x x refl)))
rising-same b n (x ∷ xs) (y ∷ ys) o rx ry h =
    let same : x ≡ y = heads x y xs ys rx.0 ry.0 (h x) (h y) in
    let rest = rising-same b n xs ys o rx.1 ry.1 (λ u. omega (arith, h u, ap (λ z. as_number (z == u)) same)) in
    ap₂ (λ a l. a ∷ l) same rest
  where
    heads : (x y : ℕ) (xs ys : List ℕ) → AllByRecursion (λ z. b x z ≡ true) xs → AllByRecursion (λ z. b y z ≡ true) ys → occurrences x (x ∷ xs) ≡ occurrences x (y ∷ ys) → occurrences y (x ∷ xs) ≡ occurrences y (y ∷ ys) → x ≡ y
    heads x y xs ys ex ey hx hy =
        ⊎_elim (λ (e : x ≡ y). e)
        (λ (ne : x ≡ y → ⊥).
        absurd (o.one_way x y
        (occurrences-each (λ z. b x z ≡ true) xs y ex (omega (arith, hy, ap as_number (eq-eqb y y refl), ap as_number (ne_eqb x y ne))))
        (occurrences-each (λ z. b y z ≡ true) ys x ey (omega (arith, hx, ap as_number (eq-eqb x x refl), ap as_number (ne_eqb y x (λ e. ne (sym e))))))))
        (cases_eq x y)

rising-insert : (b : ℕ → ℕ → Bool) (n x : ℕ) (xs : List ℕ) → IsOrder b n → x < n → ((k : ℕ) → 0 < occurrences k xs → k < n) → Rising b xs → occurrences x xs ≡ 0 → Rising b (insert_by b x xs)
unfolding insert_by
rising-insert b n x [] o lx below r z = (tt, tt)
rising-insert b n x (y ∷ ys) o lx below r z = go (b y x) refl (rising-insert b n x ys o lx (λ k l. below k (omega arith)) r.1 (omega arith))
  where
    go : (t : Bool) → b y x ≡ t → Rising b (insert_by b x ys) → Rising b (cond t (y ∷ insert_by b x ys) (x ∷ y ∷ ys))
    go true e ih = (
      each-occurrences (λ z. b y z ≡ true) (insert_by b x ys)
          (λ k l. ⊎_elim
          (λ (same : x ≡ k). ap (b y) (sym same) ∙ e)
          (λ (ne : x ≡ k → ⊥). occurrences-each (λ z. b y z ≡ true) ys k r.0 (omega (arith, occurrences-insert b k x ys, ap as_number (ne_eqb x k ne), l)))
          (cases_eq x k)),
      ih,
    )
    go false e ih =
        let ne : x ≡ y → ⊥ = λ s. (let one = ap as_number (eq-eqb y x (sym s)) in omega (arith, one, z)) in
        let lt : b x y ≡ true =
        ⊎_elim (λ (t : b x y ≡ true). t) (λ (t : b y x ≡ true). absurd (true≢false (sym t ∙ e)))
        (o.either x y lx (below y (omega (arith, ap as_number (eq-eqb y y refl)))) ne) in
        ((lt, each-occurrences (λ z. b x z ≡ true) ys (λ k l. o.through x y k lt (occurrences-each (λ z. b y z ≡ true) ys k r.0 l))), r)

pub occurrences-sort : (b : ℕ → ℕ → Bool) (u : ℕ) (xs : List ℕ) → occurrences u (sort_by b xs) ≡ occurrences u xs
unfolding sort_by
occurrences-sort b u [] = refl
occurrences-sort b u (x ∷ xs) = omega (arith, occurrences-insert b u x (sort_by b xs), occurrences-sort b u xs)

pub rising-sort : (b : ℕ → ℕ → Bool) (n : ℕ) (xs : List ℕ) → IsOrder b n → ((k : ℕ) → 0 < occurrences k xs → k < n) → ((u : ℕ) → occurrences u xs ≤ 1) → Rising b (sort_by b xs)
unfolding sort_by
rising-sort b n [] o below h = tt
rising-sort b n (x ∷ xs) o below h =
    rising-insert b n x (sort_by b xs) o (below x (omega (arith, ap as_number (eq-eqb x x refl))))
    (λ k l. below k (omega (arith, occurrences-sort b k xs)))
    (rising-sort b n xs o (λ k l. below k (omega arith)) (λ u. omega (arith, h u))) (omega (arith, occurrences-sort b x xs, h x, ap as_number (eq-eqb x x refl)))

pub sort-map : {X : Type 0} (before : X → X → Bool) (f : ℕ → X) (xs : List ℕ) → sort_by before (map f xs) ≡ map f (sort_by (λ u v. before (f u) (f v)) xs)
unfolding sort_by
sort-map before f [] = refl
sort-map before f (x ∷ xs) =
    ap (insert_by before (f x)) (sort-map before f xs) ∙ insert-map before f x (sort_by (λ u v. before (f u) (f v)) xs)

pub occurrences-places : (u n : ℕ) → occurrences u (places n) ≡ as_number (nat_lt u n)
unfolding places
occurrences-places u zero = ap as_number (sym (le-ltb u 0 (omega arith)))
occurrences-places u (suc n) =
    ⊎_elim
    (λ (e : n ≡ u). omega (arith, occurrences-push u (places n) n, occurrences-places u n, ap as_number (eq-eqb n u e), ap as_number (le-ltb u n (omega arith)), ap as_number (lt-ltb u (suc n) (omega arith))))
    (λ (ne : n ≡ u → ⊥). ⊎_elim
    (λ (lt : u < n). omega (arith, occurrences-push u (places n) n, occurrences-places u n, ap as_number (ne_eqb n u ne), ap as_number (lt-ltb u n lt), ap as_number (lt-ltb u (suc n) (omega arith))))
    (λ (ge : n ≤ u). omega (arith, occurrences-push u (places n) n, occurrences-places u n, ap as_number (ne_eqb n u ne), ap as_number (le-ltb u n ge), ap as_number (le-ltb u (suc n) (omega arith))))
    (cases_lt u n))
    (cases_eq n u)
