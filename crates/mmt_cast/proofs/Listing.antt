-- Lists: what each item has, which items are there, and lists made with places.
use Rattle.std.proofs.Common.{◌≡◌, ℕ, ◌+◌, ◌<◌, ◌≤◌, zero, suc, Bool, true, false, ◌⊎◌, inl, inr, cond, List, [], ◌∷◌, ◌++◌, map, length, get_or, arith, refl, ap, ap₂, ◌∙◌, ⊎_elim, subst}
use Rattle.std.proofs.lemmas.Bool.{cases_eq, cases_lt}
use Rattle.std.specs.List.{AllByRecursion}
use Rattle.mmt_cast.specs.Placing.{map_from}
use Rattle.mmt_model.specs.Carrying.{numbers}
use Rattle.mmt_model.specs.Sorted.{insert_by, sort_by}

-- ---- which items are there

abbrev pub IsIn : {X : Type 0} → X → List X → Type 0
IsIn x [] = ⊥
IsIn x (y ∷ ys) = (y ≡ x) ⊎ IsIn x ys

pub each-in : {X : Type 0} (P : X → Type 0) (x : X) (xs : List X) → AllByRecursion P xs → IsIn x xs → P x
each-in P x [] e i = absurd i
each-in P x (y ∷ ys) e (inl same) = subst P same e.0
each-in P x (y ∷ ys) e (inr i) = each-in P x ys e.1 i

pub in-left : {X : Type 0} (x : X) (xs ys : List X) → IsIn x xs → IsIn x (xs ++ ys)
in-left x [] ys i = absurd i
in-left x (z ∷ xs) ys (inl same) = inl same
in-left x (z ∷ xs) ys (inr i) = inr (in-left x xs ys i)

pub in-right : {X : Type 0} (x : X) (xs ys : List X) → IsIn x ys → IsIn x (xs ++ ys)
in-right x [] ys i = i
in-right x (z ∷ xs) ys i = inr (in-right x xs ys i)

pub in-split : {X : Type 0} (x : X) (xs : List X) → IsIn x xs → (a : List X) × (b : List X) × (xs ≡ a ++ x ∷ b)
in-split x [] i = absurd i
in-split x (y ∷ ys) (inl same) = ([], ys, ap (λ z. z ∷ ys) same)
in-split x (y ∷ ys) (inr i) = let s = in-split x ys i in (y ∷ s.0, s.1, ap (λ l. y ∷ l) s.2)

pub in-at : {X : Type 0} (xs : List X) (i : ℕ) (d : X) → i < length xs → IsIn (get_or xs i d) xs
in-at [] i d l = absurd (omega arith)
in-at (x ∷ xs) zero d l = inl refl
in-at (x ∷ xs) (suc i) d l = inr (in-at xs i d (omega arith))

-- ---- what each item has

pub each-at : {X : Type 0} (P : X → Type 0) (xs : List X) (i : ℕ) (d : X) → AllByRecursion P xs → i < length xs → P (get_or xs i d)
each-at P xs i d e l = each-in P (get_or xs i d) xs e (in-at xs i d l)

pub each-from : {X : Type 0} (P : X → Type 0) (xs : List X) → ((x : X) → IsIn x xs → P x) → AllByRecursion P xs
each-from P [] h = tt
each-from P (x ∷ xs) h = (h x (inl refl), each-from P xs (λ y i. h y (inr i)))

pub each-weaker : {X : Type 0} (P Q : X → Type 0) (xs : List X) → ((x : X) → P x → Q x) → AllByRecursion P xs → AllByRecursion Q xs
each-weaker P Q [] h e = tt
each-weaker P Q (x ∷ xs) h e = (h x e.0, each-weaker P Q xs h e.1)

pub each-append : {X : Type 0} (P : X → Type 0) (xs ys : List X) → AllByRecursion P xs → AllByRecursion P ys → AllByRecursion P (xs ++ ys)
each-append P [] ys ex ey = ey
each-append P (x ∷ xs) ys ex ey = (ex.0, each-append P xs ys ex.1 ey)

pub each-front : {X : Type 0} (P : X → Type 0) (xs ys : List X) → AllByRecursion P (xs ++ ys) → AllByRecursion P xs
each-front P [] ys e = tt
each-front P (x ∷ xs) ys e = (e.0, each-front P xs ys e.1)

pub each-back : {X : Type 0} (P : X → Type 0) (xs ys : List X) → AllByRecursion P (xs ++ ys) → AllByRecursion P ys
each-back P [] ys e = e
each-back P (x ∷ xs) ys e = each-back P xs ys e.1

-- ---- sorting keeps the items

each-insert : {X : Type 0} (P : X → Type 0) (before : X → X → Bool) (x : X) (xs : List X) → P x → AllByRecursion P xs → AllByRecursion P (insert_by before x xs)
unfolding insert_by
each-insert P before x [] p e = (p, tt)
each-insert {X} P before x (y ∷ ys) p e = go (before y x) (each-insert P before x ys p e.1)
  where
    go : (t : Bool) → AllByRecursion P (insert_by before x ys) → AllByRecursion P (cond t (y ∷ insert_by before x ys) (x ∷ y ∷ ys))
    go true ih = (e.0, ih)
    go false ih = (p, e)

pub each-sort : {X : Type 0} (P : X → Type 0) (before : X → X → Bool) (xs : List X) → AllByRecursion P xs → AllByRecursion P (sort_by before xs)
unfolding sort_by
each-sort P before [] e = tt
each-sort P before (x ∷ xs) e = each-insert P before x (sort_by before xs) e.0 (each-sort P before xs e.1)

in-insert : {X : Type 0} (before : X → X → Bool) (z x : X) (xs : List X) → (x ≡ z) ⊎ IsIn z xs → IsIn z (insert_by before x xs)
unfolding insert_by
in-insert before z x [] i = i
in-insert before z x (y ∷ ys) i = go (before y x) (in-insert before z x ys) i
  where
    go : (t : Bool) → ((x ≡ z) ⊎ IsIn z ys → IsIn z (insert_by before x ys)) → (x ≡ z) ⊎ ((y ≡ z) ⊎ IsIn z ys) → IsIn z (cond t (y ∷ insert_by before x ys) (x ∷ y ∷ ys))
    go true ih (inl same) = inr (ih (inl same))
    go true ih (inr (inl same)) = inl same
    go true ih (inr (inr i)) = inr (ih (inr i))
    go false ih i = i

pub in-sort : {X : Type 0} (before : X → X → Bool) (z : X) (xs : List X) → IsIn z xs → IsIn z (sort_by before xs)
unfolding sort_by
in-sort before z [] i = i
in-sort before z (x ∷ xs) (inl same) = in-insert before z x (sort_by before xs) (inl same)
in-sort before z (x ∷ xs) (inr i) = in-insert before z x (sort_by before xs) (inr (in-sort before z xs i))

length-insert : {X : Type 0} (before : X → X → Bool) (x : X) (xs : List X) → length (insert_by before x xs) ≡ suc (length xs)
unfolding insert_by
length-insert before x [] = refl
length-insert before x (y ∷ ys) = go (before y x) (length-insert before x ys)
  where
    go : (t : Bool) → length (insert_by before x ys) ≡ suc (length ys) → length (cond t (y ∷ insert_by before x ys) (x ∷ y ∷ ys)) ≡ suc (suc (length ys))
    go true ih = ap suc ih
    go false ih = refl

pub length-sort : {X : Type 0} (before : X → X → Bool) (xs : List X) → length (sort_by before xs) ≡ length xs
unfolding sort_by
length-sort before [] = refl
length-sort before (x ∷ xs) = length-insert before x (sort_by before xs) ∙ ap suc (length-sort before xs)

-- ---- numbers

pub each-numbers : (P : ℕ → Type 0) (j n : ℕ) → ((k : ℕ) → j ≤ k → k < j + n → P k) → AllByRecursion P (numbers j n)
unfolding numbers
each-numbers P j zero h = tt
each-numbers P j (suc n) h = (h j (omega arith) (omega arith), each-numbers P (j + 1) n (λ k a b. h k (omega arith) (omega arith)))

pub each-map_numbers : {X : Type 0} (P : X → Type 0) (f : ℕ → X) (j n : ℕ) → ((k : ℕ) → j ≤ k → k < j + n → P (f k)) → AllByRecursion P (map f (numbers j n))
unfolding numbers
each-map_numbers P f j zero h = tt
each-map_numbers P f j (suc n) h = (h j (omega arith) (omega arith), each-map_numbers P f (j + 1) n (λ k a b. h k (omega arith) (omega arith)))

pub in-map_numbers : {X : Type 0} (f : ℕ → X) (j n k : ℕ) → j ≤ k → k < j + n → IsIn (f k) (map f (numbers j n))
unfolding numbers
in-map_numbers f j zero k a b = absurd (omega arith)
in-map_numbers f j (suc n) k a b =
    ⊎_elim
    (λ (e : j ≡ k). inl (ap f e))
    (λ (ne : j ≡ k → ⊥). inr (in-map_numbers f (j + 1) n k (⊎_elim (λ (lt : j < k). omega arith) (λ (ge : k ≤ j). absurd (ne (omega arith))) (cases_lt j k)) (omega arith)))
    (cases_eq j k)

pub same-map_numbers : {X : Type 0} (f g : ℕ → X) (j n : ℕ) → ((k : ℕ) → j ≤ k → k < j + n → f k ≡ g k) → map f (numbers j n) ≡ map g (numbers j n)
unfolding numbers
same-map_numbers f g j zero h = refl
same-map_numbers f g j (suc n) h = ap₂ (λ x l. x ∷ l) (h j (omega arith) (omega arith)) (same-map_numbers f g (j + 1) n (λ k a b. h k (omega arith) (omega arith)))

pub map-numbers-shift : {X : Type 0} (f : ℕ → X) (c j n : ℕ) → map f (numbers (c + j) n) ≡ map (λ k. f (c + k)) (numbers j n)
unfolding numbers
map-numbers-shift f c j zero = refl
map-numbers-shift f c j (suc n) = ap (λ l. f (c + j) ∷ l) (let e : c + j + 1 ≡ c + (j + 1) = omega arith in ap (λ m. map f (numbers m n)) e ∙ map-numbers-shift f c (j + 1) n)

pub map-map : {X Y Z : Type 0} (f : Y → Z) (g : X → Y) (xs : List X) → map f (map g xs) ≡ map (λ x. f (g x)) xs
map-map f g [] = refl
map-map f g (x ∷ xs) = ap (λ l. f (g x) ∷ l) (map-map f g xs)

-- ---- lists made with places

pub length-map_from : {X Y : Type 0} (f : ℕ → X → Y) (n : ℕ) (xs : List X) → length (map_from f n xs) ≡ length xs
unfolding map_from
length-map_from f n [] = refl
length-map_from f n (x ∷ xs) = ap suc (length-map_from f (n + 1) xs)

pub at-map_from : {X Y : Type 0} (f : ℕ → X → Y) (n : ℕ) (xs : List X) (i : ℕ) (d : X) (e : Y) → i < length xs → get_or (map_from f n xs) i e ≡ f (n + i) (get_or xs i d)
unfolding map_from
at-map_from f n [] i d e l = absurd (omega arith)
at-map_from f n (x ∷ xs) zero d e l = let s : n ≡ n + 0 = omega arith in ap (λ m. f m x) s
at-map_from f n (x ∷ xs) (suc i) d e l = let s : n + 1 + i ≡ n + suc i = omega arith in at-map_from f (n + 1) xs i d e (omega arith) ∙ ap (λ m. f m (get_or xs i d)) s

pub at-map_from_0 : {X Y : Type 0} (f : ℕ → X → Y) (xs : List X) (i : ℕ) (d : X) (e : Y) → i < length xs → get_or (map_from f 0 xs) i e ≡ f i (get_or xs i d)
at-map_from_0 f xs i d e l = let s : 0 + i ≡ i = omega arith in at-map_from f 0 xs i d e l ∙ ap (λ m. f m (get_or xs i d)) s
