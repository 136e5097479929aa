-- Names that rise pick the MPUs that pass, in their order.
use Rattle.std.proofs.Common.{◌≡◌, ℕ, ◌+◌, suc, Bool, true, false, ◌==◌, ◌||◌, ◌⊎◌, inl, inr, cond, List, [], ◌∷◌, ◌++◌, map, get_or, arith, refl, ap, ap₂, sym, ◌∙◌, ⊎_elim, subst, true≢false}
use Rattle.std.specs.List.{AllByRecursion, filter, list_any}
use Rattle.std.proofs.lemmas.List.Elements.{recursion_from_All}
use Rattle.std.proofs.lemmas.Bool.{and_from, and_left, and_parts, and_right, cases_Bool, eq-eqb, eqb-true, ne_eqb}
use Rattle.mmt_cast.proofs.Listing.{IsIn, each-append, each-in, each-weaker}
use Rattle.mmt_cast.proofs.Placed.{each-flat_map_from, each-map_from, placed_in}
use Rattle.mmt_cast.specs.Casting.{place_of_mpu}
use Rattle.mmt_cast.specs.Placing.{PlacedMpu, all_mpus, flat_map_from, map_from, mpus_of}
use Rattle.mmt_cast.specs.Right.{no_placed_mpu}
use Rattle.mmt_cast.specs.Tables.{is_named_by, is_same_pair}
use Rattle.mmt_model.specs.Right.{AreRising, IsBefore, no_asset}
use Rattle.mmt_model.specs.declared.programmes.Asset.{Asset}
use Rattle.mmt_model.specs.declared.programmes.Mpu.{Mpu}
use Rattle.mmt_model.specs.declared.programmes.Programme.{Programme}

-- where an MPU stands
abbrev pub pair : PlacedMpu → ℕ × ℕ
pair m = (m.asset, m.mpu)

-- MPUs rise
abbrev pub Rise : List PlacedMpu → Type 0
Rise [] = Unit {0}
Rise (x ∷ xs) = AllByRecursion (λ y. IsBefore (pair x) (pair y)) xs × Rise xs

rise-append : (xs ys : List PlacedMpu) → Rise xs → Rise ys → AllByRecursion (λ x. AllByRecursion (λ y. IsBefore (pair x) (pair y)) ys) xs → Rise (xs ++ ys)
rise-append [] ys ax ay h = ay
rise-append (x ∷ xs) ys ax ay h = (each-append (λ y. IsBefore (pair x) (pair y)) xs ys ax.0 h.0, rise-append xs ys ax.1 ay h.1)

rise-block : (a : ℕ) (asset : Asset) (n : ℕ) (mpus : List Mpu) → Rise (map_from (placed_in a asset) n mpus)
unfolding map_from
rise-block a asset n [] = tt
rise-block a asset n (x ∷ xs) = (each-map_from (λ y. IsBefore (a, n) (pair y)) (placed_in a asset) (n + 1) xs (λ i y l. inr (refl, omega arith)), rise-block a asset (n + 1) xs)

rise-assets : (n : ℕ) (assets : List Asset) → Rise (flat_map_from mpus_of n assets)
unfolding flat_map_from mpus_of
rise-assets n [] = tt
rise-assets n (x ∷ xs) =
    rise-append (map_from (placed_in n x) 0 x.mpus) (flat_map_from mpus_of (n + 1) xs) (rise-block n x 0 x.mpus) (rise-assets (n + 1) xs)
    (each-map_from (λ y. AllByRecursion (λ z. IsBefore (pair y) (pair z)) (flat_map_from mpus_of (n + 1) xs)) (placed_in n x) 0 x.mpus
    (λ b mpu l. each-flat_map_from (λ z. IsBefore (n, b) (pair z)) mpus_of (n + 1) xs no_asset
    (λ j lj. each-map_from (λ z. IsBefore (n, b) (pair z)) (placed_in (n + 1 + j) (get_or xs j no_asset)) 0 (get_or xs j no_asset).mpus (λ i y li. inl (omega arith)))))

pub mpus-rise : (programme : Programme) → Rise (all_mpus programme)
unfolding all_mpus
mpus-rise programme = rise-assets 0 programme.assets

-- ---- pairs

differ-before : (p q : ℕ × ℕ) → IsBefore p q → is_same_pair p q ≡ false
differ-before p q (inl l) = and_left (p.0 == q.0) (p.1 == q.1) (ne_eqb p.0 q.0 (λ e. omega arith))
differ-before p q (inr r) = and_right (p.0 == q.0) (p.1 == q.1) (ne_eqb p.1 q.1 (λ e. omega (arith, r.1)))

differ-after : (p q : ℕ × ℕ) → IsBefore p q → is_same_pair q p ≡ false
differ-after p q (inl l) = and_left (q.0 == p.0) (q.1 == p.1) (ne_eqb q.0 p.0 (λ e. omega arith))
differ-after p q (inr r) = and_right (q.0 == p.0) (q.1 == p.1) (ne_eqb q.1 p.1 (λ e. omega (arith, r.1)))

before-through : (p q r : ℕ × ℕ) → IsBefore p q → IsBefore q r → IsBefore p r
before-through p q r (inl a) (inl b) = inl (omega arith)
before-through p q r (inl a) (inr b) = inl (omega (arith, b.0))
before-through p q r (inr a) (inl b) = inl (omega (arith, a.0))
before-through p q r (inr a) (inr b) = inr (a.0 ∙ b.0, omega (arith, a.1, b.1))

-- ---- the MPU of a name

abbrev pub pick : List PlacedMpu → ℕ × ℕ → PlacedMpu
pick ms name = get_or ms (place_of_mpu ms name) no_placed_mpu

pick-head : (x : PlacedMpu) (xs : List PlacedMpu) (name : ℕ × ℕ) → is_same_pair (pair x) name ≡ true → pick (x ∷ xs) name ≡ x
unfolding place_of_mpu
pick-head x xs name t = ap (λ (b : Bool). get_or (x ∷ xs) (cond b 0 (suc (place_of_mpu xs name))) no_placed_mpu) t

pick-tail : (x : PlacedMpu) (xs : List PlacedMpu) (name : ℕ × ℕ) → is_same_pair (pair x) name ≡ false → pick (x ∷ xs) name ≡ pick xs name
unfolding place_of_mpu
pick-tail x xs name f = ap (λ (b : Bool). get_or (x ∷ xs) (cond b 0 (suc (place_of_mpu xs name))) no_placed_mpu) f

picks-tail : (x : PlacedMpu) (xs : List PlacedMpu) (names : List (ℕ × ℕ)) → AllByRecursion (λ n. is_same_pair (pair x) n ≡ false) names → map (pick (x ∷ xs)) names ≡ map (pick xs) names
picks-tail x xs [] e = refl
picks-tail x xs (n ∷ ns) e = ap₂ (λ y l. y ∷ l) (pick-tail x xs n e.0) (picks-tail x xs ns e.1)

-- ---- which MPUs are named

not-named : (x : PlacedMpu) (names : List (ℕ × ℕ)) → AllByRecursion (λ n. is_same_pair (pair x) n ≡ false) names → is_named_by names x ≡ false
unfolding is_named_by
not-named x [] e = refl
not-named x (n ∷ ns) e = ap (λ (b : Bool). b || list_any (is_same_pair (pair x)) ns) e.0 ∙ not-named x ns e.1

-- MPUs that are none of a name are named by the others alone
skip-name : (n : ℕ × ℕ) (ns : List (ℕ × ℕ)) (xs : List PlacedMpu) → AllByRecursion (λ (y : PlacedMpu). is_same_pair (pair y) n ≡ false) xs → filter (is_named_by (n ∷ ns)) xs ≡ filter (is_named_by ns) xs
unfolding is_named_by
skip-name n ns [] e = refl
skip-name n ns (x ∷ xs) e =
    ap (λ (b : Bool). cond (b || list_any (is_same_pair (pair x)) ns) (x ∷ filter (is_named_by (n ∷ ns)) xs) (filter (is_named_by (n ∷ ns)) xs)) e.0
    ∙ ap (λ l. cond (list_any (is_same_pair (pair x)) ns) (x ∷ l) l) (skip-name n ns xs e.1)

none-filter : (xs : List PlacedMpu) → filter (is_named_by []) xs ≡ []
unfolding is_named_by
none-filter [] = refl
none-filter (x ∷ xs) = none-filter xs

-- a name is that of an MPU of a list
pub record IsNameIn (ms : List PlacedMpu) (name : ℕ × ℕ) : Type 0 where
  pub mpu : PlacedMpu
  pub here : IsIn mpu ms
  pub same : pair mpu ≡ name

same-pair : (p q : ℕ × ℕ) → p ≡ q → is_same_pair p q ≡ true
same-pair p q e = and_from (p.0 == q.0) (p.1 == q.1) (eq-eqb p.0 q.0 (ap (λ (z : ℕ × ℕ). z.0) e)) (eq-eqb p.1 q.1 (ap (λ (z : ℕ × ℕ). z.1) e))

names-later : (x : PlacedMpu) (xs : List PlacedMpu) (names : List (ℕ × ℕ)) → AllByRecursion (λ n. is_same_pair (pair x) n ≡ false) names → AllByRecursion (IsNameIn (x ∷ xs)) names → AllByRecursion (IsNameIn xs) names
names-later x xs [] d k = tt
names-later x xs (n ∷ ns) d k = (later k.0.here, names-later x xs ns d.1 k.1)
  where
    later : (x ≡ k.0.mpu) ⊎ IsIn k.0.mpu xs → IsNameIn xs n
    later (inl e) = absurd (true≢false (sym (same-pair (pair x) n (ap pair e ∙ k.0.same)) ∙ d.0))
    later (inr i) = record { mpu = k.0.mpu; here = i; same = k.0.same }

-- what is before a pair is so of an equal one
moved : (p q r : ℕ × ℕ) → p.0 ≡ q.0 → p.1 ≡ q.1 → IsBefore q r → IsBefore p r
moved p q r e0 e1 (inl l) = inl (omega arith)
moved p q r e0 e1 (inr s) = inr (e0 ∙ s.0, omega (arith, e1, s.1))

named-head : (x : PlacedMpu) (xs : List PlacedMpu) (n : ℕ × ℕ) (ns : List (ℕ × ℕ)) → is_same_pair (pair x) n ≡ true → filter (is_named_by (n ∷ ns)) (x ∷ xs) ≡ x ∷ filter (is_named_by (n ∷ ns)) xs
unfolding is_named_by
named-head x xs n ns t = ap (λ (b : Bool). cond (b || list_any (is_same_pair (pair x)) ns) (x ∷ filter (is_named_by (n ∷ ns)) xs) (filter (is_named_by (n ∷ ns)) xs)) t

pub picked : (ms : List PlacedMpu) (names : List (ℕ × ℕ)) → Rise ms → AreRising names → AllByRecursion (IsNameIn ms) names → filter (is_named_by names) ms ≡ map (pick ms) names
picked [] [] r a k = refl
picked [] (n ∷ ns) r a k = absurd k.0.here
picked (x ∷ xs) [] r a k = none-filter (x ∷ xs)
picked (x ∷ xs) (n ∷ ns) r a k =
    ⊎_elim
    (λ (t : is_same_pair (pair x) n ≡ true).
    (let p = and_parts (x.asset == n.0) (x.mpu == n.1) t in
    let at : IsBefore (pair x) n → ⊥ = λ b. true≢false (sym t ∙ differ-before (pair x) n b) in
    let e0 : x.asset ≡ n.0 = eqb-true x.asset n.0 p.0 in
    let e1 : x.mpu ≡ n.1 = eqb-true x.mpu n.1 p.1 in
    let others : AllByRecursion (λ m. is_same_pair (pair x) m ≡ false) ns = each-weaker (IsBefore n) (λ m. is_same_pair (pair x) m ≡ false) ns (λ m b. differ-before (pair x) m (moved (pair x) n m e0 e1 b)) (recursion_from_All (IsBefore n) ns a.0) in
    let apart : AllByRecursion (λ (y : PlacedMpu). is_same_pair (pair y) n ≡ false) xs = each-weaker (λ (y : PlacedMpu). IsBefore (pair x) (pair y)) (λ (y : PlacedMpu). is_same_pair (pair y) n ≡ false) xs (λ y b. differ-after n (pair y) (moved n (pair x) (pair y) (sym e0) (sym e1) b)) r.0 in
    named-head x xs n ns t
    ∙ ap₂ (λ y l. y ∷ l) (sym (pick-head x xs n t)) (skip-name n ns xs apart ∙ (picked xs ns r.1 a.1 (names-later x xs ns others k.1) ∙ sym (picks-tail x xs ns others)))))
    (λ (f : is_same_pair (pair x) n ≡ false).
    (let first : IsNameIn xs n = (names-later x xs (n ∷ []) (f, tt) (k.0, tt)).0 in
    let b : IsBefore (pair x) n = subst (IsBefore (pair x)) first.same (each-in (λ (y : PlacedMpu). IsBefore (pair x) (pair y)) first.mpu xs r.0 first.here) in
    let none : AllByRecursion (λ m. is_same_pair (pair x) m ≡ false) (n ∷ ns) = (f, each-weaker (IsBefore n) (λ m. is_same_pair (pair x) m ≡ false) ns (λ m c. differ-before (pair x) m (before-through (pair x) n m b c)) (recursion_from_All (IsBefore n) ns a.0)) in
    ap (λ (t : Bool). cond t (x ∷ filter (is_named_by (n ∷ ns)) xs) (filter (is_named_by (n ∷ ns)) xs)) (not-named x (n ∷ ns) none)
    ∙ (picked xs (n ∷ ns) r.1 a (names-later x xs (n ∷ ns) none k) ∙ sym (picks-tail x xs (n ∷ ns) none))))
    (cases_Bool (is_same_pair (pair x) n))
