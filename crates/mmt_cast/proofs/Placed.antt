-- Where MPUs and units stand: each MPU has its own place, and the units of each stand side by side.
use Rattle.std.proofs.Common.{◌≡◌, ℕ, ◌+◌, ◌<◌, ◌≤◌, zero, suc, Bool, true, false, ◌==◌, ◌&&◌, ◌⊎◌, inl, inr, cond, List, [], ◌∷◌, ◌++◌, length, get_or, arith, refl, ap, sym, ◌∙◌, ⊎_elim, subst, true≢false}
use Rattle.std.specs.List.{AllByRecursion}
use Rattle.std.proofs.lemmas.Bool.{and_from, and_parts, cases_Bool, eq-eqb, eqb-true}
use Rattle.mmt_cast.proofs.Listing.{IsIn, at-map_from_0, each-append, each-at, in-at, in-left, in-right, length-map_from}
use Rattle.mmt_cast.specs.Casting.{place_of_mpu}
use Rattle.mmt_cast.specs.Placing.{PlacedMpu, PlacedUnit, all_mpus, all_units, flat_map_from, map_from, mpus_of, units_of}
use Rattle.mmt_cast.specs.Right.{mpu_at, no_mpu, no_placed_mpu, no_placed_unit, unit_at}
use Rattle.mmt_model.specs.Right.{IsKnown, no_asset}
use Rattle.mmt_model.specs.declared.programmes.Asset.{Asset}
use Rattle.mmt_model.specs.declared.programmes.Mpu.{Mpu}
use Rattle.mmt_model.specs.declared.programmes.Programme.{Programme}
use Rattle.mmt_model.specs.declared.programmes.Unit.{Unit as PlannedUnit}

-- ---- what each item of a list made with places has

pub each-map_from : {X Y : Type 0} (P : Y → Type 0) (f : ℕ → X → Y) (n : ℕ) (xs : List X) → ((i : ℕ) (x : X) → n ≤ i → P (f i x)) → AllByRecursion P (map_from f n xs)
unfolding map_from
each-map_from P f n [] h = tt
each-map_from P f n (x ∷ xs) h = (h n x (omega arith), each-map_from P f (n + 1) xs (λ i y l. h i y (omega arith)))

pub each-map_from_at : {X Y : Type 0} (P : Y → Type 0) (f : ℕ → X → Y) (n : ℕ) (xs : List X) (d : X) → ((j : ℕ) → j < length xs → P (f (n + j) (get_or xs j d))) → AllByRecursion P (map_from f n xs)
unfolding map_from
each-map_from_at P f n [] d h = tt
each-map_from_at {X} {Y} P f n (x ∷ xs) d h =
    let z : n + 0 ≡ n = omega arith in
    (subst (λ m. P (f m x)) z (h 0 (omega arith)), each-map_from_at P f (n + 1) xs d (λ j l. (let s : n + suc j ≡ n + 1 + j = omega arith in subst (λ m. P (f m (get_or xs j d))) s (h (suc j) (omega arith)))))

pub each-flat_map_from : {X Y : Type 0} (P : Y → Type 0) (f : ℕ → X → List Y) (n : ℕ) (xs : List X) (d : X) → ((j : ℕ) → j < length xs → AllByRecursion P (f (n + j) (get_or xs j d))) → AllByRecursion P (flat_map_from f n xs)
unfolding flat_map_from
each-flat_map_from P f n [] d h = tt
each-flat_map_from {X} {Y} P f n (x ∷ xs) d h =
    let z : n + 0 ≡ n = omega arith in
    each-append P (f n x) (flat_map_from f (n + 1) xs) (subst (λ m. AllByRecursion P (f m x)) z (h 0 (omega arith)))
    (each-flat_map_from P f (n + 1) xs d (λ j l. (let s : n + suc j ≡ n + 1 + j = omega arith in subst (λ m. AllByRecursion P (f m (get_or xs j d))) s (h (suc j) (omega arith)))))

pub in-flat_map_from : {X Y : Type 0} (f : ℕ → X → List Y) (n : ℕ) (xs : List X) (j : ℕ) (d : X) (y : Y) → j < length xs → IsIn y (f (n + j) (get_or xs j d)) → IsIn y (flat_map_from f n xs)
unfolding flat_map_from
in-flat_map_from f n [] j d y l i = absurd (omega arith)
in-flat_map_from f n (x ∷ xs) zero d y l i = let z : n + 0 ≡ n = omega arith in in-left y (f n x) (flat_map_from f (n + 1) xs) (subst (λ m. IsIn y (f m x)) z i)
in-flat_map_from f n (x ∷ xs) (suc j) d y l i =
    let s : n + suc j ≡ n + 1 + j = omega arith in
    in-right y (f n x) (flat_map_from f (n + 1) xs) (in-flat_map_from f (n + 1) xs j d y (omega arith) (subst (λ m. IsIn y (f m (get_or xs j d))) s i))

-- ---- each MPU has its own place

abbrev pub IsApart : PlacedMpu → PlacedMpu → Type 0
IsApart x y = x.asset ≡ y.asset → x.mpu ≡ y.mpu → ⊥

abbrev pub AreApart : List PlacedMpu → Type 0
AreApart [] = Unit {0}
AreApart (x ∷ xs) = AllByRecursion (IsApart x) xs × AreApart xs

apart-append : (xs ys : List PlacedMpu) → AreApart xs → AreApart ys → AllByRecursion (λ x. AllByRecursion (IsApart x) ys) xs → AreApart (xs ++ ys)
apart-append [] ys ax ay h = ay
apart-append (x ∷ xs) ys ax ay h = (each-append (IsApart x) xs ys ax.0 h.0, apart-append xs ys ax.1 ay h.1)

-- an MPU of an asset with its places
abbrev pub placed_in : ℕ → Asset → ℕ → Mpu → PlacedMpu
placed_in a asset b mpu = record { asset = a; mpu = b; in_asset = asset; value = mpu }

apart-block : (a : ℕ) (asset : Asset) (n : ℕ) (mpus : List Mpu) → AreApart (map_from (placed_in a asset) n mpus)
unfolding map_from
apart-block a asset n [] = tt
apart-block a asset n (x ∷ xs) = (each-map_from (IsApart (placed_in a asset n x)) (placed_in a asset) (n + 1) xs (λ i y l same e. omega arith), apart-block a asset (n + 1) xs)

apart-assets : (n : ℕ) (assets : List Asset) → AreApart (flat_map_from mpus_of n assets)
unfolding flat_map_from mpus_of
apart-assets n [] = tt
apart-assets n (x ∷ xs) =
    apart-append (map_from (placed_in n x) 0 x.mpus) (flat_map_from mpus_of (n + 1) xs) (apart-block n x 0 x.mpus) (apart-assets (n + 1) xs)
    (each-map_from (λ y. AllByRecursion (IsApart y) (flat_map_from mpus_of (n + 1) xs)) (placed_in n x) 0 x.mpus
    (λ b mpu l. each-flat_map_from (IsApart (placed_in n x b mpu)) mpus_of (n + 1) xs no_asset
    (λ j lj. each-map_from (IsApart (placed_in n x b mpu)) (placed_in (n + 1 + j) (get_or xs j no_asset)) 0 (get_or xs j no_asset).mpus (λ i y li same e. omega arith))))

own-place : (ms : List PlacedMpu) (m : ℕ) → AreApart ms → m < length ms → place_of_mpu ms ((get_or ms m no_placed_mpu).asset, (get_or ms m no_placed_mpu).mpu) ≡ m
unfolding place_of_mpu
own-place [] m apart l = absurd (omega arith)
own-place (x ∷ xs) zero apart l = ap (λ (t : Bool). cond t 0 (suc (place_of_mpu xs (x.asset, x.mpu)))) (and_from (x.asset == x.asset) (x.mpu == x.mpu) (eq-eqb x.asset x.asset refl) (eq-eqb x.mpu x.mpu refl))
own-place (x ∷ xs) (suc m) apart l =
    let y : PlacedMpu = get_or xs m no_placed_mpu in
    let differs = each-at (IsApart x) xs m no_placed_mpu apart.0 (omega arith) in
    ⊎_elim
    (λ (t : ((x.asset == y.asset) && (x.mpu == y.mpu)) ≡ true). (let p = and_parts (x.asset == y.asset) (x.mpu == y.mpu) t in absurd (differs (eqb-true x.asset y.asset p.0) (eqb-true x.mpu y.mpu p.1))))
    (λ (f : ((x.asset == y.asset) && (x.mpu == y.mpu)) ≡ false). ap (λ (t : Bool). cond t 0 (suc (place_of_mpu xs (y.asset, y.mpu)))) f ∙ ap suc (own-place xs m apart.1 (omega arith)))
    (cases_Bool ((x.asset == y.asset) && (x.mpu == y.mpu)))

pub mpu-place : (programme : Programme) (m : ℕ) → m < length (all_mpus programme) → place_of_mpu (all_mpus programme) ((mpu_at programme m).asset, (mpu_at programme m).mpu) ≡ m
unfolding mpu_at all_mpus
mpu-place programme m l = own-place (flat_map_from mpus_of 0 programme.assets) m (apart-assets 0 programme.assets) l

-- ---- an MPU is that of its places

abbrev pub IsPlaced : Programme → PlacedMpu → Type 0
IsPlaced programme y = (y.asset < length programme.assets) × (get_or programme.assets y.asset no_asset ≡ y.in_asset) × (y.mpu < length y.in_asset.mpus) × (get_or y.in_asset.mpus y.mpu no_mpu ≡ y.value)

pub placed : (programme : Programme) → AllByRecursion (IsPlaced programme) (all_mpus programme)
unfolding all_mpus mpus_of
placed programme =
    each-flat_map_from (IsPlaced programme) mpus_of 0 programme.assets no_asset
    (λ j l. each-map_from_at (IsPlaced programme) (placed_in (0 + j) (get_or programme.assets j no_asset)) 0 (get_or programme.assets j no_asset).mpus no_mpu
    (λ i li. (omega arith, (let z : 0 + j ≡ j = omega arith in ap (λ k. get_or programme.assets k no_asset) z), omega arith, (let z : 0 + i ≡ i = omega arith in ap (λ k. get_or (get_or programme.assets j no_asset).mpus k no_mpu) z))))

-- ---- an MPU that is known has a place

place-in : (ms : List PlacedMpu) (y : PlacedMpu) → IsIn y ms → place_of_mpu ms (y.asset, y.mpu) < length ms
unfolding place_of_mpu
place-in [] y i = absurd i
place-in (x ∷ xs) y i = go ((x.asset == y.asset) && (x.mpu == y.mpu)) refl i (place-in xs y)
  where
    go : (t : Bool) → ((x.asset == y.asset) && (x.mpu == y.mpu)) ≡ t → (x ≡ y) ⊎ IsIn y xs → (IsIn y xs → place_of_mpu xs (y.asset, y.mpu) < length xs) → cond t 0 (suc (place_of_mpu xs (y.asset, y.mpu))) < suc (length xs)
    go true e i ih = omega arith
    go false e (inl same) ih =
        absurd (true≢false (sym (and_from (x.asset == y.asset) (x.mpu == y.mpu) (eq-eqb x.asset y.asset (ap (λ (z : PlacedMpu). z.asset) same)) (eq-eqb x.mpu y.mpu (ap (λ (z : PlacedMpu). z.mpu) same))) ∙ e))
    go false e (inr later) ih = omega (arith, ih later)

-- the MPU of a name
abbrev pub named_mpu : Programme → ℕ × ℕ → PlacedMpu
named_mpu programme name = placed_in name.0 (get_or programme.assets name.0 no_asset) name.1 (get_or (get_or programme.assets name.0 no_asset).mpus name.1 no_mpu)

pub known-in : (programme : Programme) (name : ℕ × ℕ) → IsKnown programme.assets name → IsIn (named_mpu programme name) (all_mpus programme)
unfolding all_mpus mpus_of
known-in programme name known =
    let asset : Asset = get_or programme.assets name.0 no_asset in
    let y : PlacedMpu = named_mpu programme name in
    let inside : IsIn y (map_from (placed_in name.0 asset) 0 asset.mpus) =
    subst (λ z. IsIn z (map_from (placed_in name.0 asset) 0 asset.mpus)) (at-map_from_0 (placed_in name.0 asset) asset.mpus name.1 no_mpu no_placed_mpu known.1)
    (in-at (map_from (placed_in name.0 asset) 0 asset.mpus) name.1 no_placed_mpu (omega (arith, known.1, length-map_from (placed_in name.0 asset) 0 asset.mpus))) in
    let z : name.0 ≡ 0 + name.0 = omega arith in
    in-flat_map_from mpus_of 0 programme.assets name.0 no_asset y known.0 (subst (λ a. IsIn y (map_from (placed_in a asset) 0 asset.mpus)) z inside)

pub known-place : (programme : Programme) (name : ℕ × ℕ) → IsKnown programme.assets name → place_of_mpu (all_mpus programme) name < length (all_mpus programme)
known-place programme name known = place-in (all_mpus programme) (named_mpu programme name) (known-in programme name known)

-- ---- units

abbrev pub IsPlacedUnit : Programme → PlacedUnit → Type 0
IsPlacedUnit programme x = (x.mpu_place < length (all_mpus programme)) × (mpu_at programme x.mpu_place ≡ x.in_mpu)

pub placed-units : (programme : Programme) → AllByRecursion (IsPlacedUnit programme) (all_units programme)
unfolding all_units units_of mpu_at
placed-units programme =
    each-flat_map_from (IsPlacedUnit programme) units_of 0 (all_mpus programme) no_placed_mpu
    (λ m l. each-map_from (IsPlacedUnit programme) (λ c unit. record { mpu_place = 0 + m; in_mpu = get_or (all_mpus programme) m no_placed_mpu; unit = c; value = unit }) 0 (get_or (all_mpus programme) m no_placed_mpu).value.units
    (λ i y li. (omega arith, (let z : 0 + m ≡ m = omega arith in ap (λ k. get_or (all_mpus programme) k no_placed_mpu) z))))

abbrev pub Climbs : List PlacedUnit → Type 0
Climbs [] = Unit {0}
Climbs (x ∷ xs) = AllByRecursion (λ y. x.mpu_place ≤ y.mpu_place) xs × Climbs xs

climbs-append : (xs ys : List PlacedUnit) → Climbs xs → Climbs ys → AllByRecursion (λ x. AllByRecursion (λ y. x.mpu_place ≤ y.mpu_place) ys) xs → Climbs (xs ++ ys)
climbs-append [] ys cx cy h = cy
climbs-append (x ∷ xs) ys cx cy h = (each-append (λ y. x.mpu_place ≤ y.mpu_place) xs ys cx.0 h.0, climbs-append xs ys cx.1 cy h.1)

-- a unit of an MPU with its places
abbrev unit_in : ℕ → PlacedMpu → ℕ → PlannedUnit → PlacedUnit
unit_in m in_mpu c unit = record { mpu_place = m; in_mpu = in_mpu; unit = c; value = unit }

climbs-block : (m : ℕ) (in_mpu : PlacedMpu) (n : ℕ) (xs : List PlannedUnit) → Climbs (map_from (unit_in m in_mpu) n xs)
unfolding map_from
climbs-block m in_mpu n [] = tt
climbs-block m in_mpu n (x ∷ xs) = (each-map_from (λ y. m ≤ y.mpu_place) (unit_in m in_mpu) (n + 1) xs (λ i y l. omega arith), climbs-block m in_mpu (n + 1) xs)

climbs-mpus : (n : ℕ) (ms : List PlacedMpu) → Climbs (flat_map_from units_of n ms)
unfolding flat_map_from units_of
climbs-mpus n [] = tt
climbs-mpus n (x ∷ xs) =
    climbs-append (map_from (unit_in n x) 0 x.value.units) (flat_map_from units_of (n + 1) xs) (climbs-block n x 0 x.value.units) (climbs-mpus (n + 1) xs)
    (each-map_from (λ y. AllByRecursion (λ z. y.mpu_place ≤ z.mpu_place) (flat_map_from units_of (n + 1) xs)) (unit_in n x) 0 x.value.units
    (λ i y l. each-flat_map_from (λ z. n ≤ z.mpu_place) units_of (n + 1) xs no_placed_mpu
    (λ j lj. each-map_from (λ z. n ≤ z.mpu_place) (unit_in (n + 1 + j) (get_or xs j no_placed_mpu)) 0 (get_or xs j no_placed_mpu).value.units (λ k w lk. omega arith))))

climbs-at : (us : List PlacedUnit) (u v : ℕ) → Climbs us → u ≤ v → v < length us → (get_or us u no_placed_unit).mpu_place ≤ (get_or us v no_placed_unit).mpu_place
climbs-at [] u v c l b = absurd (omega arith)
climbs-at (x ∷ xs) zero zero c l b = omega arith
climbs-at (x ∷ xs) zero (suc v) c l b = each-at (λ y. x.mpu_place ≤ y.mpu_place) xs v no_placed_unit c.0 (omega arith)
climbs-at (x ∷ xs) (suc u) zero c l b = absurd (omega arith)
climbs-at (x ∷ xs) (suc u) (suc v) c l b = climbs-at xs u v c.1 (omega arith) (omega arith)

pub climbs : (programme : Programme) (u v : ℕ) → u ≤ v → v < length (all_units programme) → (unit_at programme u).mpu_place ≤ (unit_at programme v).mpu_place
unfolding all_units unit_at
climbs programme u v l b = climbs-at (flat_map_from units_of 0 (all_mpus programme)) u v (climbs-mpus 0 (all_mpus programme)) l b
