-- The MPUs of an asset that a table names are those that its names stand for, in their order.
use Rattle.std.proofs.Common.{◌≡◌, ℕ, ◌+◌, ◌<◌, zero, suc, Bool, true, false, ◌==◌, ◌||◌, inr, cond, List, [], ◌∷◌, map, length, get_or, arith, refl, ap, ap₂, sym, ◌∙◌, subst}
use Rattle.std.specs.List.{AllByRecursion, filter, list_any}
use Rattle.std.proofs.lemmas.Bool.{and_from, and_left, and_right, eq-eqb, eqb-true, ne_eqb, eqb-false}
use Rattle.std.proofs.lemmas.List.Elements.{All-filter, All-from_recursion}
use Rattle.mmt_cast.proofs.Listing.{IsIn, at-map_from_0, in-at, length-map_from}
use Rattle.mmt_cast.proofs.Placed.{each-map_from, placed_in}
use Rattle.mmt_cast.proofs.Rising.{IsNameIn, Rise, pair, pick, picked}
use Rattle.mmt_cast.specs.Casting.{place_of_mpu}
use Rattle.mmt_cast.specs.Placing.{PlacedMpu, map_from, mpus_of}
use Rattle.mmt_cast.specs.Right.{no_mpu, no_placed_mpu}
use Rattle.mmt_cast.specs.SentTables.{sent_asset}
use Rattle.mmt_cast.specs.Tables.{asset_length, descriptors_length, is_named_by, is_same_pair, named_of_asset}
use Rattle.mmt_model.specs.Right.{AreRising, IsBefore, IsKnown, no_asset}
use Rattle.mmt_model.specs.declared.programmes.Asset.{Asset}
use Rattle.mmt_model.specs.declared.programmes.Mpu.{Mpu}
use Rattle.mmt_signals.specs.Named.{HasAll, is_of, listed_asset, named, named_mpu, names_of}

-- ---- only the names of an asset name its MPUs

own-names : (m : PlacedMpu) (names : List (ℕ × ℕ)) → list_any (is_same_pair (m.asset, m.mpu)) names ≡ list_any (is_same_pair (m.asset, m.mpu)) (names_of m.asset names)
own-names m [] = refl
own-names m (x ∷ xs) = go (x.0 == m.asset) refl (own-names m xs)
  where
    go : (t : Bool) → (x.0 == m.asset) ≡ t → list_any (is_same_pair (m.asset, m.mpu)) xs ≡ list_any (is_same_pair (m.asset, m.mpu)) (names_of m.asset xs)
        → (is_same_pair (m.asset, m.mpu) x || list_any (is_same_pair (m.asset, m.mpu)) xs) ≡ list_any (is_same_pair (m.asset, m.mpu)) (cond t (x ∷ names_of m.asset xs) (names_of m.asset xs))
    go true e ih = ap (λ (b : Bool). is_same_pair (m.asset, m.mpu) x || b) ih
    go false e ih = ap (λ (b : Bool). b || list_any (is_same_pair (m.asset, m.mpu)) xs) (and_left (m.asset == x.0) (m.mpu == x.1) (ne_eqb m.asset x.0 (λ s. eqb-false x.0 m.asset e (sym s)))) ∙ ih

own-filter : (a : ℕ) (asset : Asset) (names : List (ℕ × ℕ)) (n : ℕ) (mpus : List Mpu) → filter (is_named_by names) (map_from (placed_in a asset) n mpus) ≡ filter (is_named_by (names_of a names)) (map_from (placed_in a asset) n mpus)
unfolding map_from is_named_by
own-filter a asset names n [] = refl
own-filter a asset names n (x ∷ xs) =
    ap₂ (λ (t : Bool) (l : List PlacedMpu). cond t (placed_in a asset n x ∷ l) l) (own-names (placed_in a asset n x) names) (own-filter a asset names (n + 1) xs)

-- ---- the MPU of a name

rise-block : (a : ℕ) (asset : Asset) (n : ℕ) (mpus : List Mpu) → Rise (map_from (placed_in a asset) n mpus)
unfolding map_from
rise-block a asset n [] = tt
rise-block a asset n (x ∷ xs) = (each-map_from (λ y. IsBefore (a, n) (pair y)) (placed_in a asset) (n + 1) xs (λ i y l. inr (refl, omega arith)), rise-block a asset (n + 1) xs)

place-of : (a : ℕ) (asset : Asset) (n : ℕ) (mpus : List Mpu) (j : ℕ) → j < length mpus → place_of_mpu (map_from (placed_in a asset) n mpus) (a, n + j) ≡ j
unfolding map_from place_of_mpu
place-of a asset n [] j l = absurd (omega arith)
place-of a asset n (x ∷ xs) zero l =
    ap (λ (t : Bool). cond t 0 (suc (place_of_mpu (map_from (placed_in a asset) (n + 1) xs) (a, n + 0)))) (and_from (a == a) (n == n + 0) (eq-eqb a a refl) (eq-eqb n (n + 0) (omega arith)))
place-of a asset n (x ∷ xs) (suc j) l =
    let s : n + 1 + j ≡ n + suc j = omega arith in
    ap (λ (t : Bool). cond t 0 (suc (place_of_mpu (map_from (placed_in a asset) (n + 1) xs) (a, n + suc j)))) (and_right (a == a) (n == n + suc j) (ne_eqb n (n + suc j) (λ e. omega (arith, e))))
    ∙ ap suc (ap (λ k. place_of_mpu (map_from (placed_in a asset) (n + 1) xs) (a, k)) (sym s) ∙ place-of a asset (n + 1) xs j (omega arith))

picks : (asset : Asset) (name : ℕ × ℕ) → name.1 < length asset.mpus → pick (mpus_of name.0 asset) name ≡ named_mpu asset name
unfolding mpus_of
picks asset name l =
    let all : List PlacedMpu = map_from (placed_in name.0 asset) 0 asset.mpus in
    let z : 0 + name.1 ≡ name.1 = omega arith in
    ap (λ k. get_or all k no_placed_mpu) (ap (λ k. place_of_mpu all (name.0, k)) (sym z) ∙ place-of name.0 asset 0 asset.mpus name.1 l)
    ∙ at-map_from_0 (placed_in name.0 asset) asset.mpus name.1 no_mpu no_placed_mpu l

name-in : (asset : Asset) (name : ℕ × ℕ) → name.1 < length asset.mpus → IsNameIn (mpus_of name.0 asset) name
unfolding mpus_of
name-in asset name l =
    record {
      mpu = named_mpu asset name;
      here = subst (λ z. IsIn z (map_from (placed_in name.0 asset) 0 asset.mpus)) (at-map_from_0 (placed_in name.0 asset) asset.mpus name.1 no_mpu no_placed_mpu l)
          (in-at (map_from (placed_in name.0 asset) 0 asset.mpus) name.1 no_placed_mpu (omega (arith, l, length-map_from (placed_in name.0 asset) 0 asset.mpus)));
      same = refl;
    }

-- ---- all names of an asset

-- names are those of MPUs of the asset at a place
abbrev pub AreOf : ℕ → Asset → List (ℕ × ℕ) → Type 0
AreOf a asset names = AllByRecursion (λ (n : ℕ × ℕ). (n.0 ≡ a) × (n.1 < length asset.mpus)) names

names-in : (a : ℕ) (asset : Asset) (names : List (ℕ × ℕ)) → AreOf a asset names → AllByRecursion (IsNameIn (mpus_of a asset)) names
names-in a asset [] e = tt
names-in a asset (x ∷ xs) e = (subst (λ b. IsNameIn (mpus_of b asset) x) e.0.0 (name-in asset x e.0.1), names-in a asset xs e.1)

all-picks : (a : ℕ) (asset : Asset) (names : List (ℕ × ℕ)) → AreOf a asset names → map (pick (mpus_of a asset)) names ≡ named asset names
all-picks a asset [] e = refl
all-picks a asset (x ∷ xs) e = ap₂ (λ y l. y ∷ l) (subst (λ b. pick (mpus_of b asset) x ≡ named_mpu asset x) e.0.0 (picks asset x e.0.1)) (all-picks a asset xs e.1)

rising-filter : (t : ℕ × ℕ → Bool) (xs : List (ℕ × ℕ)) → AreRising xs → AreRising (filter t xs)
rising-filter t [] r = tt
rising-filter t (x ∷ xs) r = go (t x) (rising-filter t xs r.1)
  where
    go : (b : Bool) → AreRising (filter t xs) → AreRising (cond b (x ∷ filter t xs) (filter t xs))
    go true ih = (All-filter t (IsBefore x) xs r.0, ih)
    go false ih = ih

-- the names of an asset that is there are known
pub are_of : (assets : List Asset) (a : ℕ) (names : List (ℕ × ℕ)) → AllByRecursion (IsKnown assets) names → AreOf a (get_or assets a no_asset) (names_of a names)
are_of assets a [] k = tt
are_of assets a (x ∷ xs) k = go (x.0 == a) refl (are_of assets a xs k.1)
  where
    go : (t : Bool) → (x.0 == a) ≡ t → AreOf a (get_or assets a no_asset) (names_of a xs) → AreOf a (get_or assets a no_asset) (cond t (x ∷ names_of a xs) (names_of a xs))
    go true e ih = let s = eqb-true x.0 a e in ((s, subst (λ b. x.1 < length (get_or assets b no_asset).mpus) s k.0.1), ih)
    go false e ih = ih

each-has : (a : ℕ) (asset : Asset) (names : List (ℕ × ℕ)) → AreOf a asset names → AllByRecursion (λ (n : ℕ × ℕ). n.1 < length asset.mpus) names
each-has a asset [] e = tt
each-has a asset (x ∷ xs) e = (e.0.1, each-has a asset xs e.1)

pub has_all : (assets : List Asset) (a : ℕ) (names : List (ℕ × ℕ)) → AllByRecursion (IsKnown assets) names → HasAll (get_or assets a no_asset) (names_of a names)
has_all assets a names k =
    let asset : Asset = get_or assets a no_asset in
    All-from_recursion (λ (n : ℕ × ℕ). n.1 < length asset.mpus) (names_of a names) (each-has a asset (names_of a names) (are_of assets a names k))

-- the MPUs that are named
pub named_are : (assets : List Asset) (a : ℕ) (names : List (ℕ × ℕ)) → AreRising names → AllByRecursion (IsKnown assets) names → named_of_asset names a (get_or assets a no_asset) ≡ named (get_or assets a no_asset) (names_of a names)
unfolding named_of_asset mpus_of
named_are assets a names r k =
    let asset : Asset = get_or assets a no_asset in
    let own = are_of assets a names k in
    own-filter a asset names 0 asset.mpus
    ∙ (picked (map_from (placed_in a asset) 0 asset.mpus) (names_of a names) (rise-block a asset 0 asset.mpus) (rising-filter (is_of a) names r) (names-in a asset (names_of a names) own)
    ∙ all-picks a asset (names_of a names) own)

-- so an asset of a table is that with these MPUs
pub asset_is : (assets : List Asset) (a : ℕ) (names : List (ℕ × ℕ)) → AreRising names → AllByRecursion (IsKnown assets) names
    → sent_asset names a (get_or assets a no_asset) ≡ listed_asset (get_or assets a no_asset) (named (get_or assets a no_asset) (names_of a names))
unfolding sent_asset listed_asset
asset_is assets a names r k = ap (λ (l : List PlacedMpu). listed_asset (get_or assets a no_asset) l) (named_are assets a names r k)

pub size_is : (assets : List Asset) (a : ℕ) (names : List (ℕ × ℕ)) → AreRising names → AllByRecursion (IsKnown assets) names
    → asset_length names a (get_or assets a no_asset) ≡ 17 + length (get_or assets a no_asset).id + descriptors_length (named (get_or assets a no_asset) (names_of a names))
unfolding asset_length
size_is assets a names r k = ap (λ (l : List PlacedMpu). 17 + length (get_or assets a no_asset).id + descriptors_length l) (named_are assets a names r k)
