-- What a receiver reads in a table that is sent.
use Rattle.std.proofs.Common.{◌≡◌, ℕ, ◌+◌, ◌<◌, zero, suc, Bool, true, false, cond, List, [], ◌∷◌, ◌++◌, map, length, get_or, arith, refl, ap, ap₂, sym, ◌∙◌, subst}
use Rattle.std.specs.List.{AllByRecursion, filter, flat_map}
use Rattle.std.proofs.lemmas.List.{map-append}
use Rattle.std.proofs.lemmas.List.Elements.{filter-append}
use Rattle.mmt_cast.proofs.Descriptors.{NumbersDiffer}
use Rattle.mmt_cast.proofs.Listing.{each-back, each-front, map-map}
use Rattle.mmt_cast.proofs.Naming.{names-of-asset}
use Rattle.mmt_cast.proofs.Placed.{each-map_from, known-in, named_mpu, placed_in}
use Rattle.mmt_cast.proofs.Rising.{IsNameIn, mpus-rise, pick, picked}
use Rattle.mmt_cast.specs.Placing.{PlacedMpu, all_mpus, entry_of_mpu, flat_map_from, map_from, mpus_of}
use Rattle.mmt_cast.specs.Right.{mpu_at, no_mpu, no_placed_mpu}
use Rattle.mmt_cast.specs.SentTables.{sent_asset, sent_table}
use Rattle.mmt_cast.specs.Tables.{is_named_by, named_of_asset}
use Rattle.mmt_cast.specs.TablesRead.{FitsTable, TablesAreRead}
use Rattle.mmt_model.specs.Right.{IsKnown, no_asset}
use Rattle.mmt_model.specs.declared.programmes.Asset.{Asset}
use Rattle.mmt_model.specs.declared.programmes.Mpu.{Mpu}
use Rattle.mmt_model.specs.declared.programmes.Programme.{Programme}
use Rattle.mmt_mpt.specs.Asset.{asset_bytes, placed_assets}
use Rattle.mmt_mpt.specs.Table.{assets_place}
use Rattle.mmt_times.specs.NamesOf.{IsEntry, NamedValue, names_of, names_of_asset}

pub each-filter : {X : Type 0} (P : X → Type 0) (t : X → Bool) (xs : List X) → AllByRecursion P xs → AllByRecursion P (filter t xs)
each-filter P t [] e = tt
each-filter {X} P t (x ∷ xs) e = go (t x) (each-filter P t xs e.1)
  where
    go : (b : Bool) → AllByRecursion P (filter t xs) → AllByRecursion P (cond b (x ∷ filter t xs) (filter t xs))
    go true ih = (e.0, ih)
    go false ih = ih

differ-filter : (t : PlacedMpu → Bool) (ms : List PlacedMpu) → NumbersDiffer ms → NumbersDiffer (filter t ms)
differ-filter t [] d = tt
differ-filter t (m ∷ ms) d = go (t m) (differ-filter t ms d.1)
  where
    go : (b : Bool) → NumbersDiffer (filter t ms) → NumbersDiffer (cond b (m ∷ filter t ms) (filter t ms))
    go true ih = (each-filter (λ (y : PlacedMpu). y.value.number ≡ m.value.number → ⊥) t ms d.0, ih)
    go false ih = ih

-- the numbers of an asset's MPUs differ
abbrev AreOne : List Mpu → Type 0
AreOne ms = (b c : ℕ) → b < length ms → c < length ms → (get_or ms b no_mpu).number ≡ (get_or ms c no_mpu).number → b ≡ c

later-differ : (a : ℕ) (asset : Asset) (n : ℕ) (m : Mpu) (ms : List Mpu) → ((c : ℕ) → c < length ms → (get_or ms c no_mpu).number ≡ m.number → ⊥) → AllByRecursion (λ (y : PlacedMpu). y.value.number ≡ m.number → ⊥) (map_from (placed_in a asset) n ms)
unfolding map_from
later-differ a asset n m [] h = tt
later-differ a asset n m (x ∷ xs) h = (h 0 (omega arith), later-differ a asset (n + 1) m xs (λ c l. h (suc c) (omega arith)))

numbers-differ : (a : ℕ) (asset : Asset) (n : ℕ) (ms : List Mpu) → AreOne ms → NumbersDiffer (map_from (placed_in a asset) n ms)
unfolding map_from
numbers-differ a asset n [] one = tt
numbers-differ a asset n (x ∷ xs) one = (
  later-differ a asset (n + 1) x xs (λ c l e. (let z = one (suc c) 0 (omega arith) (omega arith) e in omega (arith, z))),
  numbers-differ a asset (n + 1) xs (λ b c lb lc e. (let z = one (suc b) (suc c) (omega arith) (omega arith) e in omega (arith, z))),
)

-- what each asset's MPUs have
pub record AreReadable (names : List (ℕ × ℕ)) (a : ℕ) (asset : Asset) : Type 0 where
  pub fit : AllByRecursion FitsTable (named_of_asset names a asset)
  pub differ : NumbersDiffer (named_of_asset names a asset)
  pub inside : AllByRecursion (λ (m : PlacedMpu). m.in_asset ≡ asset) (named_of_asset names a asset)

readable : (names : List (ℕ × ℕ)) (a : ℕ) (asset : Asset) → AllByRecursion FitsTable (mpus_of a asset) → AreOne asset.mpus → AreReadable names a asset
unfolding mpus_of named_of_asset
readable names a asset f one =
    let ms : List PlacedMpu = map_from (placed_in a asset) 0 asset.mpus in
    record {
      fit = each-filter FitsTable (is_named_by names) ms f;
      differ = differ-filter (is_named_by names) ms (numbers-differ a asset 0 asset.mpus one);
      inside = each-filter (λ (m : PlacedMpu). m.in_asset ≡ asset) (is_named_by names) ms (each-map_from (λ (m : PlacedMpu). m.in_asset ≡ asset) (placed_in a asset) 0 asset.mpus (λ i x l. refl));
    }

pub each-block : (P : PlacedMpu → Type 0) (n : ℕ) (assets : List Asset) (j : ℕ) → AllByRecursion P (flat_map_from mpus_of n assets) → j < length assets → AllByRecursion P (mpus_of (n + j) (get_or assets j no_asset))
unfolding flat_map_from
each-block P n [] j e l = absurd (omega arith)
each-block P n (x ∷ xs) zero e l = let z : n ≡ n + 0 = omega arith in subst (λ a. AllByRecursion P (mpus_of a x)) z (each-front P (mpus_of n x) (flat_map_from mpus_of (n + 1) xs) e)
each-block P n (x ∷ xs) (suc j) e l =
    let s : n + 1 + j ≡ n + suc j = omega arith in
    subst (λ a. AllByRecursion P (mpus_of a (get_or xs j no_asset))) s (each-block P (n + 1) xs j (each-back P (mpus_of n x) (flat_map_from mpus_of (n + 1) xs) e) (omega arith))

-- the names of the assets from a place on
assets-names : (configured at : ℕ) (names : List (ℕ × ℕ)) (n : ℕ) (assets : List Asset) → ((j : ℕ) → j < length assets → AreReadable names (n + j) (get_or assets j no_asset))
    → flat_map (names_of_asset configured) (placed_assets at (map_from (sent_asset names) n assets)) ≡ map (λ m. IsEntry (entry_of_mpu m)) (filter (is_named_by names) (flat_map_from mpus_of n assets))
unfolding map_from flat_map_from named_of_asset
assets-names configured at names n [] h = refl
assets-names configured at names n (x ∷ xs) h =
    let z : n + 0 ≡ n = omega arith in
    let r : AreReadable names n x = subst (λ a. AreReadable names a x) z (h 0 (omega arith)) in
    let later = assets-names configured (at + length (asset_bytes (sent_asset names n x))) names (n + 1) xs
    (λ j l. (let s : n + suc j ≡ n + 1 + j = omega arith in subst (λ a. AreReadable names a (get_or xs j no_asset)) s (h (suc j) (omega arith)))) in
    ap₂ (λ (a b : List NamedValue). a ++ b) (names-of-asset configured at names n x r.fit r.differ r.inside) later
    ∙ (sym (map-append (λ m. IsEntry (entry_of_mpu m)) (filter (is_named_by names) (mpus_of n x)) (filter (is_named_by names) (flat_map_from mpus_of (n + 1) xs)))
    ∙ ap (map (λ m. IsEntry (entry_of_mpu m))) (sym (filter-append (is_named_by names) (mpus_of n x) (flat_map_from mpus_of (n + 1) xs))))

names-in : (programme : Programme) (names : List (ℕ × ℕ)) → AllByRecursion (IsKnown programme.assets) names → AllByRecursion (IsNameIn (all_mpus programme)) names
names-in programme [] k = tt
names-in programme (n ∷ ns) k = (record { mpu = named_mpu programme n; here = known-in programme n k.0; same = refl }, names-in programme ns k.1)

pub index-each : {X : Type 0} (P : X → Type 0) (xs : List X) (d : X) → ((i : ℕ) → i < length xs → P (get_or xs i d)) → AllByRecursion P xs
index-each P [] d h = tt
index-each P (x ∷ xs) d h = (h 0 (omega arith), index-each P xs d (λ i l. h (suc i) (omega arith)))

pub tables-read : TablesAreRead
unfolding names_of sent_table all_mpus mpu_at
tables-read programme right fit configured version names rising known =
    let fits : AllByRecursion FitsTable (all_mpus programme) = index-each FitsTable (all_mpus programme) no_placed_mpu fit in
    assets-names configured (assets_place programme.«package» []) names 0 programme.assets
    (λ j l. (let z : j ≡ 0 + j = omega arith in readable names (0 + j) (get_or programme.assets j no_asset) (each-block FitsTable 0 programme.assets j fits l) (λ b c lb lc e. right.one_number j b c l lb lc e)))
    ∙ (ap (map (λ m. IsEntry (entry_of_mpu m))) (picked (all_mpus programme) names (mpus-rise programme) rising (names-in programme names known))
    ∙ map-map (λ m. IsEntry (entry_of_mpu m)) (pick (all_mpus programme)) names)
