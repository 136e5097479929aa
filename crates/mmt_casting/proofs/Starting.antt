-- The places of MPUs among all, by their places in their assets.
use Rattle.std.proofs.Common.{◌≡◌, ℕ, ◌+◌, ◌<◌, ◌≤◌, ◌^◌, suc, zero, List, [], ◌∷◌, ◌++◌, map, length, get_or, take, arith, refl, ap, ap₂, sym, ◌∙◌}
use Rattle.std.specs.List.{sum_by}
use Rattle.std.proofs.lemmas.List.{length-append, length-map, map-append, take_more}
use Rattle.std.proofs.lemmas.List.Sums.{sum_by-append, sum_by-cons}
use Rattle.mmt_cast.proofs.FromRight.{ticks-fit}
use Rattle.mmt_cast.proofs.Listing.{at-map_from_0, length-map_from}
use Rattle.mmt_cast.proofs.Placed.{known-place, mpu-place}
use Rattle.mmt_cast.specs.Casting.{place_of_mpu}
use Rattle.mmt_cast.specs.Placing.{PlacedMpu, all_mpus, flat_map_from, map_from, mpus_of}
use Rattle.mmt_cast.specs.Right.{mpu_at, no_mpu, no_placed_mpu}
use Rattle.mmt_casting.specs.Places.{placed_in}
use Rattle.mmt_casting.specs.Spans.{start_of, starts}
use Rattle.mmt_frag.proofs.PartsJoined.{length-numbers}
use Rattle.mmt_model.specs.Carrying.{numbers}
use Rattle.mmt_model.specs.Right.{IsKnown, IsRight, no_asset}
use Rattle.mmt_model.specs.declared.programmes.Asset.{Asset}
use Rattle.mmt_model.specs.declared.programmes.Programme.{Programme}

-- ---- lists

pub get-left : {X : Type 0} (xs ys : List X) (i : ℕ) (d : X) → i < length xs → get_or (xs ++ ys) i d ≡ get_or xs i d
get-left [] ys i d l = absurd (omega arith)
get-left (x ∷ xs) ys zero d l = refl
get-left (x ∷ xs) ys (suc i) d l = get-left xs ys i d (omega arith)

pub get-right : {X : Type 0} (xs ys : List X) (i : ℕ) (d : X) → get_or (xs ++ ys) (length xs + i) d ≡ get_or ys i d
get-right [] ys i d = let z : 0 + i ≡ i = omega arith in ap (λ k. get_or ys k d) z
get-right (x ∷ xs) ys i d = let s : suc (length xs) + i ≡ suc (length xs + i) = omega arith in ap (λ k. get_or (x ∷ (xs ++ ys)) k d) s ∙ get-right xs ys i d

pub get-numbers : (f : ℕ → ℕ) (j n i d : ℕ) → i < n → get_or (map f (numbers j n)) i d ≡ f (j + i)
unfolding numbers
get-numbers f j zero i d l = absurd (omega arith)
get-numbers f j (suc n) zero d l = let z : j ≡ j + 0 = omega arith in ap f z
get-numbers f j (suc n) (suc i) d l = let s : j + 1 + i ≡ j + suc i = omega arith in get-numbers f (j + 1) n i d (omega arith) ∙ ap f s

-- ---- where an asset's MPUs begin

mpus_in : Asset → ℕ
mpus_in x = length x.mpus

pub start-more : (programme : Programme) (a : ℕ) (d : Asset) → a < length programme.assets → start_of programme (a + 1) ≡ start_of programme a + length (get_or programme.assets a d).mpus
start-more programme a d l =
    let one = sum_by-cons (λ (x : Asset). length x.mpus) (get_or programme.assets a d) [] in
    ap (sum_by (λ (x : Asset). length x.mpus)) (take_more programme.assets a d l)
    ∙ (sum_by-append (λ (x : Asset). length x.mpus) (take a programme.assets) (get_or programme.assets a d ∷ []) ∙ omega (arith, one))

-- the MPU at the place where its asset's MPUs begin and its own there
at-start : (xs : List Asset) (n a b : ℕ) → a < length xs → b < length (get_or xs a no_asset).mpus
    → (sum_by (λ (x : Asset). length x.mpus) (take a xs) + b < length (flat_map_from mpus_of n xs))
    × (get_or (flat_map_from mpus_of n xs) (sum_by (λ (x : Asset). length x.mpus) (take a xs) + b) no_placed_mpu ≡ placed_in (n + a) (get_or xs a no_asset) b (get_or (get_or xs a no_asset).mpus b no_mpu))
unfolding flat_map_from mpus_of
at-start [] n a b la lb = absurd (omega arith)
at-start (x ∷ xs) n zero b la lb =
    let own : List PlacedMpu = map_from (placed_in n x) 0 x.mpus in
    let long = length-map_from (placed_in n x) 0 x.mpus in
    let z : 0 + b ≡ b = omega arith in
    let y : n ≡ n + 0 = omega arith in (
      omega (arith, lb, long, length-append own (flat_map_from mpus_of (n + 1) xs)),
      ap (λ k. get_or (own ++ flat_map_from mpus_of (n + 1) xs) k no_placed_mpu) z
          ∙ (get-left own (flat_map_from mpus_of (n + 1) xs) b no_placed_mpu (omega (arith, lb, long))
          ∙ (at-map_from_0 (placed_in n x) x.mpus b no_mpu no_placed_mpu lb ∙ ap (λ m. placed_in m x b (get_or x.mpus b no_mpu)) y)),
    )
at-start (x ∷ xs) n (suc a) b la lb =
    let own : List PlacedMpu = map_from (placed_in n x) 0 x.mpus in
    let later : List PlacedMpu = flat_map_from mpus_of (n + 1) xs in
    let long = length-map_from (placed_in n x) 0 x.mpus in
    let s : ℕ = sum_by (λ (y : Asset). length y.mpus) (take a xs) in
    let r = at-start xs (n + 1) a b (omega arith) lb in
    let e = sum_by-cons (λ (y : Asset). length y.mpus) x (take a xs) in
    let i : sum_by (λ (y : Asset). length y.mpus) (x ∷ take a xs) + b ≡ length own + (s + b) = omega (arith, e, long) in
    let t : n + 1 + a ≡ n + suc a = omega arith in (
      omega (arith, i, r.0, length-append own later),
      ap (λ k. get_or (own ++ later) k no_placed_mpu) i
          ∙ (get-right own later (s + b) no_placed_mpu
          ∙ (r.1 ∙ ap (λ m. placed_in m (get_or xs a no_asset) b (get_or (get_or xs a no_asset).mpus b no_mpu)) t)),
    )

-- the place of a name
pub place-is : (programme : Programme) (name : ℕ × ℕ) → IsKnown programme.assets name → start_of programme name.0 + name.1 ≡ place_of_mpu (all_mpus programme) name
unfolding mpu_at all_mpus
place-is programme name known =
    let m : ℕ = start_of programme name.0 + name.1 in
    let r = at-start programme.assets 0 name.0 name.1 known.0 known.1 in
    let a : (get_or (flat_map_from mpus_of 0 programme.assets) m no_placed_mpu).asset ≡ name.0 = ap (λ (x : PlacedMpu). x.asset) r.1 ∙ omega arith in
    let b : (get_or (flat_map_from mpus_of 0 programme.assets) m no_placed_mpu).mpu ≡ name.1 = ap (λ (x : PlacedMpu). x.mpu) r.1 in
    sym (mpu-place programme m r.0) ∙ ap₂ (λ x y. place_of_mpu (flat_map_from mpus_of 0 programme.assets) (x, y)) a b

pub place-known : (programme : Programme) → IsRight programme → (name : ℕ × ℕ) → IsKnown programme.assets name → start_of programme name.0 + name.1 < 2 ^ 32
place-known programme right name known = omega (arith, place-is programme name known, known-place programme name known, (ticks-fit programme right).few_mpus)

pub start-read : (programme : Programme) (xs : List ℕ) (a d : ℕ) → xs ≡ starts programme → a < length programme.assets → get_or xs a d ≡ start_of programme a
start-read programme xs a d e l =
    let z : 0 + a ≡ a = omega arith in
    ap (λ ys. get_or ys a d) e ∙ (get-numbers (start_of programme) 0 (length programme.assets) a d l ∙ ap (start_of programme) z)

pub starts-long : (programme : Programme) (xs : List ℕ) → xs ≡ starts programme → length xs ≡ length programme.assets
starts-long programme xs e = ap length e ∙ (length-map (numbers 0 (length programme.assets)) (start_of programme) ∙ length-numbers 0 (length programme.assets))

-- the places of N names
pub places-more : (f : ℕ × ℕ → ℕ) (names : List (ℕ × ℕ)) (i : ℕ) (d : ℕ × ℕ) (places places' : List ℕ) (p : ℕ) → i < length names → places ≡ map f (take i names) → places' ≡ places ++ p ∷ [] → p ≡ f (get_or names i d) → places' ≡ map f (take (i + 1) names)
places-more f names i d places places' p l before push is =
    push ∙ (ap₂ (λ xs x. xs ++ x ∷ []) before is ∙ sym (ap (map f) (take_more names i d l) ∙ map-append f (take i names) (get_or names i d ∷ [])))

front-sum : (k n : ℕ) (xs : List Asset) → sum_by (λ (x : Asset). length x.mpus) (take k xs) ≤ length (flat_map_from mpus_of n xs)
unfolding flat_map_from mpus_of
front-sum zero n xs = omega arith
front-sum (suc k) n [] = omega arith
front-sum (suc k) n (x ∷ xs) =
    omega (
      arith,
      sum_by-cons (λ (y : Asset). length y.mpus) x (take k xs),
      front-sum k (n + 1) xs,
      length-append (map_from (placed_in n x) 0 x.mpus) (flat_map_from mpus_of (n + 1) xs),
      length-map_from (placed_in n x) 0 x.mpus,
    )

pub start-few : (programme : Programme) → IsRight programme → (a : ℕ) → start_of programme a < 2 ^ 32
unfolding all_mpus
start-few programme right a = omega (arith, front-sum a 0 programme.assets, (ticks-fit programme right).few_mpus)
