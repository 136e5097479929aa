-- How long the tables of the made programme are at most.
use Rattle.std.proofs.Common.{◌≡◌, ℕ, ◌+◌, ◌*◌, ◌<◌, ◌≤◌, ◌==◌, ◌||◌, nat_lt, Bool, true, false, cond, List, [], ◌∷◌, map, length, arith, ap, sym, ⊎_elim, subst}
use Rattle.std.specs.Int.{div_ceil}
use Rattle.std.specs.List.{AllByRecursion, filter, sum_by}
use Rattle.std.proofs.lemmas.Bool.{and_parts, and_right, cases_Bool, eqb-true, ne_eqb}
use Rattle.std.proofs.lemmas.List.Sums.{sum_by-cons}
use Rattle.mmt_cast.proofs.Listing.{each-map_numbers}
use Rattle.mmt_cast.proofs.Placed.{placed_in}
use Rattle.mmt_cast.specs.Placing.{PlacedMpu, map_from, mpus_of as mpus_placed}
use Rattle.mmt_cast.specs.Tables.{asset_length, descriptors_length, extended_length, is_named_by, is_same_pair, named_of_asset, table_length}
use Rattle.mmt_delivery.proofs.Carried.{length-range}
use Rattle.mmt_made.proofs.MadeLists.{mpu_in, mpus-in}
use Rattle.mmt_made.specs.Generator.{au_of, audio, audio_track, item, made_programme, mpu_of, video, video_track}
use Rattle.mmt_made.specs.declared.tracks.Track.{Track}
use Rattle.mmt_model.specs.Carrying.{numbers}
use Rattle.mmt_model.specs.declared.programmes.Asset.{Asset}
use Rattle.mmt_model.specs.declared.programmes.Mpu.{Mpu}

-- ---- an asset's MPUs that a table names are no more than the names

-- an MPU is the one of a name
abbrev is_it : ℕ × ℕ → PlacedMpu → Bool
is_it name m = is_same_pair (m.asset, m.mpu) name

either-few : (p q : PlacedMpu → Bool) (ms : List PlacedMpu) → length (filter (λ m. p m || q m) ms) ≤ length (filter p ms) + length (filter q ms)
either-few p q [] = omega arith
either-few p q (m ∷ ms) = go (p m) (q m) (either-few p q ms)
  where
    go : (a b : Bool) → length (filter (λ m. p m || q m) ms) ≤ length (filter p ms) + length (filter q ms)
        → length (cond (a || b) (m ∷ filter (λ m. p m || q m) ms) (filter (λ m. p m || q m) ms)) ≤ length (cond a (m ∷ filter p ms) (filter p ms)) + length (cond b (m ∷ filter q ms) (filter q ms))
    go true true ih = omega (arith, ih)
    go true false ih = omega (arith, ih)
    go false true ih = omega (arith, ih)
    go false false ih = ih

none-of : (ms : List PlacedMpu) → length (filter (λ m. false) ms) ≤ 0
none-of [] = omega arith
none-of (m ∷ ms) = none-of ms

names-few : (names : List (ℕ × ℕ)) (ms : List PlacedMpu) → ((name : ℕ × ℕ) → length (filter (is_it name) ms) ≤ 1) → length (filter (is_named_by names) ms) ≤ length names
unfolding is_named_by
names-few [] ms one = none-of ms
names-few (name ∷ names) ms one = omega (arith, either-few (is_it name) (is_named_by names) ms, one name, names-few names ms one)

past-none : (name : ℕ × ℕ) (a : ℕ) (asset : Asset) (b : ℕ) (mpus : List Mpu) → name.1 < b → length (filter (is_it name) (map_from (placed_in a asset) b mpus)) ≤ 0
unfolding map_from
past-none name a asset b [] l = omega arith
past-none name a asset b (m ∷ ms) l =
    let rest : List PlacedMpu = map_from (placed_in a asset) (b + 1) ms in
    let missed : is_it name (placed_in a asset b m) ≡ false = and_right (a == name.0) (b == name.1) (ne_eqb b name.1 (λ e. omega (arith, e, l))) in
    omega (arith, ap (λ (t : Bool). length (cond t (placed_in a asset b m ∷ filter (is_it name) rest) (filter (is_it name) rest))) missed, past-none name a asset (b + 1) ms (omega (arith, l)))

one-each : (name : ℕ × ℕ) (a : ℕ) (asset : Asset) (b : ℕ) (mpus : List Mpu) → length (filter (is_it name) (map_from (placed_in a asset) b mpus)) ≤ 1
unfolding map_from
one-each name a asset b [] = omega arith
one-each name a asset b (m ∷ ms) =
    let rest : List PlacedMpu = map_from (placed_in a asset) (b + 1) ms in
    let here : PlacedMpu = placed_in a asset b m in
    ⊎_elim
    (λ (yes : is_it name here ≡ true).
    (let same : b ≡ name.1 = eqb-true b name.1 (and_parts (a == name.0) (b == name.1) yes).1 in
    omega (arith, ap (λ (t : Bool). length (cond t (here ∷ filter (is_it name) rest) (filter (is_it name) rest))) yes, past-none name a asset (b + 1) ms (omega (arith, same)))))
    (λ (no : is_it name here ≡ false). omega (arith, ap (λ (t : Bool). length (cond t (here ∷ filter (is_it name) rest) (filter (is_it name) rest))) no, one-each name a asset (b + 1) ms))
    (cases_Bool (is_it name here))

named-few : (names : List (ℕ × ℕ)) (a : ℕ) (asset : Asset) → length (named_of_asset names a asset) ≤ length names
unfolding named_of_asset mpus_placed
named-few names a asset = names-few names (map_from (placed_in a asset) 0 asset.mpus) (λ name. one-each name a asset 0 asset.mpus)

-- ---- the lengths of descriptors

-- an MPU's extended descriptor has at most 136 bytes
abbrev IsShort : PlacedMpu → Type 0
IsShort m = extended_length m ≤ 136

few-aus : (m : PlacedMpu) → length m.value.aus ≤ 30 → IsShort m
unfolding extended_length
few-aus m l = go (nat_lt 0 (length m.value.aus))
  where
    go : (t : Bool) → cond t (16 + 4 * length m.value.aus) 0 ≤ 136
    go true = omega (arith, l)
    go false = omega arith

sum-short : (test : PlacedMpu → Bool) (ms : List PlacedMpu) → AllByRecursion IsShort ms → sum_by extended_length (filter test ms) ≤ 136 * length (filter test ms)
sum-short test [] h = omega arith
sum-short test (m ∷ ms) h = go (test m) (sum-short test ms h.1)
  where
    go : (t : Bool) → sum_by extended_length (filter test ms) ≤ 136 * length (filter test ms) → sum_by extended_length (cond t (m ∷ filter test ms) (filter test ms)) ≤ 136 * length (cond t (m ∷ filter test ms) (filter test ms))
    go true ih = omega (arith, sum_by-cons extended_length m (filter test ms), ih, h.0)
    go false ih = ih

asset-small : (names : List (ℕ × ℕ)) (a : ℕ) (asset : Asset) → length names ≤ 4 → length asset.id ≤ 5 → AllByRecursion IsShort (mpus_placed a asset) → asset_length names a asset ≤ 617
unfolding asset_length descriptors_length named_of_asset
asset-small names a asset few id short =
    let named : List PlacedMpu = filter (is_named_by names) (mpus_placed a asset) in
    let n : length named ≤ length names = named-few names a asset in
    let one : div_ceil (length named) 21 ≤ 1 = once (length named) (omega (arith, n, few)) in
    omega (arith, n, few, id, one, sum-short (is_named_by names) (mpus_placed a asset) short)
  where
    once : (n : ℕ) → n ≤ 4 → div_ceil n 21 ≤ 1
    once n l = omega (arith, l)

-- ---- the tables

track-short : (a : ℕ) (asset : Asset) (t : Track) (b n : ℕ) → t.per_mpu ≤ 30 → AllByRecursion IsShort (map_from (placed_in a asset) b (map (mpu_of t) (numbers b n)))
track-short a asset t b n l = subst (AllByRecursion IsShort) (sym (mpus-in a asset t b n)) (each-map_numbers IsShort (mpu_in a asset t) b n (λ k lo hi. few-aus (mpu_in a asset t k) (omega (arith, length-range (au_of t) t.per_mpu, l))))

video-short : AllByRecursion IsShort (mpus_placed 0 video)
unfolding mpus_placed
video-short = track-short 0 video video_track 0 120 (omega arith)

audio-short : AllByRecursion IsShort (mpus_placed 1 audio)
unfolding mpus_placed
audio-short = track-short 1 audio audio_track 0 120 (omega arith)

item-short : AllByRecursion IsShort (mpus_placed 2 item)
unfolding mpus_placed map_from extended_length
item-short = (omega arith, tt)

-- a table of the programme that names at most four MPUs has at most 1,864 bytes
pub table-small : (names : List (ℕ × ℕ)) → length names ≤ 4 → table_length made_programme names ≤ 1864
unfolding table_length made_programme map_from
table-small names few =
    let v : ℕ = asset_length names 0 video in
    let a : ℕ = asset_length names 1 audio in
    let i : ℕ = asset_length names 2 item in
    omega (
      arith,
      sum_by-cons (λ (n : ℕ). n) v (a ∷ i ∷ []),
      sum_by-cons (λ (n : ℕ). n) a (i ∷ []),
      sum_by-cons (λ (n : ℕ). n) i [],
      asset-small names 0 video few (omega arith) video-short,
      asset-small names 1 audio few (omega arith) audio-short,
      asset-small names 2 item few (omega arith) item-short,
    )
