-- The MPUs and the units of the made programme, by their numbers.
use Rattle.std.proofs.Common.{◌≡◌, ℕ, ◌+◌, ◌*◌, ◌/◌, ◌%◌, ◌<◌, ◌≤◌, zero, suc, List, [], ◌∷◌, ◌++◌, map, length, arith, refl, ap, ap₂, sym, ◌∙◌}
use Rattle.std.proofs.lemmas.List.{append-nil, map-append}
use Rattle.std.proofs.Math.Nat.{suc-mul}
use Rattle.mmt_cast.specs.Placing.{PlacedMpu, PlacedUnit, all_mpus, all_units, flat_map_from, map_from, mpus_of as mpus_placed, units_of}
use Rattle.mmt_casting.proofs.Adding.{numbers-add}
use Rattle.mmt_casting.proofs.Announced.{flat-from-append}
use Rattle.mmt_delivery.proofs.Carried.{length-range}
use Rattle.mmt_made.specs.Generator.{audio, audio_track, item, item_mpu, item_unit, made_programme, mpu_of, unit_of, video, video_track}
use Rattle.mmt_made.specs.declared.tracks.Track.{Track}
use Rattle.mmt_model.specs.Carrying.{numbers}
use Rattle.mmt_model.specs.declared.programmes.Asset.{Asset}
use Rattle.mmt_model.specs.declared.programmes.Unit.{Unit as PlannedUnit}

-- ---- MPUs and units of a track

-- MPU b of a track
abbrev pub mpu_in : ℕ → Asset → Track → ℕ → PlacedMpu
mpu_in a asset t b = record { asset = a; mpu = b; in_asset = asset; value = mpu_of t b }

-- unit k of a track, whose first MPU stands at a place
abbrev pub unit_in : ℕ → ℕ → Asset → Track → ℕ → PlacedUnit
unit_in a place asset t k = record { mpu_place = place + k / t.per_mpu; in_mpu = mpu_in a asset t (k / t.per_mpu); unit = k % t.per_mpu; value = unit_of t k }

-- unit c of MPU b of a track
abbrev unit_there : ℕ → ℕ → Asset → Track → ℕ → ℕ → PlannedUnit → PlacedUnit
unit_there a place asset t b c unit = record { mpu_place = place + b; in_mpu = mpu_in a asset t b; unit = c; value = unit }

-- a unit's number divided by how many units an MPU has
abbrev Divides : ℕ → Type 0
Divides n = (b c : ℕ) → c < n → ((b * n + c) / n ≡ b) × ((b * n + c) % n ≡ c)

block : (a place : ℕ) (asset : Asset) (t : Track) → Divides t.per_mpu → (b c n : ℕ) → c + n ≤ t.per_mpu
    → map_from (unit_there a place asset t b) c (map (unit_of t) (numbers (b * t.per_mpu + c) n)) ≡ map (unit_in a place asset t) (numbers (b * t.per_mpu + c) n)
unfolding map_from numbers
block a place asset t divides b c zero l = refl
block a place asset t divides b c (suc n) l =
    let d = divides b c (omega (arith, l)) in
    let s : b * t.per_mpu + c + 1 ≡ b * t.per_mpu + (c + 1) = omega arith in
    ap₂ (λ x xs. x ∷ xs)
    (ap₂ (λ (i j : ℕ). unit_there a place asset t i j (unit_of t (b * t.per_mpu + c))) (sym d.0) (sym d.1))
    (ap (λ i. map_from (unit_there a place asset t b) (c + 1) (map (unit_of t) (numbers i n))) s
    ∙ (block a place asset t divides b (c + 1) n (omega (arith, l)) ∙ ap (λ i. map (unit_in a place asset t) (numbers i n)) (sym s)))

units-in : (a place : ℕ) (asset : Asset) (t : Track) → Divides t.per_mpu → (b n : ℕ)
    → flat_map_from units_of (place + b) (map (mpu_in a asset t) (numbers b n)) ≡ map (unit_in a place asset t) (numbers (b * t.per_mpu) (n * t.per_mpu))
unfolding flat_map_from units_of numbers
units-in a place asset t divides b zero = let z : 0 * t.per_mpu ≡ 0 = omega arith in ap (λ n. map (unit_in a place asset t) (numbers (b * t.per_mpu) n)) (sym z)
units-in a place asset t divides b (suc n) =
    let per : ℕ = t.per_mpu in
    let z : b * per ≡ b * per + 0 = omega arith in
    let s : place + b + 1 ≡ place + (b + 1) = omega arith in
    let next : (b + 1) * per ≡ b * per + per = omega (arith, suc-mul b per) in
    let both : suc n * per ≡ per + n * per = omega (arith, suc-mul n per) in
    ap₂ (λ xs ys. xs ++ ys)
    (ap (λ i. map_from (unit_there a place asset t b) 0 (map (unit_of t) (numbers i per))) z ∙ (block a place asset t divides b 0 per (omega arith) ∙ ap (λ i. map (unit_in a place asset t) (numbers i per)) (sym z)))
    (ap (λ i. flat_map_from units_of i (map (mpu_in a asset t) (numbers (b + 1) n))) s ∙ (units-in a place asset t divides (b + 1) n ∙ ap (λ i. map (unit_in a place asset t) (numbers i (n * per))) next))
    ∙ (sym (map-append (unit_in a place asset t) (numbers (b * per) per) (numbers (b * per + per) (n * per)))
    ∙ ap (map (unit_in a place asset t)) (sym (numbers-add (b * per) per (n * per)) ∙ ap (numbers (b * per)) (sym both)))

pub mpus-in : (a : ℕ) (asset : Asset) (t : Track) (b n : ℕ) → map_from (λ c mpu. record { asset = a; mpu = c; in_asset = asset; value = mpu }) b (map (mpu_of t) (numbers b n)) ≡ map (mpu_in a asset t) (numbers b n)
unfolding map_from numbers
mpus-in a asset t b zero = refl
mpus-in a asset t b (suc n) = ap (λ xs. mpu_in a asset t b ∷ xs) (mpus-in a asset t (b + 1) n)

-- ---- the made programme

-- the item's MPU and its unit
abbrev pub item_there : PlacedMpu
item_there = record { asset = 2; mpu = 0; in_asset = item; value = item_mpu }

abbrev pub item_sent : PlacedUnit
item_sent = record { mpu_place = 240; in_mpu = item_there; unit = 0; value = item_unit }

abbrev pub video_mpu : ℕ → PlacedMpu
video_mpu = mpu_in 0 video video_track

abbrev pub audio_mpu : ℕ → PlacedMpu
audio_mpu = mpu_in 1 audio audio_track

abbrev pub video_unit : ℕ → PlacedUnit
video_unit = unit_in 0 0 video video_track

abbrev pub audio_unit : ℕ → PlacedUnit
audio_unit = unit_in 1 120 audio audio_track

-- 120 MPUs of the video, as many of the audio, and that of the item
pub mpus-are : all_mpus made_programme ≡ map video_mpu (numbers 0 120) ++ (map audio_mpu (numbers 0 120) ++ item_there ∷ [])
unfolding all_mpus made_programme flat_map_from mpus_placed map_from
mpus-are = ap₂ (λ xs ys. xs ++ (ys ++ items)) (mpus-in 0 video video_track 0 120) (mpus-in 1 audio audio_track 0 120)
  where
    items : List PlacedMpu
    items = item_there ∷ []

length-mpus : (f : ℕ → PlacedMpu) (n : ℕ) → length (map f (numbers 0 n)) ≡ n
length-mpus f n = length-range f n

no-more : (m : PlacedMpu) (n : ℕ) → flat_map_from units_of n (m ∷ []) ≡ units_of n m
unfolding flat_map_from
no-more m n = append-nil (units_of n m)

item-units : units_of 240 item_there ≡ item_sent ∷ []
unfolding units_of map_from
item-units = refl

-- 3,600 units of the video, 960 of the audio, and the item
pub units-are : all_units made_programme ≡ map video_unit (numbers 0 3600) ++ (map audio_unit (numbers 0 960) ++ item_sent ∷ [])
unfolding all_units
units-are =
    let vs : List PlacedMpu = map video_mpu (numbers 0 120) in
    let as' : List PlacedMpu = map audio_mpu (numbers 0 120) in
    let v : length vs ≡ 120 = length-range video_mpu 120 in
    let a : length as' ≡ 120 = length-range audio_mpu 120 in
    let first : flat_map_from units_of 0 vs ≡ map video_unit (numbers 0 3600) = units-in 0 0 video video_track (λ b c l. (omega (arith, l), omega (arith, l))) 0 120 in
    let second : flat_map_from units_of 120 as' ≡ map audio_unit (numbers 0 960) = units-in 1 120 audio audio_track (λ b c l. (omega (arith, l), omega (arith, l))) 0 120 in
    let third : flat_map_from units_of 240 (item_there ∷ []) ≡ item_sent ∷ [] = no-more item_there 240 ∙ item-units in
    ap (flat_map_from units_of 0) mpus-are
    ∙ (flat-from-append units_of 0 vs (as' ++ item_there ∷ [])
    ∙ ap₂ (λ xs ys. xs ++ ys) first
    (ap (λ n. flat_map_from units_of n (as' ++ item_there ∷ [])) (omega (arith, v))
    ∙ (flat-from-append units_of 120 as' (item_there ∷ []) ∙ ap₂ (λ xs ys. xs ++ ys) second (ap (λ n. flat_map_from units_of n (item_there ∷ [])) (omega (arith, a)) ∙ third))))
