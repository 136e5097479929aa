-- The made programme is a right one.
use Rattle.std.proofs.Common.{◌≡◌, ℕ, ◌+◌, ◌*◌, ◌/◌, ◌^◌, ◌<◌, ◌≤◌, Bool, true, false, cond, inl, inr, List, [], ◌∷◌, ◌++◌, map, length, arith, refl, ap, sym, ◌∙◌, subst}
use Rattle.std.specs.List.{All, AllByRecursion, sum_by}
use Rattle.std.proofs.lemmas.List.Elements.{All-from_recursion}
use Rattle.std.proofs.lemmas.List.Sums.{sum_by-cons}
use Rattle.std.proofs.lemmas.Bool.{eqb-false}
use Rattle.std.proofs.Math.Nat.{mul-le-mul}
use Rattle.mmt_cast.proofs.Listing.{each-map_numbers}
use Rattle.mmt_delivery.proofs.Carried.{length-map, length-range}
use Rattle.mmt_frag.proofs.PartsJoined.{length-numbers}
use Rattle.mmt_made.proofs.Lists.{different, each-flat, flat-long, sum-same}
use Rattle.mmt_made.specs.Generator.{all_signals, assets, au_of, audio, audio_track, block, is_last, item, item_mpu, item_unit, made_programme, mpu_of, mpus_of, names_at, unit_of, video, video_track}
use Rattle.mmt_made.specs.declared.tracks.Track.{Track}
use Rattle.mmt_model.specs.Carrying.{numbers}
use Rattle.mmt_model.specs.Right.{AreDifferent, AreRising, IsBefore, IsFileName, IsKnown, IsRight, IsRightAsset, IsRightAu, IsRightMpu, IsRightSignal, IsRightUnit, units_of_asset}
use Rattle.mmt_model.specs.declared.programmes.Mpu.{Mpu}
use Rattle.mmt_model.specs.declared.programmes.Programme.{Programme}

-- ---- tracks

-- a track's numbers are small
record IsTrack (t : Track) : Type 0 where
  some : 1 ≤ t.per_mpu
  few : t.per_mpu ≤ 30
  length_some : 1 ≤ t.length
  length : t.length ≤ 3000
  ticks : t.ticks ≤ 65536
  period : t.period < 2 ^ 16

video-is : IsTrack video_track
video-is = record { some = omega arith; few = omega arith; length_some = omega arith; length = omega arith; ticks = omega arith; period = omega arith }

audio-is : IsTrack audio_track
audio-is = record { some = omega arith; few = omega arith; length_some = omega arith; length = omega arith; ticks = omega arith; period = omega arith }

low-tick : (k ticks : ℕ) → k ≤ 3600 → ticks ≤ 65536 → k * ticks / 15 ≤ 2 ^ 47
low-tick k ticks lk lt = let low : k * ticks ≤ 3600 * 65536 = mul-le-mul {n₁ = k} {m₁ = ticks} {n₂ = 3600} {m₂ = 65536} lk lt in omega (arith, low)

low-place : (k size : ℕ) → k ≤ 3600 → size ≤ 3000 → size * k ≤ 2 ^ 40
low-place k size lk ls = let low : size * k ≤ 3000 * 3600 = mul-le-mul {n₁ = size} {m₁ = k} {n₂ = 3000} {m₂ = 3600} ls lk in omega (arith, low)

unit-right : (t : Track) (k : ℕ) → IsTrack t → k ≤ 3600 → IsRightUnit 65536000 true (unit_of t k)
unit-right t k is lk = record {
  at = (omega arith, omega (arith, low-tick k t.ticks lk is.ticks));
  from = low-place k t.length lk is.length;
  some = is.length_some;
  length = omega (arith, is.length);
  key = (omega arith, omega (arith, is.some, is.few), omega arith);
  priority = omega arith;
  dependency = omega arith;
}

au-right : (t : Track) (n : ℕ) → IsTrack t → IsRightAu (au_of t n)
au-right t n is = record { dts_pts = omega arith; pts = is.period }

units-long : (t : Track) (j n : ℕ) → length (map (unit_of t) (numbers j n)) ≡ n
units-long t j n = length-map (unit_of t) (numbers j n) ∙ length-numbers j n

mpu-right : (t : Track) (b : ℕ) → IsTrack t → b < 120 → IsRightMpu 65536000 true (mpu_of t b)
mpu-right t b is lb =
    let last : b * t.per_mpu ≤ 119 * 30 = mul-le-mul {n₁ = b} {m₁ = t.per_mpu} {n₂ = 119} {m₂ = 30} (omega arith) is.few in
    record {
      number = omega arith;
      time = omega arith;
      decoding_offset = omega arith;
      few = omega (arith, length-range (au_of t) t.per_mpu, is.few);
      aus = All-from_recursion IsRightAu (map (au_of t) (numbers 0 t.per_mpu)) (each-map_numbers IsRightAu (au_of t) 0 t.per_mpu (λ n lo hi. au-right t n is));
      some = omega (arith, units-long t (b * t.per_mpu) t.per_mpu, is.some);
      units = All-from_recursion (IsRightUnit 65536000 true) (map (unit_of t) (numbers (b * t.per_mpu) t.per_mpu))
          (each-map_numbers (IsRightUnit 65536000 true) (unit_of t) (b * t.per_mpu) t.per_mpu (λ k lo hi. unit-right t k is (omega (arith, hi, last, is.few))));
    }

mpus-right : (t : Track) → IsTrack t → All (IsRightMpu 65536000 true) (mpus_of t)
mpus-right t is = All-from_recursion (IsRightMpu 65536000 true) (mpus_of t) (each-map_numbers (IsRightMpu 65536000 true) (mpu_of t) 0 120 (λ b lo hi. mpu-right t b is (omega arith)))

numbered : (t : Track) (ns : List ℕ) → map (λ (m : Mpu). m.number) (map (mpu_of t) ns) ≡ ns
numbered t [] = refl
numbered t (n ∷ ns) = ap (λ l. n ∷ l) (numbered t ns)

mpus-differ : (t : Track) → AreDifferent (map (λ (m : Mpu). m.number) (mpus_of t))
mpus-differ t = subst AreDifferent (sym (numbered t (numbers 0 120))) (different 0 120)

mpus-long : (t : Track) → length (mpus_of t) ≡ 120
mpus-long t = length-range (mpu_of t) 120

-- ---- assets

video-right : IsRightAsset 65536000 3 video
video-right = record {
  id_some = omega arith;
  id = omega arith;
  packet_id_some = omega arith;
  packet_id = omega arith;
  kind = ((omega arith, omega arith), (omega arith, omega arith), (omega arith, omega arith), (omega arith, omega arith));
  timescale_some = omega arith;
  timescale = omega arith;
  file = omega arith;
  some = omega (arith, mpus-long video_track);
  mpus = mpus-right video_track video-is;
  numbers = mpus-differ video_track;
}

audio-right : IsRightAsset 65536000 3 audio
audio-right = record {
  id_some = omega arith;
  id = omega arith;
  packet_id_some = omega arith;
  packet_id = omega arith;
  kind = ((omega arith, omega arith), (omega arith, omega arith), (omega arith, omega arith), (omega arith, omega arith));
  timescale_some = omega arith;
  timescale = omega arith;
  file = omega arith;
  some = omega (arith, mpus-long audio_track);
  mpus = mpus-right audio_track audio-is;
  numbers = mpus-differ audio_track;
}

item-unit-right : IsRightUnit 65536000 false item_unit
item-unit-right = record {
  at = (omega arith, omega arith);
  from = omega arith;
  some = omega arith;
  length = omega arith;
  key = (omega arith, refl, refl);
  priority = omega arith;
  dependency = omega arith;
}

item-mpu-right : IsRightMpu 65536000 false item_mpu
item-mpu-right = record {
  number = omega arith;
  time = omega arith;
  decoding_offset = omega arith;
  few = refl;
  aus = All-from_recursion IsRightAu [] tt;
  some = omega arith;
  units = All-from_recursion (IsRightUnit 65536000 false) (item_unit ∷ []) (item-unit-right, tt);
}

item-right : IsRightAsset 65536000 3 item
item-right = record {
  id_some = omega arith;
  id = omega arith;
  packet_id_some = omega arith;
  packet_id = omega arith;
  kind = ((omega arith, omega arith), (omega arith, omega arith), (omega arith, omega arith), (omega arith, omega arith));
  timescale_some = omega arith;
  timescale = omega arith;
  file = omega arith;
  some = omega arith;
  mpus = All-from_recursion (IsRightMpu 65536000 false) (item_mpu ∷ []) (item-mpu-right, tt);
  numbers = (All-from_recursion (λ (m : ℕ). m ≡ 0 → ⊥) [] tt, tt);
}

-- ---- signalling

name-known : (b : ℕ) → b < 120 → IsKnown assets (0, b) × IsKnown assets (1, b)
name-known b l = ((omega arith, omega (arith, mpus-long video_track)), (omega arith, omega (arith, mpus-long audio_track)))

item-known : IsKnown assets (2, 0)
item-known = (omega arith, omega arith)

-- each pair stands before those that follow
abbrev Rises : List (ℕ × ℕ) → Type 0
Rises [] = Unit {0}
Rises (p ∷ ps) = AllByRecursion (IsBefore p) ps × Rises ps

-- pairs rise where each stands before the next
rising : (ps : List (ℕ × ℕ)) → Rises ps → AreRising ps
rising [] r = tt
rising (p ∷ ps) r = (All-from_recursion (IsBefore p) ps r.0, rising ps r.1)

-- the names of a block by whether it is the last
abbrev pub names_if : Bool → ℕ → List (ℕ × ℕ)
names_if true b = (0, b) ∷ (1, b) ∷ (2, 0) ∷ []
names_if false b = (0, b) ∷ (0, b + 1) ∷ (1, b) ∷ (1, b + 1) ∷ []

pub names-are : (b : ℕ) → names_at b ≡ names_if (is_last b) b
unfolding names_at
names-are b = go (is_last b)
  where
    go : (last : Bool) → cond last ((0, b) ∷ []) ((0, b) ∷ (0, b + 1) ∷ []) ++ (cond last ((1, b) ∷ []) ((1, b) ∷ (1, b + 1) ∷ []) ++ cond {A = List (ℕ × ℕ)} last ((2, 0) ∷ []) []) ≡ names_if last b
    go true = refl
    go false = refl

names-if-right : (b : ℕ) (last : Bool) → b < 120 → is_last b ≡ last → All (IsKnown assets) (names_if last b) × AreRising (names_if last b)
names-if-right b true l e = (
  All-from_recursion (IsKnown assets) (names_if true b) ((name-known b l).0, ((name-known b l).1, (item-known, tt))),
  rising (names_if true b) ((inl (omega arith), (inl (omega arith), tt)), ((inl (omega arith), tt), (tt, tt))),
)
names-if-right b false l e =
    let more : b + 1 < 120 = omega (arith, eqb-false (b + 1) 120 e) in (
      All-from_recursion (IsKnown assets) (names_if false b) ((name-known b l).0, ((name-known (b + 1) more).0, ((name-known b l).1, ((name-known (b + 1) more).1, tt)))),
      rising (names_if false b) ((inr (refl, omega arith), (inl (omega arith), (inl (omega arith), tt))), ((inl (omega arith), (inl (omega arith), tt)), ((inr (refl, omega arith), tt), (tt, tt)))),
    )

names-right : (b : ℕ) → b < 120 → All (IsKnown assets) (names_at b) × AreRising (names_at b)
names-right b l = subst (λ (names : List (ℕ × ℕ)). All (IsKnown assets) names × AreRising names) (sym (names-are b)) (names-if-right b (is_last b) l refl)

block-right : (b : ℕ) → b < 120 → AllByRecursion (IsRightSignal 65536000 assets) (block b)
block-right b l = ((omega arith, omega arith), (((omega arith, omega arith), (names-right b l).0, (names-right b l).1), tt))

block-long : (b : ℕ) → length (block b) ≡ 2
block-long b = refl

-- ---- the programme

units-in-mpu : (t : Track) (b : ℕ) → length (mpu_of t b).units ≡ t.per_mpu
units-in-mpu t b = units-long t (b * t.per_mpu) t.per_mpu

units-in-track : (t : Track) → sum_by (λ (m : Mpu). length m.units) (mpus_of t) ≡ 120 * t.per_mpu
units-in-track t = sum-same (λ (m : Mpu). length m.units) (mpu_of t) t.per_mpu 0 120 (units-in-mpu t)

few-units : sum_by units_of_asset assets < 2 ^ 32
few-units =
    omega (arith, sum_by-cons units_of_asset video (audio ∷ item ∷ []), sum_by-cons units_of_asset audio (item ∷ []), sum_by-cons units_of_asset item [], units-in-track video_track, units-in-track audio_track)

few-signals : length all_signals < 2 ^ 32
few-signals = omega (arith, flat-long block 2 0 120 block-long)

pub made-right : IsRight made_programme
unfolding made_programme
made-right = record {
  flow = record { address = omega arith; port_some = omega arith; port = omega arith; no_ntp = λ e. omega (arith, e) };
  source = record { address = omega arith; port_some = omega arith; port = omega arith; no_ntp = λ e. omega (arith, e) };
  context = omega arith;
  full_every = omega arith;
  limit_low = omega arith;
  limit = omega arith;
  spacing = omega arith;
  package_some = omega arith;
  package_id = omega arith;
  params = record { bound = omega arith; window = omega arith; delay = omega arith };
  start = 65536000;
  start_fits = omega arith;
  signals = All-from_recursion (IsRightSignal 65536000 assets) all_signals (each-flat (IsRightSignal 65536000 assets) block 0 120 (λ b lo hi. block-right b (omega arith)));
  assets_some = omega arith;
  assets_few = omega arith;
  assets = All-from_recursion (IsRightAsset 65536000 3) assets (video-right, (audio-right, (item-right, tt)));
  ids = (
    All-from_recursion (λ (m : ℕ). m ≡ 256 → ⊥) (272 ∷ 288 ∷ []) ((λ e. omega (arith, e)), ((λ e. omega (arith, e)), tt)),
    (All-from_recursion (λ (m : ℕ). m ≡ 272 → ⊥) (288 ∷ []) ((λ e. omega (arith, e)), tt), (All-from_recursion (λ (m : ℕ). m ≡ 288 → ⊥) [] tt, tt)),
  );
  files = All-from_recursion IsFileName made_programme.files (
    record { some = omega arith; short = omega arith },
    (record { some = omega arith; short = omega arith }, (record { some = omega arith; short = omega arith }, tt)),
  );
  few_signals = few-signals;
  few_units = few-units;
}

-- what is the made programme is a right one
pub is-right : (programme : Programme) → programme ≡ made_programme → IsRight programme
is-right programme is = subst IsRight (sym is) made-right
