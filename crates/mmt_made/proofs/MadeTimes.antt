-- When the units of the made programme are due.
use Rattle.std.proofs.Common.{◌≡◌, ℕ, ◌+◌, ◌-◌, ◌*◌, ◌/◌, ◌%◌, ◌^◌, ◌<◌, ◌≤◌, ◌==◌, ◌&&◌, nat_lt, nat_le, zero, suc, max, Bool, true, cond, List, [], ◌∷◌, ◌++◌, map, length, get_or, Option, Some, None, arith, refl, ap, ap₂, sym, ◌∙◌, subst}
use Rattle.std.specs.Int.{div_ceil}
use Rattle.std.specs.List.{AllByRecursion, fold}
use Rattle.std.proofs.lemmas.Bool.{and_from, le-leb, lt-ltb}
use Rattle.std.proofs.Math.Nat.{suc-mul}
use Rattle.mmt_base.specs.Ticks.{due_of}
use Rattle.mmt_cast.proofs.Listing.{each-append, each-map_numbers}
use Rattle.mmt_cast.specs.Casting.{due_of_placed, time_of_unit}
use Rattle.mmt_cast.specs.Placing.{PlacedMpu, PlacedUnit, all_mpus, all_units, entry_of_mpu}
use Rattle.mmt_delivery.proofs.Carried.{length-range}
use Rattle.mmt_made.proofs.MadeLists.{audio_mpu, audio_unit, item_sent, item_there, mpu_in, mpus-are, unit_in, units-are, video_mpu, video_unit}
use Rattle.mmt_made.specs.Generator.{au_of, audio, audio_track, made_programme, video, video_track}
use Rattle.mmt_made.specs.declared.tracks.Track.{Track}
use Rattle.mmt_model.specs.Carrying.{numbers}
use Rattle.mmt_model.specs.Entries.{last_due}
use Rattle.mmt_model.specs.Handing.{time_for}
use Rattle.mmt_model.specs.declared.programmes.Asset.{Asset}
use Rattle.mmt_times.specs.Times.{below_the_end, earlier, in_range, time_at, unit_times}
use Rattle.mmt_times.specs.Writing.{au_value}

-- ---- the times of a track's access units

-- the time of an MPU
abbrev pub begin_of : ℕ → ℕ
begin_of b = 4299262263296 + b * 2147483648

-- the time of access unit k of an MPU
abbrev pub au_time : Track → ℕ → ℕ → ℕ → ℕ
au_time t timescale time k = time + k * t.period * 2 ^ 32 / timescale

-- the times of the first n access units fit
abbrev pub AuTimesFit : Track → ℕ → ℕ → ℕ → Type 0
AuTimesFit t timescale time n = (k : ℕ) → k < n → au_time t timescale time k < 2 ^ 64

-- the time where the decoding offset is greater than what is added
abbrev earlier_of : ℕ → ℕ → ℕ → Option ℕ
earlier_of time before timescale = earlier time (div_ceil ((0 - (before + 0)) * 2 ^ 32) timescale)

one-time : (t : Track) (timescale time k : ℕ) → au_time t timescale time k < 2 ^ 64 → time_at time 0 (k * t.period) 0 timescale ≡ Some (au_time t timescale time k)
unfolding time_at
one-time t timescale time k fits =
    let before : ℕ = k * t.period in
    let same : before + 0 - 0 ≡ before = omega arith in
    ap (λ (c : Bool). cond c (below_the_end (time + (before + 0 - 0) * 2 ^ 32 / timescale)) (earlier_of time before timescale)) (le-leb 0 (before + 0) (omega arith))
    ∙ (ap (λ (m : ℕ). below_the_end (time + m * 2 ^ 32 / timescale)) same ∙ ap (λ (c : Bool). cond c (Some (au_time t timescale time k)) None) (lt-ltb (au_time t timescale time k) (2 ^ 64) fits))

times-are : (t : Track) (timescale time n j : ℕ) → AuTimesFit t timescale time (j + n)
    → unit_times time 0 timescale 0 (j * t.period) (map au_value (map (au_of t) (numbers j n))) ≡ map (λ k. Some (au_time t timescale time k)) (numbers j n)
unfolding unit_times numbers
times-are t timescale time zero j fits = refl
times-are t timescale time (suc n) j fits =
    let next : j * t.period + t.period ≡ (j + 1) * t.period = omega (arith, suc-mul j t.period) in
    ap₂ (λ (x : Option ℕ) xs. x ∷ xs) (one-time t timescale time j (fits j (omega arith)))
    (ap (λ b. unit_times time 0 timescale 0 b (map au_value (map (au_of t) (numbers (j + 1) n)))) next ∙ times-are t timescale time n (j + 1) (λ k l. fits k (omega (arith, l))))

all-in-range : (f : ℕ → ℕ) (ks : List ℕ) → in_range (map (λ k. Some (f k)) ks) ≡ map f ks
unfolding in_range
all-in-range f [] = refl
all-in-range f (k ∷ ks) = ap (λ xs. f k ∷ xs) (all-in-range f ks)

-- the times that a table gives an MPU's access units, before those that are out of range are left out
pub mpu-times : (a : ℕ) (asset : Asset) (t : Track) (b : ℕ) → AuTimesFit t asset.timescale (begin_of b) t.per_mpu
    → unit_times (begin_of b) 0 asset.timescale 0 0 (map au_value (map (au_of t) (numbers 0 t.per_mpu))) ≡ map (λ k. Some (au_time t asset.timescale (begin_of b) k)) (numbers 0 t.per_mpu)
mpu-times a asset t b fits =
    let z : 0 ≡ 0 * t.period = omega arith in
    ap (λ before. unit_times (begin_of b) 0 asset.timescale 0 before (map au_value (map (au_of t) (numbers 0 t.per_mpu)))) z ∙ times-are t asset.timescale (begin_of b) t.per_mpu 0 (λ k l. fits k (omega (arith, l)))

entry-times : (a : ℕ) (asset : Asset) (t : Track) (b : ℕ) → AuTimesFit t asset.timescale (begin_of b) t.per_mpu → (entry_of_mpu (mpu_in a asset t b)).aus ≡ map (au_time t asset.timescale (begin_of b)) (numbers 0 t.per_mpu)
unfolding entry_of_mpu
entry-times a asset t b fits = ap in_range (mpu-times a asset t b fits) ∙ all-in-range (au_time t asset.timescale (begin_of b)) (numbers 0 t.per_mpu)

pub at-numbers : {X : Type 0} (f : ℕ → X) (n j i : ℕ) (d : X) → i < n → get_or (map f (numbers j n)) i d ≡ f (j + i)
unfolding numbers
at-numbers f zero j i d l = absurd (omega arith)
at-numbers f (suc n) j zero d l = let z : j ≡ j + 0 = omega arith in ap f z
at-numbers f (suc n) j (suc i) d l = let s : j + 1 + i ≡ j + suc i = omega arith in at-numbers f n (j + 1) i d (omega arith) ∙ ap f s

-- a unit is due when its access unit is presented
due-is : (a place : ℕ) (asset : Asset) (t : Track) (k : ℕ) → AuTimesFit t asset.timescale (begin_of (k / t.per_mpu)) t.per_mpu → k % t.per_mpu < t.per_mpu
    → due_of_placed (unit_in a place asset t k) ≡ (au_time t asset.timescale (begin_of (k / t.per_mpu)) (k % t.per_mpu) + 65535) / 65536
unfolding due_of_placed time_of_unit time_for due_of
due-is a place asset t k fits within =
    let b : ℕ = k / t.per_mpu in
    let c : ℕ = k % t.per_mpu in
    let f : ℕ → ℕ = au_time t asset.timescale (begin_of b) in
    let aus : List ℕ = map f (numbers 0 t.per_mpu) in
    let time : ℕ = (entry_of_mpu (mpu_in a asset t b)).time in
    let same : c + 1 - 1 ≡ c = omega arith in
    let there : (nat_le 1 (c + 1) && nat_lt (c + 1 - 1) (length aus)) ≡ true =
    and_from (nat_le 1 (c + 1)) (nat_lt (c + 1 - 1) (length aus)) (le-leb 1 (c + 1) (omega arith)) (lt-ltb (c + 1 - 1) (length aus) (omega (arith, same, within, length-range f t.per_mpu))) in
    let z : 0 + c ≡ c = omega arith in
    ap (λ (l : List ℕ). (cond (nat_le 1 (c + 1) && nat_lt (c + 1 - 1) (length l)) (get_or l (c + 1 - 1) time) time + 65535) / 65536) (entry-times a asset t b fits)
    ∙ (ap (λ (t : Bool). (cond t (get_or aus (c + 1 - 1) time) time + 65535) / 65536) there
    ∙ (ap (λ (i : ℕ). (get_or aus i time + 65535) / 65536) same ∙ ap (λ (n : ℕ). (n + 65535) / 65536) (at-numbers f t.per_mpu 0 c time within ∙ ap f z)))

-- ---- the last time of an MPU

fold-from : (d : ℕ) (xs : List ℕ) → d ≤ fold max d xs
fold-from d [] = omega arith
fold-from d (x ∷ xs) = omega (arith, fold-from (max d x) xs)

fold-within : (bound d : ℕ) (xs : List ℕ) → d ≤ bound → AllByRecursion (λ x. x ≤ bound) xs → fold max d xs ≤ bound
fold-within bound d [] l h = l
fold-within bound d (x ∷ xs) l h = fold-within bound (max d x) xs (omega (arith, l, h.0)) h.1

begin-time : (a : ℕ) (asset : Asset) (t : Track) (b : ℕ) → (entry_of_mpu (mpu_in a asset t b)).time ≡ begin_of b
unfolding entry_of_mpu
begin-time a asset t b = refl

last-is : (a : ℕ) (asset : Asset) (t : Track) (b bound : ℕ) → AuTimesFit t asset.timescale (begin_of b) t.per_mpu → begin_of b ≤ bound → ((k : ℕ) → k < t.per_mpu → au_time t asset.timescale (begin_of b) k ≤ bound)
    → ((begin_of b + 65535) / 65536 ≤ last_due (entry_of_mpu (mpu_in a asset t b))) × (last_due (entry_of_mpu (mpu_in a asset t b)) ≤ (bound + 65535) / 65536)
unfolding last_due due_of
last-is a asset t b bound fits begin each =
    let f : ℕ → ℕ = au_time t asset.timescale (begin_of b) in
    let aus : List ℕ = (entry_of_mpu (mpu_in a asset t b)).aus in
    let time : (entry_of_mpu (mpu_in a asset t b)).time ≡ begin_of b = begin-time a asset t b in
    let all : AllByRecursion (λ x. x ≤ bound) aus = subst (AllByRecursion (λ x. x ≤ bound)) (sym (entry-times a asset t b fits)) (each-map_numbers (λ x. x ≤ bound) f 0 t.per_mpu (λ k lo hi. each k (omega (arith, hi)))) in
    let low = fold-from (entry_of_mpu (mpu_in a asset t b)).time aus in
    let high = fold-within bound (entry_of_mpu (mpu_in a asset t b)).time aus (omega (arith, time, begin)) all in
    (omega (arith, low, time), omega (arith, high))

-- ---- the made programme

-- the least tick at which a unit of an MPU is due
abbrev pub lowest : ℕ → ℕ → ℕ
lowest asset b = cond (asset == 2) 69533696 (65601536 + 32768 * b)

-- a unit is due later than its last packet and the delay, at most the window after its first, and not before its MPU
pub record IsTimely (x : PlacedUnit) : Type 0 where
  pub early : x.value.at.0 + 6854 < due_of_placed x
  pub late : due_of_placed x ≤ x.value.at.0 + 131072
  pub low : lowest x.in_mpu.asset x.in_mpu.mpu ≤ due_of_placed x

pub video-fits : (b : ℕ) → b < 120 → AuTimesFit video_track 60000 (begin_of b) 30
video-fits b l k lk = omega (arith, l, lk)

pub audio-fits : (b : ℕ) → b < 120 → AuTimesFit audio_track 48000 (begin_of b) 8
audio-fits b l k lk = omega (arith, l, lk)

video-timely : (k : ℕ) → k < 3600 → IsTimely (video_unit k)
video-timely k l =
    let e = due-is 0 0 video video_track k (video-fits (k / 30) (omega (arith, l))) (omega arith) in
    record { early = omega (arith, e, l); late = omega (arith, e, l); low = omega (arith, e, l) }

audio-timely : (k : ℕ) → k < 960 → IsTimely (audio_unit k)
audio-timely k l =
    let e = due-is 1 120 audio audio_track k (audio-fits (k / 8) (omega (arith, l))) (omega arith) in
    record { early = omega (arith, e, l); late = omega (arith, e, l); low = omega (arith, e, l) }

item-due : due_of_placed item_sent ≡ 69533696
unfolding due_of_placed time_of_unit time_for due_of entry_of_mpu
item-due = refl

item-timely : IsTimely item_sent
item-timely = record { early = omega (arith, item-due); late = omega (arith, item-due); low = omega (arith, item-due) }

-- what holds of each unit
pub each-unit : (P : PlacedUnit → Type 0) → ((k : ℕ) → k < 3600 → P (video_unit k)) → ((k : ℕ) → k < 960 → P (audio_unit k)) → P item_sent → AllByRecursion P (all_units made_programme)
each-unit P videos audios item =
    subst (AllByRecursion P) (sym units-are)
    (each-append P (map video_unit (numbers 0 3600)) (map audio_unit (numbers 0 960) ++ item_sent ∷ []) (each-map_numbers P video_unit 0 3600 (λ k lo hi. videos k (omega (arith, hi))))
    (each-append P (map audio_unit (numbers 0 960)) (item_sent ∷ []) (each-map_numbers P audio_unit 0 960 (λ k lo hi. audios k (omega (arith, hi)))) (item, tt)))

-- what holds of each MPU
pub each-mpu : (P : PlacedMpu → Type 0) → ((b : ℕ) → b < 120 → P (video_mpu b)) → ((b : ℕ) → b < 120 → P (audio_mpu b)) → P item_there → AllByRecursion P (all_mpus made_programme)
each-mpu P videos audios item =
    subst (AllByRecursion P) (sym mpus-are)
    (each-append P (map video_mpu (numbers 0 120)) (map audio_mpu (numbers 0 120) ++ item_there ∷ []) (each-map_numbers P video_mpu 0 120 (λ b lo hi. videos b (omega (arith, hi))))
    (each-append P (map audio_mpu (numbers 0 120)) (item_there ∷ []) (each-map_numbers P audio_mpu 0 120 (λ b lo hi. audios b (omega (arith, hi)))) (item, tt)))

pub all-timely : AllByRecursion IsTimely (all_units made_programme)
all-timely = each-unit IsTimely video-timely audio-timely item-timely

-- an MPU's last unit is due when it is presented or later, and before the programme is over
abbrev pub IsLast : PlacedMpu → Type 0
IsLast y = (lowest y.asset y.mpu ≤ last_due (entry_of_mpu y)) × (last_due (entry_of_mpu y) ≤ 70000000)

video-last : (b : ℕ) → b < 120 → IsLast (video_mpu b)
video-last b l =
    let r = last-is 0 video video_track b (begin_of b + 2147483648) (video-fits b l) (omega arith) (λ k lk. omega (arith, lk)) in
    (omega (arith, r.0), omega (arith, r.1, l))

audio-last : (b : ℕ) → b < 120 → IsLast (audio_mpu b)
audio-last b l =
    let r = last-is 1 audio audio_track b (begin_of b + 2147483648) (audio-fits b l) (omega arith) (λ k lk. omega (arith, lk)) in
    (omega (arith, r.0), omega (arith, r.1, l))

item-last-is : last_due (entry_of_mpu item_there) ≡ 69533696
unfolding last_due due_of entry_of_mpu in_range unit_times
item-last-is = refl

item-last : IsLast item_there
item-last = (omega (arith, item-last-is), omega (arith, item-last-is))

pub all-last : AllByRecursion IsLast (all_mpus made_programme)
all-last = each-mpu IsLast video-last audio-last item-last
