-- The times of an MPU's units, found by walking over its access units.
use Rattle.std.proofs.Common.{◌≡◌, ℕ, ◌+◌, ◌-◌, ◌<◌, ◌≤◌, suc, zero, nat_le, nat_lt, cond, max, List, [], ◌∷◌, map, length, get_or, drop, arith, refl, ap, ap₂, sym, ◌∙◌, Option, Some, None, option_map}
use Rattle.std.specs.List.{fold}
use Rattle.std.proofs.lemmas.Bool.{and_from, and_left, and_right, le-leb, le-ltb, lt-leb, lt-ltb}
use Rattle.std.proofs.lemmas.List.{at_drop_more, drop_all, length-map}
use Rattle.mmt_base.specs.declared.ticks.Ntp.{Ntp}
use Rattle.mmt_cast.specs.Refusing.{out_of_range}
use Rattle.mmt_casting.specs.Timed.{IsTimed, sample_time, times_of}
use Rattle.mmt_model.specs.declared.programmes.Au.{Au}
use Rattle.mmt_model.specs.declared.programmes.Mpu.{Mpu}
use Rattle.mmt_times.specs.Times.{AuValue, in_range, time_at, unit_times}
use Rattle.mmt_times.specs.TimesLeft.{view_time}
use Rattle.mmt_times.specs.Writing.{au_value}

-- the times of the access units from one on
abbrev pub times_from : ℕ → ℕ → ℕ → ℕ → ℕ → List Au → List (Option ℕ)
times_from time offset scale i before aus = unit_times time offset scale 0 before (map au_value (drop i aus))

pub times-next : (time offset scale i before : ℕ) (aus : List Au) (d : Au) → i < length aus
    → times_from time offset scale i before aus ≡ time_at time offset before (get_or aus i d).dts_pts scale ∷ times_from time offset scale (i + 1) (before + (get_or aus i d).pts) aus
unfolding unit_times
times-next time offset scale i before aus d l = at_drop_more (λ xs. unit_times time offset scale 0 before (map au_value xs)) aus i d l

-- the time at a place
pub place-next : (time offset scale i before k : ℕ) (aus : List Au) (d : Au) (o : Option ℕ) → i < k → i < length aus → o ≡ get_or (times_from time offset scale i before aus) (k - i) None
    → o ≡ get_or (times_from time offset scale (i + 1) (before + (get_or aus i d).pts) aus) (k - (i + 1)) None
place-next time offset scale i before k aus d o lk l e =
    let s : k - i ≡ suc (k - (i + 1)) = omega arith in
    e ∙ ap₂ (λ xs j. get_or xs j None) (times-next time offset scale i before aus d l) s

pub place-here : (time offset scale before k : ℕ) (aus : List Au) (d : Au) (o : Option ℕ) → k < length aus → o ≡ get_or (times_from time offset scale k before aus) (k - k) None → o ≡ time_at time offset before (get_or aus k d).dts_pts scale
place-here time offset scale before k aus d o l e =
    let s : k - k ≡ 0 = omega arith in
    e ∙ ap₂ (λ xs j. get_or xs j None) (times-next time offset scale k before aus d l) s

-- where all times are in range, the time at a place
long-times : (time offset scale : ℕ) (aus : List AuValue) (before : ℕ) → length (unit_times time offset scale 0 before aus) ≡ length aus
unfolding unit_times
long-times time offset scale [] before = refl
long-times time offset scale (a ∷ xs) before = ap suc (long-times time offset scale xs _)

all-there : (n : ℕ) (ts : List (Option ℕ)) → out_of_range n ts ≡ None → length (in_range ts) ≡ length ts
unfolding out_of_range in_range
all-there n [] e = refl
all-there n (None ∷ ts) e = absurd cc
all-there n (Some t ∷ ts) e = ap suc (all-there (n + 1) ts e)

there : (n k v : ℕ) (ts : List (Option ℕ)) (d : ℕ) → out_of_range n ts ≡ None → get_or ts k None ≡ Some v → get_or (in_range ts) k d ≡ v
unfolding out_of_range in_range
there n k v [] d e is = absurd cc
there n k v (None ∷ ts) d e is = absurd cc
there n zero v (Some t ∷ ts) d e is = cc
there n (suc k) v (Some t ∷ ts) d e is = there (n + 1) k v ts d e is

not-there : (n k : ℕ) (ts : List (Option ℕ)) → out_of_range n ts ≡ None → k < length ts → get_or ts k None ≡ None → ⊥
unfolding out_of_range
not-there n k [] e l is = omega arith
not-there n k (None ∷ ts) e l is = absurd cc
not-there n zero (Some t ∷ ts) e l is = absurd cc
not-there n (suc k) (Some t ∷ ts) e l is = not-there (n + 1) k ts e (omega arith) is

pub times-long : (mpu : Mpu) (timescale : ℕ) → IsTimed mpu timescale → length (in_range (times_of mpu timescale)) ≡ length mpu.aus
times-long mpu timescale timed =
    all-there 0 (times_of mpu timescale) timed ∙ (long-times mpu.time.0 mpu.decoding_offset timescale (map au_value mpu.aus) 0 ∙ length-map mpu.aus au_value)

pub time-some : (mpu : Mpu) (timescale k : ℕ) (t : Ntp) (o : Option ℕ) → IsTimed mpu timescale → get_or (times_of mpu timescale) k None ≡ o → option_map view_time (Some t) ≡ o → t.0 ≡ get_or (in_range (times_of mpu timescale)) k mpu.time.0
time-some mpu timescale k t o timed at is = sym (there 0 k t.0 (times_of mpu timescale) mpu.time.0 timed (at ∙ sym is))

pub time-none : (mpu : Mpu) (timescale k : ℕ) (o : Option ℕ) → IsTimed mpu timescale → k < length mpu.aus → get_or (times_of mpu timescale) k None ≡ o → o ≡ None → ⊥
time-none mpu timescale k o timed l at is =
    not-there 0 k (times_of mpu timescale) timed (omega (arith, long-times mpu.time.0 mpu.decoding_offset timescale (map au_value mpu.aus) 0, length-map mpu.aus au_value)) (at ∙ is)

-- ---- samples

pub sample-inside : (mpu : Mpu) (timescale sample t : ℕ) → IsTimed mpu timescale → 1 ≤ sample → sample - 1 < length mpu.aus → t ≡ get_or (in_range (times_of mpu timescale)) (sample - 1) mpu.time.0 → t ≡ sample_time mpu timescale sample
sample-inside mpu timescale sample t timed some l e =
    let ts : List ℕ = in_range (times_of mpu timescale) in
    e ∙ ap (λ b. cond b (get_or ts (sample - 1) mpu.time.0) mpu.time.0) (sym (and_from (nat_le 1 sample) (nat_lt (sample - 1) (length ts)) (le-leb 1 sample some) (lt-ltb (sample - 1) (length ts) (omega (arith, l, times-long mpu timescale timed)))))

pub sample-outside : (mpu : Mpu) (timescale sample t : ℕ) → IsTimed mpu timescale → length mpu.aus ≤ sample - 1 → t ≡ mpu.time.0 → t ≡ sample_time mpu timescale sample
sample-outside mpu timescale sample t timed l e =
    let ts : List ℕ = in_range (times_of mpu timescale) in
    e ∙ ap (λ b. cond b (get_or ts (sample - 1) mpu.time.0) mpu.time.0) (sym (and_right (nat_le 1 sample) (nat_lt (sample - 1) (length ts)) (le-ltb (sample - 1) (length ts) (omega (arith, l, times-long mpu timescale timed)))))

pub sample-none : (mpu : Mpu) (timescale sample t : ℕ) → sample < 1 → t ≡ mpu.time.0 → t ≡ sample_time mpu timescale sample
sample-none mpu timescale sample t l e =
    let ts : List ℕ = in_range (times_of mpu timescale) in
    e ∙ ap (λ b. cond b (get_or ts (sample - 1) mpu.time.0) mpu.time.0) (sym (and_left (nat_le 1 sample) (nat_lt (sample - 1) (length ts)) (lt-leb 1 sample l)))

-- ---- the greatest time

pub last-some : (time offset scale i before last more : ℕ) (aus : List Au) (d : Au) (n : Ntp) (all : ℕ) → i < length aus → option_map view_time (Some n) ≡ time_at time offset before (get_or aus i d).dts_pts scale → more ≡ max last n.0
    → all ≡ fold max last (in_range (times_from time offset scale i before aus)) → all ≡ fold max more (in_range (times_from time offset scale (i + 1) (before + (get_or aus i d).pts) aus))
unfolding in_range
last-some time offset scale i before last more aus d n all l is em e =
    e ∙ (ap (λ ts. fold max last (in_range ts)) (times-next time offset scale i before aus d l ∙ ap (λ o. o ∷ times_from time offset scale (i + 1) (before + (get_or aus i d).pts) aus) (sym is))
    ∙ ap (λ m. fold max m (in_range (times_from time offset scale (i + 1) (before + (get_or aus i d).pts) aus))) (sym em))

pub last-none : (time offset scale i before last : ℕ) (aus : List Au) (d : Au) (all : ℕ) → i < length aus → None ≡ time_at time offset before (get_or aus i d).dts_pts scale
    → all ≡ fold max last (in_range (times_from time offset scale i before aus)) → last ≡ all
unfolding in_range
last-none time offset scale i before last aus d all l is e =
    sym (e ∙ ap (λ ts. fold max last (in_range ts)) (times-next time offset scale i before aus d l ∙ ap (λ o. o ∷ times_from time offset scale (i + 1) (before + (get_or aus i d).pts) aus) (sym is)))

pub last-end : (time offset scale i before last : ℕ) (aus : List Au) (all : ℕ) → length aus ≤ i → all ≡ fold max last (in_range (times_from time offset scale i before aus)) → last ≡ all
unfolding in_range unit_times
last-end time offset scale i before last aus all l e = sym (e ∙ ap (λ xs. fold max last (in_range (unit_times time offset scale 0 before (map au_value xs)))) (drop_all i aus l))
