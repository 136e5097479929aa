-- Which timestamps are out of the window: one interval of 2^31 + 1 ticks, modulo 2^32.
use Rattle.std.proofs.Common.{◌≡◌, ℕ, ◌+◌, ◌^◌, ◌<◌, ◌≤◌, true, false, arith, ⊎_elim}
use Rattle.std.proofs.lemmas.Bool.Decides.{nat_tests}
use Rattle.std.proofs.lemmas.Bool.{cases_lt}
use Rattle.mmt_base.specs.Ticks.{ahead_of, is_after, plus}

-- a timestamp plus the window is as far behind the clock as the timestamp is behind the clock minus the window
turn_none : (t w c : ℕ) → t < 2 ^ 32 → w < 2 ^ 32 → c < 2 ^ 32 → ahead_of (ahead_of c w) t ≡ 0 → ahead_of (plus t w) c ≡ 0
unfolding ahead_of plus
turn_none t w c a b e z = omega arith

turn : (t w c : ℕ) → t < 2 ^ 32 → w < 2 ^ 32 → c < 2 ^ 32 → 0 < ahead_of (ahead_of c w) t → ahead_of (plus t w) c + ahead_of (ahead_of c w) t ≡ 2 ^ 32
unfolding ahead_of plus
turn t w c a b e z = omega arith

-- the timestamps of 2^31 ticks and that of the clock minus the window are out of it
out-by : (t w c : ℕ) → t < 2 ^ 32 → w < 2 ^ 32 → c < 2 ^ 32 → ahead_of (ahead_of c w) t ≤ 2 ^ 31 → is_after (plus t w) c ≡ false
unfolding is_after
out-by t w c a b e l =
    ⊎_elim
    (λ (p : 0 < ahead_of (ahead_of c w) t). let k : ahead_of (plus t w) c + ahead_of (ahead_of c w) t ≡ 2 ^ 32 = turn t w c a b e p in grind (arith, nat_tests))
    (λ (z : ahead_of (ahead_of c w) t ≤ 0). let k : ahead_of (plus t w) c ≡ 0 = turn_none t w c a b e (omega arith) in grind (arith, nat_tests))
    (cases_lt 0 (ahead_of (ahead_of c w) t))

-- the others are in it
in-by : (t w c : ℕ) → t < 2 ^ 32 → w < 2 ^ 32 → c < 2 ^ 32 → 2 ^ 31 < ahead_of (ahead_of c w) t → is_after (plus t w) c ≡ true
unfolding is_after ahead_of
in-by t w c a b e l =
    let k : ahead_of (plus t w) c + ahead_of (ahead_of c w) t ≡ 2 ^ 32 = turn t w c a b e (omega arith) in
    let less : ahead_of (ahead_of c w) t < 2 ^ 32 = omega arith in
    grind (arith, nat_tests)

-- where the interval does not wrap round
pub out_between : (t w c last first : ℕ) → t < 2 ^ 32 → w < 2 ^ 32 → c < 2 ^ 32 → last ≡ ahead_of c w → first ≡ plus last (2 ^ 31) → first ≤ last → first ≤ t → t ≤ last → is_after (plus t w) c ≡ false
unfolding plus ahead_of
out_between t w c last first a b e l f o h k = out-by t w c a b e (omega arith)

pub in_outside_first : (t w c last first : ℕ) → t < 2 ^ 32 → w < 2 ^ 32 → c < 2 ^ 32 → last ≡ ahead_of c w → first ≡ plus last (2 ^ 31) → first ≤ last → t < first → is_after (plus t w) c ≡ true
unfolding plus ahead_of
in_outside_first t w c last first a b e l f o h = in-by t w c a b e (omega arith)

pub in_outside_last : (t w c last first : ℕ) → t < 2 ^ 32 → w < 2 ^ 32 → c < 2 ^ 32 → last ≡ ahead_of c w → first ≡ plus last (2 ^ 31) → first ≤ last → last < t → is_after (plus t w) c ≡ true
unfolding plus ahead_of
in_outside_last t w c last first a b e l f o h = in-by t w c a b e (omega arith)

-- where it does
pub out_from : (t w c last first : ℕ) → t < 2 ^ 32 → w < 2 ^ 32 → c < 2 ^ 32 → last ≡ ahead_of c w → first ≡ plus last (2 ^ 31) → last < first → first ≤ t → is_after (plus t w) c ≡ false
unfolding plus ahead_of
out_from t w c last first a b e l f o h = out-by t w c a b e (omega arith)

pub out_up_to : (t w c last first : ℕ) → t < 2 ^ 32 → w < 2 ^ 32 → c < 2 ^ 32 → last ≡ ahead_of c w → first ≡ plus last (2 ^ 31) → last < first → t ≤ last → is_after (plus t w) c ≡ false
unfolding plus ahead_of
out_up_to t w c last first a b e l f o h = out-by t w c a b e (omega arith)

pub in_between : (t w c last first : ℕ) → t < 2 ^ 32 → w < 2 ^ 32 → c < 2 ^ 32 → last ≡ ahead_of c w → first ≡ plus last (2 ^ 31) → last < first → last < t → t < first → is_after (plus t w) c ≡ true
unfolding plus ahead_of
in_between t w c last first a b e l f o h k = in-by t w c a b e (omega arith)
