-- Comparisons of ticks against those of whole numbers.
use Rattle.std.proofs.Common.{◌≡◌, ℕ, ◌+◌, ◌-◌, ◌%◌, ◌^◌, ◌<◌, ◌≤◌, Bool, true, false, not, ◌&&◌, nat_lt, nat_le, cond, if◌then◌else◌, max, arith, refl, ap, sym, ◌∙◌, ⊎_elim}
use Rattle.std.proofs.lemmas.Bool.Decides.{nat_tests}
use Rattle.std.proofs.lemmas.Bool.{cases_lt, le-leb, lt-leb, lt-ltb, le-ltb}
use Rattle.mmt_base.specs.Ticks.{low, ahead_of, is_after, plus, is_passed, advance}

-- where a is ahead of b by less than a round
pub ahead_of-ahead : (a b : ℕ) → b ≤ a → a < b + 2 ^ 32 → ahead_of (low a) (low b) ≡ a - b
unfolding ahead_of low
ahead_of-ahead a b le lt = omega arith

pub ahead_of-behind : (a b : ℕ) → a < b → b < a + 2 ^ 32 → ahead_of (low a) (low b) + b ≡ a + 2 ^ 32
unfolding ahead_of low
ahead_of-behind a b le lt = omega arith

pub plus-low : (a d : ℕ) → plus (low a) d ≡ low (a + d)
unfolding plus low
plus-low a d = omega arith

-- two ticks that lie less than half a round apart compare as the whole numbers do
pub is_after-low : (a b : ℕ) → a < b + 2 ^ 31 → b ≤ a + 2 ^ 31 → is_after (low a) (low b) ≡ nat_lt b a
unfolding is_after
is_after-low a b h k =
    ⊎_elim
    (λ (lt : a < b). let e : ahead_of (low a) (low b) + b ≡ a + 2 ^ 32 = ahead_of-behind a b lt (omega arith) in grind (arith, nat_tests))
    (λ (le : b ≤ a). let e : ahead_of (low a) (low b) ≡ a - b = ahead_of-ahead a b le (omega arith) in grind (arith, nat_tests))
    (cases_lt a b)

-- what is passed on the way between two whole ticks
pub is_passed-low : (d c0 c1 : ℕ) → d < c0 + 2 ^ 32 → c0 ≤ c1 → c1 < c0 + 2 ^ 31 → c0 ≤ d + 2 ^ 31 → is_passed (low d) (low c0) (low c1) ≡ nat_lt c0 d && nat_le d c1
unfolding is_passed
is_passed-low d c0 c1 h k l m =
    let e : ahead_of (low c1) (low c0) ≡ c1 - c0 = ahead_of-ahead c1 c0 k (omega arith) in
    ⊎_elim
    (λ (lt : d < c0). let f : ahead_of (low d) (low c0) + c0 ≡ d + 2 ^ 32 = ahead_of-behind d c0 lt (omega arith) in grind (arith, nat_tests))
    (λ (le : c0 ≤ d). let f : ahead_of (low d) (low c0) ≡ d - c0 = ahead_of-ahead d c0 le (omega arith) in grind (arith, nat_tests))
    (cases_lt d c0)

-- the clock goes to the greater of the two
pub advance-low : (c a : ℕ) → a < c + 2 ^ 31 → c ≤ a + 2 ^ 31 → advance (low c) (low a) ≡ low (max c a)
unfolding advance
advance-low c a h k =
    rw is_after-low
    (⊎_elim
    (λ (lt : c < a). let e : max c a ≡ a = omega arith in rw (lt-ltb c a lt, e) refl)
    (λ (le : a ≤ c). let e : max c a ≡ c = omega arith in rw (le-ltb c a le, e) refl)
    (cases_lt c a))
