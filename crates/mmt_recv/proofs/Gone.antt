-- What a receiver has once it let go of all packets.
use Rattle.std.proofs.Common.{◌≡◌, ℕ, ◌^◌, ◌<◌, ◌≤◌, Bool, true, false, cond, List, [], ◌∷◌, filter, Result, Ok, Err, refl, ap, arith}
use Rattle.std.proofs.lemmas.Bool.Decides.{nat_tests}
use Rattle.mmt_base.specs.Ticks.{ahead_of, is_after, plus}
use Rattle.mmt_pool.specs.declared.types.Span.{Span}
use Rattle.mmt_pool.specs.declared.types.NotStored.{NotStored}
use Rattle.mmt_pool.specs.declared.types.NotStored.TheVariants as why
use Rattle.mmt_pool.specs.Doing.{Stores}
use Rattle.mmt_pool.specs.Holding.{Kept, Holding, IsInOrder, is_in_window}
use Rattle.mmt_times.specs.Known.{Known, HasOneEach}
use Rattle.mmt_runs.specs.Told.{Tracked, IsTold}

near : (a b : ℕ) → is_after a b ≡ true → ahead_of a b < 2 ^ 31
unfolding is_after
near a b e = grind (arith, nat_tests)

not_near : (a b : ℕ) → 2 ^ 31 ≤ ahead_of a b → is_after a b ≡ false
unfolding is_after
not_near a b h = grind (arith, nat_tests)

turned : (x : ℕ) → x < 2 ^ 32 → ahead_of x 0 < 2 ^ 31 → 2 ^ 31 ≤ ahead_of x (2 ^ 31)
unfolding ahead_of
turned x small h = omega arith

plus-small : (t d : ℕ) → plus t d < 2 ^ 32
unfolding plus
plus-small t d = omega arith

-- no timestamp is after tick 0 and after tick 2^31
apart : (p : Kept) → is_in_window 0 0 p ≡ true → is_in_window (2 ^ 31) 0 p ≡ false
unfolding is_in_window
apart p e = not_near (plus p.time 0) (2 ^ 31) (turned (plus p.time 0) (plus-small p.time 0) (near (plus p.time 0) 0 e))

pub none_left : (kept : List Kept) → filter (is_in_window (2 ^ 31) 0) (filter (is_in_window 0 0) kept) ≡ []
none_left [] = refl
none_left (p ∷ kept) = go (is_in_window 0 0 p) refl (none_left kept)
  where
    go : (b : Bool) → is_in_window 0 0 p ≡ b → filter (is_in_window (2 ^ 31) 0) (filter (is_in_window 0 0) kept) ≡ []
        → filter (is_in_window (2 ^ 31) 0) (cond b (p ∷ filter (is_in_window 0 0) kept) (filter (is_in_window 0 0) kept)) ≡ []
    go true e ih = rw (apart p e) ih
    go false e ih = ih

-- where nothing is kept, whatever was told is right
pub none_kept_told : (told : Tracked) (known : Known) → HasOneEach known.entries → IsTold told [] known
unfolding IsTold IsInOrder
none_kept_told told known one = record { in_order = tt; one_each = one; begins = λ s. tt; has_times = λ i s. tt }

-- whatever becomes of a packet, the bound stays
pub bound_stays : (old : Holding) (clock delay : ℕ) (p : Kept) (result : Result Span NotStored) (new : Holding) → Stores old clock delay p result new → new.bound ≡ old.bound
bound_stays old clock delay p (Ok span) new s = ap (λ (h : Holding). h.bound) s.2
bound_stays old clock delay p (Err (why.Late now)) new s = ap (λ (h : Holding). h.bound) s.2
bound_stays old clock delay p (Err why.Repeat) new s = ap (λ (h : Holding). h.bound) s.1
bound_stays old clock delay p (Err (why.Full sum length)) new s = ap (λ (h : Holding). h.bound) s.3
bound_stays old clock delay p (Err why.OutOfMemory) new s = ap (λ (h : Holding). h.bound) s.1
