-- Slots by their numbers, and by their ticks.
use Rattle.std.proofs.Common.{◌≡◌, ℕ, zero, suc, ◌+◌, ◌-◌, ◌*◌, ◌/◌, ◌<◌, ◌≤◌, Bool, true, false, ◌&&◌, nat_lt, nat_le, cond, min, refl, arith, ⊎_elim}
use Rattle.std.proofs.Math.Nat.{mul-le-mul_right, div-mul-le_self}
use Rattle.std.proofs.lemmas.Nat.{le-div}
use Rattle.std.proofs.lemmas.Grind.{div_ceil_times}
use Rattle.std.proofs.lemmas.Bool.Decides.{nat_tests}
use Rattle.std.proofs.lemmas.Bool.{cases_lt}
use Rattle.std.specs.Int.{div_ceil}
use Rattle.mmt_model.specs.Counts.{as_number}
use Rattle.mmt_slots.specs.declared.row.Slots.{Slots}
use Rattle.mmt_slots.specs.Schedule.{tick_of, count_below, slots_within}
use Rattle.mmt_slots.specs.Row.{first_at, end_at}

ceil_above : (a b k : ℕ) → 0 < b → div_ceil a b ≤ k → a ≤ k * b
ceil_above a b k p h = omega (arith, (div_ceil_times a b p).0, mul-le-mul_right {m = div_ceil a b} {n = k} b h)

ceil_below : (a b k : ℕ) → 0 < b → a ≤ k * b → k < div_ceil a b → ⊥
ceil_below a b k p h l = let m : suc k ≤ div_ceil a b = omega arith in
    omega (arith, (div_ceil_times a b p).1, mul-le-mul_right {m = suc k} {n = div_ceil a b} b m)

-- a slot is at or after a tick if and only if its number is at or after that of the first such slot
pub tick-from_first : (slots : Slots) (k tick : ℕ) → 1 ≤ slots.step → first_at slots tick ≤ k → tick ≤ tick_of slots k
unfolding first_at
tick-from_first slots k tick p h = omega (arith, ceil_above (tick - slots.start) slots.step k p h)

pub first-from_tick : (slots : Slots) (k tick : ℕ) → 1 ≤ slots.step → tick ≤ tick_of slots k → first_at slots tick ≤ k
unfolding first_at
first-from_tick slots k tick p h = ⊎_elim (λ (l : k < first_at slots tick). absurd (ceil_below (tick - slots.start) slots.step k p (omega arith) l)) (λ (l : first_at slots tick ≤ k). l) (cases_lt k (first_at slots tick))

-- a later tick has no earlier first slot
pub first-later : (slots : Slots) (a b : ℕ) → 1 ≤ slots.step → a ≤ b → first_at slots a ≤ first_at slots b
first-later slots a b p h = let m : b ≤ tick_of slots (first_at slots b) = tick-from_first slots (first_at slots b) b p (omega arith) in first-from_tick slots (first_at slots b) a p (omega arith)

-- a slot of the row is at or before a tick if and only if its number is below their count
pub tick-from_end : (slots : Slots) (k tick : ℕ) → 1 ≤ slots.step → k < end_at slots tick → tick_of slots k ≤ tick
unfolding end_at
tick-from_end slots k tick p h = go (nat_lt tick slots.start) refl h
  where
    go : (b : Bool) → nat_lt tick slots.start ≡ b → k < cond b 0 (min slots.count ((tick - slots.start) / slots.step + 1)) → tick_of slots k ≤ tick
    go true e l = absurd (omega arith)
    go false e l =
        let after : slots.start ≤ tick = grind (arith, nat_tests) in
        let below : k ≤ (tick - slots.start) / slots.step = omega arith in
        omega (arith, div-mul-le_self (tick - slots.start) slots.step, mul-le-mul_right {m = k} {n = (tick - slots.start) / slots.step} slots.step below)

pub row-from_end : (slots : Slots) (k tick : ℕ) → k < end_at slots tick → k < slots.count
unfolding end_at
row-from_end slots k tick h = go (nat_lt tick slots.start) h
  where
    go : (b : Bool) → k < cond b 0 (min slots.count ((tick - slots.start) / slots.step + 1)) → k < slots.count
    go true l = absurd (omega arith)
    go false l = omega arith

pub end-from_tick : (slots : Slots) (k tick : ℕ) → 1 ≤ slots.step → k < slots.count → tick_of slots k ≤ tick → k < end_at slots tick
unfolding end_at
end-from_tick slots k tick p r h = go (nat_lt tick slots.start) refl
  where
    go : (b : Bool) → nat_lt tick slots.start ≡ b → k < cond b 0 (min slots.count ((tick - slots.start) / slots.step + 1))
    go true e = absurd (grind (arith, nat_tests))
    go false e =
        let after : slots.start ≤ tick = grind (arith, nat_tests) in
        let below : k ≤ (tick - slots.start) / slots.step = le-div k (tick - slots.start) slots.step p (omega arith) in
        omega arith

end-le_count : (slots : Slots) (tick : ℕ) → end_at slots tick ≤ slots.count
unfolding end_at
end-le_count slots tick = go (nat_lt tick slots.start)
  where
    go : (b : Bool) → cond b 0 (min slots.count ((tick - slots.start) / slots.step + 1)) ≤ slots.count
    go true = omega arith
    go false = omega arith

within_step : (slots : Slots) (from to n : ℕ) → 1 ≤ slots.step → n < slots.count → (b : Bool) → nat_le from (tick_of slots n) ≡ b → (c : Bool) → nat_le (tick_of slots n) to ≡ c
    → (min n (end_at slots to) - first_at slots from) + as_number (b && c) ≡ min (suc n) (end_at slots to) - first_at slots from
within_step slots from to n p h true e true f =
    let low : from ≤ tick_of slots n = grind (arith, nat_tests) in
    let high : tick_of slots n ≤ to = grind (arith, nat_tests) in
    omega (arith, first-from_tick slots n from p low, end-from_tick slots n to p h high)
within_step slots from to n p h true e false f =
    let high : to < tick_of slots n = grind (arith, nat_tests) in
    let past : end_at slots to ≤ n = ⊎_elim (λ (l : n < end_at slots to). absurd (omega (arith, tick-from_end slots n to p l))) (λ (l : end_at slots to ≤ n). l) (cases_lt n (end_at slots to)) in
    omega arith
within_step slots from to n p h false e c f =
    let low : tick_of slots n < from = grind (arith, nat_tests) in
    let before : n < first_at slots from = ⊎_elim (λ (l : n < first_at slots from). l) (λ (l : first_at slots from ≤ n). absurd (omega (arith, tick-from_first slots n from p l))) (cases_lt n (first_at slots from)) in
    omega arith

within_below : (slots : Slots) (from to n : ℕ) → 1 ≤ slots.step → n ≤ slots.count → count_below (λ k. nat_le from (tick_of slots k) && nat_le (tick_of slots k) to) n ≡ min n (end_at slots to) - first_at slots from
unfolding count_below
within_below slots from to zero p h = omega arith
within_below slots from to (suc n) p h = omega (arith, within_below slots from to n p (omega arith), within_step slots from to n p (omega arith) (nat_le from (tick_of slots n)) refl (nat_le (tick_of slots n) to) refl)

-- the slots from one tick to another are those from the first at or after the one up to the last at or before the other
pub slots_within-is : (slots : Slots) (from to : ℕ) → 1 ≤ slots.step → slots_within slots from to ≡ end_at slots to - first_at slots from
slots_within-is slots from to p = omega (arith, within_below slots from to slots.count p (omega arith), end-le_count slots to)
