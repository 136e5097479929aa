-- Which times are due between two ticks, in numbers.
use Rattle.std.proofs.Common.{◌≡◌, ℕ, ◌+◌, ◌-◌, ◌*◌, ◌/◌, ◌%◌, ◌^◌, ◌<◌, ◌≤◌, true, nat_le, refl, ap, sym, ◌∙◌, arith, ◌⊎◌, inl, inr, Option, Some, None}
use Rattle.std.specs.Prelude.{IfSome}
use Rattle.std.proofs.lemmas.Bool.{and_parts, cases_lt, leb-true}
use Rattle.mmt_base.specs.Ticks.{low, is_passed, due_of, ahead_of}
use Rattle.mmt_runs.specs.declared.stretch.Stretch.{Stretch}
use Rattle.mmt_runs.specs.Stretch.{HoldsDue}

-- a time is passed where its due tick is at least one tick ahead, and at most as far as the clock goes
passed : (t from to : ℕ) → is_passed (low (due_of t)) from to ≡ true → (1 ≤ ahead_of (low (due_of t)) from) × (ahead_of (low (due_of t)) from ≤ ahead_of to from)
unfolding is_passed
passed t from to h = let p = and_parts (nat_le 1 (ahead_of (low (due_of t)) from)) (nat_le (ahead_of (low (due_of t)) from) (ahead_of to from)) h in (leb-true 1 (ahead_of (low (due_of t)) from) p.0, leb-true (ahead_of (low (due_of t)) from) (ahead_of to from) p.1)

-- a due tick that is some ticks after the first is so much further ahead, modulo 2^32
further : (first x from : ℕ) → from < 2 ^ 32 → ahead_of (low (first + x)) from ≡ (ahead_of (low first) from + x) % 2 ^ 32
unfolding ahead_of low
further first x from small = omega arith

further_by : (first x d from : ℕ) → from < 2 ^ 32 → d ≡ first + x → ahead_of (low d) from ≡ (ahead_of (low first) from + x) % 2 ^ 32
further_by first x d from small e = rw e (further first x from small)

-- so it is further ahead, or 2^32 less
wrapped : (a x : ℕ) → a < 2 ^ 32 → x < 2 ^ 32 → (((a + x) % 2 ^ 32 ≡ a + x) × (a + x < 2 ^ 32)) ⊎ (((a + x) % 2 ^ 32 + 2 ^ 32 ≡ a + x) × (2 ^ 32 ≤ a + x))
wrapped a x s t = elim (cases_lt (a + x) (2 ^ 32)) [
  | inl lt ↦ inl (omega arith, lt)
  | inr ge ↦ inr (omega arith, ge)
]

ahead_small : (a from : ℕ) → ahead_of a from < 2 ^ 32
unfolding ahead_of
ahead_small a from = omega arith

due-bounds : (t : ℕ) → (65536 * due_of t < t + 65536) × (t ≤ 65536 * due_of t)
unfolding due_of
due-bounds t = (omega arith, omega arith)

due-mono : (t u : ℕ) → t ≤ u → due_of t ≤ due_of u
unfolding due_of
due-mono t u h = omega arith

-- what is due among times that lie close together
pub record Near (least greatest from to : ℕ) : Type 0 where
  pub narrow : from < 2 ^ 32
  pub ticks : ahead_of to from < 2 ^ 31
  pub close : due_of greatest < due_of least + 2 ^ 31

-- how many ticks after the first a due tick is
pub record Ticks (least greatest from to t : ℕ) : Type 0 where
  pub x : ℕ
  pub due : due_of t ≡ due_of least + x
  pub small : x < 2 ^ 31
  pub some : 1 ≤ (ahead_of (low (due_of least)) from + x) % 2 ^ 32
  pub most : (ahead_of (low (due_of least)) from + x) % 2 ^ 32 ≤ ahead_of to from

ticks_of : (least greatest from to t : ℕ) → Near least greatest from to → least ≤ t → t ≤ greatest → is_passed (low (due_of t)) from to ≡ true → Ticks least greatest from to t
ticks_of least greatest from to t n lo hi h =
    let x : ℕ = due_of t - due_of least in
    let e : due_of t ≡ due_of least + x = omega (arith, due-mono least t lo) in
    let p = passed t from to h in
    let f : ahead_of (low (due_of t)) from ≡ (ahead_of (low (due_of least)) from + x) % 2 ^ 32 = further_by (due_of least) x (due_of t) from n.narrow e in
    record {
      x = x;
      due = e;
      small = omega (arith, due-mono t greatest hi, n.close);
      some = omega (arith, f, p.0);
      most = omega (arith, f, p.1);
    }

-- the first due tick is the clock's
pub at_clock : (least greatest from to : ℕ) (s : Stretch) → Near least greatest from to → ahead_of (low (due_of least)) from ≡ 0 → s.after ≡ 65536 * due_of least → s.before ≡ 65536 * (due_of least + ahead_of to from) + 1 → HoldsDue least greatest from to s
at_clock least greatest from to s n z a b = λ t lo hi h.
    let k = ticks_of least greatest from to t n lo hi h in
    let v : (ahead_of (low (due_of least)) from + k.x) % 2 ^ 32 ≡ k.x = rw z (omega (arith, k.small)) in
    let d = due-bounds t in
    (omega (arith, a, d.0, k.due, k.some, v), omega (arith, b, d.1, k.due, k.most, v))

-- the first due tick is further ahead than the clock goes
pub behind_clock : (least greatest from to : ℕ) (s : Stretch) → Near least greatest from to → ahead_of to from < ahead_of (low (due_of least)) from
    → s.after ≡ 65536 * (due_of least + (2 ^ 32 - ahead_of (low (due_of least)) from)) → s.before ≡ 65536 * (due_of least + (2 ^ 32 - ahead_of (low (due_of least)) from) + ahead_of to from) + 1 → HoldsDue least greatest from to s
behind_clock least greatest from to s n z a b = λ t lo hi h.
    let k = ticks_of least greatest from to t n lo hi h in
    let c : ℕ = ahead_of (low (due_of least)) from in
    let small : c < 2 ^ 32 = ahead_small (low (due_of least)) from in
    let d = due-bounds t in
    elim (wrapped c k.x small (omega (arith, k.small))) [
      | inl w ↦ absurd (omega (arith, w.0, k.most, z))
      | inr w ↦ (omega (arith, a, d.0, k.due, k.some, w.0, small), omega (arith, b, d.1, k.due, k.most, w.0, small))
    ]

-- the first due tick is passed
pub after_clock : (least greatest from to : ℕ) (s : Stretch) → Near least greatest from to → 1 ≤ ahead_of (low (due_of least)) from → ahead_of (low (due_of least)) from ≤ ahead_of to from
    → s.after < least → s.before ≡ 65536 * (due_of least + (ahead_of to from - ahead_of (low (due_of least)) from)) + 1 → HoldsDue least greatest from to s
after_clock least greatest from to s n one z a b = λ t lo hi h.
    let k = ticks_of least greatest from to t n lo hi h in
    let c : ℕ = ahead_of (low (due_of least)) from in
    let small : c < 2 ^ 32 = ahead_small (low (due_of least)) from in
    let d = due-bounds t in
    elim (wrapped c k.x small (omega (arith, k.small))) [
      | inl w ↦ (omega (arith, a, lo), omega (arith, b, d.1, k.due, k.most, w.0, z))
      | inr w ↦ absurd (omega (arith, w.0, k.some, k.small, z, n.ticks))
    ]

pub due-small : (t : ℕ) → t < 2 ^ 64 → due_of t ≤ 2 ^ 48
unfolding due_of
due-small t small = omega arith

-- how far ahead the first due tick is, by what was reckoned
pub ahead_is : (r d least from : ℕ) → r ≡ ahead_of d from → d ≡ low (due_of least) → ahead_of (low (due_of least)) from ≡ r
ahead_is r d least from e f = sym (e ∙ ap (λ x. ahead_of x from) f)

pub each_some : (P Q : Stretch → Type 0) (o : Option Stretch) → IfSome o P → ((s : Stretch) → P s → Q s) → IfSome o Q
each_some P Q None h f = h
each_some P Q (Some s) h f = f s h
