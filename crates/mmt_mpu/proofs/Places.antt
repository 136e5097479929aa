-- The place of a refused MPU payload lies within its bytes, or directly behind them.
use Rattle.std.proofs.Common.{◌≡◌, ℕ, zero, suc, ◌+◌, ◌-◌, ◌/◌, ◌%◌, ◌≤◌, Bool, true, false, ◌&&◌, ◌||◌, eqb, leb, ltb, List, [], ◌∷◌, length, take, drop, Option, Some, None, Result, Ok, Err, refl, ap, arith}
use Rattle.std.specs.Prelude.{IfSome}
use Rattle.std.specs.Int.{w8, w16, w32}
use Rattle.std.proofs.lemmas.List.{length-take}
use Rattle.mmt_base.specs.declared.refused.Refused.{Refused}
use Rattle.mmt_fields.specs.Reading.{number_at, bytes_at, check}
use Rattle.mmt_fields.proofs.Codec.{bind_ok, ok_is}
use Rattle.mmt_fields.proofs.Numbers.{guard_ok, number_leaves, bytes_leave}
use Rattle.mmt_mpu.specs.declared.types.MpuWhy.{MpuWhy}
use Rattle.mmt_mpu.specs.declared.types.MpuWhy.TheVariants as why
use Rattle.mmt_mpu.specs.Spelling.{head_length, end_of}
use Rattle.mmt_mpu.specs.Reading.{head_at, unit_at, lone_at, Walk, go_on, walk, all_units, unless_stopped, units_of, payload_of}
use Rattle.mmt_mpu.proofs.Walk.{UnitRest, head_leaves}
use Rattle.mmt_fields.proofs.Places.{IsWithin, bind_within, bytes_within, check_within, number_within}

head_within : (last : ℕ) (timed : Bool) (at : ℕ) (bytes : List ℕ) → at + length bytes ≤ last → IsWithin last (head_at timed at bytes)
unfolding head_at
head_within last true at bytes le =
    bind_within last (number_at w32 bytes at why.Short) _ (number_within last w32 bytes at why.Short (omega arith)) (λ a ea.
    let la = number_leaves w32 bytes at why.Short a ea in
    bind_within last (number_at w32 a.1 (at + 4) why.Short) _ (number_within last w32 a.1 (at + 4) why.Short (omega arith)) (λ b eb.
    let lb = number_leaves w32 a.1 (at + 4) why.Short b eb in
    bind_within last (number_at w32 b.1 (at + 8) why.Short) _ (number_within last w32 b.1 (at + 8) why.Short (omega arith)) (λ c ec.
    let lc = number_leaves w32 b.1 (at + 8) why.Short c ec in
    bind_within last (number_at w8 c.1 (at + 12) why.Short) _ (number_within last w8 c.1 (at + 12) why.Short (omega arith)) (λ p ep.
    let lp = number_leaves w8 c.1 (at + 12) why.Short p ep in
    bind_within last (number_at w8 p.1 (at + 13) why.Short) _ (number_within last w8 p.1 (at + 13) why.Short (omega arith)) (λ d ed. tt)))))
head_within last false at bytes le =
    bind_within last (number_at w32 bytes at why.Short) _ (number_within last w32 bytes at why.Short (omega arith)) (λ i ei. tt)

-- what a unit takes and what follows it are the bytes
unit_ends : (timed : Bool) (at : ℕ) (bytes : List ℕ) (x : UnitRest) → unit_at timed at bytes ≡ Ok x → end_of x.0 + length x.1 ≡ at + length bytes
unfolding unit_at bytes_at
unit_ends timed at bytes x e =
    let a = bind_ok (number_at w16 bytes at why.Short) _ x e in
    let w = bind_ok (check (leb (head_length timed) a.0.0 && leb a.0.0 (length a.0.1)) at why.Overrun) _ x a.2 in
    let h = bind_ok (head_at timed (at + 2) a.0.1) _ x w.2 in
    let b = bind_ok (bytes_at (a.0.0 - head_length timed) h.0.1 (at + 2 + head_length timed) why.Short) _ x h.2 in
    let rest : length b.0.1 ≡ length x.1 = ap (λ (y : UnitRest). length y.1) (ok_is _ x b.2) in
    let from : at + 2 + head_length timed ≡ x.0.from = ap (λ (y : UnitRest). y.0.from) (ok_is _ x b.2) in
    let body : length b.0.0 ≡ length x.0.bytes = ap (λ (y : UnitRest). length y.0.bytes) (ok_is _ x b.2) in
    let g = guard_ok (ltb (length h.0.1) (a.0.0 - head_length timed)) (record { at = at + 2 + head_length timed; why = why.Short }) (take (a.0.0 - head_length timed) h.0.1, drop (a.0.0 - head_length timed) h.0.1) b.0 b.1 in
    let taken : length (take (a.0.0 - head_length timed) h.0.1) ≡ length b.0.0 = ap (λ (p : List ℕ × List ℕ). length p.0) g.1 in
    omega (arith, length-take (a.0.0 - head_length timed) h.0.1, number_leaves w16 bytes at why.Short a.0 a.1, head_leaves timed (at + 2) a.0.1 h.0 h.1, bytes_leave (a.0.0 - head_length timed) h.0.1 (at + 2 + head_length timed) why.Short b.0 b.1)

unit_within : (last : ℕ) (timed : Bool) (at : ℕ) (bytes : List ℕ) → at + length bytes ≤ last → IsWithin last (unit_at timed at bytes)
unfolding unit_at
unit_within last timed at bytes le =
    bind_within last (number_at w16 bytes at why.Short) _ (number_within last w16 bytes at why.Short (omega arith)) (λ a ea.
    let la = number_leaves w16 bytes at why.Short a ea in
    bind_within last (check (leb (head_length timed) a.0 && leb a.0 (length a.1)) at why.Overrun) _ (check_within last (leb (head_length timed) a.0 && leb a.0 (length a.1)) at why.Overrun (omega arith)) (λ w ew.
    bind_within last (head_at timed (at + 2) a.1) _ (head_within last timed (at + 2) a.1 (omega arith)) (λ h eh.
    let lh = head_leaves timed (at + 2) a.1 h eh in
    bind_within last (bytes_at (a.0 - head_length timed) h.1 (at + 2 + head_length timed) why.Short) _ (bytes_within last (a.0 - head_length timed) h.1 (at + 2 + head_length timed) why.Short (omega arith)) (λ b eb. tt))))

lone_within : (last : ℕ) (timed : Bool) (at : ℕ) (bytes : List ℕ) → at + length bytes ≤ last → IsWithin last (lone_at timed at bytes)
unfolding lone_at
lone_within last timed at bytes le =
    bind_within last (check (leb (head_length timed) (length bytes)) at why.Short) _ (check_within last (leb (head_length timed) (length bytes)) at why.Short (omega arith)) (λ w ew.
    bind_within last (head_at timed at bytes) _ (head_within last timed at bytes le) (λ h eh. tt))

abbrev Stops : ℕ → Walk → Type 0
Stops last w = IfSome w.stop (λ e. e.at ≤ last)

go_on_within : (last : ℕ) (r : Result UnitRest (Refused MpuWhy)) (others : UnitRest → Walk) → IsWithin last r → ((x : UnitRest) → r ≡ Ok x → Stops last (others x)) → Stops last (go_on r others)
go_on_within last (Ok x) others here later = later x refl
go_on_within last (Err e) others here later = here

walk_within : (last n : ℕ) (timed : Bool) (at : ℕ) (bytes : List ℕ) → at + length bytes ≤ last → Stops last (walk n timed at bytes)
unfolding walk
walk_within last zero timed at bytes le = tt
walk_within last (suc n) timed at [] le = tt
walk_within last (suc n) timed at (b ∷ bytes) le =
    go_on_within last (unit_at timed at (b ∷ bytes)) (λ u. walk n timed (end_of u.0) u.1) (unit_within last timed at (b ∷ bytes) le)
    (λ u e. let ends = unit_ends timed at (b ∷ bytes) u e in walk_within last n timed (end_of u.0) u.1 (omega arith))

unless_within : {A : Type 0} (last : ℕ) (stop : Option (Refused MpuWhy)) (x : A) → IfSome stop (λ e. e.at ≤ last) → IsWithin last (unless_stopped stop x)
unless_within last None x here = tt
unless_within last (Some e) x here = here

units_within : (last : ℕ) (aggregated timed : Bool) (bytes : List ℕ) → 8 + length bytes ≤ last → IsWithin last (units_of aggregated timed bytes)
unfolding units_of
units_within last true timed bytes le = unless_within last (all_units timed 8 bytes).stop (all_units timed 8 bytes).units (walk_within last (length bytes) timed 8 bytes le)
units_within last false timed bytes le = bind_within last (lone_at timed 8 bytes) _ (lone_within last timed 8 bytes le) (λ u e. tt)

pub payload_within : (bytes : List ℕ) → IsWithin (length bytes) (payload_of bytes)
unfolding payload_of
payload_within bytes =
    let last = length bytes in
    bind_within last (number_at w16 bytes 0 why.Short) _ (number_within last w16 bytes 0 why.Short (omega arith)) (λ len el.
    let ll = number_leaves w16 bytes 0 why.Short len el in
    bind_within last (check (eqb (length len.1) len.0) 0 why.Length) _ (check_within last (eqb (length len.1) len.0) 0 why.Length (omega arith)) (λ whole ew.
    bind_within last (number_at w8 len.1 2 why.Short) _ (number_within last w8 len.1 2 why.Short (omega arith)) (λ flags ef.
    let lf = number_leaves w8 len.1 2 why.Short flags ef in
    bind_within last (check (leb 2 (flags.0 / 16)) 2 (why.Metadata (flags.0 / 16))) _ (check_within last (leb 2 (flags.0 / 16)) 2 (why.Metadata (flags.0 / 16)) (omega arith)) (λ units eu.
    bind_within last (check (leb (flags.0 / 16) 2) 2 (why.FragmentType (flags.0 / 16))) _ (check_within last (leb (flags.0 / 16) 2) 2 (why.FragmentType (flags.0 / 16)) (omega arith)) (λ known ek.
    bind_within last (check (eqb (flags.0 % 2) 0 || eqb (flags.0 / 2 % 4) 0) 2 why.AggregatedPart) _ (check_within last (eqb (flags.0 % 2) 0 || eqb (flags.0 / 2 % 4) 0) 2 why.AggregatedPart (omega arith)) (λ part ep.
    bind_within last (number_at w8 flags.1 3 why.Short) _ (number_within last w8 flags.1 3 why.Short (omega arith)) (λ counter ec.
    let lc = number_leaves w8 flags.1 3 why.Short counter ec in
    bind_within last (number_at w32 counter.1 4 why.Short) _ (number_within last w32 counter.1 4 why.Short (omega arith)) (λ mpu em.
    let lm = number_leaves w32 counter.1 4 why.Short mpu em in
    bind_within last (units_of (eqb (flags.0 % 2) 1) (eqb (flags.0 / 8 % 2) 1) mpu.1) _ (units_within last (eqb (flags.0 % 2) 1) (eqb (flags.0 / 8 % 2) 1) mpu.1 (omega arith)) (λ found e. tt)))))))))
