-- The better of two units, and the best of several.
use Rattle.std.proofs.Common.{◌≡◌, ℕ, Bool, true, false, ◌&&◌, cond, List, [], ◌∷◌, ◌++◌, Option, Some, None, refl, ap, ap₂, sym, ◌∙◌}
use Rattle.mmt_base.specs.Ticks.{low, is_passed, due_of}
use Rattle.mmt_model.specs.Handing.{Presentation, order_numbers, precedes, is_presented_before, presentations_by}
use Rattle.mmt_model.specs.Units.{MediaUnit}
use Rattle.mmt_times.specs.Known.{Known, time_in}
use Rattle.mmt_times.proofs.Presented.{presented_none, presented_some}
use Rattle.mmt_runs.specs.declared.order.UnitOrder.{UnitOrder}
use Rattle.mmt_runs.specs.Order.{numbers_of, stands_after, follows}
use Rattle.mmt_runs.specs.Lending.{Lending, the_presentation}
use Rattle.mmt_runs.specs.Choosing.{is_sought, better, best, leads, IsOf}

-- a unit's numbers are those of its place
pub numbers_lent : (l : Lending) → order_numbers (the_presentation l) ≡ numbers_of l.order
unfolding order_numbers the_presentation numbers_of
numbers_lent l = refl

pub same_numbers : (o : UnitOrder) (u : MediaUnit) → IsOf o u → order_numbers (record { unit = u; time = o.time.0 }) ≡ numbers_of o
unfolding order_numbers numbers_of
same_numbers o u f = rw (f.packet_id, f.mpu, f.key, f.number, f.place) refl

sought_same : (after : Option UnitOrder) (from to : ℕ) (o : UnitOrder) (d : Presentation) → d.time ≡ o.time.0 → order_numbers d ≡ numbers_of o → is_sought after from to d ≡ (is_passed (low (due_of o.time.0)) from to && follows after o)
unfolding is_sought stands_after
sought_same None from to o d t e = ap (λ x. is_passed (low (due_of x)) from to && true) t
sought_same (Some p) from to o d t e = ap₂ (λ x n. is_passed (low (due_of x)) from to && precedes (numbers_of p) n) t e

better_no : (p : Presentation → Bool) (b : Option Presentation) (d : Presentation) → p d ≡ false → better p b d ≡ b
unfolding better
better_no p None d e = rw e refl
better_no p (Some b) d e = rw e refl

better_yes : (p : Presentation → Bool) (b : Option Presentation) (d : Presentation) (o : UnitOrder) → p d ≡ true → order_numbers d ≡ numbers_of o → leads b o ≡ true → better p b d ≡ Some d
unfolding better is_presented_before
better_yes p None d o e n l = rw e refl
better_yes p (Some b) d o e n l = rw (e, n, l) refl

better_keep : (p : Presentation → Bool) (b : Option Presentation) (d : Presentation) (o : UnitOrder) → order_numbers d ≡ numbers_of o → leads b o ≡ false → better p b d ≡ b
unfolding better is_presented_before
better_keep p None d o n l = absurd cc
better_keep p (Some b) d o n l = rw (n, l) (go (p d))
  where
    go : (t : Bool) → cond (t && false) (Some d) (Some b) ≡ Some b
    go true = refl
    go false = refl

pub best_append : (p : Presentation → Bool) (b : Option Presentation) (ds es : List Presentation) → best p b (ds ++ es) ≡ best p (best p b ds) es
unfolding best
best_append p b [] es = refl
best_append p b (d ∷ ds) es = best_append p (better p b d) ds es

pub best_nothing : (p : Presentation → Bool) (b : Option Presentation) (ds : List Presentation) → ds ≡ [] → best p b ds ≡ b
unfolding best
best_nothing p b ds e = rw e refl

best_one : (p : Presentation → Bool) (b : Option Presentation) (ds : List Presentation) (d : Presentation) → ds ≡ d ∷ [] → best p b ds ≡ better p b d
unfolding best
best_one p b ds d e = rw e refl

-- the presentation of a unit at its time
abbrev at_time : MediaUnit → ℕ → Presentation
at_time u t = record { unit = u; time = t }

-- a unit that has no entry
pub unnamed : (known : Known) (p : Presentation → Bool) (b : Option Presentation) (o : UnitOrder) (u : MediaUnit) → time_in known o.packet_id o.mpu o.key ≡ None → IsOf o u
    → best p b (presentations_by known.sample_base known.entries u) ≡ b
unnamed known p b o u e f = best_nothing p b _ (presented_none known.sample_base known.entries u (rw (f.packet_id, f.mpu, f.key) e))

named : (known : Known) (p : Presentation → Bool) (b : Option Presentation) (o : UnitOrder) (u : MediaUnit) → time_in known o.packet_id o.mpu o.key ≡ Some o.time.0 → IsOf o u
    → best p b (presentations_by known.sample_base known.entries u) ≡ better p b (at_time u o.time.0)
named known p b o u e f = best_one p b _ (at_time u o.time.0) (presented_some known.sample_base known.entries u o.time.0 (rw (f.packet_id, f.mpu, f.key) e))

-- what is known of a place at its time: whether it is looked for, and whether it stands before the best so far
pub record Tried (known : Known) (after : Option UnitOrder) (from to : ℕ) (b : Option Presentation) (o : UnitOrder) (sought leading : Bool) : Type 0 where
  pub time : time_in known o.packet_id o.mpu o.key ≡ Some o.time.0
  pub sought_is : sought ≡ (is_passed (low (due_of o.time.0)) from to && follows after o)
  pub leading_is : leading ≡ leads b o

looked_for : (known : Known) (after : Option UnitOrder) (from to : ℕ) (b : Option Presentation) (o : UnitOrder) (sought leading : Bool) (u : MediaUnit) → Tried known after from to b o sought leading → IsOf o u → is_sought after from to (at_time u o.time.0) ≡ sought
looked_for known after from to b o sought leading u t f = sought_same after from to o (at_time u o.time.0) refl (same_numbers o u f) ∙ sym t.sought_is

pub not_sought : (known : Known) (after : Option UnitOrder) (from to : ℕ) (b : Option Presentation) (o : UnitOrder) (leading : Bool) (u : MediaUnit) → Tried known after from to b o false leading → IsOf o u
    → best (is_sought after from to) b (presentations_by known.sample_base known.entries u) ≡ b
not_sought known after from to b o leading u t f = named known (is_sought after from to) b o u t.time f ∙ better_no (is_sought after from to) b _ (looked_for known after from to b o false leading u t f)

pub not_leading : (known : Known) (after : Option UnitOrder) (from to : ℕ) (b : Option Presentation) (o : UnitOrder) (sought : Bool) (u : MediaUnit) → Tried known after from to b o sought false → IsOf o u
    → best (is_sought after from to) b (presentations_by known.sample_base known.entries u) ≡ b
not_leading known after from to b o sought u t f = named known (is_sought after from to) b o u t.time f ∙ better_keep (is_sought after from to) b _ o (same_numbers o u f) (sym t.leading_is)

pub improves : (known : Known) (after : Option UnitOrder) (from to : ℕ) (b : Option Presentation) (o : UnitOrder) (u : MediaUnit) → Tried known after from to b o true true → IsOf o u
    → best (is_sought after from to) b (presentations_by known.sample_base known.entries u) ≡ Some (at_time u o.time.0)
improves known after from to b o u t f = named known (is_sought after from to) b o u t.time f ∙ better_yes (is_sought after from to) b _ o (looked_for known after from to b o true true u t f) (same_numbers o u f) (sym t.leading_is)

-- a unit of a place is one of the same place at another time
pub at_any_time : (o p : UnitOrder) (u : MediaUnit) → p ≡ record o { time = p.time } → IsOf o u → IsOf p u
at_any_time o p u e f = record { packet_id = f.packet_id ∙ sym (ap (λ x. x.packet_id) e); mpu = f.mpu ∙ sym (ap (λ x. x.mpu) e); key = f.key ∙ sym (ap (λ x. x.key) e); number = f.number ∙ sym (ap (λ x. x.first_number) e); place = f.place ∙ sym (ap (λ x. x.place) e) }

pub best_same : (p : Presentation → Bool) (b : Option Presentation) (ds es : List Presentation) → es ≡ ds → best p b ds ≡ best p b es
best_same p b ds es e = ap (best p b) (sym e)
