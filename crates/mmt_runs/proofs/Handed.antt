-- The due units, given one after another.
use Rattle.std.proofs.Common.{◌≡◌, ℕ, ◌+◌, ◌-◌, ◌%◌, ◌^◌, ◌<◌, Bool, ◌&&◌, nat_le, nat_lt, cond, List, [], ◌∷◌, map, filter, Option, Some, None, refl, ap, sym, arith}
use Rattle.std.proofs.lemmas.Bool.Decides.{nat_tests}
use Rattle.mmt_base.specs.Ticks.{low, is_passed, is_after, ahead_of, plus, due_of}
use Rattle.mmt_model.specs.Entries.{Entry}
use Rattle.mmt_model.specs.Sorted.{sort_by}
use Rattle.mmt_model.specs.Handing.{Presentation, due_units, is_presented_before, named_units}
use Rattle.mmt_model.specs.Units.{MediaUnit, units_of}
use Rattle.mmt_pool.specs.Holding.{Kept}
use Rattle.mmt_times.specs.Known.{Known}
use Rattle.mmt_runs.specs.declared.order.UnitOrder.{UnitOrder}
use Rattle.mmt_runs.specs.Leading.{first, rest_after}
use Rattle.mmt_runs.specs.Lending.{Lending, the_presentation}
use Rattle.mmt_runs.specs.Reading.{heard}
use Rattle.mmt_runs.specs.Told.{IsTold, Tracked}
use Rattle.mmt_runs.proofs.Better.{numbers_lent}
use Rattle.mmt_runs.proofs.Rest.{next_rest}
use Rattle.mmt_runs.proofs.Sorted.{due_rising}
use Rattle.mmt_runs.proofs.Spans.{told_order}

-- the units that are left before a unit is given are that unit and those that stand after it
pub next_due : (spans : Tracked) (kept : List Kept) (known : Known) (after : Option UnitOrder) (from to : ℕ) (unit : Lending) → IsTold spans kept known
    → Some (the_presentation unit) ≡ first (rest_after after (due_units known.sample_base known.entries (units_of (map heard kept)) from to))
    → rest_after after (due_units known.sample_base known.entries (units_of (map heard kept)) from to) ≡ the_presentation unit ∷ rest_after (Some unit.order) (due_units known.sample_base known.entries (units_of (map heard kept)) from to)
next_due spans kept known after from to unit told e =
    next_rest after unit.order (due_units known.sample_base known.entries (units_of (map heard kept)) from to) (the_presentation unit) (due_rising known kept from to (told_order spans kept known told)) (sym e) (sym (numbers_lent unit))

-- no unit is left where none is given
pub none_due : (ds : List Presentation) → None ≡ first ds → ds ≡ []
none_due [] e = refl
none_due (d ∷ ds) e = absurd cc

ahead_on : (c : ℕ) → c < 2 ^ 32 → ahead_of ((c + (2 ^ 31 - 1)) % 2 ^ 32) c ≡ 2 ^ 31 - 1
unfolding ahead_of
ahead_on c l = omega (arith, l)

-- a tick is after the clock where the clock passes it on its way over the next 2^31 - 1 ticks
passed_after : (d c : ℕ) → c < 2 ^ 32 → is_passed d c (plus c (2 ^ 31 - 1)) ≡ is_after d c
unfolding is_passed is_after plus
passed_after d c l =
    rw (ahead_on c l) (below (ahead_of d c))
  where
    below : (n : ℕ) → (nat_le 1 n && nat_le n (2 ^ 31 - 1)) ≡ (nat_le 1 n && nat_lt n (2 ^ 31))
    below n = grind (arith, nat_tests)

same_filter : (p q : Presentation → Bool) (ds : List Presentation) → ((d : Presentation) → p d ≡ q d) → filter p ds ≡ filter q ds
same_filter p q [] f = refl
same_filter p q (d ∷ ds) f = rw (f d) (ap (λ l. cond (q d) (d ∷ l) l) (same_filter p q ds f))

-- the units that are due after the clock are those that it would pass over the next 2^31 - 1 ticks
pub final_due : (base : ℕ) (es : List Entry) (us : List MediaUnit) (c : ℕ) → c < 2 ^ 32
    → due_units base es us c (plus c (2 ^ 31 - 1)) ≡ sort_by is_presented_before (filter (λ d. is_after (low (due_of d.time)) c) (named_units base es us))
final_due base es us c l = ap (sort_by is_presented_before) (same_filter _ _ (named_units base es us) (λ d. passed_after (low (due_of d.time)) c l))
