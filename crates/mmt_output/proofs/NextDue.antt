-- The next of the due units.
use Rattle.std.proofs.Common.{◌≡◌, ℕ, List, ◌∷◌, map, length, Option, Some, ap, sym, ◌∙◌}
use Rattle.std.specs.Option.{option_copied}
use denote.Bor.{Bor}
use Rattle.mmt_model.specs.Handing.{due_units}
use Rattle.mmt_model.specs.Units.{joined, units_of}
use Rattle.mmt_pool.specs.Holding.{Kept}
use Rattle.mmt_times.specs.Known.{Known}
use Rattle.mmt_runs.specs.declared.order.UnitOrder.{UnitOrder}
use Rattle.mmt_runs.specs.Leading.{first, rest_after}
use Rattle.mmt_runs.specs.Lending.{Lending, the_presentation}
use Rattle.mmt_runs.specs.Order.{order_now}
use Rattle.mmt_runs.specs.Reading.{heard}
use Rattle.mmt_runs.specs.Told.{IsTold, Tracked}
use Rattle.mmt_runs.proofs.Handed.{next_due}
use Rattle.mmt_runs.proofs.Rest.{now_of_ref}

-- what is left is the unit that was found, and what is left after it
pub due_next : (told_of : Tracked) (kept : List Kept) (known : Known) (after : Option UnitOrder) (ref : Option (Bor UnitOrder)) (from to : ℕ) (unit : Lending) (o : UnitOrder) → IsTold told_of kept known → option_copied ref ≡ after
    → (IsTold told_of kept known → Some (the_presentation unit) ≡ first (rest_after (order_now ref) (due_units known.sample_base known.entries (units_of (map heard kept)) from to)))
    → o ≡ unit.order
    → rest_after after (due_units known.sample_base known.entries (units_of (map heard kept)) from to) ≡ the_presentation unit ∷ rest_after (Some o) (due_units known.sample_base known.entries (units_of (map heard kept)) from to)
due_next told_of kept known after ref from to unit o told copied found place =
    let found_after = found told ∙ ap (λ a. first (rest_after a (due_units known.sample_base known.entries (units_of (map heard kept)) from to))) (now_of_ref ref after copied) in
    next_due told_of kept known after from to unit told found_after
    ∙ ap (λ p. the_presentation unit ∷ rest_after (Some p) (due_units known.sample_base known.entries (units_of (map heard kept)) from to)) (sym place)

-- the bytes of a unit of which no part was lent
pub bytes_lent : (l : Lending) (n : ℕ) → n ≡ length (joined l.left) → n ≡ length (the_presentation l).unit.bytes
unfolding the_presentation
bytes_lent l n is = is
