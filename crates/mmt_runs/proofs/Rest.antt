-- The units after the one that was handed out last.
use Rattle.std.proofs.Common.{◌≡◌, Bool, true, false, cond, List, [], ◌∷◌, refl, ap, sym, ◌∙◌, Option, Some, None}
use Rattle.mmt_model.specs.Handing.{Presentation, order_numbers, precedes, is_presented_before}
use Rattle.mmt_model.proofs.Preceding.{before-one_way, before-through}
use Rattle.mmt_runs.specs.declared.order.UnitOrder.{UnitOrder}
use Rattle.mmt_runs.specs.Order.{numbers_of, stands_after, order_now}
use Rattle.mmt_runs.specs.Leading.{rest_after, first}
use Rattle.std.specs.Option.{option_copied}
use denote.Bor.{Bor}
use Rattle.mmt_runs.proofs.Rising.{Each, Rising}

pub rest_none : (ds : List Presentation) → rest_after None ds ≡ ds
unfolding stands_after
rest_none [] = refl
rest_none (d ∷ ds) = ap (λ l. d ∷ l) (rest_none ds)

-- all of these stand after it
all_after : (after : Option UnitOrder) (ds : List Presentation) → Each (λ e. stands_after after e ≡ true) ds → rest_after after ds ≡ ds
all_after after [] h = refl
all_after after (d ∷ ds) h = rw (h.0) (ap (λ l. d ∷ l) (all_after after ds h.1))

each_map : {P Q : Presentation → Type 0} (ds : List Presentation) → ((d : Presentation) → P d → Q d) → Each P ds → Each Q ds
each_map [] f h = tt
each_map (d ∷ ds) f h = (f d h.0, each_map ds f h.1)

each_first : (P : Presentation → Type 0) (after : Option UnitOrder) (ds : List Presentation) (d : Presentation) → Each P ds → first (rest_after after ds) ≡ Some d → P d
each_first P after [] d h is = absurd cc
each_first P after (x ∷ ds) d h is = go (stands_after after x) (λ f. each_first P after ds d h.1 f) is
  where
    go : (b : Bool) → (first (rest_after after ds) ≡ Some d → P d) → first (cond b (x ∷ rest_after after ds) (rest_after after ds)) ≡ Some d → P d
    go true ih e = let same : x ≡ d = cc in rw (← same) h.0
    go false ih e = ih e

after_through : (after : Option UnitOrder) (x y : Presentation) → stands_after after x ≡ true → is_presented_before x y ≡ true → stands_after after y ≡ true
unfolding stands_after is_presented_before
after_through None x y a b = refl
after_through (Some o) x y a b = before-through (numbers_of o) (order_numbers x) (order_numbers y) a b

order_after : (o : UnitOrder) (x y : Presentation) → numbers_of o ≡ order_numbers x → is_presented_before x y ≡ true → stands_after (Some o) y ≡ true
unfolding stands_after is_presented_before
order_after o x y e b = rw e b

false_of : (b : Bool) → (b ≡ true → ⊥) → b ≡ false
false_of true h = absurd (h refl)
false_of false h = refl

not_after : (o : UnitOrder) (x d : Presentation) → numbers_of o ≡ order_numbers d → is_presented_before x d ≡ true → stands_after (Some o) x ≡ false
unfolding stands_after is_presented_before
not_after o x d e b = rw e (false_of (precedes (order_numbers d) (order_numbers x)) (λ c. before-one_way (order_numbers x) (order_numbers d) b c))

not_itself : (o : UnitOrder) (d : Presentation) → numbers_of o ≡ order_numbers d → stands_after (Some o) d ≡ false
unfolding stands_after
not_itself o d e = rw e (false_of (precedes (order_numbers d) (order_numbers d)) (λ c. before-one_way (order_numbers d) (order_numbers d) c c))

pub next_rest : (after : Option UnitOrder) (o : UnitOrder) (ds : List Presentation) (d : Presentation) → Rising is_presented_before ds → first (rest_after after ds) ≡ Some d → numbers_of o ≡ order_numbers d
    → rest_after after ds ≡ d ∷ rest_after (Some o) ds
next_rest after o [] d r is e = absurd cc
next_rest after o (x ∷ ds) d r is e = go (stands_after after x) refl (λ f. next_rest after o ds d r.1 f e) is
  where
    go : (b : Bool) → stands_after after x ≡ b → (first (rest_after after ds) ≡ Some d → rest_after after ds ≡ d ∷ rest_after (Some o) ds) → first (cond b (x ∷ rest_after after ds) (rest_after after ds)) ≡ Some d
        → cond b (x ∷ rest_after after ds) (rest_after after ds) ≡ d ∷ cond (stands_after (Some o) x) (x ∷ rest_after (Some o) ds) (rest_after (Some o) ds)
    go true a ih f =
        let same : x ≡ d = cc in
        let ex : numbers_of o ≡ order_numbers x = e ∙ ap order_numbers (sym same) in
        rw (not_itself o x ex, all_after after ds (each_map ds (λ y h. after_through after x y a h) r.0), all_after (Some o) ds (each_map ds (λ y h. order_after o x y ex h) r.0), same) refl
    go false a ih f =
        let xd : is_presented_before x d ≡ true = each_first (λ y. is_presented_before x y ≡ true) after ds d r.0 f in
        rw (not_after o x d e xd) (ih f)

-- the order behind a reference that was lent
pub now_of_ref : (r : Option (Bor UnitOrder)) (after : Option UnitOrder) → option_copied r ≡ after → order_now r ≡ after
now_of_ref None after e = e
now_of_ref (Some o) after e = e
