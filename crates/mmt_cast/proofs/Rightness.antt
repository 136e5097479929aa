-- What each sending of a programme is of.
use Rattle.std.proofs.Common.{◌≡◌, ℕ, ◌+◌, ◌-◌, ◌<◌, ◌≤◌, zero, suc, Bool, true, false, cond, nat_lt, List, [], ◌∷◌, length, get_or, arith, refl, ap, sym, ◌∙◌, ⊎_elim, map, take, ap₂}
use Rattle.std.specs.List.{AllByRecursion, sum_by}
use Rattle.mmt_model.specs.Carrying.{numbers}
use Rattle.std.proofs.lemmas.Bool.{cases_eq, cases_lt, ltb-true}
use Rattle.mmt_cast.proofs.Grouping.{group-fits, group-joins, group-le, group-short}
use Rattle.mmt_cast.proofs.Listing.{each-append}
use Rattle.mmt_cast.specs.Placing.{PlacedUnit, all_units, map_from}
use Rattle.mmt_cast.specs.Right.{no_placed_unit, no_signal, signal_at, unit_at}
use Rattle.mmt_cast.specs.Sending.{Sending, group_size, header_length, sending_of_signal, sending_of_units, sendings, sendings_of_units}
use Rattle.mmt_cast.specs.Tables.{table_message_length}
use Rattle.mmt_model.specs.declared.programmes.Programme.{Programme}
use Rattle.mmt_model.specs.declared.programmes.Signal.{Signal}
use Rattle.mmt_model.specs.declared.programmes.Signal.TheVariants as signals

-- the units of a group are of one MPU and short
abbrev pub IsGroup : Programme → ℕ → ℕ → PlacedUnit → Type 0
IsGroup programme f c x = (u : ℕ) → f ≤ u → u < f + c → ((unit_at programme u).mpu_place ≡ x.mpu_place) × ((unit_at programme u).value.length ≤ programme.limit)

-- a sending is of the signalling message or the units whose numbers it has
abbrev pub IsRightSending : Programme → Sending → Type 0
IsRightSending programme (Sending.Parameters s at) = (s < length programme.signals) × (signal_at programme s ≡ signals.Parameters (record { 0 = at }))
IsRightSending programme (Sending.Table s at bytes) = (s < length programme.signals) × (names : List (ℕ × ℕ)) × (signal_at programme s ≡ signals.Table (record { 0 = at }) names) × (bytes ≡ table_message_length programme names)
IsRightSending programme (Sending.Alone u x) = (u < length (all_units programme)) × (unit_at programme u ≡ x)
IsRightSending programme (Sending.Group f c x bytes) = (1 < c) × (f + c ≤ length (all_units programme)) × (unit_at programme f ≡ x) × IsGroup programme f c x × (bytes ≡ sum_by (λ y. 2 + header_length y + y.value.length) (map (unit_at programme) (numbers f c))) × (sum_by (λ y. 2 + header_length x + y.value.length) (map (unit_at programme) (numbers f c)) ≤ programme.limit)

right-signal : (programme : Programme) (s : ℕ) (signal : Signal) → s < length programme.signals → signal_at programme s ≡ signal → IsRightSending programme (sending_of_signal programme s signal)
unfolding sending_of_signal
right-signal programme s (signals.Parameters at) l e = (l, e)
right-signal programme s (signals.Table at names) l e = (l, names, e, refl)

right-signals : (programme : Programme) (n : ℕ) (xs : List Signal) → ((j : ℕ) → j < length xs → (n + j < length programme.signals) × (signal_at programme (n + j) ≡ get_or xs j no_signal)) → AllByRecursion (IsRightSending programme) (map_from (sending_of_signal programme) n xs)
unfolding map_from
right-signals programme n [] h = tt
right-signals programme n (x ∷ xs) h =
    let z : n + 0 ≡ n = omega arith in
    let first = h 0 (omega arith) in (
      right-signal programme n x (omega (arith, first.0)) (sym (ap (signal_at programme) z) ∙ first.1),
      right-signals programme (n + 1) xs (λ j l. (let e : n + suc j ≡ n + 1 + j = omega arith in let r = h (suc j) (omega arith) in (omega (arith, r.0), sym (ap (signal_at programme) e) ∙ r.1))),
    )

right-head : (programme : Programme) (w size : ℕ) (x : PlacedUnit) (rest : List PlacedUnit) → w < length (all_units programme) → (1 < size → w + size ≤ length (all_units programme)) → unit_at programme w ≡ x → (1 < size → IsGroup programme w size x) → take size (x ∷ rest) ≡ map (unit_at programme) (numbers w size) → (1 < size → sum_by (λ y. 2 + header_length x + y.value.length) (map (unit_at programme) (numbers w size)) ≤ programme.limit)
    → IsRightSending programme (sending_of_units w size x rest)
unfolding sending_of_units
right-head programme w size x rest l within e group units fits = go (sum_by (λ y. 2 + header_length y + y.value.length) (take size (x ∷ rest))) (ap (sum_by (λ y. 2 + header_length y + y.value.length)) units) (nat_lt 1 size) refl
  where
    go : (bytes : ℕ) → bytes ≡ sum_by (λ y. 2 + header_length y + y.value.length) (map (unit_at programme) (numbers w size)) → (t : Bool) → nat_lt 1 size ≡ t → IsRightSending programme (cond t (Sending.Group w size x bytes) (Sending.Alone w x))
    go bytes b true s = (ltb-true 1 size s, within (ltb-true 1 size s), e, group (ltb-true 1 size s), b, fits (ltb-true 1 size s))
    go bytes b false s = (l, e)

-- the first of the units from a place on
taken : (programme : Programme) (w n : ℕ) (xs : List PlacedUnit) → n ≤ length xs → ((j : ℕ) → j < length xs → unit_at programme (w + j) ≡ get_or xs j no_placed_unit) → take n xs ≡ map (unit_at programme) (numbers w n)
unfolding numbers
taken programme w zero xs l h = refl
taken programme w (suc n) [] l h = absurd (omega arith)
taken programme w (suc n) (x ∷ xs) l h =
    let z : w + 0 ≡ w = omega arith in
    ap₂ (λ y ys. y ∷ ys) (sym (h 0 (omega arith)) ∙ ap (unit_at programme) z)
    (taken programme (w + 1) n xs (omega arith) (λ j b. (let e : w + suc j ≡ w + 1 + j = omega arith in sym (ap (unit_at programme) e) ∙ h (suc j) (omega arith))))

right-units : (programme : Programme) (sent w : ℕ) (xs : List PlacedUnit) → w + length xs ≡ length (all_units programme) → ((j : ℕ) → j < length xs → unit_at programme (w + j) ≡ get_or xs j no_placed_unit)
    → AllByRecursion (IsRightSending programme) (sendings_of_units programme sent w xs)
unfolding sendings_of_units
right-units programme sent w [] len h = tt
right-units programme (suc sent) w (x ∷ rest) len h =
    right-units programme sent (w + 1) rest (omega (arith, len)) (λ j l. (let e : w + suc j ≡ w + 1 + j = omega arith in sym (ap (unit_at programme) e) ∙ h (suc j) (omega arith)))
right-units programme zero w (x ∷ rest) len h =
    let z : w + 0 ≡ w = omega arith in
    let first : unit_at programme w ≡ x = sym (ap (unit_at programme) z) ∙ h 0 (omega arith) in
    let size : ℕ = group_size programme x rest in (
      right-head programme w size x rest (omega (arith, len)) (λ more. omega (arith, len, group-le programme x rest)) first
          (λ more u from below.
          ⊎_elim
          (λ (same : u ≡ w). (let at : unit_at programme u ≡ x = ap (unit_at programme) same ∙ first in (ap (λ (y : PlacedUnit). y.mpu_place) at, (let e = ap (λ (y : PlacedUnit). y.value.length) at in omega (arith, e, group-short programme x rest more)))))
          (λ (ne : u ≡ w → ⊥).
          (let j : ℕ = u - w - 1 in
          let later : w < u = ⊎_elim (λ (lt : w < u). lt) (λ (ge : u ≤ w). absurd (ne (omega arith))) (cases_lt w u) in
          let place : u ≡ w + suc j = omega (arith, later) in
          let joins = group-joins programme x rest j no_placed_unit (omega (arith, later, below)) in
          let at : unit_at programme u ≡ get_or rest j no_placed_unit = ap (unit_at programme) place ∙ h (suc j) (omega (arith, later, below, group-le programme x rest)) in
          (ap (λ (y : PlacedUnit). y.mpu_place) at ∙ joins.0, (let e = ap (λ (y : PlacedUnit). y.value.length) at in omega (arith, e, joins.1)))))
          (cases_eq u w))
          (taken programme w size (x ∷ rest) (group-le programme x rest) h)
          (λ more. omega (arith, group-fits programme x rest more, ap (sum_by (λ (y : PlacedUnit). 2 + header_length x + y.value.length)) (taken programme w size (x ∷ rest) (group-le programme x rest) h))),
      right-units programme (size - 1) (w + 1) rest (omega (arith, len)) (λ j l. (let e : w + suc j ≡ w + 1 + j = omega arith in sym (ap (unit_at programme) e) ∙ h (suc j) (omega arith))),
    )

pub right-sendings : (programme : Programme) → AllByRecursion (IsRightSending programme) (sendings programme)
unfolding sendings unit_at signal_at
right-sendings programme =
    each-append (IsRightSending programme) (map_from (sending_of_signal programme) 0 programme.signals) (sendings_of_units programme 0 0 (all_units programme))
    (right-signals programme 0 programme.signals (λ j l. (omega arith, (let z : 0 + j ≡ j = omega arith in ap (λ i. get_or programme.signals i no_signal) z))))
    (right-units programme 0 0 (all_units programme) (omega arith) (λ j l. (let z : 0 + j ≡ j = omega arith in ap (λ i. get_or (all_units programme) i no_placed_unit) z)))
