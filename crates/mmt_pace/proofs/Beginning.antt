-- The cast of a right programme begins no later than at tick 2^48.
use Rattle.std.proofs.Common.{◌≡◌, ℕ, ◌≤◌, ◌^◌, true, ◌==◌, ◌&&◌, ◌⊎◌, inl, inr, nat_lt, List, [], ◌∷◌, arith, refl, ap, sym, subst, ⊎_elim}
use Rattle.std.specs.List.{AllByRecursion}
use Rattle.std.proofs.lemmas.Bool.{and_parts, eqb-true, ltb-true, or_cases}
use Rattle.mmt_cast.proofs.FromRight.{right-programmes-fit}
use Rattle.mmt_cast.proofs.Listing.{IsIn, each-in, each-weaker, in-sort}
use Rattle.mmt_cast.proofs.Numbering.{before, each-planned, is-planned, packet_after}
use Rattle.mmt_cast.proofs.Ordering.{Comparable, InOrder, from-sort, order-sort, sent-order}
use Rattle.mmt_cast.proofs.Rightness.{IsRightSending}
use Rattle.mmt_cast.proofs.SentIn.{right-sending}
use Rattle.mmt_cast.specs.Casting.{cast_of, is_sent_before, planned, with_number}
use Rattle.mmt_cast.specs.Placing.{PlacedUnit}
use Rattle.mmt_cast.specs.Readable.{FitsTicks, tick_of_signal}
use Rattle.mmt_cast.specs.Sending.{Sending, packet_of, tick_of_packet}
use Rattle.mmt_model.proofs.Preceding.{before-either}
use Rattle.mmt_model.specs.Handing.{precedes}
use Rattle.mmt_model.specs.Sorted.{sort_by}
use Rattle.mmt_model.specs.Survival.{sent_at}
use Rattle.mmt_model.specs.declared.casts.Sent.{Sent}
use Rattle.mmt_model.specs.declared.programmes.Programme.{Programme}
use Rattle.mmt_pace.proofs.Told.{AllDiffer, Differ, numbered-differ}
use Rattle.mmt_pace.specs.Laws.{CastsBeginInTime}

first-tick : (programme : Programme) → FitsTicks programme → (x : Sending) → IsRightSending programme x → tick_of_packet programme x 0 ≤ 2 ^ 48
unfolding tick_of_packet
first-tick programme fits (Sending.Parameters s at) is = omega (arith, ap tick_of_signal is.1, fits.signals s is.0)
first-tick programme fits (Sending.Table s at bytes) is = omega (arith, ap tick_of_signal is.2, fits.signals s is.0)
first-tick programme fits (Sending.Alone u x) is = omega (arith, ap (λ (y : PlacedUnit). y.value.at.0) is.1, fits.units u is.0)
first-tick programme fits (Sending.Group f c x bytes) is = omega (arith, ap (λ (y : PlacedUnit). y.value.at.0) is.2, fits.units f (omega (arith, is.0, is.1)))

-- with each packet there is one that is sent by then
abbrev HasEarly : Programme → Type 0
HasEarly programme = (r : Sent) × IsIn r (planned programme) × (r.at.0 ≤ 2 ^ 48)

all-early : (programme : Programme) → FitsTicks programme → AllByRecursion (λ (q : Sent). HasEarly programme) (planned programme)
unfolding with_number packet_of
all-early programme fits =
    each-planned programme (λ (q : Sent). HasEarly programme)
    (λ a b x k e l. (packet_after programme x (before programme a x) 0, is-planned programme a b x 0 e (omega (arith, l)), first-tick programme fits x (right-sending programme a b x e)))

abbrev numbers_of : Sent → List ℕ
numbers_of p = p.at.0 ∷ p.packet_id ∷ p.number ∷ []

either-way : (p q : Sent) → Differ p q → (is_sent_before p q ≡ true) ⊎ (is_sent_before q p ≡ true)
unfolding is_sent_before
either-way p q d = before-either (numbers_of p) (numbers_of q) refl (λ e. (let n : p.number ≡ q.number = cc in let i : p.packet_id ≡ q.packet_id = cc in d i n))

comparable : (xs : List Sent) → AllDiffer xs → Comparable is_sent_before xs
comparable [] all = tt
comparable (x ∷ xs) all = (each-weaker (Differ x) (λ (q : Sent). (is_sent_before x q ≡ true) ⊎ (is_sent_before q x ≡ true)) xs (λ q d. either-way x q d) all.0, comparable xs all.1)

no-later : (p q : Sent) → is_sent_before p q ≡ true → p.at.0 ≤ q.at.0
unfolding is_sent_before precedes
no-later p q e =
    ⊎_elim
    (λ (t : nat_lt p.at.0 q.at.0 ≡ true). (let l = ltb-true p.at.0 q.at.0 t in omega (arith, l)))
    (λ (t : ((p.at.0 == q.at.0) && precedes (p.packet_id ∷ p.number ∷ []) (q.packet_id ∷ q.number ∷ [])) ≡ true). (let s = eqb-true p.at.0 q.at.0 (and_parts (p.at.0 == q.at.0) (precedes (p.packet_id ∷ p.number ∷ []) (q.packet_id ∷ q.number ∷ [])) t).0 in omega (arith, s)))
    (or_cases (nat_lt p.at.0 q.at.0) ((p.at.0 == q.at.0) && precedes (p.packet_id ∷ p.number ∷ []) (q.packet_id ∷ q.number ∷ [])) e)

first-of : (ys : List Sent) (r : Sent) → InOrder is_sent_before ys → IsIn r ys → sent_at ys 0 ≤ r.at.0
unfolding sent_at
first-of [] r o i = absurd i
first-of (y ∷ ys) r o (inl e) = omega (arith, ap (λ (z : Sent). z.at.0) e)
first-of (y ∷ ys) r o (inr i) = no-later y r (each-in (λ (z : Sent). is_sent_before y z ≡ true) r ys o.0 i)

begins : (programme : Programme) → FitsTicks programme → (ys : List Sent) → ys ≡ sort_by is_sent_before (planned programme) → InOrder is_sent_before ys → sent_at ys 0 ≤ 2 ^ 48
unfolding sent_at
begins programme fits [] e o = omega arith
begins programme fits (y ∷ ys) e o =
    let there : IsIn y (planned programme) = from-sort is_sent_before y (planned programme) (subst (IsIn y) e (inl refl)) in
    let early = each-in (λ (q : Sent). HasEarly programme) y (planned programme) (all-early programme fits) there in
    let l = first-of (y ∷ ys) early.0 o (subst (IsIn early.0) (sym e) (in-sort is_sent_before early.0 (planned programme) early.1)) in
    omega (arith, l, early.2)

in-order : (programme : Programme) → InOrder is_sent_before (sort_by is_sent_before (planned programme))
unfolding planned
in-order programme = order-sort is_sent_before sent-order (planned programme) (comparable (planned programme) (numbered-differ [] _))

pub casts-begin : CastsBeginInTime
unfolding cast_of
casts-begin programme right = begins programme (right-programmes-fit.ticks programme right) (sort_by is_sent_before (planned programme)) refl (in-order programme)
