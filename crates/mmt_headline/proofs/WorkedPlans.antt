-- The worked plans meet the premises.
use Rattle.std.proofs.Common.{◌≡◌, inl, ℕ, zero, suc, ◌+◌, ◌<◌, ◌≤◌, List, ◌∷◌, length, arith, refl, sym, subst}
use Rattle.std.proofs.lemmas.List.Elements.{All-from_recursion}
use Rattle.mmt_cast.proofs.Computing.{worked_plans_compute}
use Rattle.mmt_cast.proofs.Examples.{examples}
use Rattle.mmt_cast.specs.Casting.{cast_of}
use Rattle.mmt_cast.specs.Examples.{CanBeCast}
use Rattle.mmt_cast.specs.Placing.{PlacedUnit, all_mpus, all_units, flat_map_from, map_from, mpus_of, units_of}
use Rattle.mmt_cast.specs.PlanOne.{EachWorked, plan_at_limits, plan_one, plan_two_tables}
use Rattle.mmt_cast.specs.WorkedCasts.{first_cast, second_cast, third_cast}
use Rattle.mmt_delivery.proofs.Delivering.{short_near}
use Rattle.mmt_model.specs.Delivery.{from_first, from_heard, reach}
use Rattle.mmt_model.specs.Received.{tuned_places, tunes_at}
use Rattle.mmt_model.specs.Survival.{sent_at}
use Rattle.mmt_model.specs.declared.casts.Cast.{Cast}
use Rattle.mmt_model.specs.declared.programmes.Programme.{Programme}
use Rattle.mmt_headline.proofs.Keeping.{tuned-of}
use Rattle.mmt_headline.proofs.Sound.{casts-carry}
use Rattle.mmt_headline.specs.Programmes.{HoldUnits, IsSendable, Receives}
use Rattle.mmt_headline.specs.WorkedPlans.{HasUnits, MeetsPremises, usual_config}

-- all packets lie less than the reach above the first, which tunes
pub record IsClose (cast : Cast) : Type 0 where
  pub close : (n : ℕ) → n < length cast.packets → (sent_at cast.packets 0 ≤ sent_at cast.packets n) × (sent_at cast.packets n < sent_at cast.packets 0 + reach)
  pub tuned : (later : List ℕ) → tuned_places cast 3 (0 ∷ later) ≡ 0 ∷ later

one-close : (n : ℕ) → n < 6 → (sent_at first_cast.packets 0 ≤ sent_at first_cast.packets n) × (sent_at first_cast.packets n < sent_at first_cast.packets 0 + reach)
unfolding sent_at
one-close zero l = (omega arith, omega arith)
one-close (suc zero) l = (omega arith, omega arith)
one-close (suc (suc zero)) l = (omega arith, omega arith)
one-close (suc (suc (suc zero))) l = (omega arith, omega arith)
one-close (suc (suc (suc (suc zero)))) l = (omega arith, omega arith)
one-close (suc (suc (suc (suc (suc zero))))) l = (omega arith, omega arith)
one-close (suc (suc (suc (suc (suc (suc n)))))) l = absurd (omega (arith, l))

one-tuned : (later : List ℕ) → tuned_places first_cast 3 (0 ∷ later) ≡ 0 ∷ later
unfolding tuned_places tunes_at from_heard from_first
one-tuned later = refl

one-held : (files : ℕ → List ℕ) → HasUnits files → HoldUnits files plan_one
unfolding all_units all_mpus flat_map_from map_from mpus_of units_of
one-held files long = All-from_recursion (λ (x : PlacedUnit). x.value.from + x.value.length ≤ length (files x.in_mpu.in_asset.file)) (all_units plan_one) (omega (arith, long), (omega (arith, long), tt))

two-close : (n : ℕ) → n < 7 → (sent_at second_cast.packets 0 ≤ sent_at second_cast.packets n) × (sent_at second_cast.packets n < sent_at second_cast.packets 0 + reach)
unfolding sent_at
two-close zero l = (omega arith, omega arith)
two-close (suc zero) l = (omega arith, omega arith)
two-close (suc (suc zero)) l = (omega arith, omega arith)
two-close (suc (suc (suc zero))) l = (omega arith, omega arith)
two-close (suc (suc (suc (suc zero)))) l = (omega arith, omega arith)
two-close (suc (suc (suc (suc (suc zero))))) l = (omega arith, omega arith)
two-close (suc (suc (suc (suc (suc (suc zero)))))) l = (omega arith, omega arith)
two-close (suc (suc (suc (suc (suc (suc (suc n))))))) l = absurd (omega (arith, l))

two-tuned : (later : List ℕ) → tuned_places second_cast 3 (0 ∷ later) ≡ 0 ∷ later
unfolding tuned_places tunes_at from_heard from_first
two-tuned later = refl

two-held : (files : ℕ → List ℕ) → HasUnits files → HoldUnits files plan_two_tables
unfolding all_units all_mpus flat_map_from map_from mpus_of units_of
two-held files long = All-from_recursion (λ (x : PlacedUnit). x.value.from + x.value.length ≤ length (files x.in_mpu.in_asset.file)) (all_units plan_two_tables) (omega (arith, long), (omega (arith, long), tt))

limits-close : (n : ℕ) → n < 8 → (sent_at third_cast.packets 0 ≤ sent_at third_cast.packets n) × (sent_at third_cast.packets n < sent_at third_cast.packets 0 + reach)
unfolding sent_at
limits-close zero l = (omega arith, omega arith)
limits-close (suc zero) l = (omega arith, omega arith)
limits-close (suc (suc zero)) l = (omega arith, omega arith)
limits-close (suc (suc (suc zero))) l = (omega arith, omega arith)
limits-close (suc (suc (suc (suc zero)))) l = (omega arith, omega arith)
limits-close (suc (suc (suc (suc (suc zero))))) l = (omega arith, omega arith)
limits-close (suc (suc (suc (suc (suc (suc zero)))))) l = (omega arith, omega arith)
limits-close (suc (suc (suc (suc (suc (suc (suc zero))))))) l = (omega arith, omega arith)
limits-close (suc (suc (suc (suc (suc (suc (suc (suc n)))))))) l = absurd (omega (arith, l))

limits-tuned : (later : List ℕ) → tuned_places third_cast 3 (0 ∷ later) ≡ 0 ∷ later
unfolding tuned_places tunes_at from_heard from_first
limits-tuned later = refl

limits-held : (files : ℕ → List ℕ) → HasUnits files → HoldUnits files plan_at_limits
unfolding all_units all_mpus flat_map_from map_from mpus_of units_of
limits-held files long = All-from_recursion (λ (x : PlacedUnit). x.value.from + x.value.length ≤ length (files x.in_mpu.in_asset.file)) (all_units plan_at_limits) (omega (arith, long), (omega (arith, long), tt))

meets : (programme : Programme) → programme.full_every ≡ 3 → IsClose (cast_of programme) → CanBeCast programme → ((files : ℕ → List ℕ) → HasUnits files → HoldUnits files programme) → ((timescale : ℕ) → Receives (usual_config timescale) programme) → MeetsPremises programme
meets programme every is can held receives =
    let sendable : (files : ℕ → List ℕ) → HasUnits files → IsSendable programme (cast_of programme) files = λ files long. record { right = can.right; none = can.has_cast; of = inl refl; admitted = can.admitted; held = held files long } in
    record {
      sendable = sendable;
      carries = λ files timescale long. casts-carry timescale programme (cast_of programme) files (sendable files long);
      receives = receives;
      tuned = subst (λ (n : ℕ). (later : List ℕ) → tuned_places (cast_of programme) n (0 ∷ later) ≡ 0 ∷ later) (sym every) is.tuned;
      near = λ delivery of. short_near (cast_of programme).packets is.close (tuned_places (cast_of programme) programme.full_every delivery) (tuned-of programme (cast_of programme) delivery of);
    }

pub met : EachWorked MeetsPremises
met =
    record {
      one_table = meets plan_one refl (subst IsClose (sym worked_plans_compute.one_table) (record { close = one-close; tuned = one-tuned })) examples.worked.one_table one-held (λ timescale. record { flow = refl; bound = omega arith; assumed = refl; base = refl });
      two_tables = meets plan_two_tables refl (subst IsClose (sym worked_plans_compute.two_tables) (record { close = two-close; tuned = two-tuned })) examples.worked.two_tables two-held (λ timescale. record { flow = refl; bound = omega arith; assumed = refl; base = refl });
      at_the_limits = meets plan_at_limits refl (subst IsClose (sym worked_plans_compute.at_the_limits) (record { close = limits-close; tuned = limits-tuned })) examples.worked.at_the_limits limits-held (λ timescale. record { flow = refl; bound = omega arith; assumed = refl; base = refl });
    }
