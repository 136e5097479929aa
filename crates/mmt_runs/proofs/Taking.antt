-- The unit that is taken as the best so far, whole or in parts.
use Rattle.std.proofs.Common.{◌≡◌, ℕ, ◌+◌, add-one, Bool, List, [], ◌∷◌, ◌++◌, length, Option, Some, None, refl, ap, sym, ◌∙◌, arith}
use Rattle.std.proofs.lemmas.List.{append-nil}
use Rattle.mmt_base.specs.declared.ticks.Ntp.{Ntp}
use Rattle.mmt_model.specs.Entries.{Entry}
use Rattle.mmt_model.specs.Packets.{Heard}
use Rattle.mmt_model.specs.Handing.{Presentation, presentations_by, named_units}
use Rattle.mmt_model.specs.Units.{MediaUnit, whole_units, unit_from, joined_unit, next_number, joined, rest_of_run, media_link}
use Rattle.mmt_mpu.specs.Spelling.{UnitValue}
use Rattle.mmt_runs.specs.declared.order.UnitOrder.{UnitOrder}
use Rattle.mmt_runs.specs.Lending.{the_presentation, lending_of, unit_at, parts_from, all_parts}
use Rattle.mmt_runs.specs.Choosing.{best, IsOf}
use Rattle.mmt_runs.specs.Offers.{whole_at, whole_of, run_of}
use Rattle.mmt_runs.proofs.Held.{joined_length}
use Rattle.mmt_runs.proofs.Better.{best_append}

-- the unit with this time
abbrev at_time : MediaUnit → ℕ → Presentation
at_time u t = record { unit = u; time = t }

-- a unit of this place whatever its bytes
pub of_place : (o : UnitOrder) (priority dependency : ℕ) (bytes : List ℕ) → IsOf o (unit_at o priority dependency bytes)
of_place o priority dependency bytes = record { packet_id = refl; mpu = refl; key = refl; number = refl; place = refl }

unfolded : (kept : List Heard) (o : UnitOrder) (timed : Bool) (u : UnitValue) (count : ℕ)
    → the_presentation (lending_of kept o timed u count) ≡ at_time (unit_at o u.head.priority u.head.dependency (joined (all_parts (media_link timed o.mpu) kept o.packet_id count u.bytes (next_number o.first_number)))) o.time.0
unfolding the_presentation
unfolded kept o timed u count = refl

-- the parts do not depend on the time
parts_placed : (kept : List Heard) (o place : UnitOrder) (timed : Bool) (u : UnitValue) (count : ℕ) → o ≡ record place { time = o.time }
    → all_parts (media_link timed o.mpu) kept o.packet_id count u.bytes (next_number o.first_number) ≡ all_parts (media_link timed place.mpu) kept place.packet_id count u.bytes (next_number place.first_number)
parts_placed kept o place timed u count e = ap (λ (x : UnitOrder). all_parts (media_link timed x.mpu) kept x.packet_id count u.bytes (next_number x.first_number)) e

placed : (kept : List Heard) (o place : UnitOrder) (timed : Bool) (u : UnitValue) (count : ℕ) (bytes : List ℕ) → o ≡ record place { time = o.time }
    → joined (all_parts (media_link timed place.mpu) kept place.packet_id count u.bytes (next_number place.first_number)) ≡ bytes
    → the_presentation (lending_of kept o timed u count) ≡ at_time (unit_at place u.head.priority u.head.dependency bytes) o.time.0
placed kept o place timed u count bytes e is =
    unfolded kept o timed u count
    ∙ (ap (λ bs. at_time (unit_at o u.head.priority u.head.dependency bs) o.time.0) (ap joined (parts_placed kept o place timed u count e) ∙ is)
    ∙ ap (λ (x : UnitOrder). at_time (unit_at x u.head.priority u.head.dependency bytes) o.time.0) e)

one_part : (kept : List Heard) (place : UnitOrder) (timed : Bool) (u : UnitValue) → joined (all_parts (media_link timed place.mpu) kept place.packet_id 1 u.bytes (next_number place.first_number)) ≡ u.bytes
unfolding parts_from
one_part kept place timed u = append-nil u.bytes

-- a whole data unit
pub whole_lent : (kept : List Heard) (o place : UnitOrder) (timed : Bool) (u : UnitValue) → o ≡ record place { time = o.time } → the_presentation (lending_of kept o timed u 1) ≡ at_time (whole_at place u) o.time.0
whole_lent kept o place timed u e = placed kept o place timed u 1 u.bytes e (one_part kept place timed u)

pub whole_length : (kept : List Heard) (o : UnitOrder) (timed : Bool) (u : UnitValue) → length u.bytes ≡ length (joined (all_parts (media_link timed o.mpu) kept o.packet_id 1 u.bytes (next_number o.first_number)))
whole_length kept o timed u = ap length (sym (one_part kept o timed u))

more_parts : (kept : List Heard) (place : UnitOrder) (timed : Bool) (u : UnitValue) (count : ℕ)
    → all_parts (media_link timed place.mpu) kept place.packet_id (count + 1) u.bytes (next_number place.first_number) ≡ u.bytes ∷ parts_from (media_link timed place.mpu) kept place.packet_id count (next_number place.first_number)
more_parts kept place timed u count = rw add-one refl

-- a unit in parts
pub run_lent : (kept : List Heard) (o place : UnitOrder) (timed : Bool) (u : UnitValue) (count : ℕ) → o ≡ record place { time = o.time }
    → the_presentation (lending_of kept o timed u (count + 1)) ≡ at_time (unit_at place u.head.priority u.head.dependency (joined (u.bytes ∷ parts_from (media_link timed place.mpu) kept place.packet_id count (next_number place.first_number)))) o.time.0
run_lent kept o place timed u count e = placed kept o place timed u (count + 1) _ e (ap joined (more_parts kept place timed u count))

pub run_length : (kept : List Heard) (o place : UnitOrder) (timed : Bool) (u : UnitValue) (count n : ℕ) → o ≡ record place { time = o.time } → n ≡ length (joined (parts_from (media_link timed place.mpu) kept place.packet_id count (next_number place.first_number)))
    → length u.bytes + n ≡ length (joined (all_parts (media_link timed o.mpu) kept o.packet_id (count + 1) u.bytes (next_number o.first_number)))
run_length kept o place timed u count n e is =
    omega (arith, is, joined_length u.bytes (parts_from (media_link timed place.mpu) kept place.packet_id count (next_number place.first_number)), ap (λ l. length (joined l)) (parts_placed kept o place timed u (count + 1) e ∙ more_parts kept place timed u count))

-- one more unit of a payload with whole units
first_named : (base : ℕ) (es : List Entry) (id number mpu place : ℕ) (t : Ntp) (u : UnitValue) (us : List UnitValue)
    → presentations_by base es (whole_at (record { time = t; packet_id = id; mpu = mpu; key = u.head.key; first_number = number; place = place }) u) ++ named_units base es (whole_of id number mpu (place + 1) us) ≡ named_units base es (whole_of id number mpu place (u ∷ us))
unfolding named_units whole_units unit_from
first_named base es id number mpu place t u us = refl

pub whole_step : (p : Presentation → Bool) (b b' : Option Presentation) (base : ℕ) (es : List Entry) (id number mpu place : ℕ) (t : Ntp) (u : UnitValue) (us : List UnitValue)
    → b' ≡ best p b (presentations_by base es (whole_at (record { time = t; packet_id = id; mpu = mpu; key = u.head.key; first_number = number; place = place }) u))
    → best p b' (named_units base es (whole_of id number mpu (place + 1) us)) ≡ best p b (named_units base es (whole_of id number mpu place (u ∷ us)))
whole_step p b b' base es id number mpu place t u us e =
    ap (λ x. best p x (named_units base es (whole_of id number mpu (place + 1) us))) e
    ∙ (sym (best_append p b _ (named_units base es (whole_of id number mpu (place + 1) us)))
    ∙ ap (best p b) (first_named base es id number mpu place t u us))

pub whole_end : (p : Presentation → Bool) (b : Option Presentation) (base : ℕ) (es : List Entry) (id number mpu place : ℕ) → best p b (named_units base es (whole_of id number mpu place [])) ≡ b
unfolding best named_units whole_units
whole_end p b base es id number mpu place = refl

-- a run that is not whole, and one that is
pub no_run : (p : Presentation → Bool) (b : Option Presentation) (base : ℕ) (es : List Entry) (kept : List Heard) (id number : ℕ) (timed : Bool) (mpu most : ℕ) (u : UnitValue) → rest_of_run (media_link timed mpu) kept id most (next_number number) ≡ None
    → best p b (named_units base es (run_of kept id number timed mpu most (Some u))) ≡ b
unfolding joined_unit named_units best
no_run p b base es kept id number timed mpu most u e = rw e refl

-- the unit of a first part and this rest of its run
abbrev pub run_unit : ℕ → ℕ → ℕ → UnitValue → List (List ℕ) → MediaUnit
run_unit id number mpu u rest = record { packet_id = id; mpu = mpu; key = u.head.key; priority = u.head.priority; dependency = u.head.dependency; number = number; place = 0; bytes = joined (u.bytes ∷ rest) }

pub one_run : (p : Presentation → Bool) (b : Option Presentation) (base : ℕ) (es : List Entry) (kept : List Heard) (id number : ℕ) (timed : Bool) (mpu most : ℕ) (u : UnitValue) (rest : List (List ℕ)) → rest_of_run (media_link timed mpu) kept id most (next_number number) ≡ Some rest
    → best p b (named_units base es (run_of kept id number timed mpu most (Some u))) ≡ best p b (presentations_by base es (run_unit id number mpu u rest))
unfolding joined_unit unit_from named_units
one_run p b base es kept id number timed mpu most u rest e = rw e (ap (best p b) (append-nil _))

-- a unit that is not the best leaves the best so far, whether its run is whole or not
pub run_kept : (p : Presentation → Bool) (b : Option Presentation) (base : ℕ) (es : List Entry) (kept : List Heard) (id number : ℕ) (timed : Bool) (mpu most : ℕ) (u : UnitValue) (t : Ntp)
    → ((v : MediaUnit) → IsOf (record { time = t; packet_id = id; mpu = mpu; key = u.head.key; first_number = number; place = 0 }) v → best p b (presentations_by base es v) ≡ b)
    → best p b (named_units base es (run_of kept id number timed mpu most (Some u))) ≡ b
run_kept p b base es kept id number timed mpu most u t f = go (rest_of_run (media_link timed mpu) kept id most (next_number number)) refl
  where
    go : (r : Option (List (List ℕ))) → rest_of_run (media_link timed mpu) kept id most (next_number number) ≡ r → best p b (named_units base es (run_of kept id number timed mpu most (Some u))) ≡ b
    go None is = no_run p b base es kept id number timed mpu most u is
    go (Some rest) is = one_run p b base es kept id number timed mpu most u rest is ∙ f (run_unit id number mpu u rest) (record { packet_id = refl; mpu = refl; key = refl; number = refl; place = refl })
