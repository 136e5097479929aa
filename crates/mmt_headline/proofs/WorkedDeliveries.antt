-- What is handed out and expected of the deliveries of the worked plans: the expected units, computed, and what a receiver hands out by the theorem.
use Rattle.std.proofs.Common.{◌≡◌, ℕ, List, [], ◌∷◌, arith, refl, sym, subst, ◌∙◌}
use Rattle.mmt_base.specs.Ticks.{due_of}
use Rattle.mmt_cast.proofs.Computing.{worked_plans_compute}
use Rattle.mmt_cast.specs.Casting.{cast_of}
use Rattle.mmt_cast.specs.Placing.{all_mpus, all_units, entry_of_mpu, flat_map_from, map_from, mpus_of, units_of}
use Rattle.mmt_cast.specs.PlanOne.{plan_at_limits, plan_one, plan_two_tables}
use Rattle.mmt_cast.specs.Right.{contents_of, mpu_at, unit_at, unit_bytes}
use Rattle.mmt_cast.specs.WorkedCasts.{first_cast, second_cast, third_cast}
use Rattle.mmt_model.specs.Broadcast.{due_at, due_of_unit, entry_of, presentation_of, unit_of}
use Rattle.mmt_model.specs.Carrying.{copy_place, entry_of_unit, mpu_of, mpu_place, numbers, place_in, place_of, places_of_copy, places_of_unit, sent_unit, table_copy, unit_sent}
use Rattle.mmt_model.specs.Counts.{member}
use Rattle.mmt_model.specs.Delivery.{from_first, from_heard, newest_first, onto}
use Rattle.mmt_model.specs.Entries.{last_due}
use Rattle.mmt_model.specs.Expected.{expected, is_complete, is_counted, is_expected, is_named, places}
use Rattle.mmt_model.specs.Handing.{Presentation, is_presented_before, key_numbers, order_numbers, precedes, time_for, time_of}
use Rattle.mmt_model.specs.Received.{expected_in, tuned_places, tunes_at}
use Rattle.mmt_model.specs.Sorted.{insert_by, sort_by}
use Rattle.mmt_model.specs.Survival.{AreOf, is_overtaken, latest, sent_at, survives}
use Rattle.mmt_model.specs.declared.casts.Cast.{Cast}
use Rattle.mmt_model.specs.declared.programmes.Programme.{Programme}
use Rattle.mmt_sent.specs.Stream.{contents_sent}
use Rattle.mmt_times.specs.Times.{in_range, time_at, unit_times}
use Rattle.mmt_headline.proofs.Taken.{units-are}
use Rattle.mmt_headline.proofs.WorkedPlans.{met}
use Rattle.mmt_headline.specs.Programmes.{ProgrammesAreReceived}
use Rattle.mmt_headline.specs.Taken.{expected_of}
use Rattle.mmt_headline.specs.WorkedDeliveries.{IsDelivered, Gives, both, none, only_second}
use Rattle.mmt_headline.specs.WorkedPlans.{MeetsPremises}

gives : (programme : Programme) (cast : Cast) (delivery : List ℕ) (units : List ℕ → List Presentation) → ProgrammesAreReceived → MeetsPremises programme → cast_of programme ≡ cast → AreOf cast.packets delivery
    → ((files : ℕ → List ℕ) → expected_in cast (contents_sent programme files) programme.full_every delivery ≡ units (files 0)) → Gives programme delivery units
gives programme cast delivery units theorem meets is of computed =
    let packets_of : AreOf (cast_of programme).packets delivery = subst (λ (c : Cast). AreOf c.packets delivery) (sym is) of in
    let all : (files : ℕ → List ℕ) → expected_of programme (cast_of programme) files delivery ≡ units (files 0) =
    λ files. subst (λ (c : Cast). expected_in c (contents_sent programme files) programme.full_every delivery ≡ units (files 0)) (sym is) (computed files) in
    record {
      received = λ config files receives units_there. units-are config programme (cast_of programme) files delivery theorem (meets.sendable files units_there) receives packets_of (meets.near delivery packets_of) ∙ all files;
      expected = all;
    }

one_table_in_order : (files : ℕ → List ℕ) → expected_in first_cast (contents_sent plan_one files) 3 (0 ∷ 1 ∷ 2 ∷ 3 ∷ 4 ∷ 5 ∷ []) ≡ both (files 0)
unfolding expected_in tuned_places tunes_at from_heard from_first contents_of unit_at mpu_at all_mpus all_units flat_map_from map_from mpus_of units_of unit_bytes entry_of_mpu in_range unit_times time_at sent_at latest is_overtaken survives due_of last_due entry_of due_at member is_complete is_named time_for time_of key_numbers precedes order_numbers is_presented_before insert_by sort_by unit_of presentation_of due_of_unit is_counted is_expected places expected onto newest_first entry_of_unit mpu_of mpu_place sent_unit table_copy copy_place numbers place_of places_of_unit places_of_copy unit_sent place_in
one_table_in_order files = refl

in_order : (files : ℕ → List ℕ) → expected_in second_cast (contents_sent plan_two_tables files) 3 (0 ∷ 1 ∷ 2 ∷ 3 ∷ 4 ∷ 5 ∷ 6 ∷ []) ≡ both (files 0)
unfolding expected_in tuned_places tunes_at from_heard from_first contents_of unit_at mpu_at all_mpus all_units flat_map_from map_from mpus_of units_of unit_bytes entry_of_mpu in_range unit_times time_at sent_at latest is_overtaken survives due_of last_due entry_of due_at member is_complete is_named time_for time_of key_numbers precedes order_numbers is_presented_before insert_by sort_by unit_of presentation_of due_of_unit is_counted is_expected places expected onto newest_first entry_of_unit mpu_of mpu_place sent_unit table_copy copy_place numbers place_of places_of_unit places_of_copy unit_sent place_in
in_order files = refl

a_part_lost : (files : ℕ → List ℕ) → expected_in second_cast (contents_sent plan_two_tables files) 3 (0 ∷ 1 ∷ 2 ∷ 4 ∷ 5 ∷ 6 ∷ []) ≡ only_second (files 0)
unfolding expected_in tuned_places tunes_at from_heard from_first contents_of unit_at mpu_at all_mpus all_units flat_map_from map_from mpus_of units_of unit_bytes entry_of_mpu in_range unit_times time_at sent_at latest is_overtaken survives due_of last_due entry_of due_at member is_complete is_named time_for time_of key_numbers precedes order_numbers is_presented_before insert_by sort_by unit_of presentation_of due_of_unit is_counted is_expected places expected onto newest_first entry_of_unit mpu_of mpu_place sent_unit table_copy copy_place numbers place_of places_of_unit places_of_copy unit_sent place_in
a_part_lost files = refl

repeated : (files : ℕ → List ℕ) → expected_in second_cast (contents_sent plan_two_tables files) 3 (0 ∷ 0 ∷ 1 ∷ 2 ∷ 3 ∷ 3 ∷ 4 ∷ 2 ∷ 5 ∷ 5 ∷ 1 ∷ 6 ∷ []) ≡ both (files 0)
unfolding expected_in tuned_places tunes_at from_heard from_first contents_of unit_at mpu_at all_mpus all_units flat_map_from map_from mpus_of units_of unit_bytes entry_of_mpu in_range unit_times time_at sent_at latest is_overtaken survives due_of last_due entry_of due_at member is_complete is_named time_for time_of key_numbers precedes order_numbers is_presented_before insert_by sort_by unit_of presentation_of due_of_unit is_counted is_expected places expected onto newest_first entry_of_unit mpu_of mpu_place sent_unit table_copy copy_place numbers place_of places_of_unit places_of_copy unit_sent place_in
repeated files = refl

reordered : (files : ℕ → List ℕ) → expected_in second_cast (contents_sent plan_two_tables files) 3 (0 ∷ 5 ∷ 4 ∷ 3 ∷ 2 ∷ 1 ∷ 6 ∷ []) ≡ both (files 0)
unfolding expected_in tuned_places tunes_at from_heard from_first contents_of unit_at mpu_at all_mpus all_units flat_map_from map_from mpus_of units_of unit_bytes entry_of_mpu in_range unit_times time_at sent_at latest is_overtaken survives due_of last_due entry_of due_at member is_complete is_named time_for time_of key_numbers precedes order_numbers is_presented_before insert_by sort_by unit_of presentation_of due_of_unit is_counted is_expected places expected onto newest_first entry_of_unit mpu_of mpu_place sent_unit table_copy copy_place numbers place_of places_of_unit places_of_copy unit_sent place_in
reordered files = refl

a_part_late : (files : ℕ → List ℕ) → expected_in second_cast (contents_sent plan_two_tables files) 3 (0 ∷ 1 ∷ 2 ∷ 3 ∷ 5 ∷ 6 ∷ 4 ∷ []) ≡ only_second (files 0)
unfolding expected_in tuned_places tunes_at from_heard from_first contents_of unit_at mpu_at all_mpus all_units flat_map_from map_from mpus_of units_of unit_bytes entry_of_mpu in_range unit_times time_at sent_at latest is_overtaken survives due_of last_due entry_of due_at member is_complete is_named time_for time_of key_numbers precedes order_numbers is_presented_before insert_by sort_by unit_of presentation_of due_of_unit is_counted is_expected places expected onto newest_first entry_of_unit mpu_of mpu_place sent_unit table_copy copy_place numbers place_of places_of_unit places_of_copy unit_sent place_in
a_part_late files = refl

first_table_lost : (files : ℕ → List ℕ) → expected_in second_cast (contents_sent plan_two_tables files) 3 (0 ∷ 2 ∷ 3 ∷ 4 ∷ 5 ∷ 6 ∷ []) ≡ only_second (files 0)
unfolding expected_in tuned_places tunes_at from_heard from_first contents_of unit_at mpu_at all_mpus all_units flat_map_from map_from mpus_of units_of unit_bytes entry_of_mpu in_range unit_times time_at sent_at latest is_overtaken survives due_of last_due entry_of due_at member is_complete is_named time_for time_of key_numbers precedes order_numbers is_presented_before insert_by sort_by unit_of presentation_of due_of_unit is_counted is_expected places expected onto newest_first entry_of_unit mpu_of mpu_place sent_unit table_copy copy_place numbers place_of places_of_unit places_of_copy unit_sent place_in
first_table_lost files = refl

no_table : (files : ℕ → List ℕ) → expected_in second_cast (contents_sent plan_two_tables files) 3 (0 ∷ 2 ∷ 3 ∷ 4 ∷ 5 ∷ []) ≡ none (files 0)
unfolding expected_in tuned_places tunes_at from_heard from_first contents_of unit_at mpu_at all_mpus all_units flat_map_from map_from mpus_of units_of unit_bytes entry_of_mpu in_range unit_times time_at sent_at latest is_overtaken survives due_of last_due entry_of due_at member is_complete is_named time_for time_of key_numbers precedes order_numbers is_presented_before insert_by sort_by unit_of presentation_of due_of_unit is_counted is_expected places expected onto newest_first entry_of_unit mpu_of mpu_place sent_unit table_copy copy_place numbers place_of places_of_unit places_of_copy unit_sent place_in
no_table files = refl

at_the_limits : (files : ℕ → List ℕ) → expected_in third_cast (contents_sent plan_at_limits files) 3 (0 ∷ 1 ∷ 5 ∷ 4 ∷ 3 ∷ 2 ∷ 7 ∷ []) ≡ both (files 0)
unfolding expected_in tuned_places tunes_at from_heard from_first contents_of unit_at mpu_at all_mpus all_units flat_map_from map_from mpus_of units_of unit_bytes entry_of_mpu in_range unit_times time_at sent_at latest is_overtaken survives due_of last_due entry_of due_at member is_complete is_named time_for time_of key_numbers precedes order_numbers is_presented_before insert_by sort_by unit_of presentation_of due_of_unit is_counted is_expected places expected onto newest_first entry_of_unit mpu_of mpu_place sent_unit table_copy copy_place numbers place_of places_of_unit places_of_copy unit_sent place_in
at_the_limits files = refl

table_at_the_due_tick : (files : ℕ → List ℕ) → expected_in third_cast (contents_sent plan_at_limits files) 3 (0 ∷ 2 ∷ 3 ∷ 4 ∷ 5 ∷ 6 ∷ 7 ∷ []) ≡ only_second (files 0)
unfolding expected_in tuned_places tunes_at from_heard from_first contents_of unit_at mpu_at all_mpus all_units flat_map_from map_from mpus_of units_of unit_bytes entry_of_mpu in_range unit_times time_at sent_at latest is_overtaken survives due_of last_due entry_of due_at member is_complete is_named time_for time_of key_numbers precedes order_numbers is_presented_before insert_by sort_by unit_of presentation_of due_of_unit is_counted is_expected places expected onto newest_first entry_of_unit mpu_of mpu_place sent_unit table_copy copy_place numbers place_of places_of_unit places_of_copy unit_sent place_in
table_at_the_due_tick files = refl

pub delivered : ProgrammesAreReceived → IsDelivered
delivered theorem =
    record {
      one_table_in_order = gives plan_one first_cast (0 ∷ 1 ∷ 2 ∷ 3 ∷ 4 ∷ 5 ∷ []) both theorem met.one_table worked_plans_compute.one_table (omega arith, (omega arith, (omega arith, (omega arith, (omega arith, (omega arith, tt)))))) one_table_in_order;
      in_order = gives plan_two_tables second_cast (0 ∷ 1 ∷ 2 ∷ 3 ∷ 4 ∷ 5 ∷ 6 ∷ []) both theorem met.two_tables worked_plans_compute.two_tables (omega arith, (omega arith, (omega arith, (omega arith, (omega arith, (omega arith, (omega arith, tt))))))) in_order;
      a_part_lost = gives plan_two_tables second_cast (0 ∷ 1 ∷ 2 ∷ 4 ∷ 5 ∷ 6 ∷ []) only_second theorem met.two_tables worked_plans_compute.two_tables (omega arith, (omega arith, (omega arith, (omega arith, (omega arith, (omega arith, tt)))))) a_part_lost;
      repeated = gives plan_two_tables second_cast (0 ∷ 0 ∷ 1 ∷ 2 ∷ 3 ∷ 3 ∷ 4 ∷ 2 ∷ 5 ∷ 5 ∷ 1 ∷ 6 ∷ []) both theorem met.two_tables worked_plans_compute.two_tables (omega arith, (omega arith, (omega arith, (omega arith, (omega arith, (omega arith, (omega arith, (omega arith, (omega arith, (omega arith, (omega arith, (omega arith, tt)))))))))))) repeated;
      reordered = gives plan_two_tables second_cast (0 ∷ 5 ∷ 4 ∷ 3 ∷ 2 ∷ 1 ∷ 6 ∷ []) both theorem met.two_tables worked_plans_compute.two_tables (omega arith, (omega arith, (omega arith, (omega arith, (omega arith, (omega arith, (omega arith, tt))))))) reordered;
      a_part_late = gives plan_two_tables second_cast (0 ∷ 1 ∷ 2 ∷ 3 ∷ 5 ∷ 6 ∷ 4 ∷ []) only_second theorem met.two_tables worked_plans_compute.two_tables (omega arith, (omega arith, (omega arith, (omega arith, (omega arith, (omega arith, (omega arith, tt))))))) a_part_late;
      first_table_lost = gives plan_two_tables second_cast (0 ∷ 2 ∷ 3 ∷ 4 ∷ 5 ∷ 6 ∷ []) only_second theorem met.two_tables worked_plans_compute.two_tables (omega arith, (omega arith, (omega arith, (omega arith, (omega arith, (omega arith, tt)))))) first_table_lost;
      no_table = gives plan_two_tables second_cast (0 ∷ 2 ∷ 3 ∷ 4 ∷ 5 ∷ []) none theorem met.two_tables worked_plans_compute.two_tables (omega arith, (omega arith, (omega arith, (omega arith, (omega arith, tt))))) no_table;
      at_the_limits = gives plan_at_limits third_cast (0 ∷ 1 ∷ 5 ∷ 4 ∷ 3 ∷ 2 ∷ 7 ∷ []) both theorem met.at_the_limits worked_plans_compute.at_the_limits (omega arith, (omega arith, (omega arith, (omega arith, (omega arith, (omega arith, (omega arith, tt))))))) at_the_limits;
      table_at_the_due_tick = gives plan_at_limits third_cast (0 ∷ 2 ∷ 3 ∷ 4 ∷ 5 ∷ 6 ∷ 7 ∷ []) only_second theorem met.at_the_limits worked_plans_compute.at_the_limits (omega arith, (omega arith, (omega arith, (omega arith, (omega arith, (omega arith, (omega arith, tt))))))) table_at_the_due_tick;
    }
