-- The examples, computed.
use Rattle.std.proofs.Common.{◌≡◌, ℕ, ◌<◌, ◌≤◌, ◌^◌, zero, suc, true, List, [], ◌∷◌, length, arith, refl, None}
use Rattle.std.specs.List.{All, AllByRecursion}
use Rattle.std.proofs.lemmas.List.Elements.{All-from_recursion}
use Rattle.mmt_model.specs.declared.programmes.Au.{Au}
use Rattle.mmt_model.specs.declared.programmes.Params.{Params}
use Rattle.mmt_model.specs.declared.programmes.Signal.{Signal}
use Rattle.mmt_cast.proofs.Computing.{limits_admitted, one_admitted, two_admitted}
use Rattle.mmt_base.specs.Ticks.{due_of}
use Rattle.mmt_cast.specs.Casting.{cast_of, copies_as_sent, copy_as_sent, count_of_id, due_of_placed, greatest, has_table, has_unit, is_sent_before, least, mpu_as_sent, numbered_after, place_of_mpu, planned, span_of, span_of_table, span_of_unit, time_of_unit, unit_as_sent, with_number}
use Rattle.mmt_frag.specs.Cuts.{fitting, gathered, part_length}
use Rattle.mmt_cast.specs.Placing.{all_mpus, all_units, entry_of_mpu, flat_map_from, map_from, mpus_of, units_of}
use Rattle.mmt_cast.specs.PlanOne.{mpu_seven, parameters_at, plan_at_limits, plan_one, plan_two_tables, plan_with, table_at, tight, unit_with, usual}
use Rattle.mmt_cast.specs.Examples.{AreExamples, small_packets, small_plan, some_messages, some_names}
use Rattle.mmt_cast.specs.Refusing.{out_of_range, refusal, refusal_of_mpu, refusal_of_mpus, refusal_of_packets, refusal_of_signal, refusal_of_signals}
use Rattle.mmt_cast.specs.Right.{IsMessage, mpu_at, signal_at}
use Rattle.mmt_cast.specs.TablesRead.{FitsTable}
use Rattle.mmt_cast.specs.Sending.{candidates, carried, group_size, header_length, id_of, is_short, may_join, packet_count, packet_of, packets_of, payload_length, rap_of, sending_of_signal, sending_of_units, sendings, sendings_of_units, tick_of_packet}
use Rattle.mmt_cast.specs.Tables.{asset_length, descriptors_length, extended_length, is_named_by, named_of_asset, table_length, table_message_length}
use Rattle.mmt_model.specs.Carrying.{named_from_of, numbers}
use Rattle.mmt_model.specs.Counts.{member}
use Rattle.mmt_model.specs.Entries.{last_due}
use Rattle.mmt_model.specs.Handing.{precedes, time_for}
use Rattle.mmt_model.specs.Sorted.{insert_by, sort_by}
use Rattle.mmt_times.specs.Times.{all_in_range, in_range, time_at, unit_times}
use Rattle.mmt_cast.specs.SentTables.{extended_of_mpu, sent_asset, sent_descriptors, sent_table, stamps_of_21}
use Rattle.mmt_fields.specs.Reading.{big_endian}
use Rattle.mmt_model.specs.Right.{IsBefore, IsFileName, IsKnown, IsRight, IsRightAsset, IsRightAu, IsRightMpu, IsRightParams, IsRightSignal, IsRightUnit}
use Rattle.mmt_mpt.specs.Asset.{asset_bytes, head_bytes}
use Rattle.mmt_mpt.specs.Descriptor.{descriptor_bytes, descriptors_bytes, length_width}
use Rattle.mmt_mpt.specs.Location.{location_bytes}
use Rattle.mmt_mpt.specs.Table.{mpt_inner, mpt_spelling}
use Rattle.mmt_times.specs.Extended.{au_bytes, extended_bytes, mpu_bytes}
use Rattle.mmt_times.specs.Stamps.{pair_bytes, stamps_bytes}

small : (cast_of small_plan).packets ≡ small_packets
unfolding due_of cast_of copies_as_sent copy_as_sent count_of_id due_of_placed greatest has_table has_unit is_sent_before least mpu_as_sent numbered_after place_of_mpu planned span_of span_of_table span_of_unit time_of_unit unit_as_sent with_number fitting gathered part_length all_mpus all_units entry_of_mpu flat_map_from map_from mpus_of units_of candidates carried group_size header_length id_of is_short may_join packet_count packet_of packets_of payload_length rap_of sending_of_signal sending_of_units sendings sendings_of_units tick_of_packet asset_length descriptors_length extended_length is_named_by named_of_asset table_length table_message_length named_from_of numbers member last_due precedes time_for insert_by sort_by in_range time_at unit_times stamps_of_21 extended_of_mpu sent_descriptors sent_asset sent_table mpt_inner mpt_spelling asset_bytes head_bytes location_bytes descriptor_bytes descriptors_bytes length_width extended_bytes mpu_bytes au_bytes stamps_bytes pair_bytes big_endian
small = refl

one_has_cast : refusal plan_one ≡ None
unfolding due_of cast_of copies_as_sent copy_as_sent count_of_id due_of_placed greatest has_table has_unit is_sent_before least mpu_as_sent numbered_after place_of_mpu planned span_of span_of_table span_of_unit time_of_unit unit_as_sent with_number fitting gathered part_length all_mpus all_units entry_of_mpu flat_map_from map_from mpus_of units_of candidates carried group_size header_length id_of is_short may_join packet_count packet_of packets_of payload_length rap_of sending_of_signal sending_of_units sendings sendings_of_units tick_of_packet asset_length descriptors_length extended_length is_named_by named_of_asset table_length table_message_length named_from_of numbers member last_due precedes time_for insert_by sort_by in_range time_at unit_times stamps_of_21 extended_of_mpu sent_descriptors sent_asset sent_table mpt_inner mpt_spelling asset_bytes head_bytes location_bytes descriptor_bytes descriptors_bytes length_width extended_bytes mpu_bytes au_bytes stamps_bytes pair_bytes big_endian out_of_range refusal refusal_of_mpu refusal_of_mpus refusal_of_packets refusal_of_signal refusal_of_signals
one_has_cast = refl

two_has_cast : refusal plan_two_tables ≡ None
unfolding due_of cast_of copies_as_sent copy_as_sent count_of_id due_of_placed greatest has_table has_unit is_sent_before least mpu_as_sent numbered_after place_of_mpu planned span_of span_of_table span_of_unit time_of_unit unit_as_sent with_number fitting gathered part_length all_mpus all_units entry_of_mpu flat_map_from map_from mpus_of units_of candidates carried group_size header_length id_of is_short may_join packet_count packet_of packets_of payload_length rap_of sending_of_signal sending_of_units sendings sendings_of_units tick_of_packet asset_length descriptors_length extended_length is_named_by named_of_asset table_length table_message_length named_from_of numbers member last_due precedes time_for insert_by sort_by in_range time_at unit_times stamps_of_21 extended_of_mpu sent_descriptors sent_asset sent_table mpt_inner mpt_spelling asset_bytes head_bytes location_bytes descriptor_bytes descriptors_bytes length_width extended_bytes mpu_bytes au_bytes stamps_bytes pair_bytes big_endian out_of_range refusal refusal_of_mpu refusal_of_mpus refusal_of_packets refusal_of_signal refusal_of_signals
two_has_cast = refl

limits_has_cast : refusal plan_at_limits ≡ None
unfolding due_of cast_of copies_as_sent copy_as_sent count_of_id due_of_placed greatest has_table has_unit is_sent_before least mpu_as_sent numbered_after place_of_mpu planned span_of span_of_table span_of_unit time_of_unit unit_as_sent with_number fitting gathered part_length all_mpus all_units entry_of_mpu flat_map_from map_from mpus_of units_of candidates carried group_size header_length id_of is_short may_join packet_count packet_of packets_of payload_length rap_of sending_of_signal sending_of_units sendings sendings_of_units tick_of_packet asset_length descriptors_length extended_length is_named_by named_of_asset table_length table_message_length named_from_of numbers member last_due precedes time_for insert_by sort_by in_range time_at unit_times stamps_of_21 extended_of_mpu sent_descriptors sent_asset sent_table mpt_inner mpt_spelling asset_bytes head_bytes location_bytes descriptor_bytes descriptors_bytes length_width extended_bytes mpu_bytes au_bytes stamps_bytes pair_bytes big_endian out_of_range refusal refusal_of_mpu refusal_of_mpus refusal_of_packets refusal_of_signal refusal_of_signals
limits_has_cast = refl

right_au : (n m : ℕ) → n < 2 ^ 16 → m < 2 ^ 16 → IsRightAu (record { dts_pts = n; pts = m })
right_au n m l k = record { dts_pts = l; pts = k }

-- a unit of the plan
right_unit : (tick from bytes fragment sample : ℕ) → tick ≤ 2 ^ 47 → from ≤ 2 ^ 40 → 1 ≤ bytes → bytes ≤ 16777216 → fragment < 2 ^ 32 → sample < 2 ^ 32 → IsRightUnit 65536000 true (unit_with tick from bytes fragment sample)
right_unit tick from bytes fragment sample t f some b m s =
    record { at = (omega arith, omega (arith, t)); from = f; some = some; length = b; key = (m, s, omega arith); priority = omega arith; dependency = omega arith }

right_mpu : IsRightMpu 65536000 true (mpu_seven 300)
right_mpu =
    record {
      number = omega arith;
      time = omega arith;
      decoding_offset = omega arith;
      few = omega arith;
      aus = All-from_recursion IsRightAu (mpu_seven 300).aus (right_au 1001 1001 (omega arith) (omega arith), (right_au 2002 0 (omega arith) (omega arith), tt));
      some = omega arith;
      units = All-from_recursion (IsRightUnit 65536000 true) (mpu_seven 300).units
          (right_unit 200 0 3000 1 1 (omega arith) (omega arith) (omega arith) (omega arith) (omega arith) (omega arith), (right_unit 300 3000 500 1 2 (omega arith) (omega arith) (omega arith) (omega arith) (omega arith) (omega arith), tt));
    }

right_asset : All (IsRightAsset 65536000 1) plan_one.assets
right_asset =
    All-from_recursion (IsRightAsset 65536000 1) plan_one.assets (
      record {
        id_some = omega arith;
        id = omega arith;
        packet_id_some = omega arith;
        packet_id = omega arith;
        kind = ((omega arith, omega arith), (omega arith, omega arith), (omega arith, omega arith), (omega arith, omega arith));
        timescale_some = omega arith;
        timescale = omega arith;
        file = omega arith;
        some = omega arith;
        mpus = All-from_recursion (IsRightMpu 65536000 true) (mpu_seven 300 ∷ []) (right_mpu, tt);
        numbers = (All-from_recursion (λ m. m ≡ 7 → ⊥) [] tt, tt);
      },
      tt,
    )

-- the signalling of the worked plans: buffer messages and tables of the plan's MPU
right_parameters : (tick : ℕ) → tick ≤ 2 ^ 47 → IsRightSignal 65536000 plan_one.assets (parameters_at tick)
right_parameters tick t = (omega arith, omega (arith, t))

right_table : (tick : ℕ) → tick ≤ 2 ^ 47 → IsRightSignal 65536000 plan_one.assets (table_at tick 0)
right_table tick t = ((omega arith, omega (arith, t)), All-from_recursion (IsKnown plan_one.assets) ((0, 0) ∷ []) ((omega arith, omega arith), tt), (All-from_recursion (IsBefore (0, 0)) [] tt, tt))

right_with : (values : Params) (signalling : List Signal) → IsRightParams values → AllByRecursion (IsRightSignal 65536000 plan_one.assets) signalling → length signalling < 2 ^ 32 → IsRight (plan_with values signalling (mpu_seven 300 ∷ []))
right_with values signalling params each few =
    record {
      flow = record { address = omega arith; port_some = omega arith; port = omega arith; no_ntp = λ e. omega (arith, e) };
      source = record { address = omega arith; port_some = omega arith; port = omega arith; no_ntp = λ e. omega (arith, e) };
      context = omega arith;
      full_every = omega arith;
      limit_low = omega arith;
      limit = omega arith;
      spacing = omega arith;
      package_some = omega arith;
      package_id = omega arith;
      params = params;
      start = 65536000;
      start_fits = omega arith;
      signals = All-from_recursion (IsRightSignal 65536000 plan_one.assets) signalling each;
      assets_some = omega arith;
      assets_few = omega arith;
      assets = right_asset;
      ids = (All-from_recursion (λ m. m ≡ 256 → ⊥) [] tt, tt);
      files = All-from_recursion IsFileName plan_one.files (record { some = omega arith; short = omega arith }, tt);
      few_signals = few;
      few_units = omega arith;
    }

right_usual : IsRightParams usual
right_usual = record { bound = omega arith; window = omega arith; delay = omega arith }

right_tight : IsRightParams tight
right_tight = record { bound = omega arith; window = omega arith; delay = omega arith }

one_right : IsRight plan_one
one_right = right_with usual plan_one.signals right_usual (right_parameters 0 (omega arith), (right_table 100 (omega arith), tt)) (omega arith)

two_right : IsRight plan_two_tables
two_right = right_with usual plan_two_tables.signals right_usual (right_parameters 0 (omega arith), (right_table 100 (omega arith), (right_table 32800 (omega arith), tt))) (omega arith)

limits_right : IsRight plan_at_limits
limits_right =
    right_with tight plan_at_limits.signals right_tight
    (right_parameters 0 (omega arith), (right_table 100 (omega arith), (right_table 32768 (omega arith), (right_parameters 34955 (omega arith), tt)))) (omega arith)

fit : (m : ℕ) → m < length (all_mpus plan_one) → FitsTable (mpu_at plan_one m)
unfolding all_mpus flat_map_from map_from mpus_of mpu_at unit_times time_at all_in_range
fit zero l = record { number = omega arith; time = omega arith; offset = omega arith; timescale = (omega arith, omega arith); few = omega arith; aus = All-from_recursion (λ (a : Au). (a.dts_pts < 2 ^ 16) × (a.pts < 2 ^ 16)) (mpu_at plan_one 0).value.aus ((omega arith, omega arith), ((omega arith, omega arith), tt)); times = refl }
fit (suc m) l = absurd (omega arith)

spelled : (s : ℕ) → s < length plan_one.signals → IsMessage plan_one some_names (signal_at plan_one s) (some_messages s)
unfolding due_of cast_of copies_as_sent copy_as_sent count_of_id due_of_placed greatest has_table has_unit is_sent_before least mpu_as_sent numbered_after place_of_mpu planned span_of span_of_table span_of_unit time_of_unit unit_as_sent with_number fitting gathered part_length all_mpus all_units entry_of_mpu flat_map_from map_from mpus_of units_of candidates carried group_size header_length id_of is_short may_join packet_count packet_of packets_of payload_length rap_of sending_of_signal sending_of_units sendings sendings_of_units tick_of_packet asset_length descriptors_length extended_length is_named_by named_of_asset table_length table_message_length named_from_of numbers member last_due precedes time_for insert_by sort_by in_range time_at unit_times stamps_of_21 extended_of_mpu sent_descriptors sent_asset sent_table mpt_inner mpt_spelling asset_bytes head_bytes location_bytes descriptor_bytes descriptors_bytes length_width extended_bytes mpu_bytes au_bytes stamps_bytes pair_bytes big_endian mpu_at signal_at
spelled zero l = (refl, refl)
spelled (suc zero) l = (refl, refl)
spelled (suc (suc s)) l = absurd (omega arith)

pub examples : AreExamples
examples =
    record {
      small = small;
      worked = record {
        one_table = record { right = one_right; has_cast = one_has_cast; admitted = one_admitted };
        two_tables = record { right = two_right; has_cast = two_has_cast; admitted = two_admitted };
        at_the_limits = record { right = limits_right; has_cast = limits_has_cast; admitted = limits_admitted };
      };
      fit = fit;
      spelled = spelled;
    }
