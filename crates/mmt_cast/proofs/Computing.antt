-- The casts of the worked plan and of plans like it, computed.
use Rattle.std.proofs.Common.{◌≡◌, refl, None}
use Rattle.mmt_base.specs.Ticks.{due_of}
use Rattle.mmt_cast.specs.Casting.{cast_of, copies_as_sent, copy_as_sent, count_of_id, due_of_placed, greatest, has_table, has_unit, is_sent_before, least, mpu_as_sent, numbered_after, place_of_mpu, planned, span_of, span_of_table, span_of_unit, time_of_unit, unit_as_sent, with_number}
use Rattle.mmt_frag.specs.Cuts.{fitting, gathered, part_length}
use Rattle.mmt_cast.specs.Placing.{all_mpus, all_units, entry_of_mpu, flat_map_from, map_from, mpus_of, units_of}
use Rattle.mmt_cast.specs.PlanOne.{AreRefusedPlans, plan_at_limits, plan_one, plan_two_tables}
use Rattle.mmt_cast.specs.Sending.{candidates, carried, group_size, header_length, id_of, is_short, may_join, packet_count, packet_of, packets_of, payload_length, rap_of, sending_of_signal, sending_of_units, sendings, sendings_of_units, tick_of_packet}
use Rattle.mmt_cast.specs.Tables.{asset_length, descriptors_length, extended_length, is_named_by, named_of_asset, table_length, table_message_length}
use Rattle.mmt_cast.specs.WorkedCasts.{WorkedPlansCompute}
use Rattle.mmt_model.specs.Admission.{count_before, fault, fault_of_copy, fault_of_gap, fault_of_key, fault_of_live, fault_of_load, fault_of_mpu, fault_of_name, fault_of_number, fault_of_params, fault_of_start, fault_of_unit, first_among, first_below, first_parameters, is_of_one_mpu, live_at}
use Rattle.mmt_model.specs.Carrying.{named_from_of, numbers, sent_mpu, sent_unit, table_copy}
use Rattle.mmt_model.specs.Counts.{member}
use Rattle.mmt_model.specs.Entries.{last_due}
use Rattle.mmt_model.specs.Handing.{key_numbers, precedes, time_for}
use Rattle.mmt_model.specs.Sorted.{insert_by, sort_by}
use Rattle.mmt_model.specs.Survival.{load, sent_at}
use Rattle.mmt_times.specs.Times.{in_range, time_at, unit_times}
use Rattle.mmt_cast.specs.SentTables.{extended_of_mpu, sent_asset, sent_descriptors, sent_table, stamps_of_21}
use Rattle.mmt_fields.specs.Reading.{big_endian}
use Rattle.mmt_mpt.specs.Asset.{asset_bytes, head_bytes}
use Rattle.mmt_mpt.specs.Descriptor.{descriptor_bytes, descriptors_bytes, length_width}
use Rattle.mmt_mpt.specs.Location.{location_bytes}
use Rattle.mmt_mpt.specs.Table.{mpt_inner, mpt_spelling}
use Rattle.mmt_times.specs.Extended.{au_bytes, extended_bytes, mpu_bytes}
use Rattle.mmt_times.specs.Stamps.{pair_bytes, stamps_bytes}

pub worked_plans_compute : WorkedPlansCompute
unfolding due_of cast_of copies_as_sent copy_as_sent count_of_id due_of_placed greatest has_table has_unit is_sent_before least mpu_as_sent numbered_after place_of_mpu planned span_of span_of_table span_of_unit time_of_unit unit_as_sent with_number fitting gathered part_length all_mpus all_units entry_of_mpu flat_map_from map_from mpus_of units_of candidates carried group_size header_length id_of is_short may_join packet_count packet_of packets_of payload_length rap_of sending_of_signal sending_of_units sendings sendings_of_units tick_of_packet asset_length descriptors_length extended_length is_named_by named_of_asset table_length table_message_length named_from_of numbers member last_due precedes time_for insert_by sort_by in_range time_at unit_times stamps_of_21 extended_of_mpu sent_descriptors sent_asset sent_table mpt_inner mpt_spelling asset_bytes head_bytes location_bytes descriptor_bytes descriptors_bytes length_width extended_bytes mpu_bytes au_bytes stamps_bytes pair_bytes big_endian
worked_plans_compute = record { one_table = refl; two_tables = refl; at_the_limits = refl; table = refl }

pub one_admitted : fault (cast_of plan_one) ≡ None
unfolding due_of cast_of copies_as_sent copy_as_sent count_of_id due_of_placed greatest has_table has_unit is_sent_before least mpu_as_sent numbered_after place_of_mpu planned span_of span_of_table span_of_unit time_of_unit unit_as_sent with_number fitting gathered part_length all_mpus all_units entry_of_mpu flat_map_from map_from mpus_of units_of candidates carried group_size header_length id_of is_short may_join packet_count packet_of packets_of payload_length rap_of sending_of_signal sending_of_units sendings sendings_of_units tick_of_packet asset_length descriptors_length extended_length is_named_by named_of_asset table_length table_message_length named_from_of numbers member last_due precedes time_for insert_by sort_by in_range time_at unit_times fault fault_of_params first_below fault_of_gap fault_of_number count_before fault_of_unit fault_of_copy first_among fault_of_name fault_of_load fault_of_live live_at fault_of_key is_of_one_mpu key_numbers fault_of_start first_parameters fault_of_mpu sent_unit sent_mpu table_copy sent_at load
one_admitted = refl

pub two_admitted : fault (cast_of plan_two_tables) ≡ None
unfolding due_of cast_of copies_as_sent copy_as_sent count_of_id due_of_placed greatest has_table has_unit is_sent_before least mpu_as_sent numbered_after place_of_mpu planned span_of span_of_table span_of_unit time_of_unit unit_as_sent with_number fitting gathered part_length all_mpus all_units entry_of_mpu flat_map_from map_from mpus_of units_of candidates carried group_size header_length id_of is_short may_join packet_count packet_of packets_of payload_length rap_of sending_of_signal sending_of_units sendings sendings_of_units tick_of_packet asset_length descriptors_length extended_length is_named_by named_of_asset table_length table_message_length named_from_of numbers member last_due precedes time_for insert_by sort_by in_range time_at unit_times fault fault_of_params first_below fault_of_gap fault_of_number count_before fault_of_unit fault_of_copy first_among fault_of_name fault_of_load fault_of_live live_at fault_of_key is_of_one_mpu key_numbers fault_of_start first_parameters fault_of_mpu sent_unit sent_mpu table_copy sent_at load
two_admitted = refl

pub limits_admitted : fault (cast_of plan_at_limits) ≡ None
unfolding due_of cast_of copies_as_sent copy_as_sent count_of_id due_of_placed greatest has_table has_unit is_sent_before least mpu_as_sent numbered_after place_of_mpu planned span_of span_of_table span_of_unit time_of_unit unit_as_sent with_number fitting gathered part_length all_mpus all_units entry_of_mpu flat_map_from map_from mpus_of units_of candidates carried group_size header_length id_of is_short may_join packet_count packet_of packets_of payload_length rap_of sending_of_signal sending_of_units sendings sendings_of_units tick_of_packet asset_length descriptors_length extended_length is_named_by named_of_asset table_length table_message_length named_from_of numbers member last_due precedes time_for insert_by sort_by in_range time_at unit_times fault fault_of_params first_below fault_of_gap fault_of_number count_before fault_of_unit fault_of_copy first_among fault_of_name fault_of_load fault_of_live live_at fault_of_key is_of_one_mpu key_numbers fault_of_start first_parameters fault_of_mpu sent_unit sent_mpu table_copy sent_at load
limits_admitted = refl

pub refused_plans_compute : AreRefusedPlans
unfolding due_of cast_of copies_as_sent copy_as_sent count_of_id due_of_placed greatest has_table has_unit is_sent_before least mpu_as_sent numbered_after place_of_mpu planned span_of span_of_table span_of_unit time_of_unit unit_as_sent with_number fitting gathered part_length all_mpus all_units entry_of_mpu flat_map_from map_from mpus_of units_of candidates carried group_size header_length id_of is_short may_join packet_count packet_of packets_of payload_length rap_of sending_of_signal sending_of_units sendings sendings_of_units tick_of_packet asset_length descriptors_length extended_length is_named_by named_of_asset table_length table_message_length named_from_of numbers member last_due precedes time_for insert_by sort_by in_range time_at unit_times fault fault_of_params first_below fault_of_gap fault_of_number count_before fault_of_unit fault_of_copy first_among fault_of_name fault_of_load fault_of_live live_at fault_of_key is_of_one_mpu key_numbers fault_of_start first_parameters fault_of_mpu sent_unit sent_mpu table_copy sent_at load
refused_plans_compute =
    record {
      window_too_small = refl;
      window_short_of_second_unit = refl;
      bound_too_small = refl;
      no_parameters = refl;
      second_unit_at_205 = refl;
      second_table_too_late = refl;
      no_early_table = refl;
      long_silence = refl;
      no_long_silence = refl;
      sixteen_packets = (refl, refl);
    }
