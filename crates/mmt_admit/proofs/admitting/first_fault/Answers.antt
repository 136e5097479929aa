use Rattle.std.proofs.Common.{List, length, ap, ◌∙◌}
use Rattle.mmt_admit.proofs.Chaining.{found, none, nothing, sorted-from, window-from}
use Rattle.mmt_model.specs.Admission.{fault, fault_of_gap, fault_of_number, fault_of_start, first_below}
use Rattle.mmt_model.specs.declared.casts.Sent.{Sent}
use Rattle.mmt_admit.proofs.admitting.first_fault.Goals as goal

pub returns-then-is_some : goal.returns-then-is_some
unfolding fault
returns-then-is_some c =
    found c.params_fault-params.result _ _ c.params_fault-params.ensures c.if-is_some.ensures

pub returns-then-is_some-2 : goal.returns-then-is_some-2
unfolding fault
returns-then-is_some-2 c =
    none c.params_fault-params.result _ _ _ c.params_fault-params.ensures c.if-is_some.ensures
    (found c.packet_faults-of_packets.result.gap _ _ (c.packet_faults-of_packets.ensures.gap ∙ ap (λ (ps : List Sent). first_below (fault_of_gap ps) (length ps)) c.as_slice-packets.ensures) c.if-is_some-2.ensures)

pub returns-then-is_some-3 : goal.returns-then-is_some-3
unfolding fault
returns-then-is_some-3 c =
    none c.params_fault-params.result _ _ _ c.params_fault-params.ensures c.if-is_some.ensures
    (none c.packet_faults-of_packets.result.gap _ _ _ (c.packet_faults-of_packets.ensures.gap ∙ ap (λ (ps : List Sent). first_below (fault_of_gap ps) (length ps)) c.as_slice-packets.ensures) c.if-is_some-2.ensures
    (found c.packet_faults-of_packets.result.number _ _ (c.packet_faults-of_packets.ensures.number ∙ ap (λ (ps : List Sent). first_below (fault_of_number ps) (length ps)) c.as_slice-packets.ensures) c.if-is_some-3.ensures))

pub returns-then-is_some-4 : goal.returns-then-is_some-4
unfolding fault
returns-then-is_some-4 c =
    none c.params_fault-params.result _ _ _ c.params_fault-params.ensures c.if-is_some.ensures
    (none c.packet_faults-of_packets.result.gap _ _ _ (c.packet_faults-of_packets.ensures.gap ∙ ap (λ (ps : List Sent). first_below (fault_of_gap ps) (length ps)) c.as_slice-packets.ensures) c.if-is_some-2.ensures
    (none c.packet_faults-of_packets.result.number _ _ _ (c.packet_faults-of_packets.ensures.number ∙ ap (λ (ps : List Sent). first_below (fault_of_number ps) (length ps)) c.as_slice-packets.ensures) c.if-is_some-3.ensures
    (found c.unit_faults-of_units.result.due _ _ c.unit_faults-of_units.ensures.due c.if-is_some-4.ensures)))

pub returns-then-is_some-5 : goal.returns-then-is_some-5
unfolding fault
returns-then-is_some-5 c =
    none c.params_fault-params.result _ _ _ c.params_fault-params.ensures c.if-is_some.ensures
    (none c.packet_faults-of_packets.result.gap _ _ _ (c.packet_faults-of_packets.ensures.gap ∙ ap (λ (ps : List Sent). first_below (fault_of_gap ps) (length ps)) c.as_slice-packets.ensures) c.if-is_some-2.ensures
    (none c.packet_faults-of_packets.result.number _ _ _ (c.packet_faults-of_packets.ensures.number ∙ ap (λ (ps : List Sent). first_below (fault_of_number ps) (length ps)) c.as_slice-packets.ensures) c.if-is_some-3.ensures
    (none c.unit_faults-of_units.result.due _ _ _ c.unit_faults-of_units.ensures.due c.if-is_some-4.ensures
    (found c.first_copy-copy.result _ _ c.first_copy-copy.ensures c.if-is_some-5.ensures))))

pub returns-then-is_some-6 : goal.returns-then-is_some-6
unfolding fault
returns-then-is_some-6 c =
    none c.params_fault-params.result _ _ _ c.params_fault-params.ensures c.if-is_some.ensures
    (none c.packet_faults-of_packets.result.gap _ _ _ (c.packet_faults-of_packets.ensures.gap ∙ ap (λ (ps : List Sent). first_below (fault_of_gap ps) (length ps)) c.as_slice-packets.ensures) c.if-is_some-2.ensures
    (none c.packet_faults-of_packets.result.number _ _ _ (c.packet_faults-of_packets.ensures.number ∙ ap (λ (ps : List Sent). first_below (fault_of_number ps) (length ps)) c.as_slice-packets.ensures) c.if-is_some-3.ensures
    (none c.unit_faults-of_units.result.due _ _ _ c.unit_faults-of_units.ensures.due c.if-is_some-4.ensures
    (none c.first_copy-copy.result _ _ _ c.first_copy-copy.ensures c.if-is_some-5.ensures
    (found c.first_load-load.result _ _ c.first_load-load.ensures c.if-is_some-6.ensures)))))

pub returns-then-is_some-7 : goal.returns-then-is_some-7
unfolding fault
returns-then-is_some-7 c =
    none c.params_fault-params.result _ _ _ c.params_fault-params.ensures c.if-is_some.ensures
    (none c.packet_faults-of_packets.result.gap _ _ _ (c.packet_faults-of_packets.ensures.gap ∙ ap (λ (ps : List Sent). first_below (fault_of_gap ps) (length ps)) c.as_slice-packets.ensures) c.if-is_some-2.ensures
    (none c.packet_faults-of_packets.result.number _ _ _ (c.packet_faults-of_packets.ensures.number ∙ ap (λ (ps : List Sent). first_below (fault_of_number ps) (length ps)) c.as_slice-packets.ensures) c.if-is_some-3.ensures
    (none c.unit_faults-of_units.result.due _ _ _ c.unit_faults-of_units.ensures.due c.if-is_some-4.ensures
    (none c.first_copy-copy.result _ _ _ c.first_copy-copy.ensures c.if-is_some-5.ensures
    (none c.first_load-load.result _ _ _ c.first_load-load.ensures c.if-is_some-6.ensures
    (found c.first_live-live.result _ _ c.first_live-live.ensures c.if-is_some-7.ensures))))))

pub returns-then-is_some-8 : goal.returns-then-is_some-8
unfolding fault
returns-then-is_some-8 c =
    none c.params_fault-params.result _ _ _ c.params_fault-params.ensures c.if-is_some.ensures
    (none c.packet_faults-of_packets.result.gap _ _ _ (c.packet_faults-of_packets.ensures.gap ∙ ap (λ (ps : List Sent). first_below (fault_of_gap ps) (length ps)) c.as_slice-packets.ensures) c.if-is_some-2.ensures
    (none c.packet_faults-of_packets.result.number _ _ _ (c.packet_faults-of_packets.ensures.number ∙ ap (λ (ps : List Sent). first_below (fault_of_number ps) (length ps)) c.as_slice-packets.ensures) c.if-is_some-3.ensures
    (none c.unit_faults-of_units.result.due _ _ _ c.unit_faults-of_units.ensures.due c.if-is_some-4.ensures
    (none c.first_copy-copy.result _ _ _ c.first_copy-copy.ensures c.if-is_some-5.ensures
    (none c.first_load-load.result _ _ _ c.first_load-load.ensures c.if-is_some-6.ensures
    (none c.first_live-live.result _ _ _ c.first_live-live.ensures c.if-is_some-7.ensures
    (found c.unit_faults-of_units.result.key _ _ c.unit_faults-of_units.ensures.key c.if-is_some-8.ensures)))))))

pub returns-then-is_some-9 : goal.returns-then-is_some-9
unfolding fault
returns-then-is_some-9 c =
    none c.params_fault-params.result _ _ _ c.params_fault-params.ensures c.if-is_some.ensures
    (none c.packet_faults-of_packets.result.gap _ _ _ (c.packet_faults-of_packets.ensures.gap ∙ ap (λ (ps : List Sent). first_below (fault_of_gap ps) (length ps)) c.as_slice-packets.ensures) c.if-is_some-2.ensures
    (none c.packet_faults-of_packets.result.number _ _ _ (c.packet_faults-of_packets.ensures.number ∙ ap (λ (ps : List Sent). first_below (fault_of_number ps) (length ps)) c.as_slice-packets.ensures) c.if-is_some-3.ensures
    (none c.unit_faults-of_units.result.due _ _ _ c.unit_faults-of_units.ensures.due c.if-is_some-4.ensures
    (none c.first_copy-copy.result _ _ _ c.first_copy-copy.ensures c.if-is_some-5.ensures
    (none c.first_load-load.result _ _ _ c.first_load-load.ensures c.if-is_some-6.ensures
    (none c.first_live-live.result _ _ _ c.first_live-live.ensures c.if-is_some-7.ensures
    (none c.unit_faults-of_units.result.key _ _ _ c.unit_faults-of_units.ensures.key c.if-is_some-8.ensures
    (found c.start_fault-start.result _ _ (c.start_fault-start.ensures ∙ ap fault_of_start c.as_slice-packets.ensures) c.if-is_some-9.ensures))))))))

pub returns : goal.returns
unfolding fault
returns c =
    none c.params_fault-params.result _ _ _ c.params_fault-params.ensures c.if-is_some.ensures
    (none c.packet_faults-of_packets.result.gap _ _ _ (c.packet_faults-of_packets.ensures.gap ∙ ap (λ (ps : List Sent). first_below (fault_of_gap ps) (length ps)) c.as_slice-packets.ensures) c.if-is_some-2.ensures
    (none c.packet_faults-of_packets.result.number _ _ _ (c.packet_faults-of_packets.ensures.number ∙ ap (λ (ps : List Sent). first_below (fault_of_number ps) (length ps)) c.as_slice-packets.ensures) c.if-is_some-3.ensures
    (none c.unit_faults-of_units.result.due _ _ _ c.unit_faults-of_units.ensures.due c.if-is_some-4.ensures
    (none c.first_copy-copy.result _ _ _ c.first_copy-copy.ensures c.if-is_some-5.ensures
    (none c.first_load-load.result _ _ _ c.first_load-load.ensures c.if-is_some-6.ensures
    (none c.first_live-live.result _ _ _ c.first_live-live.ensures c.if-is_some-7.ensures
    (none c.unit_faults-of_units.result.key _ _ _ c.unit_faults-of_units.ensures.key c.if-is_some-8.ensures
    (none c.start_fault-start.result _ _ _ (c.start_fault-start.ensures ∙ ap fault_of_start c.as_slice-packets.ensures) c.if-is_some-9.ensures
    (c.first_mpu.ensures)))))))))

pub first_load-load-requires-clause-in_order : goal.first_load-load-requires-clause-in_order
first_load-load-requires-clause-in_order c = sorted-from c.args.cast.now.packets (nothing c.packet_faults-of_packets.result.gap _ (c.packet_faults-of_packets.ensures.gap ∙ ap (λ (ps : List Sent). first_below (fault_of_gap ps) (length ps)) c.as_slice-packets.ensures) c.if-is_some-2.ensures)

pub first_load-load-requires-clause-window : goal.first_load-load-requires-clause-window
first_load-load-requires-clause-window c = window-from c.args.cast.now.params (nothing c.params_fault-params.result _ c.params_fault-params.ensures c.if-is_some.ensures)
