use Rattle.std.proofs.Common.{◌<◌, arith, ap, get_or, refl, sym, ◌∙◌}
use Rattle.mmt_admit.specs.Faults.{as_fault}
use Rattle.mmt_admit.proofs.Counting.{counts-begin, counts-go_on, counts-small, number-at}
use Rattle.mmt_admit.proofs.Walking.{walk-begins, walk-more}
use Rattle.mmt_model.specs.Admission.{fault_of_gap, fault_of_number, or_else}
use Rattle.mmt_model.specs.Survival.{no_packet}
use Rattle.mmt_admit.proofs.numbers.packet_faults.Goals as goal

pub loop-n-init : goal.loop-n-init
loop-n-init c = record {
  gap = sym (walk-begins (fault_of_gap c.args.packets.now));
  number = sym (walk-begins (fault_of_number c.args.packets.now));
  counts = counts-begin c.args.packets.now;
}

pub overflow_add-counts : goal.overflow_add-counts
overflow_add-counts c =
    let id : c.id_at-id.result < 65536 = omega arith in
    omega (arith, counts-small c.loop-n.counts c.loop-n.n c.id_at-id.result c.args.packets.now c.loop-n.invariant.counts id, c.loop-n-test.true, c.requires.few)

pub loop-n-preserved : goal.loop-n-preserved
loop-n-preserved c =
    let id : c.id_at-id.result < 65536 = omega arith in
    let at = number-at c.args.packets.now c.loop-n.n c.id_at-id.result (get_or c.args.packets.now c.loop-n.n no_packet).number (get_or c.loop-n.counts c.id_at-id.result 0) c.id_at-id.ensures refl (c.loop-n.invariant.counts.each c.id_at-id.result id) in
    record {
      gap = walk-more (fault_of_gap c.args.packets.now) c.loop-n.n (as_fault c.loop-n.gap) (as_fault c.gap_by-gap.result) c.loop-n.invariant.gap c.gap_by-gap.ensures;
      number = walk-more (fault_of_number c.args.packets.now) c.loop-n.n (as_fault c.loop-n.number) (as_fault c.number_by-number.result) c.loop-n.invariant.number (c.number_by-number.ensures ∙ ap (λ f. or_else (as_fault c.loop-n.number) f) at);
      counts = counts-go_on c.loop-n.counts c.loop-n.n c.id_at-id.result c.args.packets.now c.loop-n.invariant.counts c.loop-n-test.true id c.id_at-id.ensures;
    }
