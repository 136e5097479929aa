use Rattle.std.proofs.Common.{◌+◌, List, length, arith, ap, subst, sym, ◌-◌, ◌∙◌}
use Rattle.mmt_admit.proofs.Sliding.{IsWhole, IsWindow, load-found, window-begins, window-drops, window-holds, window-next, window-takes}
use Rattle.mmt_admit.specs.Faults.{AreInOrder}
use Rattle.mmt_admit.proofs.Walking.{walk-begins, walk-found, walk-passed}
use Rattle.mmt_model.specs.Admission.{fault_of_load}
use Rattle.mmt_model.specs.Survival.{sent_at}
use Rattle.mmt_model.specs.declared.casts.Sent.{Sent}
use Rattle.mmt_admit.proofs.loads.first_load.Goals as goal
use Rattle.mmt_admit.proofs.loads.first_load.Goals.{then-loop-start-test+else-tick_at-window, else-loop-start-test}

pub loop-n-init : goal.loop-n-init
loop-n-init c = (walk-begins (fault_of_load c.args.cast.now), (λ l. window-begins c.as_slice-packets.result.now c.widened-window.result (sent_at c.as_slice-packets.result.now 0)))

pub loop-end-preserved : goal.loop-end-preserved
loop-end-preserved c =
    let w = window-takes c.as_slice-packets.result.now c.widened-window.result c.tick_at-now.result c.loop-n.start c.loop-end.end c.loop-end.bytes c.loop-end.invariant c.loop-end-test.true
    (omega (arith, c.if-tick_at-now.true, c.tick_at.ensures.value)) (omega (arith, c.bytes_at.ensures.value, c.bytes_at.ensures.short)) in
    subst (λ b. IsWindow c.as_slice-packets.result.now c.widened-window.result c.tick_at-now.result c.loop-n.start (c.loop-end.end + 1) (c.loop-end.bytes + b)) (sym c.bytes_at.ensures.value) w

pub overflow_sub-bytes : goal.overflow_sub-bytes
overflow_sub-bytes c =
    omega (arith, c.bytes_at-in-loop-start.ensures.value, window-holds c.as_slice-packets.result.now c.widened-window.result c.tick_at-now.result c.loop-start.start c.loop-end.end c.loop-start.bytes c.loop-start.invariant.0 c.loop-start-test.true)

pub loop-start-preserved : goal.loop-start-preserved
loop-start-preserved c =
    let w = window-drops c.as_slice-packets.result.now c.widened-window.result c.tick_at-now.result c.loop-start.start c.loop-end.end c.loop-start.bytes c.loop-start.invariant.0 c.loop-start-test.true
    (omega (arith, c.if-tick_at-window.true, c.tick_at-in-loop-start.ensures.value)) in
    (subst (λ b. IsWindow c.as_slice-packets.result.now c.widened-window.result c.tick_at-now.result (c.loop-start.start + 1) c.loop-end.end (c.loop-start.bytes - b)) (sym c.bytes_at-in-loop-start.ensures.value) w, c.loop-start.invariant.1)

pub returns-then-is_some : goal.returns-then-is_some
returns-then-is_some c =
    let whole : IsWhole c.as_slice-packets.result.now c.widened-window.result c.tick_at-now.result c.loop-start.start c.loop-end.end =
    record {
      all_come = c.loop-start.invariant.1;
      all_gone = λ l. elim c.loop-start-test.branch [ then-loop-start-test+else-tick_at-window w ↦ omega (arith, w.if-tick_at-window.false, w.tick_at-in-loop-start.ensures.value) | else-loop-start-test w ↦ omega (arith, w.loop-start-test.false, l) ];
    } in
    walk-found (fault_of_load c.args.cast.now) c.loop-n.n (length c.args.cast.now.packets) c.unless-found.result c.loop-n.invariant.0
    (c.unless-found.ensures ∙ load-found c.args.cast.now c.as_slice-packets.result.now c.loop-n.n c.widened-window.result c.widened-bound.result c.tick_at-now.result c.loop-start.start c.loop-end.end c.loop-start.bytes
    c.as_slice-packets.ensures c.widened-window.ensures.value c.widened-bound.ensures.value c.requires.in_order c.requires.window c.tick_at-now.ensures.value c.loop-start.invariant.0 whole)
    c.if-is_some.ensures (omega (arith, c.loop-n-test.true, ap (λ (ps : List Sent). length ps) c.as_slice-packets.ensures))

pub loop-n-preserved : goal.loop-n-preserved
loop-n-preserved c =
    let whole : IsWhole c.as_slice-packets.result.now c.widened-window.result c.tick_at-now.result c.loop-start.start c.loop-end.end =
    record {
      all_come = c.loop-start.invariant.1;
      all_gone = λ l. elim c.loop-start-test.branch [ then-loop-start-test+else-tick_at-window w ↦ omega (arith, w.if-tick_at-window.false, w.tick_at-in-loop-start.ensures.value) | else-loop-start-test w ↦ omega (arith, w.loop-start-test.false, l) ];
    } in (
      walk-passed (fault_of_load c.args.cast.now) c.loop-n.n c.unless-found.result c.loop-n.invariant.0
          (c.unless-found.ensures ∙ load-found c.args.cast.now c.as_slice-packets.result.now c.loop-n.n c.widened-window.result c.widened-bound.result c.tick_at-now.result c.loop-start.start c.loop-end.end c.loop-start.bytes
          c.as_slice-packets.ensures c.widened-window.ensures.value c.widened-bound.ensures.value c.requires.in_order c.requires.window c.tick_at-now.ensures.value c.loop-start.invariant.0 whole)
          c.if-is_some.ensures,
      (λ l. window-next c.as_slice-packets.result.now c.loop-n.n c.widened-window.result c.tick_at-now.result c.loop-start.start c.loop-end.end c.loop-start.bytes (subst AreInOrder (sym c.as_slice-packets.ensures) c.requires.in_order) c.tick_at-now.ensures.value l c.loop-start.invariant.0),
    )
