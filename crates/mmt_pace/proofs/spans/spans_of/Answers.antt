use Rattle.std.proofs.Common.{◌≡◌, ◌+◌, ◌-◌, ◌∙◌, List, length, drop, replicate, arith, ap, refl, sym, subst, Option, None}
use Rattle.std.proofs.lemmas.List.{get_or_default}
use Rattle.mmt_pace.proofs.Widening.{no-spans, one-span, written-back}
use Rattle.mmt_pace.specs.Spanned.{AreSpans, count_of, has_thing}
use Rattle.mmt_pace.specs.declared.spans.Span.{Span}
use Rattle.mmt_pace.proofs.spans.spans_of.Goals as goal

pub loop-i-init : goal.loop-i-init
loop-i-init c =
    let nothing : Option Span = None in
    no-spans (count_of c.args.cast.now c.args.things) (length c.args.packets.now) (has_thing c.args.cast.now c.args.things) c.args.packets.now c.in_ok-spans.spans.items refl (c.in_ok-spans.ensures ∙ ap (λ n. replicate n nothing) c.count_of.ensures)

pub loop-i-preserved : goal.loop-i-preserved
loop-i-preserved c =
    let v : length c.as_mut_slice.result.now ≡ length c.loop-i.spans.items = ap (λ (xs : List (Option Span)). length xs) c.as_mut_slice.ensures.value in
    let same : length c.widen.new.spans ≡ length c.loop-i.spans.items = omega (arith, c.widen.auto.spans, v) in
    let n : c.loop-i.spans.len ≡ length c.loop-i.spans.items = omega (arith, c.as_mut_slice.ensures.len, v) in
    subst (AreSpans (count_of c.args.cast.now c.args.things) (has_thing c.args.cast.now c.args.things) (drop (length c.args.packets.now - (c.loop-i.i + 1)) c.args.packets.now)) (sym (written-back c.loop-i.spans.len c.widen.new.spans c.loop-i.spans.items n same))
    (one-span (count_of c.args.cast.now c.args.things) (length c.args.packets.now) c.loop-i.i (has_thing c.args.cast.now c.args.things) c.args.packets.now _ c.run_in-run.result c.loop-i.spans.items c.widen.new.spans refl c.loop-i-test.true
    (get_or_default c.args.packets.now (length c.args.packets.now - 1 - c.loop-i.i) _ _ (omega arith)) c.run_in-run.ensures.among same
    (rw (sym c.as_mut_slice.ensures.value) c.widen.ensures) c.loop-i.invariant)
