use Rattle.std.proofs.Common.{◌+◌, ◌<◌, ◌≤◌, ◌∙◌, Err, length, refl, ap, subst, arith}
use Rattle.std.proofs.lemmas.List.{length_push}
use Rattle.std.proofs.lemmas.List.Elements.{All-nil, All-push}
use Rattle.serde_json.specs.View.{view}
use Rattle.mmt_plan.specs.Reading.{IsAnswer}
use Rattle.mmt_plan.proofs.Counts.{item_within, length_within}
use Rattle.mmt_plan.proofs.Lists.{begins, goes_on, stops_so, ends}
use Rattle.mmt_plan.proofs.parts.read_each.Goals as goal

pub loop-value-init : goal.loop-value-init
loop-value-init g c = record { read = rw c.new-items.ensures (begins (g.P.Part.item_at c.args.spot) c.args.values.now.items); counted = refl; right = rw c.new-items.ensures (All-nil (g.P.Part.is_right c.args.spot)); count = rw c.new-items.ensures refl }

pub returns-in-Err-clause-value : goal.returns-in-Err-clause-value
returns-in-Err-clause-value g c =
    stops_so (g.P.Part.item_at c.args.spot) c.args.values.now.items c.loop-value.items c.loop-value.value-index c.value-item.result c.in-Err.end c.loop-value.invariant.read
    (rw (← c.deref-value-items.ensures.value) c.loop-value-test.true) (rw (← c.deref-value-items.ensures.value) c.value-item.is) (subst (λ n. IsAnswer (g.P.Part.item_at c.args.spot n (view c.value-item.result)) (Err c.in-Err.end)) c.loop-value.invariant.counted c.in-Err.ensures.value)

pub loop-value-preserved : goal.loop-value-preserved
loop-value-preserved g c = record {
  read = rw c.in_ok-push.ensures.pushed (goes_on (g.P.Part.item_at c.args.spot) c.args.values.now.items c.loop-value.items c.loop-value.value-index c.value-item.result c.in-Ok.item c.loop-value.invariant.read
      (rw (← c.deref-value-items.ensures.value) c.loop-value-test.true) (rw (← c.deref-value-items.ensures.value) c.value-item.is) (rw (← c.loop-value.invariant.counted) c.in-Ok.ensures.value));
  counted = omega arith;
  right = rw c.in_ok-push.ensures.pushed (All-push (g.P.Part.is_right c.args.spot) c.loop-value.items c.in-Ok.item c.loop-value.invariant.right c.in-Ok.ensures.right);
  count = rw c.in_ok-push.ensures.pushed (length_push c.loop-value.items c.in-Ok.item ∙ ap (λ n. n + 1) c.loop-value.invariant.count);
}

pub returns-clause-value : goal.returns-clause-value
returns-clause-value g c =
    ends (g.P.Part.item_at c.args.spot) c.args.values.now.items c.loop-value.items c.loop-value.value-index c.loop-value.invariant.read (rw (← c.deref-value-items.ensures.value) c.loop-value-test.false)

pub returns-clause-count : goal.returns-clause-count
returns-clause-count g c =
    let le : length c.args.values.now.items ≤ c.loop-value.value-index = rw (← c.deref-value-items.ensures.value) c.loop-value-test.false in
    let within : c.loop-value.value-index ≤ length c.args.values.now.items = rw (← c.deref-value-items.ensures.value) c.loop-value.auto.value-index-end in
    let count = c.loop-value.invariant.count in
    omega arith

pub read-requires-clause-small : goal.read-requires-clause-small
read-requires-clause-small g c =
    let le = item_within c.args.values.now.items c.loop-value.value-index c.value-item.result (rw (← c.deref-value-items.ensures.value) c.loop-value-test.true) (rw (← c.deref-value-items.ensures.value) c.value-item.is) in
    let small = c.requires.small in
    omega (arith, le)

pub overflow_add-number : goal.overflow_add-number
overflow_add-number g c =
    let le = length_within c.args.values.now.items in
    let lt : c.loop-value.value-index < length c.args.values.now.items = rw (← c.deref-value-items.ensures.value) c.loop-value-test.true in
    let at = c.loop-value.invariant.counted in
    let small = c.requires.small in
    omega (arith, le)
