use Rattle.std.proofs.Common.{◌≡◌, ◌≤◌, ◌+◌, ◌∙◌, ap, Ok, Err, length, refl, subst, arith}
use Rattle.std.proofs.lemmas.List.{length_push}
use Rattle.std.proofs.lemmas.List.Elements.{All-nil}
use Rattle.serde_json.specs.View.{view}
use Rattle.mmt_plan.specs.Alone.{IsAssetAlone}
use Rattle.mmt_plan.specs.declared.spots.Spot.{Spot}
use Rattle.mmt_plan.proofs.Counts.{item_within}
use Rattle.mmt_plan.proofs.RightFiles.{more_right}
use Rattle.mmt_plan.specs.Assets.{asset_of, asset_at}
use Rattle.mmt_plan.specs.Reading.{IsAnswer}
use Rattle.mmt_plan.proofs.States.{begins, goes_on, stops_so, ends}
use Rattle.mmt_plan.proofs.assets.assets.Goals as goal

pub loop-value-init : goal.loop-value-init
loop-value-init c = record { read = rw c.new-list.ensures (begins (asset_at c.args.spot) c.args.files.now c.args.values.now.items); counted = refl; right = rw c.new-list.ensures (All-nil (IsAssetAlone c.args.spot.start (length c.args.files.now))); count = rw c.new-list.ensures refl; named = λ h. h; room = omega arith }

pub returns-in-Err-clause-value : goal.returns-in-Err-clause-value
returns-in-Err-clause-value c =
    stops_so (asset_at c.args.spot) c.args.files.now c.args.values.now.items c.loop-value.list c.loop-value.files c.loop-value.value-index c.value-item.result c.in-Err.end c.loop-value.invariant.read
    (rw (← c.deref-value-items.ensures.value) c.loop-value-test.true) (rw (← c.deref-value-items.ensures.value) c.value-item.is)
    (subst (λ n. IsAnswer (asset_at c.args.spot c.loop-value.files n (view c.value-item.result)) (Err c.in-Err.end)) c.loop-value.invariant.counted
    (subst (λ s. IsAnswer (asset_of s c.loop-value.files (view c.value-item.result)) (Err c.in-Err.end)) c.inner.ensures c.in-Err.ensures.value))

pub loop-value-preserved : goal.loop-value-preserved
loop-value-preserved c = record {
  read = rw c.in_ok-push.ensures.pushed (goes_on (asset_at c.args.spot) c.args.files.now c.args.values.now.items c.loop-value.list c.loop-value.files c.loop-value.value-index c.value-item.result c.in-Ok.asset c.asset.new.files c.loop-value.invariant.read
      (rw (← c.deref-value-items.ensures.value) c.loop-value-test.true) (rw (← c.deref-value-items.ensures.value) c.value-item.is)
      (subst (λ n. asset_at c.args.spot c.loop-value.files n (view c.value-item.result) ≡ Ok (c.in-Ok.asset, c.asset.new.files)) c.loop-value.invariant.counted
      (subst (λ s. asset_of s c.loop-value.files (view c.value-item.result) ≡ Ok (c.in-Ok.asset, c.asset.new.files)) c.inner.ensures c.in-Ok.ensures.value)));
  counted = omega arith;
  right = rw c.in_ok-push.ensures.pushed (more_right c.args.spot.start (length c.loop-value.files) (length c.asset.new.files) c.loop-value.list c.in-Ok.asset c.in-Ok.ensures.kept c.loop-value.invariant.right (subst (λ (s : Spot). IsAssetAlone s.start (length c.asset.new.files) c.in-Ok.asset) c.inner.ensures c.in-Ok.ensures.right));
  count = rw c.in_ok-push.ensures.pushed (length_push c.loop-value.list c.in-Ok.asset ∙ ap (λ n. n + 1) c.loop-value.invariant.count);
  named = λ h. c.in-Ok.ensures.named (c.loop-value.invariant.named h);
  room = let g : length c.asset.new.files ≤ length c.loop-value.files + 1 = c.in-Ok.ensures.grows in omega arith;
}

pub returns-clause-value : goal.returns-clause-value
returns-clause-value c =
    ends (asset_at c.args.spot) c.args.files.now c.args.values.now.items c.loop-value.list c.loop-value.files c.loop-value.value-index c.loop-value.invariant.read (rw (← c.deref-value-items.ensures.value) c.loop-value-test.false)

pub returns-clause-count : goal.returns-clause-count
returns-clause-count c =
    let le : length c.args.values.now.items ≤ c.loop-value.value-index = rw (← c.deref-value-items.ensures.value) c.loop-value-test.false in
    let within : c.loop-value.value-index ≤ length c.args.values.now.items = rw (← c.deref-value-items.ensures.value) c.loop-value.auto.value-index-end in
    let count = c.loop-value.invariant.count in
    omega arith

pub asset-requires-clause-small : goal.asset-requires-clause-small
asset-requires-clause-small c =
    let le = item_within c.args.values.now.items c.loop-value.value-index c.value-item.result (rw (← c.deref-value-items.ensures.value) c.loop-value-test.true) (rw (← c.deref-value-items.ensures.value) c.value-item.is) in
    let small = c.requires.small in
    omega (arith, le)
