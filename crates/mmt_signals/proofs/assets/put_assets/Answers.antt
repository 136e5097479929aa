use Rattle.std.proofs.Common.{◌+◌, ◌++◌, ap, sym, ◌∙◌, arith, append_assoc, length, drop}
use Rattle.std.proofs.lemmas.List.{append-nil, length-append}
use Rattle.std.specs.List.{flat_map}
use Rattle.mmt_cast.specs.Placing.{map_from}
use Rattle.mmt_cast.specs.SentTables.{sent_asset}
use Rattle.mmt_mpt.specs.Asset.{asset_bytes}
use Rattle.mmt_signals.proofs.Stepping.{none_left, step}
use Rattle.mmt_signals.specs.Named.{listed_asset, named}
use Rattle.mmt_signals.proofs.assets.put_assets.Goals as goal

pub put_asset-requires-clause-known : goal.put_asset-requires-clause-known
put_asset-requires-clause-known c =
    (step c.args.assets.now c.args.names.now c.loop-place.place c.loop-place.rest.now c.index-assets-place.result c.split_at.result.0.now c.split_at.result.1.now c.run_length.result
    c.requires.rising c.requires.known c.loop-place.invariant.rest c.loop-place-test.true c.index-assets-place.is c.run_length.ensures.value c.split_at.ensures.front c.split_at.ensures.back).known

pub put_asset-requires-clause-short : goal.put_asset-requires-clause-short
put_asset-requires-clause-short c =
    let here = step c.args.assets.now c.args.names.now c.loop-place.place c.loop-place.rest.now c.index-assets-place.result c.split_at.result.0.now c.split_at.result.1.now c.run_length.result
    c.requires.rising c.requires.known c.loop-place.invariant.rest c.loop-place-test.true c.index-assets-place.is c.run_length.ensures.value c.split_at.ensures.front c.split_at.ensures.back in
    omega (arith, here.size, c.loop-place.invariant.left, c.requires.short)

pub put_asset-requires-clause-room : goal.put_asset-requires-clause-room
put_asset-requires-clause-room c =
    let here = step c.args.assets.now c.args.names.now c.loop-place.place c.loop-place.rest.now c.index-assets-place.result c.split_at.result.0.now c.split_at.result.1.now c.run_length.result
    c.requires.rising c.requires.known c.loop-place.invariant.rest c.loop-place-test.true c.index-assets-place.is c.run_length.ensures.value c.split_at.ensures.front c.split_at.ensures.back in
    let one = asset_bytes (listed_asset c.index-assets-place.result (named c.index-assets-place.result c.split_at.result.0.now)) in
    let rest = flat_map asset_bytes (map_from (sent_asset c.args.names.now) (c.loop-place.place + 1) (drop (c.loop-place.place + 1) c.args.assets.now)) in
    omega (arith, ap length here.bytes, length-append one rest, c.loop-place.invariant.room)

pub loop-place-preserved : goal.loop-place-preserved
loop-place-preserved c =
    let here = step c.args.assets.now c.args.names.now c.loop-place.place c.loop-place.rest.now c.index-assets-place.result c.split_at.result.0.now c.split_at.result.1.now c.run_length.result
    c.requires.rising c.requires.known c.loop-place.invariant.rest c.loop-place-test.true c.index-assets-place.is c.run_length.ensures.value c.split_at.ensures.front c.split_at.ensures.back in
    let one = asset_bytes (listed_asset c.index-assets-place.result (named c.index-assets-place.result c.split_at.result.0.now)) in
    let rest = flat_map asset_bytes (map_from (sent_asset c.args.names.now) (c.loop-place.place + 1) (drop (c.loop-place.place + 1) c.args.assets.now)) in
    record {
      items = ap (λ l. l ++ rest) c.put_asset.ensures.items ∙ (append_assoc c.loop-place.out.items one rest ∙ (ap (λ l. c.loop-place.out.items ++ l) (sym here.bytes) ∙ c.loop-place.invariant.items));
      room = omega (arith, ap length here.bytes, length-append one rest, c.loop-place.invariant.room, c.put_asset.ensures.len, c.put_asset.ensures.capacity);
      left = omega (arith, here.size, c.loop-place.invariant.left);
      rest = here.rest;
    }

pub returns : goal.returns
returns c =
    sym (append-nil c.loop-place.out.items)
    ∙ (ap (λ vs. c.loop-place.out.items ++ flat_map asset_bytes vs) (sym (none_left c.args.assets.now c.args.names.now c.loop-place.place (omega (arith, c.loop-place-test.false))))
    ∙ c.loop-place.invariant.items)
