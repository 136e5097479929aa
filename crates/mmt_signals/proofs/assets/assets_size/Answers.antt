use Rattle.std.proofs.Common.{arith}
use Rattle.mmt_signals.proofs.Stepping.{no_size_left, step}
use Rattle.mmt_signals.proofs.assets.assets_size.Goals as goal

pub descriptors_size-requires-clause-known : goal.descriptors_size-requires-clause-known
descriptors_size-requires-clause-known c =
    (step c.args.assets.now c.args.names.now c.loop-place.place c.loop-place.rest.now c.index-assets-place.result c.split_at.result.0.now c.split_at.result.1.now c.run_length.result
    c.requires.rising c.requires.known c.loop-place.invariant.rest c.loop-place-test.true c.index-assets-place.is c.run_length.ensures.value c.split_at.ensures.front c.split_at.ensures.back).known

pub descriptors_size-requires-clause-short : goal.descriptors_size-requires-clause-short
descriptors_size-requires-clause-short c =
    let here = step c.args.assets.now c.args.names.now c.loop-place.place c.loop-place.rest.now c.index-assets-place.result c.split_at.result.0.now c.split_at.result.1.now c.run_length.result
    c.requires.rising c.requires.known c.loop-place.invariant.rest c.loop-place-test.true c.index-assets-place.is c.run_length.ensures.value c.split_at.ensures.front c.split_at.ensures.back in
    omega (arith, here.size, c.loop-place.invariant.size, c.requires.short)

pub overflow_add-size-in-loop-place : goal.overflow_add-size-in-loop-place
overflow_add-size-in-loop-place c =
    let here = step c.args.assets.now c.args.names.now c.loop-place.place c.loop-place.rest.now c.index-assets-place.result c.split_at.result.0.now c.split_at.result.1.now c.run_length.result
    c.requires.rising c.requires.known c.loop-place.invariant.rest c.loop-place-test.true c.index-assets-place.is c.run_length.ensures.value c.split_at.ensures.front c.split_at.ensures.back in
    omega (arith, here.size, c.loop-place.invariant.size, c.requires.short, c.len.ensures, c.descriptors_size.ensures)

pub overflow_add-size-in-loop-place-2 : goal.overflow_add-size-in-loop-place-2
overflow_add-size-in-loop-place-2 c =
    let here = step c.args.assets.now c.args.names.now c.loop-place.place c.loop-place.rest.now c.index-assets-place.result c.split_at.result.0.now c.split_at.result.1.now c.run_length.result
    c.requires.rising c.requires.known c.loop-place.invariant.rest c.loop-place-test.true c.index-assets-place.is c.run_length.ensures.value c.split_at.ensures.front c.split_at.ensures.back in
    omega (arith, here.size, c.loop-place.invariant.size, c.requires.short, c.len.ensures, c.descriptors_size.ensures)

pub loop-place-preserved : goal.loop-place-preserved
loop-place-preserved c =
    let here = step c.args.assets.now c.args.names.now c.loop-place.place c.loop-place.rest.now c.index-assets-place.result c.split_at.result.0.now c.split_at.result.1.now c.run_length.result
    c.requires.rising c.requires.known c.loop-place.invariant.rest c.loop-place-test.true c.index-assets-place.is c.run_length.ensures.value c.split_at.ensures.front c.split_at.ensures.back in
    record { size = omega (arith, here.size, c.loop-place.invariant.size, c.len.ensures, c.descriptors_size.ensures); rest = here.rest }

pub returns : goal.returns
returns c = omega (arith, c.loop-place.invariant.size, no_size_left c.args.assets.now c.args.names.now c.loop-place.place (omega (arith, c.loop-place-test.false)))
