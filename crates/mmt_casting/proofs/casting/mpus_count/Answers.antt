use Rattle.std.proofs.Common.{◌+◌, List, length, get_or, arith, ap, ◌∙◌}
use Rattle.mmt_casting.proofs.Starting.{start-few, start-more}
use Rattle.mmt_casting.proofs.Together.{all-mpus-counted}
use Rattle.mmt_model.specs.declared.programmes.Asset.{Asset}
use Rattle.mmt_casting.proofs.casting.mpus_count.Goals as goal

pub overflow_add-count : goal.overflow_add-count
overflow_add-count c =
    let here = start-more c.args.programme.now c.loop-a.a c.index-assets-a.result (omega (arith, c.loop-a-test.true, ap (λ (xs : List Asset). length xs) c.as_slice-assets.ensures)) in
    let is = ap (λ (x : Asset). length x.mpus) (c.index-assets-a.is ∙ ap (λ xs. get_or xs c.loop-a.a c.index-assets-a.result) c.as_slice-assets.ensures) in
    omega (arith, here, is, ap (λ (x : Asset). length x.mpus) c.index-assets-a.is, c.len-count.ensures, c.loop-a.invariant, start-few c.args.programme.now c.requires (c.loop-a.a + 1))

pub loop-a-preserved : goal.loop-a-preserved
loop-a-preserved c =
    let here = start-more c.args.programme.now c.loop-a.a c.index-assets-a.result (omega (arith, c.loop-a-test.true, ap (λ (xs : List Asset). length xs) c.as_slice-assets.ensures)) in
    let is = ap (λ (x : Asset). length x.mpus) (c.index-assets-a.is ∙ ap (λ xs. get_or xs c.loop-a.a c.index-assets-a.result) c.as_slice-assets.ensures) in
    omega (arith, here, is, ap (λ (x : Asset). length x.mpus) c.index-assets-a.is, c.len-count.ensures, c.loop-a.invariant)

pub returns : goal.returns
returns c = c.loop-a.invariant ∙ all-mpus-counted c.args.programme.now c.loop-a.a (omega (arith, c.loop-a-test.false, ap (λ (xs : List Asset). length xs) c.as_slice-assets.ensures))
