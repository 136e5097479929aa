use Rattle.std.proofs.Common.{◌≡◌, ◌+◌, List, [], length, get_or, arith, ap, ◌∙◌}
use Rattle.mmt_casting.proofs.Adding.{added-more, added-none}
use Rattle.mmt_casting.proofs.Starting.{start-few, start-more}
use Rattle.mmt_casting.specs.Spans.{start_of}
use Rattle.mmt_model.specs.declared.programmes.Asset.{Asset}
use Rattle.mmt_expect.proofs.counting.starts_of.Goals as goal

pub loop-a-init : goal.loop-a-init
loop-a-init c = record { starts = c.new-starts.ensures.items ∙ added-none (start_of c.args.programme.now) 0 []; sum = omega arith }

pub overflow_cast-sum : goal.overflow_cast-sum
overflow_cast-sum c =
    let here = start-more c.args.programme.now c.loop-a.a c.index-assets-a.result (omega (arith, c.loop-a-test.true, ap (λ (xs : List Asset). length xs) c.as_slice-assets.ensures)) in
    let is = ap (λ (x : Asset). length x.mpus) (c.index-assets-a.is ∙ ap (λ xs. get_or xs c.loop-a.a c.index-assets-a.result) c.as_slice-assets.ensures) in
    omega (arith, here, is, ap (λ (x : Asset). length x.mpus) c.index-assets-a.is, c.len.ensures, start-few c.args.programme.now c.requires (c.loop-a.a + 1))

pub overflow_add-sum : goal.overflow_add-sum
overflow_add-sum c =
    let here = start-more c.args.programme.now c.loop-a.a c.index-assets-a.result (omega (arith, c.loop-a-test.true, ap (λ (xs : List Asset). length xs) c.as_slice-assets.ensures)) in
    let is = ap (λ (x : Asset). length x.mpus) (c.index-assets-a.is ∙ ap (λ xs. get_or xs c.loop-a.a c.index-assets-a.result) c.as_slice-assets.ensures) in
    omega (arith, here, is, ap (λ (x : Asset). length x.mpus) c.index-assets-a.is, c.len.ensures, c.loop-a.invariant.sum, start-few c.args.programme.now c.requires (c.loop-a.a + 1))

pub loop-a-preserved : goal.loop-a-preserved
loop-a-preserved c =
    let here = start-more c.args.programme.now c.loop-a.a c.index-assets-a.result (omega (arith, c.loop-a-test.true, ap (λ (xs : List Asset). length xs) c.as_slice-assets.ensures)) in
    let is = ap (λ (x : Asset). length x.mpus) (c.index-assets-a.is ∙ ap (λ xs. get_or xs c.loop-a.a c.index-assets-a.result) c.as_slice-assets.ensures) in
    let z : c.loop-a.a ≡ 0 + c.loop-a.a = omega arith in
    record {
      starts = added-more (start_of c.args.programme.now) 0 c.loop-a.a [] c.loop-a.starts.items c.push.new.self.items c.loop-a.sum c.loop-a.invariant.starts c.in_ok-push.ensures.items (c.loop-a.invariant.sum ∙ ap (start_of c.args.programme.now) z);
      sum = omega (arith, here, is, ap (λ (x : Asset). length x.mpus) c.index-assets-a.is, c.len.ensures, c.loop-a.invariant.sum);
    }
