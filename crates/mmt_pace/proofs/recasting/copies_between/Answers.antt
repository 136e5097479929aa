use Rattle.std.proofs.Common.{◌∙◌, get_or, arith}
use Rattle.mmt_model.specs.Carrying.{no_table_copy}
use Rattle.mmt_pace.proofs.Between.{all-there, copy-made, map-is, none-yet, one-more}
use Rattle.mmt_pace.specs.Recast.{copy_in_packets}
use Rattle.mmt_pace.proofs.recasting.copies_between.Goals as goal

pub loop-n-init : goal.loop-n-init
loop-n-init c = λ packets are. none-yet (λ i. copy_in_packets packets (get_or c.args.copies.now i no_table_copy)) c.in_ok-between.between.items c.in_ok-between.ensures.items

pub loop-n-preserved : goal.loop-n-preserved
loop-n-preserved c = λ packets are.
    one-more (λ i. copy_in_packets packets (get_or c.args.copies.now i no_table_copy)) c.loop-n.n c.loop-n.between.items c.push.new.self.items _ (c.loop-n.invariant packets are) c.in_ok-push.ensures.items
    (copy-made packets c.args.copies.now c.loop-n.n c.index-copies-n.result c.in_ok-copied.field-0 c.args.spans.now _ c.first_of.result c.last_of.result c.loop-n-test.true c.requires are c.first_of.ensures c.last_of.ensures c.index-copies-n.is (c.in_ok-copied.ensures ∙ c.as_slice.ensures))

pub returns : goal.returns
returns c = λ packets are.
    all-there (λ i x. copy_in_packets packets x) no_table_copy c.args.copies.now c.loop-n.n c.loop-n.between.items (omega arith) (c.loop-n.invariant packets are) ∙ map-is (copy_in_packets packets) 0 c.args.copies.now
