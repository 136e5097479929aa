use Rattle.std.proofs.Common.{arith}
use Rattle.mmt_times.specs.NamedView.{view_named}
use Rattle.mmt_times.specs.NamedLeft.{named_left}
use Rattle.mmt_list.specs.Names.{named_text}
use Rattle.mmt_list.proofs.Appended.{one_more, front_more}
use Rattle.mmt_list.proofs.names.put_names.Goals as goal

pub loop-named-preserved : goal.loop-named-preserved
loop-named-preserved c =
    let text = c.in_ok-put_named.ensures.items in
    let before = c.loop-named.invariant in
    record {
      items = one_more named_text c.loop-named.out.items _ _ _ (view_named c.in-Some.named) (named_left c.next.new.self) c.in-Some.ensures.steps text before.items;
      front = front_more c.args.out.now.len c.args.out.now.items c.loop-named.out.items _ _ (omega (arith, c.args.out.now.ok)) text before.front;
    }
