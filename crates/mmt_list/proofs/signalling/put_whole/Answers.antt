use Rattle.std.proofs.Common.{arith, ℕ, ◌^◌, ◌<◌, List, length}
use Rattle.mmt_sig.specs.View.{messages_left}
use Rattle.mmt_list.specs.Signalling.{read_text}
use Rattle.mmt_list.proofs.Appended.{one_more, front_more, others}
use Rattle.mmt_list.proofs.signalling.put_whole.Goals as goal

pub loop-message-preserved : goal.loop-message-preserved
loop-message-preserved c =
    let steps = c.in-Some.ensures.steps in
    let text = c.in_ok-put_message.ensures.items in
    let before = c.loop-message.invariant in
    record {
      items = one_more read_text c.loop-message.out.items _ _ _ c.in-Some.message.now (messages_left c.next.new.self) steps text before.items;
      front = front_more c.args.out.now.len c.args.out.now.items c.loop-message.out.items _ _ (omega (arith, c.args.out.now.ok)) text before.front;
      within = others (λ (m : List ℕ). length m < 2 ^ 31) _ c.in-Some.message.now (messages_left c.next.new.self) steps before.within;
    }
