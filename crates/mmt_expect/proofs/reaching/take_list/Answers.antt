use Rattle.std.proofs.Common.{◌≡◌, ◌+◌, ◌<◌, arith, ap₂, sym, ◌∙◌, length, max, nat_le, take}
use Rattle.mmt_expect.proofs.Starting.{of-at}
use Rattle.mmt_expect.proofs.Walking.{latest-next, latest-none, reaches-next, reaches-none, soon-from}
use Rattle.mmt_model.specs.Delivery.{newest_first}
use Rattle.mmt_model.specs.Survival.{latest}
use Rattle.mmt_expect.proofs.reaching.take_list.Goals as goal

pub loop-i-init : goal.loop-i-init
loop-i-init c = record {
  are = reaches-none c.args.packets.now c.args.delay c.args.reaches.now c.requires.long (λ n l. c.requires.none n (omega (arith, l, c.requires.long)));
  greatest = sym (latest-none c.args.packets.now);
}

pub tick_at-at-requires : goal.tick_at-at-requires
tick_at-at-requires c = of-at c.args.packets.now c.args.list.now c.loop-i.i 0 c.requires.of (omega arith)

pub is_in_time-in_time-requires : goal.is_in_time-in_time-requires
is_in_time-in_time-requires c =
    let here = of-at c.args.packets.now c.args.list.now c.loop-i.i 0 c.requires.of (omega arith) in
    let soon = soon-from c.args.packets.now c.requires.ticks _ here in
    omega (arith, soon, c.tick_at-at.ensures)

pub take_occurrence-requires : goal.take_occurrence-requires
take_occurrence-requires c = let here = of-at c.args.packets.now c.args.list.now c.loop-i.i 0 c.requires.of (omega arith) in omega (arith, here, c.loop-i.invariant.are.many)

pub loop-i-preserved : goal.loop-i-preserved
loop-i-preserved c =
    let l : c.loop-i.i < length c.args.list.now = omega arith in
    let now : c.max-greatest.result ≡ latest c.args.packets.now 0 (newest_first (take (c.loop-i.i + 1) c.args.list.now)) =
    c.max-greatest.ensures ∙ (ap₂ max c.loop-i.invariant.greatest c.tick_at-at.ensures ∙ sym (latest-next c.args.packets.now c.args.list.now c.loop-i.i 0 l)) in
    record {
      are = reaches-next c.args.packets.now c.args.delay c.args.list.now c.loop-i.i 0 c.loop-i.reaches c.take_occurrence.new.reaches c.is_in_time-in_time.result c.max-greatest.result l c.loop-i.invariant.are
          (c.is_in_time-in_time.ensures ∙ ap₂ (λ g a. nat_le g (a + c.args.delay)) c.loop-i.invariant.greatest c.tick_at-at.ensures) now c.take_occurrence.ensures.long c.take_occurrence.ensures.each;
      greatest = now;
    }
