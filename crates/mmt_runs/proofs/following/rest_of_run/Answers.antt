use Rattle.std.proofs.Common.{◌^◌, ◌<◌, sym, ◌∙◌, refl, arith}
use Rattle.mmt_pool.specs.Holding.{held}
use Rattle.mmt_runs.proofs.Followed.{begun, gone_on, ended, broken_off, too_long, not_round}
use Rattle.mmt_runs.proofs.Held.{rest_held}
use Rattle.mmt_runs.proofs.following.rest_of_run.Goals as goal

pub packets-init : goal.packets-init
packets-init c = record { packet_id = refl; count = omega arith; followed = begun _ _ _ _ _ }

pub returns-in-Break-clause-follows : goal.returns-in-Break-clause-follows
returns-in-Break-clause-follows c =
    broken_off _ _ _ _ _ _ _ _ c.packets-test.true (rw c.packets.invariant.packet_id at (sym c.in-Break.ensures.link)) c.packets.invariant.followed

pub prove-unreachable-requires : goal.prove-unreachable-requires
prove-unreachable-requires c =
    let e = ended _ _ _ _ _ _ _ _ c.in-End.bytes.now c.packets-test.true (rw c.packets.invariant.packet_id at (sym c.in-End.ensures.link)) c.packets.invariant.followed in
    let b : held c.args.pool.now.kept < 2 ^ 32 = omega (arith, c.held-held.ensures.sum) in
    let h = rest_held c.args.timed c.args.mpu c.args.pool.now.kept c.args.first.packet_id c.args.most c.args.first.number _ (omega arith) b e.0 in
    omega (arith, not_round _ _ _ e.1 h b, h, c.if-prove.true, c.held-held.ensures.sum)

pub returns-in-End-clause-follows : goal.returns-in-End-clause-follows
returns-in-End-clause-follows c =
    let e = ended _ _ _ _ _ _ _ _ c.in-End.bytes.now c.packets-test.true (rw c.packets.invariant.packet_id at (sym c.in-End.ensures.link)) c.packets.invariant.followed in
    let b : held c.args.pool.now.kept < 2 ^ 32 = omega (arith, c.held-held.ensures.sum) in
    let h = rest_held c.args.timed c.args.mpu c.args.pool.now.kept c.args.first.packet_id c.args.most c.args.first.number _ (omega arith) b e.0 in
    (e.0, not_round _ _ _ e.1 h b, omega (arith, c.packets-test.true))

pub packets-preserved : goal.packets-preserved
packets-preserved c =
    record {
      packet_id = c.span_after-span.ensures.packet_id ∙ c.packets.invariant.packet_id;
      count = omega (arith, c.packets-test.true);
      followed = rw c.span_after-span.ensures.number
          (gone_on _ _ _ _ _ _ _ _ c.in-Inner.bytes.now c.packets-test.true (rw c.packets.invariant.packet_id at (sym c.in-Inner.ensures.link)) c.packets.invariant.followed);
    }

pub returns-clause-follows : goal.returns-clause-follows
returns-clause-follows c = too_long _ _ _ _ _ _ _ _ (omega (arith, c.packets-test.false)) c.packets.invariant.followed
