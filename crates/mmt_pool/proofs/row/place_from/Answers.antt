use Rattle.std.proofs.Common.{◌≡◌, ◌<◌, ◌≤◌, arith, rules, ltb}
use Rattle.std.proofs.lemmas.Bool.{ltb-true, ltb-false}
use Rattle.std.proofs.lemmas.List.Sorted.{IsPartitionPoint-from_clause, IsPartitionedBy-ltb}
use Rattle.mmt_pool.specs.Queue.{StandsAt}
use Rattle.mmt_pool.proofs.Queues.{rising_by}
use Rattle.mmt_pool.proofs.row.place_from.Goals as goal

pub returns : goal.returns
returns c =
    let parted = IsPartitionedBy-ltb (λ q. q.time) c.args.row.now.items c.args.first (rising_by c.args.row.now.items c.requires) in
    let point = IsPartitionPoint-from_clause (λ q. ltb q.time c.args.first) _ _ c.partition_point.ensures.partitioned parted (λ a r q k. search rules) in
    record {
      before = λ i q s l. rw s.is (ltb-true _ _ (point.0 i q (omega arith) l));
      after = λ i q s l. rw s.is (ltb-false _ _ (point.1 i q l s.within));
    }
