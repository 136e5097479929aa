use Rattle.std.proofs.Common.{rules, ◌≡◌, ltb, true, false}
use Rattle.std.specs.List.Sorted.{IsPartitionPoint}
use Rattle.std.proofs.lemmas.List.Sorted.{IsPartitionPoint-from_clause, IsPartitionedBy-ltb}
use Rattle.mmt_model.specs.declared.casts.TableCopy.{TableCopy}
use Rattle.mmt_pace.proofs.Lesser.{listed-rise, point-is}
use Rattle.mmt_pace.proofs.limits.place_of_copy.Goals as goal

pub returns : goal.returns
returns c =
    let found : IsPartitionPoint (λ (y : TableCopy). ltb y.signal c.args.signal ≡ true) (λ (y : TableCopy). ltb y.signal c.args.signal ≡ false) c.args.copies.now c.partition_point.result =
    IsPartitionPoint-from_clause (λ (y : TableCopy). ltb y.signal c.args.signal) c.args.copies.now c.partition_point.result c.partition_point.ensures.partitioned (IsPartitionedBy-ltb (λ (y : TableCopy). y.signal) c.args.copies.now c.args.signal (listed-rise c.args.copies.now c.requires.listed)) (λ a r q k. search rules) in
    point-is c.args.copies.now c.args.signal c.partition_point.result c.requires.listed c.requires.known found
