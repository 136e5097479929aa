use Rattle.std.proofs.Common.{rules, ◌≡◌, ◌≤◌, ◌∙◌, ltb, true, false, List, length, arith, ap, sym}
use Rattle.std.specs.List.Sorted.{IsNonDecreasingBy, IsPartitionPoint}
use Rattle.std.proofs.lemmas.List.Sorted.{IsPartitionPoint-from_clause, IsPartitionedBy-ltb}
use Rattle.mmt_cast.specs.Casting.{copies_as_sent}
use Rattle.mmt_model.specs.Carrying.{copy_place}
use Rattle.mmt_model.specs.declared.casts.TableCopy.{TableCopy}
use Rattle.mmt_sent.specs.Messages.{tables_before}
use Rattle.mmt_send.proofs.Earlier.{AreCopies, HasCopy, few-before, has-copy, point-is, slice-is, slice-point, slice-rises}
use Rattle.mmt_send.proofs.messages.earlier_tables.Goals as goal

pub overflow_cast-result : goal.overflow_cast-result
overflow_cast-result c =
    let e : AreCopies c.args.job.now.programme.now c.as_slice-copies.result.now = slice-is c.args.job.now.programme.now c.args.job.now.cast.now c.as_slice-copies.result.now c.requires.job.is c.as_slice-copies.ensures in
    let rises : IsNonDecreasingBy (λ (y : TableCopy). y.signal) c.as_slice-copies.result.now = slice-rises c.args.job.now.programme.now c.as_slice-copies.result.now e in
    let found : IsPartitionPoint (λ (y : TableCopy). ltb y.signal c.args.signal ≡ true) (λ (y : TableCopy). ltb y.signal c.args.signal ≡ false) c.as_slice-copies.result.now c.partition_point-place.result = IsPartitionPoint-from_clause (λ (y : TableCopy). ltb y.signal c.args.signal) c.as_slice-copies.result.now c.partition_point-place.result c.partition_point-place.ensures.partitioned (IsPartitionedBy-ltb (λ (y : TableCopy). y.signal) c.as_slice-copies.result.now c.args.signal rises) (λ a r q k. search rules) in
    let point : IsPartitionPoint (λ (y : TableCopy). ltb y.signal c.args.signal ≡ true) (λ (y : TableCopy). ltb y.signal c.args.signal ≡ false) (copies_as_sent c.args.job.now.programme.now) c.partition_point-place.result = slice-point c.args.job.now.programme.now c.as_slice-copies.result.now c.args.signal c.partition_point-place.result e found in
    let within : c.partition_point-place.result ≤ length (copies_as_sent c.args.job.now.programme.now) = omega (arith, c.partition_point-place.ensures.bound, e.many) in
    let is : c.partition_point-place.result ≡ tables_before c.args.job.now.programme.now c.args.signal = point-is c.args.job.now.programme.now c.args.signal c.partition_point-place.result within point in
    omega (arith, is, few-before c.args.job.now.programme.now c.args.signal c.requires.job.right)

pub returns-clause-earlier : goal.returns-clause-earlier
returns-clause-earlier c =
    let e : AreCopies c.args.job.now.programme.now c.as_slice-copies.result.now = slice-is c.args.job.now.programme.now c.args.job.now.cast.now c.as_slice-copies.result.now c.requires.job.is c.as_slice-copies.ensures in
    let rises : IsNonDecreasingBy (λ (y : TableCopy). y.signal) c.as_slice-copies.result.now = slice-rises c.args.job.now.programme.now c.as_slice-copies.result.now e in
    let found : IsPartitionPoint (λ (y : TableCopy). ltb y.signal c.args.signal ≡ true) (λ (y : TableCopy). ltb y.signal c.args.signal ≡ false) c.as_slice-copies.result.now c.partition_point-place.result = IsPartitionPoint-from_clause (λ (y : TableCopy). ltb y.signal c.args.signal) c.as_slice-copies.result.now c.partition_point-place.result c.partition_point-place.ensures.partitioned (IsPartitionedBy-ltb (λ (y : TableCopy). y.signal) c.as_slice-copies.result.now c.args.signal rises) (λ a r q k. search rules) in
    let point : IsPartitionPoint (λ (y : TableCopy). ltb y.signal c.args.signal ≡ true) (λ (y : TableCopy). ltb y.signal c.args.signal ≡ false) (copies_as_sent c.args.job.now.programme.now) c.partition_point-place.result = slice-point c.args.job.now.programme.now c.as_slice-copies.result.now c.args.signal c.partition_point-place.result e found in
    let within : c.partition_point-place.result ≤ length (copies_as_sent c.args.job.now.programme.now) = omega (arith, c.partition_point-place.ensures.bound, e.many) in
    point-is c.args.job.now.programme.now c.args.signal c.partition_point-place.result within point

pub returns-clause-own : goal.returns-clause-own
returns-clause-own c known table =
    let e : AreCopies c.args.job.now.programme.now c.as_slice-copies.result.now = slice-is c.args.job.now.programme.now c.args.job.now.cast.now c.as_slice-copies.result.now c.requires.job.is c.as_slice-copies.ensures in
    let rises : IsNonDecreasingBy (λ (y : TableCopy). y.signal) c.as_slice-copies.result.now = slice-rises c.args.job.now.programme.now c.as_slice-copies.result.now e in
    let found : IsPartitionPoint (λ (y : TableCopy). ltb y.signal c.args.signal ≡ true) (λ (y : TableCopy). ltb y.signal c.args.signal ≡ false) c.as_slice-copies.result.now c.partition_point-place.result = IsPartitionPoint-from_clause (λ (y : TableCopy). ltb y.signal c.args.signal) c.as_slice-copies.result.now c.partition_point-place.result c.partition_point-place.ensures.partitioned (IsPartitionedBy-ltb (λ (y : TableCopy). y.signal) c.as_slice-copies.result.now c.args.signal rises) (λ a r q k. search rules) in
    let point : IsPartitionPoint (λ (y : TableCopy). ltb y.signal c.args.signal ≡ true) (λ (y : TableCopy). ltb y.signal c.args.signal ≡ false) (copies_as_sent c.args.job.now.programme.now) c.partition_point-place.result = slice-point c.args.job.now.programme.now c.as_slice-copies.result.now c.args.signal c.partition_point-place.result e found in
    let within : c.partition_point-place.result ≤ length (copies_as_sent c.args.job.now.programme.now) = omega (arith, c.partition_point-place.ensures.bound, e.many) in
    let has : HasCopy c.args.job.now.programme.now c.args.signal c.partition_point-place.result = has-copy c.args.job.now.programme.now c.args.signal c.partition_point-place.result point table known in
    ap (λ (xs : List TableCopy). copy_place xs c.args.signal) (sym c.as_slice-copies.ensures) ∙ (e.own c.args.signal ∙ has.place)

pub returns-clause-listed : goal.returns-clause-listed
returns-clause-listed c known table =
    let e : AreCopies c.args.job.now.programme.now c.as_slice-copies.result.now = slice-is c.args.job.now.programme.now c.args.job.now.cast.now c.as_slice-copies.result.now c.requires.job.is c.as_slice-copies.ensures in
    let rises : IsNonDecreasingBy (λ (y : TableCopy). y.signal) c.as_slice-copies.result.now = slice-rises c.args.job.now.programme.now c.as_slice-copies.result.now e in
    let found : IsPartitionPoint (λ (y : TableCopy). ltb y.signal c.args.signal ≡ true) (λ (y : TableCopy). ltb y.signal c.args.signal ≡ false) c.as_slice-copies.result.now c.partition_point-place.result = IsPartitionPoint-from_clause (λ (y : TableCopy). ltb y.signal c.args.signal) c.as_slice-copies.result.now c.partition_point-place.result c.partition_point-place.ensures.partitioned (IsPartitionedBy-ltb (λ (y : TableCopy). y.signal) c.as_slice-copies.result.now c.args.signal rises) (λ a r q k. search rules) in
    let point : IsPartitionPoint (λ (y : TableCopy). ltb y.signal c.args.signal ≡ true) (λ (y : TableCopy). ltb y.signal c.args.signal ≡ false) (copies_as_sent c.args.job.now.programme.now) c.partition_point-place.result = slice-point c.args.job.now.programme.now c.as_slice-copies.result.now c.args.signal c.partition_point-place.result e found in
    let within : c.partition_point-place.result ≤ length (copies_as_sent c.args.job.now.programme.now) = omega (arith, c.partition_point-place.ensures.bound, e.many) in
    let has : HasCopy c.args.job.now.programme.now c.args.signal c.partition_point-place.result = has-copy c.args.job.now.programme.now c.args.signal c.partition_point-place.result point table known in
    omega (arith, has.listed, ap (λ (xs : List TableCopy). length xs) c.as_slice-copies.ensures, e.many)
