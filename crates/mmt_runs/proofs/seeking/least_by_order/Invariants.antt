use Rattle.std.proofs.Common.{◌⊎◌, option_map}
use Rattle.std.specs.List.Sorted.{IsStrictlySortedBy}
use Rattle.mmt_runs.specs.declared.index.Due.{Due}
use Rattle.mmt_runs.specs.Choosing.{is_sought}
use Rattle.mmt_runs.specs.Index.{IsIn, order}
use Rattle.mmt_runs.specs.Lending.{the_presentation}
use Rattle.mmt_runs.specs.Order.{order_now}
use Rattle.mmt_runs.specs.Seeking.{IsNamed}
use Rattle.mmt_runs.proofs.Sought.{IsLeft}
use Rattle.mmt_runs.proofs.seeking.least_by_order.Given as goal

abbrev pub invariant-loop-due : goal.invariant-loop-due
invariant-loop-due l =
    let p = is_sought (order_now l.range.after) l.range.from.0 l.range.to.0 in
    record {
      named : IsNamed p l.range.names.now l.pool.kept (option_map the_presentation l.best);
      least : (q : Due) → IsIn l.index.keys q → IsLeft p l.range.names.now l.pool.kept (option_map the_presentation l.best) l.due-iterator q;
      ordered : IsStrictlySortedBy order l.due-iterator;
    }
