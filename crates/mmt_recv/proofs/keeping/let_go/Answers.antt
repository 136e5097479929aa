use Rattle.std.proofs.Common.{◌^◌, filter, ap, sym, subst, ◌∙◌}
use Rattle.mmt_pool.specs.Holding.{is_in_window}
use Rattle.mmt_runs.specs.Told.{IsTold}
use Rattle.mmt_recv.proofs.Gone.{none_kept_told, none_left}
use Rattle.mmt_recv.proofs.keeping.let_go.Goals as goal

pub returns-clause-kept : goal.returns-clause-kept
returns-clause-kept c = c.let_leave-2.ensures.kept ∙ (ap (filter (is_in_window (2 ^ 31) 0)) c.let_leave.ensures.kept ∙ none_left c.args.pool.now.kept)

pub returns-clause-told : goal.returns-clause-told
returns-clause-told c = subst (λ ps. IsTold c.args.runs.now ps c.args.names.now) (sym (returns-clause-kept c)) (none_kept_told c.args.runs.now c.args.names.now c.len.ensures.one_each)
