use Rattle.std.proofs.Common.{refl, subst, sym}
use Rattle.mmt_runs.specs.Told.{IsTold, Tracked}
use Rattle.mmt_runs.proofs.Spans.{removed_told}
use Rattle.mmt_runs.proofs.runs.Runs.removed.Goals as goal

pub returns-in-Some : goal.returns-in-Some
returns-in-Some c = λ kept known told.
    let old : Tracked = record { starts = c.self.inside.starts.entries; index = c.self.inside.index.keys; is_indexed = c.self.inside.is_indexed } in
    let new : Tracked = record { starts = c.remove.new.self.entries; index = c.take_out.new.index.keys; is_indexed = c.self.inside.is_indexed } in
    removed_told old new c.args.span kept known c.remove.ensures.updates.0 c.take_out.ensures refl (subst (λ t. IsTold t kept known) (sym c.self.view_is) told)

pub returns-in_default : goal.returns-in_default
returns-in_default c = λ kept known told.
    let old : Tracked = record { starts = c.self.inside.starts.entries; index = c.self.inside.index.keys; is_indexed = c.self.inside.is_indexed } in
    let new : Tracked = record { starts = c.remove.new.self.entries; index = c.self.inside.index.keys; is_indexed = c.self.inside.is_indexed } in
    removed_told old new c.args.span kept known c.remove.ensures.updates.0 (λ d n h. h) refl (subst (λ t. IsTold t kept known) (sym c.self.view_is) told)
