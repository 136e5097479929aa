use Rattle.std.proofs.Common.{◌≡◌, false, true, refl, ap, subst, sym, ◌∙◌, Some, IfSome}
use Rattle.mmt_mpu.specs.View.{view}
use Rattle.mmt_pool.specs.Holding.{packet_at as kept_at}
use Rattle.mmt_runs.specs.Index.{at_span, begun_by, spelled_at}
use Rattle.mmt_runs.specs.Told.{IsTold, Tracked}
use Rattle.mmt_runs.proofs.Indexing.{times-none, times-of}
use Rattle.mmt_runs.proofs.Spans.{added_told, others_stay}
use Rattle.mmt_runs.proofs.runs.Runs.added.Goals as goal

pub returns-in-None-clause-told : goal.returns-in-None-clause-told
returns-in-None-clause-told c = λ kept p told is placed order.
    added_told c.args.self.now c.args.self.now c.args.span p kept c.args.pool.now.kept c.args.names.now (rw c.in-None.ensures tt) (λ t n. refl) (λ d h. h) (λ i. times-none c.args.self.now.index c.args.names.now c.args.span _ c.in-None.ensures) (λ i. i) told is placed order

pub returns-then-not-put_units-clause-told : goal.returns-then-not-put_units-clause-told
returns-then-not-put_units-clause-told c = λ kept p told is placed order.
    let old : Tracked = record { starts = c.self.inside.starts.entries; index = c.self.inside.index.keys; is_indexed = c.self.inside.is_indexed } in
    let new : Tracked = record { starts = c.insert.new.self.entries; index = c.put_units.new.index.keys; is_indexed = false } in
    let begun : at_span c.insert.new.self.entries c.args.span ≡ Some (view c.in-Some.payload).head.mpu = c.in_ok-insert.ensures.updates.1 ∙ ap (λ h. Some h.mpu) c.head.ensures in
    added_told old new c.args.span p kept c.args.pool.now.kept c.args.names.now (rw c.in-Some.ensures.0 begun) (others_stay c.self.inside.starts.entries c.insert.new.self.entries c.args.span _ c.in_ok-insert.ensures.updates.0) c.put_units.ensures.keeps
    (λ (i : false ≡ true). absurd cc) (λ (i : false ≡ true). absurd cc) (subst (λ t. IsTold t kept c.args.names.now) (sym c.self.view_is) told) is placed order

pub returns-else-not-put_units-clause-told : goal.returns-else-not-put_units-clause-told
returns-else-not-put_units-clause-told c = λ kept p told is placed order.
    let old : Tracked = record { starts = c.self.inside.starts.entries; index = c.self.inside.index.keys; is_indexed = c.self.inside.is_indexed } in
    let new : Tracked = record { starts = c.insert.new.self.entries; index = c.put_units.new.index.keys; is_indexed = c.self.inside.is_indexed } in
    let begun : at_span c.insert.new.self.entries c.args.span ≡ Some (view c.in-Some.payload).head.mpu = c.in_ok-insert.ensures.updates.1 ∙ ap (λ h. Some h.mpu) c.head.ensures in
    added_told old new c.args.span p kept c.args.pool.now.kept c.args.names.now (rw c.in-Some.ensures.0 begun) (others_stay c.self.inside.starts.entries c.insert.new.self.entries c.args.span _ c.in_ok-insert.ensures.updates.0) c.put_units.ensures.keeps
    (λ i. times-of c.put_units.new.index.keys c.args.names.now c.args.span _ (view c.in-Some.payload) c.in-Some.ensures (c.if-not-put_units.ensures.put refl))
    (λ i. i) (subst (λ t. IsTold t kept c.args.names.now) (sym c.self.view_is) told) is placed order
