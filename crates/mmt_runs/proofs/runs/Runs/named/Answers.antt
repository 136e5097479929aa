use Rattle.std.proofs.Common.{◌≡◌, false, true, refl, ap, subst, sym, ◌∙◌, Some}
use Rattle.mmt_runs.specs.Told.{IsTold, Tracked}
use Rattle.mmt_runs.proofs.Spans.{named_told}
use Rattle.mmt_runs.proofs.runs.Runs.named.Goals as goal

pub returns-then-not-put_named-clause-told : goal.returns-then-not-put_named-clause-told
returns-then-not-put_named-clause-told c = λ before e told is packet_id mpu.
    let old : Tracked = record { starts = c.self.inside.starts.entries; index = c.self.inside.index.keys; is_indexed = c.self.inside.is_indexed } in
    let new : Tracked = record { starts = c.self.inside.starts.entries; index = c.put_named.new.index.keys; is_indexed = false } in
    named_told old new c.args.pool.now.kept before e c.args.names.now refl c.put_named.ensures.keeps (λ (i : false ≡ true). absurd cc) c.len.ensures.one_each (λ (i : false ≡ true). absurd cc) is
    (subst (λ t. IsTold t c.args.pool.now.kept (record { entries = before; sample_base = c.args.names.now.sample_base })) (sym c.self.view_is) told)

pub returns-else-not-put_named-clause-told : goal.returns-else-not-put_named-clause-told
returns-else-not-put_named-clause-told c = λ before e told is packet_id mpu.
    let old : Tracked = record { starts = c.self.inside.starts.entries; index = c.self.inside.index.keys; is_indexed = c.self.inside.is_indexed } in
    let new : Tracked = record { starts = c.self.inside.starts.entries; index = c.put_named.new.index.keys; is_indexed = c.self.inside.is_indexed } in
    named_told old new c.args.pool.now.kept before e c.args.names.now refl c.put_named.ensures.keeps (λ i. i) c.len.ensures.one_each
    (λ i s h f. c.if-not-put_named.ensures.put refl s (h ∙ packet_id) (f ∙ ap (λ m. Some m) mpu)) is
    (subst (λ t. IsTold t c.args.pool.now.kept (record { entries = before; sample_base = c.args.names.now.sample_base })) (sym c.self.view_is) told)
