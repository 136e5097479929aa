use Rattle.std.proofs.Common.{◌≡◌, refl, inl, inr, ⊎_elim, subst, sym, Some}
use Rattle.mmt_pool.specs.declared.types.Span.{Span}
use Rattle.mmt_pool.specs.Holding.{packet_at as kept_at}
use Rattle.mmt_runs.specs.Index.{HasTimes, at_span, spelled_at}
use Rattle.mmt_runs.proofs.Indexing.{times-keep}
use Rattle.mmt_runs.proofs.Spans.{next_start}
use Rattle.mmt_runs.proofs.starting.put_named.Goals as goal

pub loop-span-preserved-then-start-mpu : goal.loop-span-preserved-then-start-mpu
loop-span-preserved-then-start-mpu c =
    let i = c.loop-span.invariant in
    record {
      keeps = λ d h. c.put_start.ensures.keeps d (i.keeps d h);
      put = λ s e f.
          ⊎_elim
          (λ (has : HasTimes c.loop-span.index.keys c.args.names.now s (spelled_at (kept_at c.args.pool.now.kept s.packet_id s.number))). inl (times-keep c.loop-span.index.keys c.put_start.new.index.keys c.args.names.now s (spelled_at (kept_at c.args.pool.now.kept s.packet_id s.number)) (λ q e h. c.put_start.ensures.keeps q h) has))
          (λ (b : at_span c.loop-span.span-iterator s ≡ Some c.args.mpu).
          ⊎_elim
          (λ (h : (s ≡ c.in-Some.span.now) × (c.in-Some.start.now ≡ c.args.mpu)). inl (subst (λ (x : Span). HasTimes c.put_start.new.index.keys c.args.names.now x (spelled_at (kept_at c.args.pool.now.kept x.packet_id x.number))) (sym h.0) (c.if-not-put_start.ensures.put refl)))
          (λ (r : at_span c.next.new.self s ≡ Some c.args.mpu). inr r)
          (next_start (c.in-Some.span.now, c.in-Some.start.now) c.next.new.self s c.args.mpu (subst (λ es. at_span es s ≡ Some c.args.mpu) c.in-Some.ensures.steps b)))
          (i.put s e f);
    }
