use Rattle.std.proofs.Common.{◌≡◌, ℕ, List, ap, ◌∙◌}
use Rattle.mmt_pool.specs.Holding.{Kept, Holding}
use Rattle.mmt_pool.proofs.tests.expire.Goals as goal

-- a pool with these packets, bound and peak
same_holding : (a b : Holding) (kept : List Kept) → a.kept ≡ kept → a.bound ≡ b.bound → a.peak ≡ b.peak → a ≡ record b { kept = kept }
same_holding a b kept k d p = let holding : List Kept → ℕ → ℕ → Holding = λ l m n. record { kept = l; bound = m; peak = n } in
    ap (λ l. holding l a.bound a.peak) k ∙ (ap (λ m. holding kept m a.peak) d ∙ ap (λ n. holding kept b.bound n) p)

pub packets-preserved : goal.packets-preserved
packets-preserved c =
    let i = c.packets.invariant in
    let e = c.in-Some.ensures in
    record {
      stay = e.stay ∙ i.stay;
      bound = ap (λ h. h.bound) e.expires.1 ∙ i.bound;
      peak = ap (λ h. h.peak) e.expires.1 ∙ i.peak;
    }

pub packets-smaller : goal.packets-smaller
packets-smaller c = c.in-Some.ensures.fewer

pub returns : goal.returns
returns c =
    let i = c.packets.invariant in
    let e = c.in_default.ensures in
    same_holding c.expire_one.new.self c.args.pool.now _ (e.done ∙ i.stay) (ap (λ h. h.bound) e.expires.1 ∙ i.bound) (ap (λ h. h.peak) e.expires.1 ∙ i.peak)
