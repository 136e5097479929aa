use Rattle.std.proofs.Common.{◌≡◌, ◌∙◌, ◌≤◌, ap, sym, arith, refl, replicate, length, ℕ}
use Rattle.std.proofs.lemmas.List.{length-replicate}
use Rattle.mmt_pool.proofs.pool.Pool.count.Goals as goal

pub offer-requires-clause-payload : goal.offer-requires-clause-payload
offer-requires-clause-payload c =
    let n : length c.zeros-payload.result.now ≡ length c.args.packet.now.payload.now = ap length c.zeros-payload.ensures ∙ length-replicate (length c.args.packet.now.payload.now) 0 in
    (omega (arith, n, c.requires.short), c.zeros-payload.ensures ∙ ap (λ (k : ℕ). replicate k 0) (sym n))

pub returns-clause-stores : goal.returns-clause-stores
returns-clause-stores c = rw c.zeros-payload.ensures at c.offer.ensures.stores

pub returns-clause-model : goal.returns-clause-model
returns-clause-model c = rw c.zeros-payload.ensures at c.offer.ensures.model
