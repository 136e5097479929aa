use Rattle.std.proofs.Common.{ap, subst}
use Rattle.mmt_pool.specs.Doing.{of_packet}
use Rattle.mmt_pool.specs.Holding.{Holding}
use Rattle.mmt_recv.specs.Keeping.{Keeps}
use Rattle.mmt_recv.proofs.Answered.{keeps_of, opened_kind}
use Rattle.mmt_recv.proofs.Begun.{shut_told, stored_new}
use Rattle.mmt_recv.proofs.Gone.{bound_stays}
use Rattle.mmt_recv.proofs.keeping.keep.Goals as goal

pub store-requires-clause-kind : goal.store-requires-clause-kind
store-requires-clause-kind c = opened_kind (of_packet c.args.packet.now) c.requires.opened

pub returns-in-Err-clause-keeps : goal.returns-in-Err-clause-keeps
returns-in-Err-clause-keeps c =
    subst (λ r. Keeps c.args.delay c.args.clock.0 c.args.pool.now (of_packet c.args.packet.now) r c.store.new.self) c.in-Err.is
    (keeps_of c.args.delay c.args.clock.0 c.args.pool.now (of_packet c.args.packet.now) c.store.result c.store.new.self c.store.ensures.stores c.store.ensures.model c.requires.opened c.store.ensures.peak)

pub returns-in-Ok-added-clause-keeps : goal.returns-in-Ok-added-clause-keeps
returns-in-Ok-added-clause-keeps c =
    subst (λ r. Keeps c.args.delay c.args.clock.0 c.args.pool.now (of_packet c.args.packet.now) r c.store.new.self) c.in-Ok.is
    (keeps_of c.args.delay c.args.clock.0 c.args.pool.now (of_packet c.args.packet.now) c.store.result c.store.new.self c.store.ensures.stores c.store.ensures.model c.requires.opened c.store.ensures.peak)

pub returns-in-Err-clause-bound : goal.returns-in-Err-clause-bound
returns-in-Err-clause-bound c = bound_stays c.args.pool.now c.args.clock.0 c.args.delay (of_packet c.args.packet.now) c.store.result c.store.new.self c.store.ensures.stores

pub returns-in-Ok-added-clause-bound : goal.returns-in-Ok-added-clause-bound
returns-in-Ok-added-clause-bound c = bound_stays c.args.pool.now c.args.clock.0 c.args.delay (of_packet c.args.packet.now) c.store.result c.store.new.self c.store.ensures.stores

pub returns-in-Err-added-clause-bound : goal.returns-in-Err-added-clause-bound
returns-in-Err-added-clause-bound c = bound_stays c.args.pool.now c.args.clock.0 c.args.delay (of_packet c.args.packet.now) c.store.result c.store.new.self c.store.ensures.stores

pub returns-then-not-begins-clause-told : goal.returns-then-not-begins-clause-told
returns-then-not-begins-clause-told c =
    let stored = c.in-Ok.ensures.stores in
    shut_told c.args.runs.now c.args.names.now (of_packet c.args.packet.now) c.args.pool.now.kept c.store.new.self.kept (c.requires.shut c.if-not-begins.true)
    (stored_new c.args.pool.now c.args.clock.0 c.args.delay (of_packet c.args.packet.now) stored.0) c.requires.told (ap (λ (h : Holding). h.kept) stored.2) c.store.ensures.in_order

pub returns-then-not-begins-clause-keeps : goal.returns-then-not-begins-clause-keeps
returns-then-not-begins-clause-keeps c =
    subst (λ r. Keeps c.args.delay c.args.clock.0 c.args.pool.now (of_packet c.args.packet.now) r c.store.new.self) c.in-Ok.is
    (keeps_of c.args.delay c.args.clock.0 c.args.pool.now (of_packet c.args.packet.now) c.store.result c.store.new.self c.store.ensures.stores c.store.ensures.model c.requires.opened c.store.ensures.peak)

pub returns-then-not-begins-clause-bound : goal.returns-then-not-begins-clause-bound
returns-then-not-begins-clause-bound c = bound_stays c.args.pool.now c.args.clock.0 c.args.delay (of_packet c.args.packet.now) c.store.result c.store.new.self c.store.ensures.stores
