use Rattle.std.proofs.Common.{refl, arith, ◌≡◌, ◌≤◌, sym, Ok, Err}
use Rattle.mmt_pool.specs.declared.types.Span.{Span}
use Rattle.mmt_pool.specs.declared.types.NotStored.TheVariants as why
use Rattle.mmt_pool.specs.Holding.{IsSound}
use Rattle.mmt_pool.specs.Doing.{of_packet, span_of, Stores}
use Rattle.mmt_pool.proofs.Kept.{pool_outcome-late, keeps-stores, peak-stores}
use Rattle.mmt_pool.proofs.Model.{follows-stores}
use Rattle.mmt_pool.proofs.pool.Pool.offer.Goals as goal

pub returns-then-is_after-clause-stores : goal.returns-then-is_after-clause-stores
returns-then-is_after-clause-stores c = (pool_outcome-late _ _ _ (of_packet c.args.packet.now) (rw c.plus.ensures at (sym c.if-is_after.ensures)), refl, refl)

pub returns-then-is_after-clause-bounded : goal.returns-then-is_after-clause-bounded
returns-then-is_after-clause-bounded c = let s : IsSound c.args.self.now = rw (← c.self.view_is) c.self.invariant.sound in omega (arith, s.within_peak, s.within_bound)

pub returns-then-is_after-clause-in_order : goal.returns-then-is_after-clause-in_order
returns-then-is_after-clause-in_order c = let s : IsSound c.args.self.now = rw (← c.self.view_is) c.self.invariant.sound in s.in_order

pub returns-then-is_after-clause-peak : goal.returns-then-is_after-clause-peak
returns-then-is_after-clause-peak c =
    let s : IsSound c.args.self.now = rw (← c.self.view_is) c.self.invariant.sound in
    peak-stores c.args.self.now c.args.clock.0 c.args.delay (of_packet c.args.packet.now) (Err (why.Late c.args.clock)) c.args.self.now s (pool_outcome-late _ _ _ (of_packet c.args.packet.now) (rw c.plus.ensures at (sym c.if-is_after.ensures)), refl, refl)

pub returns-then-is_after-clause-model : goal.returns-then-is_after-clause-model
returns-then-is_after-clause-model c = follows-stores c.args.self.now c.args.clock.0 c.args.delay (of_packet c.args.packet.now) (Err (why.Late c.args.clock)) c.args.self.now (pool_outcome-late _ _ _ (of_packet c.args.packet.now) (rw c.plus.ensures at (sym c.if-is_after.ensures)), refl, refl)

pub returns-in-Ok-clause-stores : goal.returns-in-Ok-clause-stores
returns-in-Ok-clause-stores c = keeps-stores _ _ _ (of_packet c.args.packet.now) (Ok _) (span_of (of_packet c.args.packet.now)) _ (rw c.plus.ensures at (sym c.if-is_after.ensures)) refl c.in-Ok.ensures.keeps

pub returns-in-Ok-clause-peak : goal.returns-in-Ok-clause-peak
returns-in-Ok-clause-peak c =
    let d : Stores c.args.self.now c.args.clock.0 c.args.delay (of_packet c.args.packet.now) (Ok (span_of (of_packet c.args.packet.now))) c.keep.new.self = keeps-stores _ _ _ (of_packet c.args.packet.now) (Ok _) (span_of (of_packet c.args.packet.now)) _ (rw c.plus.ensures at (sym c.if-is_after.ensures)) refl c.in-Ok.ensures.keeps in
    peak-stores _ _ _ (of_packet c.args.packet.now) (Ok _) _ c.keep.ensures.was_sound d

pub returns-in-Ok-clause-model : goal.returns-in-Ok-clause-model
returns-in-Ok-clause-model c =
    let d : Stores c.args.self.now c.args.clock.0 c.args.delay (of_packet c.args.packet.now) (Ok (span_of (of_packet c.args.packet.now))) c.keep.new.self = keeps-stores _ _ _ (of_packet c.args.packet.now) (Ok _) (span_of (of_packet c.args.packet.now)) _ (rw c.plus.ensures at (sym c.if-is_after.ensures)) refl c.in-Ok.ensures.keeps in
    follows-stores _ _ _ (of_packet c.args.packet.now) (Ok _) _ d

pub returns-in-Err-clause-stores : goal.returns-in-Err-clause-stores
returns-in-Err-clause-stores c = keeps-stores _ _ _ (of_packet c.args.packet.now) (Err c.in-Err.refusal) (span_of (of_packet c.args.packet.now)) _ (rw c.plus.ensures at (sym c.if-is_after.ensures)) refl c.in-Err.ensures.keeps

pub returns-in-Err-clause-peak : goal.returns-in-Err-clause-peak
returns-in-Err-clause-peak c =
    let d : Stores c.args.self.now c.args.clock.0 c.args.delay (of_packet c.args.packet.now) (Err c.in-Err.refusal) c.keep.new.self = keeps-stores _ _ _ (of_packet c.args.packet.now) (Err c.in-Err.refusal) (span_of (of_packet c.args.packet.now)) _ (rw c.plus.ensures at (sym c.if-is_after.ensures)) refl c.in-Err.ensures.keeps in
    peak-stores _ _ _ (of_packet c.args.packet.now) (Err c.in-Err.refusal) _ c.keep.ensures.was_sound d

pub returns-in-Err-clause-model : goal.returns-in-Err-clause-model
returns-in-Err-clause-model c =
    let d : Stores c.args.self.now c.args.clock.0 c.args.delay (of_packet c.args.packet.now) (Err c.in-Err.refusal) c.keep.new.self = keeps-stores _ _ _ (of_packet c.args.packet.now) (Err c.in-Err.refusal) (span_of (of_packet c.args.packet.now)) _ (rw c.plus.ensures at (sym c.if-is_after.ensures)) refl c.in-Err.ensures.keeps in
    follows-stores _ _ _ (of_packet c.args.packet.now) (Err c.in-Err.refusal) _ d
