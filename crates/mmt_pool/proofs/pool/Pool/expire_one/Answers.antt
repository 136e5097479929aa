use Rattle.std.proofs.Common.{refl, arith, rules, ap, sym, ◌<◌, ◌^◌, ◌≡◌, map, Some, None, length}
use Rattle.mmt_pool.specs.declared.pool.Stored.{Stored}
use Rattle.mmt_pool.specs.Holding.{size_of, IsKeepable}
use Rattle.mmt_pool.specs.Doing.{IsExpired}
use Rattle.mmt_pool.specs.Stored.{holding_of, entry_of, key_of}
use Rattle.mmt_pool.proofs.Entries.{without-entries, removed}
use Rattle.mmt_pool.proofs.Kept.{held-without, length-without, filter-without, filter-all, each_at, sound-without}
use Rattle.mmt_pool.proofs.Tying.{at, queued-expired, queued-has, all-in-window, tied-remove}
use Rattle.mmt_pool.proofs.pool.Pool.expire_one.Goals as goal

pub returns-in_err-queued-clause-expires : goal.returns-in_err-queued-clause-expires
returns-in_err-queued-clause-expires c =
    rw (c.from_residual.ensures, ← c.self.view_is) (all-in-window c.self.inside.queue c.self.inside.packets.entries _ _ c.self.invariant.sound.in_order c.in_err-queued.ensures.0 c.self.invariant.tied, refl)

pub returns-in_err-queued-clause-done : goal.returns-in_err-queued-clause-done
returns-in_err-queued-clause-done c =
    rw (c.from_residual.ensures, ← c.self.view_is) (sym (filter-all _ _ _ (all-in-window c.self.inside.queue c.self.inside.packets.entries _ _ c.self.invariant.sound.in_order c.in_err-queued.ensures.0 c.self.invariant.tied)))

pub unreachable-requires : goal.unreachable-requires
unreachable-requires c =
    let x : IsExpired c.args.clock.0 c.args.window (map entry_of c.self.inside.packets.entries) c.in_ok-queued.queued.span = queued-expired c.self.inside.queue c.self.inside.packets.entries _ _ c.in_ok-queued.queued (omega arith) c.in_ok-queued.ensures.0 c.in_ok-queued.ensures.1 c.self.invariant.tied in
    removed c.in_ok-queued.queued.span c.self.inside.packets.entries None x.packet (omega arith) x.found (rw c.key_of.ensures at c.in_default.ensures.value)

pub overflow_cast-self : goal.overflow_cast-self
overflow_cast-self c =
    let x : IsExpired c.args.clock.0 c.args.window (map entry_of c.self.inside.packets.entries) c.in_ok-queued.queued.span = queued-expired c.self.inside.queue c.self.inside.packets.entries _ _ c.in_ok-queued.queued (omega arith) c.in_ok-queued.ensures.0 c.in_ok-queued.ensures.1 c.self.invariant.tied in
    let same : length c.in-Some.stored.payload ≡ length x.packet.payload = ap size_of (removed c.in_ok-queued.queued.span c.self.inside.packets.entries (Some c.in-Some.stored) _ (omega arith) x.found (rw c.key_of.ensures at c.in-Some.ensures.value)) in
    let short : length x.packet.payload < 2 ^ 31 = (each_at IsKeepable _ _ _ _ c.self.invariant.sound.keepable x.found).short in
    let fits : c.len.result < 2 ^ 32 = omega (arith, c.len.ensures) in
    search (rules, fits)

pub overflow_sub-self : goal.overflow_sub-self
overflow_sub-self c =
    let x : IsExpired c.args.clock.0 c.args.window (map entry_of c.self.inside.packets.entries) c.in_ok-queued.queued.span = queued-expired c.self.inside.queue c.self.inside.packets.entries _ _ c.in_ok-queued.queued (omega arith) c.in_ok-queued.ensures.0 c.in_ok-queued.ensures.1 c.self.invariant.tied in
    let same : length c.in-Some.stored.payload ≡ length x.packet.payload = ap size_of (removed c.in_ok-queued.queued.span c.self.inside.packets.entries (Some c.in-Some.stored) _ (omega arith) x.found (rw c.key_of.ensures at c.in-Some.ensures.value)) in
    omega (arith, c.len.ensures, held-without _ _ _ _ x.found, c.self.invariant.sum)

pub invariant_of-self-2 : goal.invariant_of-self-2
invariant_of-self-2 c =
    let x : IsExpired c.args.clock.0 c.args.window (map entry_of c.self.inside.packets.entries) c.in_ok-queued.queued.span = queued-expired c.self.inside.queue c.self.inside.packets.entries _ _ c.in_ok-queued.queued (omega arith) c.in_ok-queued.ensures.0 c.in_ok-queued.ensures.1 c.self.invariant.tied in
    let same : length c.in-Some.stored.payload ≡ length x.packet.payload = ap size_of (removed c.in_ok-queued.queued.span c.self.inside.packets.entries (Some c.in-Some.stored) _ (omega arith) x.found (rw c.key_of.ensures at c.in-Some.ensures.value)) in
    let has : (v : Stored) × (at (key_of c.in_ok-queued.queued.span) c.self.inside.packets.entries ≡ Some v) × (v.time.0 ≡ c.in_ok-queued.queued.time) = queued-has c.self.inside.queue c.self.inside.packets.entries c.in_ok-queued.queued (omega arith) c.in_ok-queued.ensures.0 c.self.invariant.tied in
    record {
      sound = rw (c.remove.ensures.entries, c.key_of.ensures, without-entries c.in_ok-queued.queued.span c.self.inside.packets.entries (omega arith)) (sound-without (holding_of c.self.inside.packets.entries c.self.inside.bound c.self.inside.peak) _ _ _ x.found c.self.invariant.sound);
      sum = rw (c.remove.ensures.entries, c.key_of.ensures, without-entries c.in_ok-queued.queued.span c.self.inside.packets.entries (omega arith)) (omega (arith, c.len.ensures, held-without _ _ _ _ x.found, c.self.invariant.sum));
      tied = tied-remove c.self.inside.queue c.take_out.new.self c.self.inside.packets.entries c.remove.new.self.entries c.in_ok-queued.queued has.0 (omega arith) has.2 has.1 c.in_ok-queued.ensures.2 (rw c.key_of.ensures at c.remove.ensures.updates.0) c.self.invariant.tied;
    }

pub returns-clause-expires : goal.returns-clause-expires
returns-clause-expires c =
    let x : IsExpired c.args.clock.0 c.args.window (map entry_of c.self.inside.packets.entries) c.in_ok-queued.queued.span = queued-expired c.self.inside.queue c.self.inside.packets.entries _ _ c.in_ok-queued.queued (omega arith) c.in_ok-queued.ensures.0 c.in_ok-queued.ensures.1 c.self.invariant.tied in
    rw (← c.self.view_is)
    (x, rw (c.remove.ensures.entries, c.key_of.ensures, without-entries c.in_ok-queued.queued.span c.self.inside.packets.entries (omega arith)) refl)

pub returns-clause-bounded : goal.returns-clause-bounded
returns-clause-bounded c =
    let x : IsExpired c.args.clock.0 c.args.window (map entry_of c.self.inside.packets.entries) c.in_ok-queued.queued.span = queued-expired c.self.inside.queue c.self.inside.packets.entries _ _ c.in_ok-queued.queued (omega arith) c.in_ok-queued.ensures.0 c.in_ok-queued.ensures.1 c.self.invariant.tied in
    rw (c.remove.ensures.entries, c.key_of.ensures, without-entries c.in_ok-queued.queued.span c.self.inside.packets.entries (omega arith))
    (omega (arith, held-without _ _ _ _ x.found, c.self.invariant.sound.within_peak, c.self.invariant.sound.within_bound))

pub returns-clause-in_order : goal.returns-clause-in_order
returns-clause-in_order c =
    let x : IsExpired c.args.clock.0 c.args.window (map entry_of c.self.inside.packets.entries) c.in_ok-queued.queued.span = queued-expired c.self.inside.queue c.self.inside.packets.entries _ _ c.in_ok-queued.queued (omega arith) c.in_ok-queued.ensures.0 c.in_ok-queued.ensures.1 c.self.invariant.tied in
    rw (c.remove.ensures.entries, c.key_of.ensures, without-entries c.in_ok-queued.queued.span c.self.inside.packets.entries (omega arith))
    (sound-without (holding_of c.self.inside.packets.entries c.self.inside.bound c.self.inside.peak) _ _ _ x.found c.self.invariant.sound).in_order

pub returns-clause-stay : goal.returns-clause-stay
returns-clause-stay c =
    let x : IsExpired c.args.clock.0 c.args.window (map entry_of c.self.inside.packets.entries) c.in_ok-queued.queued.span = queued-expired c.self.inside.queue c.self.inside.packets.entries _ _ c.in_ok-queued.queued (omega arith) c.in_ok-queued.ensures.0 c.in_ok-queued.ensures.1 c.self.invariant.tied in
    rw (← c.self.view_is, c.remove.ensures.entries, c.key_of.ensures, without-entries c.in_ok-queued.queued.span c.self.inside.packets.entries (omega arith))
    (filter-without _ _ _ _ _ _ x.found x.expired)

pub returns-clause-fewer : goal.returns-clause-fewer
returns-clause-fewer c =
    let x : IsExpired c.args.clock.0 c.args.window (map entry_of c.self.inside.packets.entries) c.in_ok-queued.queued.span = queued-expired c.self.inside.queue c.self.inside.packets.entries _ _ c.in_ok-queued.queued (omega arith) c.in_ok-queued.ensures.0 c.in_ok-queued.ensures.1 c.self.invariant.tied in
    rw (← c.self.view_is, c.remove.ensures.entries, c.key_of.ensures, without-entries c.in_ok-queued.queued.span c.self.inside.packets.entries (omega arith))
    (length-without _ _ _ _ x.found)

pub returns-clause-peak : goal.returns-clause-peak
returns-clause-peak c =
    let x : IsExpired c.args.clock.0 c.args.window (map entry_of c.self.inside.packets.entries) c.in_ok-queued.queued.span = queued-expired c.self.inside.queue c.self.inside.packets.entries _ _ c.in_ok-queued.queued (omega arith) c.in_ok-queued.ensures.0 c.in_ok-queued.ensures.1 c.self.invariant.tied in
    rw (← c.self.view_is, c.remove.ensures.entries, c.key_of.ensures, without-entries c.in_ok-queued.queued.span c.self.inside.packets.entries (omega arith))
    (omega (arith, held-without _ _ _ _ x.found, c.self.invariant.sound.within_peak))
