use Rattle.std.proofs.Common.{refl, arith, ◌≡◌, map, Some}
use Rattle.mmt_pool.specs.Holding.{packet_at, IsKeepable}
use Rattle.mmt_pool.specs.Stored.{key_of, entry_of}
use Rattle.mmt_pool.proofs.Entries.{packet_at-entries}
use Rattle.mmt_pool.proofs.Kept.{each_at}
use Rattle.mmt_pool.proofs.pool.Pool.packet.Goals as goal

pub returns-in_err-stored-clause-kind : goal.returns-in_err-stored-clause-kind
returns-in_err-stored-clause-kind c =
    rw (c.from_residual.ensures, ← c.self.view_is, packet_at-entries c.args.span c.self.inside.packets.entries (omega arith), ← c.key_of.ensures, ← c.get.ensures.value, c.in_err-stored.was) refl

pub returns-clause-kind : goal.returns-clause-kind
returns-clause-kind c =
    rw (← c.self.view_is, packet_at-entries c.args.span c.self.inside.packets.entries (omega arith), ← c.key_of.ensures, ← c.in_ok-stored.ensures.value) refl

pub returns-in_err-stored-clause-bytes : goal.returns-in_err-stored-clause-bytes
returns-in_err-stored-clause-bytes c =
    rw (c.from_residual.ensures, ← c.self.view_is, packet_at-entries c.args.span c.self.inside.packets.entries (omega arith), ← c.key_of.ensures, ← c.get.ensures.value, c.in_err-stored.was) refl

pub returns-clause-bytes : goal.returns-clause-bytes
returns-clause-bytes c =
    rw (← c.self.view_is, packet_at-entries c.args.span c.self.inside.packets.entries (omega arith), ← c.key_of.ensures, ← c.in_ok-stored.ensures.value, c.deref.ensures) refl

pub returns-clause-short : goal.returns-clause-short
returns-clause-short c =
    let k : packet_at (map entry_of c.self.inside.packets.entries) c.args.span.packet_id c.args.span.number ≡ Some (entry_of (key_of c.args.span, c.in_ok-stored.stored.now)) =
    rw (packet_at-entries c.args.span c.self.inside.packets.entries (omega arith), ← c.key_of.ensures, ← c.in_ok-stored.ensures.value) refl in
    rw c.deref.ensures (each_at IsKeepable _ _ _ _ c.self.invariant.sound.keepable k).short
