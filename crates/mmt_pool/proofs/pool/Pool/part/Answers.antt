use Rattle.std.proofs.Common.{refl, arith, rules, ◌≡◌, ◌≤◌, ◌+◌, map, length, Some, None}
use Rattle.mmt_pool.specs.Holding.{packet_at, HasPart}
use Rattle.mmt_pool.specs.Stored.{key_of, entry_of}
use Rattle.mmt_pool.proofs.Entries.{packet_at-entries}
use Rattle.mmt_pool.proofs.Kept.{part_in, no_part, part_is}
use Rattle.mmt_pool.proofs.pool.Pool.part.Goals as goal

pub slice_bounds-result-end : goal.slice_bounds-result-end
slice_bounds-result-end c =
    let k : packet_at (map entry_of c.self.inside.packets.entries) c.args.span.packet_id c.args.span.number ≡ Some (entry_of (key_of c.args.span, c.in-Some.stored.now)) =
    rw (packet_at-entries c.args.span c.self.inside.packets.entries (omega arith), ← c.key_of.ensures, ← c.in-Some.ensures.value) refl in
    let has : HasPart (map entry_of c.self.inside.packets.entries) c.args.span.packet_id c.args.span.number c.args.from c.args.length = rw (← c.self.view_is) at c.requires in
    let fits : c.args.from + c.args.length ≤ length c.deref.result.now = rw c.deref.ensures (part_in _ _ _ _ _ _ has k) in
    search (rules, fits)

pub unreachable-requires : goal.unreachable-requires
unreachable-requires c =
    let k : packet_at (map entry_of c.self.inside.packets.entries) c.args.span.packet_id c.args.span.number ≡ None =
    rw (packet_at-entries c.args.span c.self.inside.packets.entries (omega arith), ← c.key_of.ensures, ← c.in-None.ensures.value) refl in
    let has : HasPart (map entry_of c.self.inside.packets.entries) c.args.span.packet_id c.args.span.number c.args.from c.args.length = rw (← c.self.view_is) at c.requires in
    no_part _ _ _ _ _ has k

pub returns : goal.returns
returns c =
    let k : packet_at (map entry_of c.self.inside.packets.entries) c.args.span.packet_id c.args.span.number ≡ Some (entry_of (key_of c.args.span, c.in-Some.stored.now)) =
    rw (packet_at-entries c.args.span c.self.inside.packets.entries (omega arith), ← c.key_of.ensures, ← c.in-Some.ensures.value) refl in
    rw (← c.self.view_is) (part_is _ _ _ _ _ _ _ k c.deref.ensures)
