use Rattle.std.proofs.Common.{◌≡◌, ◌+◌, ◌∙◌, length, rules, arith}
use Rattle.std.proofs.lemmas.Bool.{le-ltb}
use Rattle.mmt_io.proofs.Keeping.{Keeps, room_left, no_room_left}
use Rattle.mmt_io.proofs.log.Log.has_room.Goals as goal

pub returns-then-len-self : goal.returns-then-len-self
returns-then-len-self c =
    let keeps : Keeps c.self.inside.input.items c.self.inside.taken c.self.inside.written.items c.self.inside.noted.items c.self.inside.pieces.items c.self.inside.calls c.self.inside.bytes c.args.self.now = record { view = c.self.view_is; out = c.self.invariant.out; note = c.self.invariant.note; used = c.self.invariant.used } in
    let lens : c.len.result + c.len-2.result ≡ length c.self.inside.written.items + length c.self.inside.noted.items = search rules in
    rw lens (room_left _ _ _ _ _ _ _ c.args.self.now c.args.length keeps (search rules))

pub returns-else-len-self : goal.returns-else-len-self
returns-else-len-self c =
    let keeps : Keeps c.self.inside.input.items c.self.inside.taken c.self.inside.written.items c.self.inside.noted.items c.self.inside.pieces.items c.self.inside.calls c.self.inside.bytes c.args.self.now = record { view = c.self.view_is; out = c.self.invariant.out; note = c.self.invariant.note; used = c.self.invariant.used } in
    le-ltb c.len-3.result c.self.inside.calls (omega arith) ∙ no_room_left _ _ _ _ _ _ _ c.args.self.now c.args.length keeps (search rules)
