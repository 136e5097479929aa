use Rattle.std.proofs.Common.{◌≡◌, ◌+◌, ◌-◌, ◌%◌, ◌^◌, List, ◌∷◌, length, map, ◌∙◌, ap, arith}
use Rattle.std.proofs.lemmas.List.{length-append}
use Rattle.mmt_model.specs.Packets.{Heard}
use Rattle.mmt_model.specs.Units.{next_number, joined}
use Rattle.mmt_runs.specs.Reading.{heard}
use Rattle.mmt_runs.specs.Messages.{PartsLeft}
use Rattle.mmt_runs.specs.MessageParts.{all_parts}
use Rattle.mmt_runs.proofs.WalkSteps.{parts_step, parts_rest}
use Rattle.mmt_runs.proofs.messages.MessageParts.next.Goals as goal

pub invariant_of-self : goal.invariant_of-self
unfolding next_number
invariant_of-self c =
    let x = c.self.inside in
    let kept : List Heard = map heard x.pool.now.kept in
    let all : all_parts kept x.packet_id x.left x.bytes.now x.number ≡ x.bytes.now ∷ all_parts kept x.packet_id (x.left - 1) c.next_bytes-self-inside.result.now ((x.number + 1) % 2 ^ 32) =
    parts_step kept x.packet_id x.left x.bytes.now x.number c.if-self-eq0.false ∙ ap (λ l. x.bytes.now ∷ l) (parts_rest kept x.packet_id (x.left - 1) x.number c.next_bytes-self-inside.result.now c.next_bytes-self-inside.ensures) in
    omega (arith, c.self.invariant, ap (λ l. length (joined l)) all, length-append x.bytes.now (joined (all_parts kept x.packet_id (x.left - 1) c.next_bytes-self-inside.result.now ((x.number + 1) % 2 ^ 32))))

pub returns : goal.returns
unfolding next_number
returns c =
    let x = c.self.inside in
    let kept : List Heard = map heard x.pool.now.kept in
    rw (← c.self.view_is)
    (ap (λ l. (let p : PartsLeft = record { number = x.first; left = l } in p))
    (parts_step kept x.packet_id x.left x.bytes.now x.number c.if-self-eq0.false ∙ ap (λ l. x.bytes.now ∷ l) (parts_rest kept x.packet_id (x.left - 1) x.number c.next_bytes-self-inside.result.now c.next_bytes-self-inside.ensures)))
