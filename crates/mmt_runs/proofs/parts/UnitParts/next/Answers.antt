use Rattle.std.proofs.Common.{◌∙◌, ap, map}
use Rattle.mmt_model.specs.Packets.{Payload}
use Rattle.mmt_model.specs.Units.{media_link, Link}
use Rattle.mmt_runs.specs.Reading.{heard}
use Rattle.mmt_runs.specs.Lending.{Lending, link_bytes}
use Rattle.mmt_runs.proofs.Lent.{lent_last, lent_more, length_left}
use Rattle.mmt_runs.proofs.parts.UnitParts.next.Goals as goal

pub invariant_of-self : goal.invariant_of-self
invariant_of-self c =
    let x = c.self.inside in
    let link : Payload → Link = media_link x.timed x.order.mpu in
    length_left _ _ _ _ c.self.invariant (lent_last link (map heard x.pool.now.kept) x.order.packet_id x.left x.bytes.now x.number c.if-self-eq0.false c.if-self-eq0-2.true)

pub returns-then-self-eq0-2 : goal.returns-then-self-eq0-2
returns-then-self-eq0-2 c =
    let x = c.self.inside in
    let link : Payload → Link = media_link x.timed x.order.mpu in
    rw (← c.self.view_is)
    (ap (λ l. (let p : Lending = record { order = x.order; priority = x.priority; dependency = x.dependency; left = l } in p))
    (lent_last link (map heard x.pool.now.kept) x.order.packet_id x.left x.bytes.now x.number c.if-self-eq0.false c.if-self-eq0-2.true))

pub invariant_of-self-2 : goal.invariant_of-self-2
invariant_of-self-2 c =
    let x = c.self.inside in
    let link : Payload → Link = media_link x.timed x.order.mpu in
    length_left _ _ _ _ c.self.invariant
    (lent_more link (map heard x.pool.now.kept) x.order.packet_id x.left x.bytes.now _ x.number _ c.if-self-eq0.false c.if-self-eq0-2.false (c.part_bytes-self-inside.ensures ∙ ap link_bytes c.link_of.ensures.link) c.span_after.ensures.number)

pub returns : goal.returns
returns c =
    let x = c.self.inside in
    let link : Payload → Link = media_link x.timed x.order.mpu in
    rw (← c.self.view_is)
    (ap (λ l. (let p : Lending = record { order = x.order; priority = x.priority; dependency = x.dependency; left = l } in p))
    (lent_more link (map heard x.pool.now.kept) x.order.packet_id x.left x.bytes.now _ x.number _ c.if-self-eq0.false c.if-self-eq0-2.false (c.part_bytes-self-inside.ensures ∙ ap link_bytes c.link_of.ensures.link) c.span_after.ensures.number))
