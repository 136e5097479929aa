use Rattle.std.proofs.Common.{ℕ, List, ◌++◌, refl, sym, ap, subst, ◌∙◌, arith}
use Rattle.mmt_ip.specs.declared.packet.Ip6Header.{Ip6Header}
use Rattle.mmt_ip.specs.Reading.{packet_of as plain_of}
use Rattle.mmt_gate.specs.Flows.{headers}
use Rattle.mmt_gate.specs.Keeping.{HasSqueezed}
use Rattle.mmt_gate.specs.Shrinking.{squeezed_plain}
use Rattle.mmt_gate.proofs.Squeezed.{three_becomes, two_becomes, other_becomes, two_headers, other_headers}
use Rattle.mmt_gate.proofs.shrinker.Shrinker.next.Goals as goal

pub returns-then-kind-eq3-clause-squeezes : goal.returns-then-kind-eq3-clause-squeezes
returns-then-kind-eq3-clause-squeezes c = λ earlier packet fits is has.
    (three_becomes c.args.self.now.options earlier packet c.opened-kind.result.0 c.opened-kind.result.1.now (c.opened-kind.ensures.packet packet fits is) c.if-kind-eq3.true, refl)

pub returns-then-kind-eq3-clause-next : goal.returns-then-kind-eq3-clause-next
returns-then-kind-eq3-clause-next c = λ earlier packet fits is has.
    subst (λ (hs : List Ip6Header). HasSqueezed hs c.args.self.now)
    (sym (other_headers earlier packet c.opened-kind.result.0 c.opened-kind.result.1.now (c.opened-kind.ensures.packet packet fits is) (λ e. omega (arith, e, c.if-kind-eq3.true)))) has

pub returns-in-Ok-clause-squeezes : goal.returns-in-Ok-clause-squeezes
returns-in-Ok-clause-squeezes c = λ earlier packet fits is has. (
  squeezed_plain c.args.self.now.options (headers earlier) packet (plain_of c.opened-kind.result.1.now),
  two_becomes c.args.self.now.options earlier packet c.opened-kind.result.0 c.opened-kind.result.1.now (c.opened-kind.ensures.packet packet fits is) c.if-kind-eq2.true,
  c.in-Ok.ensures.packet (headers earlier) packet has is,
)

pub returns-in-Ok-clause-next : goal.returns-in-Ok-clause-next
returns-in-Ok-clause-next c = λ earlier packet fits is has.
    subst (λ (hs : List Ip6Header). HasSqueezed hs c.plain.new.self)
    (sym (two_headers earlier packet c.opened-kind.result.0 c.opened-kind.result.1.now (c.opened-kind.ensures.packet packet fits is) c.if-kind-eq2.true)) (c.in-Ok.ensures.next (headers earlier) has)

pub returns-in-Ok-put_as_it_is-clause-squeezes : goal.returns-in-Ok-put_as_it_is-clause-squeezes
returns-in-Ok-put_as_it_is-clause-squeezes c = λ earlier packet fits is has. (
  packet,
  other_becomes c.args.self.now.options earlier packet c.opened-kind.result.0 c.opened-kind.result.1.now (c.opened-kind.ensures.packet packet fits is) c.if-kind-eq2.false c.if-kind-eq3.false,
  c.in-Ok-put_as_it_is.ensures.ok ∙ ap (λ (b : List ℕ). c.args.out.now.items ++ b) is,
)

pub returns-in-Ok-put_as_it_is-clause-next : goal.returns-in-Ok-put_as_it_is-clause-next
returns-in-Ok-put_as_it_is-clause-next c = λ earlier packet fits is has.
    subst (λ (hs : List Ip6Header). HasSqueezed hs c.args.self.now)
    (sym (other_headers earlier packet c.opened-kind.result.0 c.opened-kind.result.1.now (c.opened-kind.ensures.packet packet fits is) c.if-kind-eq2.false)) has
