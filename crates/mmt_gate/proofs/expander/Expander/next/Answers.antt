use Rattle.std.proofs.Common.{List, ℕ, Result, ◌++◌, ap, subst, ◌∙◌}
use Rattle.mmt_tlv.specs.Framing.{Packet}
use Rattle.mmt_hear.specs.Hearing.{compressed_bodies}
use Rattle.mmt_gate.specs.declared.expander.ExpandEnd.{ExpandEnd}
use Rattle.mmt_gate.specs.Expanding.{Expands}
use Rattle.mmt_gate.proofs.Expanded.{expanded_three, expanded_other}
use Rattle.mmt_gate.proofs.expander.Expander.next.Goals as goal

pub returns-then-kind-eq3-clause-expands : goal.returns-then-kind-eq3-clause-expands
returns-then-kind-eq3-clause-expands c = λ earlier packet fits is heard.
    subst (λ (w : Result Packet ExpandEnd). Expands c.compressed.result c.args.out.now.items c.compressed.new.out.items w)
    (expanded_three earlier packet c.opened-kind.result.0 c.opened-kind.result.1.now (c.opened-kind.ensures.packet packet fits is) c.if-kind-eq3.true)
    (c.compressed.ensures.expands (compressed_bodies earlier) heard)

pub returns-in-Ok-clause-expands : goal.returns-in-Ok-clause-expands
returns-in-Ok-clause-expands c = λ earlier packet fits is heard. (
  packet,
  expanded_other earlier packet c.opened-kind.result.0 c.opened-kind.result.1.now (c.opened-kind.ensures.packet packet fits is) c.if-kind-eq3.false,
  c.in-Ok.ensures.ok ∙ ap (λ (b : List ℕ). c.args.out.now.items ++ b) is,
)
