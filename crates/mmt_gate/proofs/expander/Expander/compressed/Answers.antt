use Rattle.std.proofs.Common.{Result, refl, subst, sym, arith}
use Rattle.mmt_base.specs.declared.refused.Refused.{Refused}
use Rattle.mmt_ctx.specs.declared.packet.CtxWhy.{CtxWhy}
use Rattle.mmt_ctx.specs.Headers.{Header as Opened, HasRead, view}
use Rattle.mmt_gate.specs.Tables.{AllFit}
use Rattle.mmt_gate.specs.Expanding.{Expands, expanded_opened}
use Rattle.mmt_gate.proofs.Tables.{after_fits, opened_fits}
use Rattle.mmt_gate.proofs.expander.Expander.compressed.Goals as goal

pub put_opened-requires-clause-label : goal.put_opened-requires-clause-label
put_opened-requires-clause-label c =
    let f = opened_fits c.self.inside.contexts c.args.body.now (view c.in-Ok.packet) (λ i. omega (arith, c.type_inv.body i)) c.self.invariant c.in-Ok.ensures.answer in f.flow_label

pub invariant_of-self : goal.invariant_of-self
invariant_of-self c = subst AllFit (sym c.read.ensures.kept) (after_fits c.self.inside.contexts c.args.body.now (λ i. omega (arith, c.type_inv.body i)) c.self.invariant)

pub invariant_of-self-2 : goal.invariant_of-self-2
invariant_of-self-2 c = subst AllFit (sym c.read.ensures.kept) (after_fits c.self.inside.contexts c.args.body.now (λ i. omega (arith, c.type_inv.body i)) c.self.invariant)

pub returns-clause-expands : goal.returns-clause-expands
returns-clause-expands c = λ earlier has.
    subst (λ (w : Result Opened (Refused CtxWhy)). Expands c.put_opened.result c.args.out.now.items c.put_opened.new.out.items (expanded_opened w))
    (sym (c.in-Ok.ensures.back earlier (subst (λ t. HasRead earlier t) (sym c.self.view_is) has))) (c.put_opened.ensures.expands (view c.in-Ok.packet) refl refl)
