use Rattle.std.proofs.Common.{refl, arith}
use Rattle.mmt_hear.specs.Hearing.{compressed_bodies}
use Rattle.mmt_list.proofs.Parts.{ip_sections, ctx_sections, no_sections}
use Rattle.mmt_list.proofs.lister.Lister.sections_head.Goals as goal

pub returns-in-2-clause-items : goal.returns-in-2-clause-items
returns-in-2-clause-items c = λ earlier heard.
    rw (ip_sections c.args.place earlier c.args.kind c.args.body.now c.in-2.is) c.ip_head.ensures.items

pub returns-in-3-clause-items : goal.returns-in-3-clause-items
returns-in-3-clause-items c = λ earlier heard.
    rw (ctx_sections c.args.place earlier c.args.kind c.args.body.now c.in-3.is) (c.ctx_head.ensures.items (compressed_bodies earlier) heard)

pub returns-in_default-clause-items : goal.returns-in_default-clause-items
returns-in_default-clause-items c = λ earlier heard.
    rw (no_sections c.args.place earlier c.args.kind c.args.body.now (λ e. omega (arith, e, c.in_default)) (λ e. omega (arith, e, c.in_default))) refl
