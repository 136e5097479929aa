use Rattle.std.proofs.Common.{◌++◌}
use Rattle.mmt_ctx.specs.Headers.{opened_after, view}
use Rattle.mmt_list.specs.Left.{left_text}
use Rattle.mmt_list.proofs.Parts.{ctx_opened, ctx_refused}
use Rattle.mmt_list.proofs.lister.Lister.ctx_head.Goals as goal

pub returns-in-Ok-clause-items : goal.returns-in-Ok-clause-items
returns-in-Ok-clause-items c = λ earlier read.
    ctx_opened c.args.out.now.items c.put_ctx.new.out.items (c.port_head.new.out.items ++ left_text c.port_head.result) c.args.place (opened_after earlier c.args.body.now) (view c.in-Ok.packet)
    (c.in-Ok.ensures.back earlier (rw c.self.view_is read)) c.put_ctx.ensures.items (rw c.payload_place.ensures at c.port_head.ensures.items)

pub returns-in-Err-clause-items : goal.returns-in-Err-clause-items
returns-in-Err-clause-items c = λ earlier read.
    ctx_refused c.args.out.now.items c.put_refused.new.out.items c.args.place (opened_after earlier c.args.body.now) _ (c.in-Err.ensures.back earlier (rw c.self.view_is read)) (rw c.ctx_reason.ensures at c.put_refused.ensures.items)
