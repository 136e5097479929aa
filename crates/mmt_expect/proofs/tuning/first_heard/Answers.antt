use Rattle.std.proofs.Common.{arith, sym, ◌∙◌, ap, add-one, drop}
use Rattle.mmt_model.specs.Delivery.{from_heard}
use Rattle.mmt_expect.proofs.Starting.{heard-here, heard-none, heard-on}
use Rattle.mmt_expect.proofs.tuning.first_heard.Goals as goal

pub returns-then-is_full-clause-rest : goal.returns-then-is_full-clause-rest
returns-then-is_full-clause-rest c = sym (c.loop-i.invariant ∙ heard-here c.args.full_every c.args.list.now c.loop-i.i 0 (omega arith) (sym c.is_full.ensures ∙ c.if-is_full.true))

pub loop-i-preserved : goal.loop-i-preserved
loop-i-preserved c =
    c.loop-i.invariant ∙ (heard-on c.args.full_every c.args.list.now c.loop-i.i 0 (omega arith) (sym c.is_full.ensures ∙ c.if-is_full.false)
    ∙ ap (λ k. from_heard c.args.full_every (drop k c.args.list.now)) (sym (add-one c.loop-i.i)))

pub returns-clause-rest : goal.returns-clause-rest
returns-clause-rest c = heard-none c.args.full_every c.args.list.now c.loop-i.i (omega arith) c.loop-i.invariant
