use Rattle.std.proofs.Common.{◌≡◌, ◌∙◌, true, refl, arith, subst}
use Rattle.mmt_runs.specs.declared.index.Begun.{Begun}
use Rattle.mmt_runs.specs.Index.{IsBegun}
use Rattle.mmt_runs.proofs.DueOrder.{taken-out}
use Rattle.mmt_runs.proofs.index.take_out.Goals as goal

pub units-preserved : goal.units-preserved
units-preserved c = λ d n h. taken-out c.units.index.keys c.remove-in-Some.new.self.keys (record { numbers = c.in-Some.found.numbers; span = c.args.span }) c.args.span refl c.remove-in-Some.ensures.updates.0 d n (c.units.invariant d n h)

pub units-smaller : goal.units-smaller
units-smaller c =
    let there : IsBegun c.units.begun.keys (record { span = c.args.span; numbers = c.in-Some.found.numbers }) = subst (λ s. IsBegun c.units.begun.keys (record { span = s; numbers = c.in-Some.found.numbers })) c.in-Some.ensures.0 c.in-Some.ensures.1 in
    let taken : c.remove.result ≡ true = c.remove.ensures.test ∙ there in
    let fewer = rw taken at c.remove.ensures.len in
    omega (arith, fewer)
