use Rattle.std.proofs.Common.{inl, inr, refl, subst, Err}
use Rattle.mmt_desk.specs.Lines.{PutsLine, line_of}
use Rattle.mmt_io.specs.declared.halt.Halt.{Halt}
use Rattle.mmt_desk.proofs.running.run_trial.Goals as goal

pub returns-in-Err-clause-tells : goal.returns-in-Err-clause-tells
returns-in-Err-clause-tells g c = λ t u. inl (c.in-Err.ensures.answer t, refl)

pub returns-in-Ok-tell-clause-tells : goal.returns-in-Ok-tell-clause-tells
returns-in-Ok-tell-clause-tells g c = λ t u. (c.in-Ok.tried, c.in-Ok.ensures.answer t, c.in-Ok-tell.ensures.put u)

pub returns-in-Err-WriteFault-clause-tells : goal.returns-in-Err-WriteFault-clause-tells
returns-in-Err-WriteFault-clause-tells g c = λ t u.
    let old = g.P.Port.history c.args.port.now in
    let new = g.P.Port.history c.tell.new.port in
    inr (c.in-Ok.tried, c.in-Ok.ensures.answer t, refl, subst (λ (h : Halt). PutsLine old new (line_of c.in-Ok.tried) (Err h)) c.in-Err-WriteFault.field-0-is (c.in-Err-WriteFault.ensures.put u))

pub returns-in-Err-OutOfMemory-clause-tells : goal.returns-in-Err-OutOfMemory-clause-tells
returns-in-Err-OutOfMemory-clause-tells g c = λ t u.
    let old = g.P.Port.history c.args.port.now in
    let new = g.P.Port.history c.tell.new.port in
    inl (tt, subst (λ (h : Halt). PutsLine old new (line_of c.in-Ok.tried) (Err h)) c.in-Err-OutOfMemory.field-0-is (c.in-Err-OutOfMemory.ensures.put u))
