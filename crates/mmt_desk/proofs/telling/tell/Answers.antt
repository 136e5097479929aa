use Rattle.std.proofs.Common.{ℕ, List, subst, ◌∙◌}
use Rattle.mmt_io.specs.Output.{PutsPrefix, only_written}
use Rattle.mmt_output.proofs.Putting.{start_written}
use Rattle.mmt_desk.proofs.telling.tell.Goals as goal

pub returns-clause-put : goal.returns-clause-put
returns-clause-put g c = λ t.
    subst (λ (b : List ℕ). PutsPrefix (g.P.Port.history c.args.port.now) (g.P.Port.history c.write.new.self) (only_written b)) (c.as_bytes.ensures.value ∙ c.in-Ok.ensures)
    (start_written (g.P.Port.history c.args.port.now) (g.P.Port.history c.write.new.self) c.as_bytes.result.now (c.in-Err-write.ensures.bytes t))
