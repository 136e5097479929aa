use Rattle.std.proofs.Common.{sym, ap, ◌∙◌}
use Rattle.mmt_runs.proofs.Indexing.{none-begun, spelled-refused, begins-whole, begins-first, begins-middle, begins-last}
use Rattle.mmt_runs.proofs.starting.begun_in.Goals as goal

pub returns-in-None : goal.returns-in-None
returns-in-None c = none-begun _ (sym c.in-None.ensures.bytes)

pub returns-in-Err : goal.returns-in-Err
returns-in-Err c = spelled-refused _ c.in-Some.bytes.now _ (sym c.in-Some.ensures.bytes) c.in-Err.ensures.exact

pub returns-in-Whole : goal.returns-in-Whole
returns-in-Whole c = begins-whole _ c.in-Some.bytes.now _ (sym c.in-Some.ensures.bytes) c.in-Ok.ensures.exact (sym (ap (λ h. h.part) c.head.ensures) ∙ c.in-Whole.is)

pub returns-in-First : goal.returns-in-First
returns-in-First c = begins-first _ c.in-Some.bytes.now _ (sym c.in-Some.ensures.bytes) c.in-Ok.ensures.exact (sym (ap (λ h. h.part) c.head.ensures) ∙ c.in-First.is)

pub returns-in-Middle : goal.returns-in-Middle
returns-in-Middle c = begins-middle _ c.in-Some.bytes.now _ (sym c.in-Some.ensures.bytes) c.in-Ok.ensures.exact (sym (ap (λ h. h.part) c.head.ensures) ∙ c.in-Middle.is)

pub returns-in-Last : goal.returns-in-Last
returns-in-Last c = begins-last _ c.in-Some.bytes.now _ (sym c.in-Some.ensures.bytes) c.in-Ok.ensures.exact (sym (ap (λ h. h.part) c.head.ensures) ∙ c.in-Last.is)
