use Rattle.std.proofs.Common.{sym, ◌∙◌, ap, Some}
use Rattle.mmt_runs.proofs.LoneParts.{signals_none, signals_other, signals_at}
use Rattle.mmt_runs.proofs.messages.signalling_bytes.Goals as goal

pub returns-in-None-clause-bytes : goal.returns-in-None-clause-bytes
returns-in-None-clause-bytes c = sym (signals_none _ (sym c.in-None.ensures.kind))

pub returns-in-Mpu-clause-bytes : goal.returns-in-Mpu-clause-bytes
returns-in-Mpu-clause-bytes c = sym (signals_other _ _ (sym c.in-Some.ensures.kind ∙ ap (λ k. Some k) c.in-Mpu.is) (λ e. cc))

pub returns-in-Generic-clause-bytes : goal.returns-in-Generic-clause-bytes
returns-in-Generic-clause-bytes c = sym (signals_other _ _ (sym c.in-Some.ensures.kind ∙ ap (λ k. Some k) c.in-Generic.is) (λ e. cc))

pub returns-in-Signalling-clause-bytes : goal.returns-in-Signalling-clause-bytes
returns-in-Signalling-clause-bytes c = c.in-Some.ensures.bytes ∙ sym (signals_at _ (sym c.in-Some.ensures.kind ∙ ap (λ k. Some k) c.in-Signalling.is))
