use Rattle.std.proofs.Common.{sym, ◌∙◌, ap, Some}
use Rattle.mmt_runs.proofs.Linking.{at_none, at_other, at_mpu}
use Rattle.mmt_runs.proofs.links.media_bytes.Goals as goal

pub returns-in-None-clause-bytes : goal.returns-in-None-clause-bytes
returns-in-None-clause-bytes c = sym (at_none _ (sym c.in-None.ensures.kind))

pub returns-in-Mpu-clause-bytes : goal.returns-in-Mpu-clause-bytes
returns-in-Mpu-clause-bytes c = c.in-Some.ensures.bytes ∙ sym (at_mpu _ (sym c.in-Some.ensures.kind ∙ ap (λ k. Some k) c.in-Mpu.is))

pub returns-in-Generic-clause-bytes : goal.returns-in-Generic-clause-bytes
returns-in-Generic-clause-bytes c = sym (at_other _ _ (sym c.in-Some.ensures.kind ∙ ap (λ k. Some k) c.in-Generic.is) (λ e. cc))

pub returns-in-Signalling-clause-bytes : goal.returns-in-Signalling-clause-bytes
returns-in-Signalling-clause-bytes c = sym (at_other _ _ (sym c.in-Some.ensures.kind ∙ ap (λ k. Some k) c.in-Signalling.is) (λ e. cc))
