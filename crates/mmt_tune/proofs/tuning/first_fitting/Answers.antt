use Rattle.std.proofs.Common.{◌<◌, ◌^◌, ◌∙◌, length, sym}
use Rattle.std.proofs.lemmas.List.Elements.{All-tail}
use Rattle.mmt_tune.proofs.Fitting.{passed_by}
use Rattle.mmt_tune.proofs.tuning.first_fitting.Goals as goal

pub loop-message-preserved : goal.loop-message-preserved
loop-message-preserved c = record {
  values = sym (passed_by c.args.bound c.in-Some.message.now _ (sym c.fitting_values.ensures ∙ c.in-None-fitting_values.is)) ∙ (rw c.in-Some.ensures.steps at c.loop-message.invariant.values);
  short = All-tail (λ m. length m < 2 ^ 31) _ _ (rw c.in-Some.ensures.steps at c.loop-message.invariant.short);
}
