use Rattle.std.proofs.Common.{rules, ℕ}
use Rattle.mmt_ctx.specs.Squeezing.{Squeezing as Squeezer, IsAtCall}
use Rattle.mmt_gate.proofs.Placing.{begun, none_at_all}
use Rattle.mmt_gate.proofs.shrinker.Shrinker.new.Goals as goal

pub invariant_of-result : goal.invariant_of-result
invariant_of-result c = record {
  context = c.requires.context;
  full_every = c.requires.every;
  pairs = search rules;
  calls = none_at_all (λ (q : Squeezer). (call : ℕ) × IsAtCall call q) c.new-2.result.items (search rules);
}

pub returns-clause-none : goal.returns-clause-none
returns-clause-none c = begun _ (search rules) (search rules)
