use Rattle.std.proofs.Common.{ap, length, ◌∙◌}
use Rattle.mmt_made.proofs.NearDeliveries.{is-few, is-near, is-of}
use Rattle.mmt_made.proofs.NoFault.{is-admitted}
use Rattle.mmt_made.proofs.NoRefusal.{is-not-refused}
use Rattle.mmt_made.specs.Generator.{delivery}
use Rattle.mmt_cast.specs.Casting.{cast_of}
use Rattle.mmt_model.specs.declared.programmes.Programme.{Programme}
use Rattle.mmt_made.proofs.making.made.Goals as goal

pub count_of-requires-clause-none : goal.count_of-requires-clause-none
count_of-requires-clause-none c = is-not-refused c.in_ok-programme.programme c.in_ok-programme.ensures.is

pub returns-clause-none : goal.returns-clause-none
returns-clause-none c = is-not-refused c.in_ok-programme.programme c.in_ok-programme.ensures.is

pub returns-clause-admitted : goal.returns-clause-admitted
returns-clause-admitted c = is-admitted c.in_ok-programme.programme c.in_ok-programme.ensures.is

pub returns-clause-deliveries : goal.returns-clause-deliveries
returns-clause-deliveries c = c.in_ok-deliveries.ensures ∙ ap (delivery c.args.seed) (c.in_ok-count.ensures ∙ ap (λ (p : Programme). length (cast_of p).packets) c.in_ok-programme.ensures.is)

pub returns-clause-of : goal.returns-clause-of
returns-clause-of c = is-of c.in_ok-programme.programme c.in_ok-deliveries.deliveries c.args.seed c.in_ok-programme.ensures.is (returns-clause-deliveries c)

pub returns-clause-few : goal.returns-clause-few
returns-clause-few c = is-few c.in_ok-deliveries.deliveries c.args.seed (returns-clause-deliveries c)

pub returns-clause-near : goal.returns-clause-near
returns-clause-near c = is-near c.in_ok-programme.programme c.in_ok-deliveries.deliveries c.args.seed c.in_ok-programme.ensures.is (returns-clause-deliveries c)
