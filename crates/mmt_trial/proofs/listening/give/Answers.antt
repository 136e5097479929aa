use Rattle.std.proofs.Common.{ℕ, List, ◌∷◌, length, arith, ap, sym, subst}
use Rattle.mmt_recv.specs.Receiving.{Stands}
use Rattle.mmt_take.specs.Taking.{placed}
use Rattle.mmt_trial.proofs.Heard.{bytes-more, placed-more}
use Rattle.mmt_tune.specs.Tuning.{Placed}
use Rattle.mmt_trial.proofs.listening.give.Goals as goal

pub returns-in-Ok-clause-given : goal.returns-in-Ok-clause-given
returns-in-Ok-clause-given c = λ packets packet given fits is. record {
  stands = subst (λ (l : List Placed). Stands c.in-Ok.receiver l) (sym (placed-more packets packet))
      (subst (λ (n : ℕ). Stands c.in-Ok.receiver (record { place = n; packet = packet } ∷ placed packets)) given.at (c.in-Ok.ensures.stands (placed packets) packet given.stands fits is));
  at = omega (arith, given.at, ap (λ (b : List ℕ). length b) is, bytes-more packets packet);
}
