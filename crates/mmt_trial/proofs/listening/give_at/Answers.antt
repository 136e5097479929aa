use Rattle.mmt_trial.proofs.listening.give_at.Goals as goal

pub returns-in-None-clause-given : goal.returns-in-None-clause-given
returns-in-None-clause-given c = λ packets packet given fits is. absurd (c.in-None.ensures.given packet fits is)
