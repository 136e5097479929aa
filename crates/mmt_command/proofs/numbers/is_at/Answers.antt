use Rattle.std.proofs.Common.{ap, ◌∙◌, ◌∷◌, drop, ◌+◌}
use Rattle.mmt_command.specs.Words.{texts}
use Rattle.mmt_command.proofs.Places.{word_at}
use Rattle.mmt_command.proofs.numbers.is_at.Goals as goal

pub returns-in-Some-clause-yes : goal.returns-in-Some-clause-yes
returns-in-Some-clause-yes c = λ yes.
    word_at c.args.words.now c.args.at c.in-Some.word.now c.in-Some.ensures.lookup.3.0 c.in-Some.ensures.lookup.1
    ∙ ap (λ x. x ∷ drop (c.args.at + 1) (texts c.args.words.now)) (c.word_is.ensures.yes yes)

pub returns-in-Some-clause-no : goal.returns-in-Some-clause-no
returns-in-Some-clause-no c = λ no more is.
    let at = word_at c.args.words.now c.args.at c.in-Some.word.now c.in-Some.ensures.lookup.3.0 c.in-Some.ensures.lookup.1 in c.word_is.ensures.no no (cc)
