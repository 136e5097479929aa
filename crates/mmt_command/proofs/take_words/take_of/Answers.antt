use Rattle.std.proofs.Common.{◌≡◌, [], ◌++◌, drop, ap, sym, subst, refl, ◌∙◌, arith}
use Rattle.std.specs.Prelude.{string_bytes}
use Rattle.std.proofs.lemmas.List.{append-nil, drop_all, length-map}
use Rattle.mmt_command.specs.Words.{texts}
use Rattle.mmt_command.specs.TakeWords.{take_words, AsksTake}
use Rattle.mmt_command.proofs.TakeGiven.{nothing_given, asked}
use Rattle.mmt_command.proofs.take_words.take_of.Goals as goal

pub loop-at-init : goal.loop-at-init
loop-at-init c = record {
  options = [];
  values = nothing_given _ refl refl refl refl refl;
  spelled = c.requires;
  place = refl;
  counted = refl;
}

pub returns-clause-command : goal.returns-clause-command
returns-clause-command c =
    let r = c.loop-at.invariant in
    let end : drop c.loop-at.at (texts c.args.words.now) ≡ [] = drop_all c.loop-at.at (texts c.args.words.now) (omega (arith, length-map c.args.words.now string_bytes)) in
    subst (λ o. AsksTake o (texts c.args.words.now)) (sym c.taken.ensures)
    (asked c.loop-at.given r.options (texts c.args.words.now) r.values (r.spelled ∙ (ap (λ l. take_words r.options ++ l) end ∙ append-nil (take_words r.options))))
