use Rattle.mmt_command.specs.Words.{texts}
use Rattle.mmt_command.proofs.OneWord.{no_first, none_first}
use Rattle.mmt_command.proofs.words.command_of.Goals as goal

pub returns-clause-wrong : goal.returns-clause-wrong
returns-clause-wrong c = no_first (texts c.args.words.now) (none_first (texts c.args.words.now) (c.is_at.ensures.no c.if-is_at.false) (c.is_at-2.ensures.no c.if-is_at-2.false) (c.is_at-3.ensures.no c.if-is_at-3.false)
    (c.is_at-4.ensures.no c.if-is_at-4.false) (c.is_at-5.ensures.no c.if-is_at-5.false) (c.is_at-6.ensures.no c.if-is_at-6.false)
    (c.is_at-7.ensures.no c.if-is_at-7.false) (c.is_at-8.ensures.no c.if-is_at-8.false) (c.is_at-9.ensures.no c.if-is_at-9.false))
