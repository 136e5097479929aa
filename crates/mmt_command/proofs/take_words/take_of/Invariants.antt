use Rattle.std.proofs.Common.{length, ◌-◌}
use Rattle.mmt_command.specs.Words.{texts}
use Rattle.mmt_command.specs.Reading.{HasRead}
use Rattle.mmt_command.proofs.take_words.take_of.Given as goal

abbrev pub invariant-loop-at : goal.invariant-loop-at
invariant-loop-at l = HasRead l.given (texts l.words) l.at

abbrev pub decreases-loop-at : goal.decreases-loop-at
decreases-loop-at l = length l.words - l.at
