use Rattle.std.proofs.Common.{◌≡◌, take}
use Rattle.mmt_plan.proofs.FileNumbers.{texts}
use Rattle.mmt_plan.proofs.names.FileNames.list.Given as goal

abbrev pub invariant-loop-name : goal.invariant-loop-name
invariant-loop-name l = l.list ≡ texts (take l.name-index l.name-items)
