use Rattle.std.proofs.Common.{◌≡◌}
use Rattle.std.specs.List.{flat_map}
use Rattle.mmt_made.specs.Generator.{block}
use Rattle.mmt_model.specs.Carrying.{numbers}
use Rattle.mmt_made.proofs.announcing.signals.Given as goal

abbrev pub invariant-loop-block : goal.invariant-loop-block
invariant-loop-block l = l.list ≡ flat_map block (numbers 0 l.block)
