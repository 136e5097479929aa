use Rattle.std.proofs.Common.{length}
use Rattle.mmt_runs.proofs.tests.joined.Given as goal

abbrev pub decreases-parts : goal.decreases-parts
decreases-parts l = length l.unit.left
