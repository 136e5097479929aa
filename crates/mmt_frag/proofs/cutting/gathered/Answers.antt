use Rattle.std.proofs.Common.{◌≡◌, ◌<◌, length, arith, sym}
use Rattle.std.proofs.lemmas.Bool.Decides.{nat_tests}
use Rattle.mmt_frag.proofs.Fitting.{gathered-none, gathered-some}
use Rattle.mmt_frag.proofs.cutting.gathered.Goals as goal

pub returns-then-is_empty : goal.returns-then-is_empty
returns-then-is_empty c =
    let none : length c.args.lengths.now ≡ 0 = grind (arith, nat_tests) in
    sym (gathered-none c.args.header c.args.limit c.args.lengths.now none)

pub returns-else-is_empty : goal.returns-else-is_empty
returns-else-is_empty c =
    let some : 0 < length c.args.lengths.now = grind (arith, nat_tests) in
    omega (arith, gathered-some c.args.header c.args.limit c.args.lengths.now some, c.max.ensures, c.fitting.ensures)
