use Rattle.std.proofs.Common.{arith, ap, length, ◌∙◌}
use Rattle.mmt_model.specs.declared.casts.Cast.{Cast}
use Rattle.mmt_made.proofs.Few.{packets-few}
use Rattle.mmt_made.proofs.making.count_of.Goals as goal

pub overflow_cast-count : goal.overflow_cast-count
overflow_cast-count c = omega (arith, packets-few c.args.programme.now c.in-Ok.cast c.requires.right c.requires.none c.in-Ok.ensures, c.len-count.ensures)

pub returns : goal.returns
returns c = c.len-count.ensures ∙ ap (λ (cast : Cast). length cast.packets) c.in-Ok.ensures
