use Rattle.std.proofs.Common.{◌≡◌, map}
use Rattle.mmt_casting.specs.Spans.{start_of}
use Rattle.mmt_model.specs.Carrying.{numbers}
use Rattle.mmt_expect.proofs.counting.starts_of.Given as goal

abbrev pub invariant-loop-a : goal.invariant-loop-a
invariant-loop-a l = record {
  starts : l.starts.items ≡ map (start_of l.programme) (numbers 0 l.a);
  sum : l.sum ≡ start_of l.programme l.a;
}
