use Rattle.std.proofs.Common.{arith, ap}
use Rattle.mmt_casting.proofs.Putting.{part-le}
use Rattle.mmt_frag.specs.declared.cutting.PartOf.{PartOf}
use Rattle.mmt_casting.proofs.alone.alone_packet.Goals as goal

pub overflow_add-result-4 : goal.overflow_add-result-4
overflow_add-result-4 c =
    omega (arith, part-le c.args.unit.now.length c.args.programme.now.limit c.args.k, ap (λ (x : PartOf). x.length) c.part_of-part.ensures, c.requires.short, c.header_length-head.ensures.short)
