use Rattle.std.proofs.Common.{arith, ap}
use Rattle.mmt_casting.proofs.Putting.{part-le}
use Rattle.mmt_frag.specs.declared.cutting.PartOf.{PartOf}
use Rattle.mmt_casting.proofs.messages.table_packet.Goals as goal

pub overflow_add-result-3 : goal.overflow_add-result-3
overflow_add-result-3 c = omega (arith, part-le c.args.message.bytes c.args.programme.now.limit c.args.k, ap (λ (x : PartOf). x.length) c.part_of-part.ensures, c.requires.short)
