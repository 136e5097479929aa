use Rattle.std.proofs.Common.{rules, arith, refl}
use Rattle.mmt_tlv.proofs.Taking.{whole_at_front}
use Rattle.mmt_tlv.proofs.whole_front.Goals as goal

pub returns-then-total-piece-clause-packet : goal.returns-then-total-piece-clause-packet
returns-then-total-piece-clause-packet c = whole_at_front c.args.piece.now _ (λ i. omega (arith, c.type_inv.piece i)) (search rules) (omega arith) (omega arith) (omega arith)
