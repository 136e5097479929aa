use Rattle.std.proofs.Common.{arith, append_assoc}
use Rattle.std.proofs.lemmas.Fmt.{decimal_digit}
use Rattle.mmt_words.proofs.numbers.put_number.Goals as goal

pub returns-then-number-lt10-clause-items : goal.returns-then-number-lt10-clause-items
returns-then-number-lt10-clause-items c =
    rw (c.put_bytes-then-number-lt10.ensures.items, c.put_bytes.ensures.items, decimal_digit c.args.number (omega arith)) (append_assoc c.args.out.now.items c.args.label.now _)
