use Rattle.std.proofs.Common.{arith, refl}
use Rattle.mmt_words.proofs.Digits.{two, three, four}
use Rattle.mmt_words.proofs.numbers.put_digits.Goals as goal

pub returns-then-hundreds-eq0-clause-items : goal.returns-then-hundreds-eq0-clause-items
returns-then-hundreds-eq0-clause-items c =
    rw (
      c.put_bytes.ensures.items,
      c.last_digit.ensures,
      c.last_digit-then-hundreds-eq0.ensures,
      two c.args.number (omega arith) (omega arith) (omega arith),
    ) refl

pub returns-then-thousands-eq0-clause-items : goal.returns-then-thousands-eq0-clause-items
returns-then-thousands-eq0-clause-items c =
    rw (
      c.put_bytes-then-thousands-eq0.ensures.items,
      c.last_digit-then-thousands-eq0.ensures,
      c.last_digit-then-thousands-eq0-2.ensures,
      c.last_digit-then-thousands-eq0-3.ensures,
      three c.args.number (omega arith) (omega arith) (omega arith),
    ) refl

pub returns-then-thousands-lt10-clause-items : goal.returns-then-thousands-lt10-clause-items
returns-then-thousands-lt10-clause-items c =
    rw (
      c.put_bytes-then-thousands-lt10.ensures.items,
      c.last_digit-first.ensures,
      c.last_digit-second.ensures,
      c.last_digit-then-thousands-lt10.ensures,
      c.last_digit-then-thousands-lt10-2.ensures,
      four c.args.number (omega arith) (omega arith) (omega arith),
    ) refl
