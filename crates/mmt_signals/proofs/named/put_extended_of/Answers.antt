use Rattle.std.proofs.Common.{◌++◌, ap, sym, ◌∙◌, arith}
use Rattle.std.proofs.lemmas.List.{append-nil}
use Rattle.mmt_cast.specs.Placing.{PlacedMpu}
use Rattle.mmt_signals.proofs.Bytes.{extended_long_some, extended_none, of_value}
use Rattle.mmt_signals.specs.Named.{named_mpu as mpu_of}
use Rattle.mmt_signals.proofs.named.put_extended_of.Goals as goal

pub put_extended-requires-clause-room : goal.put_extended-requires-clause-room
put_extended-requires-clause-room c =
    let m : PlacedMpu = mpu_of c.args.asset.now c.args.name in
    let same = of_value m c.named_mpu-mpu.result.now c.named_mpu-mpu.ensures in
    omega (arith, same, c.requires.room, extended_long_some m (omega (arith, same, c.len.ensures, c.if-len-gt0.true)))

pub returns-then-len-gt0-clause-len : goal.returns-then-len-gt0-clause-len
returns-then-len-gt0-clause-len c =
    let m : PlacedMpu = mpu_of c.args.asset.now c.args.name in
    let same = of_value m c.named_mpu-mpu.result.now c.named_mpu-mpu.ensures in
    omega (arith, same, c.put_extended.ensures.len, extended_long_some m (omega (arith, same, c.len.ensures, c.if-len-gt0.true)))

pub returns-else-len-gt0-clause-items : goal.returns-else-len-gt0-clause-items
returns-else-len-gt0-clause-items c =
    let m : PlacedMpu = mpu_of c.args.asset.now c.args.name in
    let same = of_value m c.named_mpu-mpu.result.now c.named_mpu-mpu.ensures in
    sym (ap (λ l. c.args.out.now.items ++ l) (extended_none m (omega (arith, same, c.len.ensures, c.if-len-gt0.false))) ∙ append-nil c.args.out.now.items)
