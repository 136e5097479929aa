use Rattle.std.proofs.Common.{◌≡◌, List, length, get_or}
use Rattle.mmt_casting.specs.Named.{AreNamed}
use Rattle.mmt_model.specs.Carrying.{no_sent_mpu}
use Rattle.mmt_model.specs.declared.casts.TableCopy.{TableCopy}
use Rattle.mmt_pace.proofs.Between.{made_to}
use Rattle.mmt_pace.specs.Recast.{mpu_named_by}
use Rattle.mmt_pace.proofs.recasting.mpus_named.Given as goal

abbrev pub invariant-loop-n : goal.invariant-loop-n
invariant-loop-n l = (copies : List TableCopy) → AreNamed (length l.fn.mpus) copies l.fn.named → l.all.items ≡ made_to (λ i. mpu_named_by copies i (get_or l.fn.mpus i no_sent_mpu)) l.n
