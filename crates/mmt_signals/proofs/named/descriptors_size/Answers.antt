use Rattle.std.proofs.Common.{◌+◌, ◌*◌, ap, ◌∙◌, length}
use Rattle.std.specs.List.{sum_by}
use Rattle.mmt_cast.specs.Tables.{extended_length}
use Rattle.mmt_signals.proofs.Bytes.{descriptors_start}
use Rattle.mmt_signals.specs.Named.{named}
use Rattle.mmt_signals.proofs.named.descriptors_size.Goals as goal

pub loop-name-init : goal.loop-name-init
loop-name-init c = ap (λ n. 3 * n + 12 * length c.args.names.now + sum_by extended_length (named c.args.asset.now c.args.names.now)) c.div_ceil.ensures ∙ descriptors_start c.args.asset.now c.args.names.now
