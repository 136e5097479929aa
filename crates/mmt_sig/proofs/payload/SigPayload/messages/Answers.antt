use Rattle.std.proofs.Common.{not, ◌^◌, arith}
use Rattle.mmt_sig.proofs.Within.{left_within}
use Rattle.mmt_sig.proofs.payload.SigPayload.messages.Goals as goal

pub returns-clause-within : goal.returns-clause-within
returns-clause-within c = left_within (not c.args.self.now.head.aggregated) c.args.self.now.head.long 2 c.args.self.now.body.now (2 ^ 31) (omega (arith, c.args.self.now.short))
