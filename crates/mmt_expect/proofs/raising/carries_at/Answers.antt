use Rattle.std.proofs.Common.{ap}
use Rattle.mmt_expect.proofs.Defaults.{same-item}
use Rattle.mmt_model.specs.Survival.{no_packet}
use Rattle.mmt_model.specs.declared.casts.Sent.{Sent}
use Rattle.mmt_expect.proofs.raising.carries_at.Goals as goal

pub returns : goal.returns
returns c = ap (λ (p : Sent). p.carries) (same-item c.args.packets.now c.args.place _ no_packet c.requires)
