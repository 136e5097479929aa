use Rattle.std.proofs.Common.{ap}
use Rattle.mmt_expect.proofs.Defaults.{same-item}
use Rattle.mmt_model.specs.Survival.{no_packet, sent_at}
use Rattle.mmt_model.specs.declared.casts.Sent.{Sent}
use Rattle.mmt_expect.proofs.reaching.tick_at.Goals as goal

pub returns : goal.returns
unfolding sent_at
returns c = ap (λ (p : Sent). p.at.0) (same-item c.args.packets.now c.args.place _ no_packet c.requires)
