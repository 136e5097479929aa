use Rattle.mmt_ctx.proofs.ReadBack.{squeezed_is_read_back}
use Rattle.mmt_ctx.proofs.squeezer.squeezed_is_read.Goals as goal

pub returns : goal.returns
returns c = squeezed_is_read_back
