use Rattle.mmt_delivery.proofs.peak_is_within_the_bound.Goals as goal
use Rattle.mmt_delivery.proofs.Theorem.{peak_fits}

pub returns : goal.returns
returns c = peak_fits
