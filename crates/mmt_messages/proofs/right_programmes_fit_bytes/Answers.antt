use Rattle.mmt_messages.proofs.right_programmes_fit_bytes.Goals as goal
use Rattle.mmt_messages.proofs.Fitting.{right-bytes}

pub returns : goal.returns
returns c = right-bytes
