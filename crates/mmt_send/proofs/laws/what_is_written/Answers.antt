use Rattle.mmt_send.proofs.Written.{fronts-are-bytes, streams-are-bytes}
use Rattle.mmt_send.proofs.laws.what_is_written.Goals as goal

pub returns : goal.returns
returns c = record { all = streams-are-bytes; front = fronts-are-bytes }
