use Rattle.mmt_send.proofs.Checked.{checked-files}
use Rattle.mmt_send.proofs.laws.checked_files_are_whole.Goals as goal

pub returns : goal.returns
returns c = checked-files
