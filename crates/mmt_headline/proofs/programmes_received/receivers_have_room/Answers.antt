use Rattle.mmt_headline.proofs.programmes_received.receivers_have_room.Goals as goal
use Rattle.mmt_headline.proofs.Peaks.{have-room as law}

pub returns : goal.returns
returns c = law c.peak_is_within_the_bound.ensures c.only_late_and_repeats.ensures
