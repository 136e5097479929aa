use Rattle.mmt_headline.proofs.programmes_received.notes_are_quiet.Goals as goal
use Rattle.mmt_headline.proofs.Notes.{notes-quiet as law}

pub returns : goal.returns
returns c = law c.peak_is_within_the_bound.ensures c.only_late_and_repeats.ensures c.names_are_learned.ensures c.messages_are_sent.ensures
