use Rattle.mmt_mux.proofs.Complete.{complete}
use Rattle.mmt_mux.proofs.laws.pace_is_complete.Goals as goal

pub returns : goal.returns
returns c = complete c.paced_casts_are_one.ensures
