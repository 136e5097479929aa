use Rattle.mmt_times.specs.ContentView.{view_pair}
use Rattle.mmt_times.specs.CandidateView.{view_candidate}
use Rattle.mmt_times.specs.NamesLeft.{candidates_left}
use Rattle.mmt_times.specs.TimesLeft.{times_left}
use Rattle.mmt_times.proofs.TryingSteps.{no_entry_left, entry_gives, entry_refused}
use Rattle.mmt_times.proofs.trying.first_try.Goals as goal

pub returns-in_default : goal.returns-in_default
returns-in_default c =
    let t = c.args.trying.now in
    let e = no_entry_left (candidates_left t.candidates) t.packet_id (view_pair t.pair) c.in_default.ensures in
    cc

pub returns-in-Some-times_of : goal.returns-in-Some-times_of
returns-in-Some-times_of c =
    let t = c.args.trying.now in
    let given = c.in-Some-times_of.ensures in
    let e = entry_gives (candidates_left t.candidates) _ t.packet_id (view_pair t.pair) (view_candidate c.in-Some.candidate) (times_left c.in-Some-times_of.times) c.in-Some.ensures given.0 in
    cc

pub returns-in-None : goal.returns-in-None
returns-in-None c =
    let t = c.args.trying.now in
    entry_refused (candidates_left t.candidates) (candidates_left c.in-Some.candidates) t.packet_id (view_pair t.pair) (view_candidate c.in-Some.candidate) c.in-Some.ensures c.in-None.ensures
