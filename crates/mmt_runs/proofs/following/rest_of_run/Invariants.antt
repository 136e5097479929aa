use Rattle.std.proofs.Common.{◌≡◌, ◌≤◌, ◌-◌, map}
use Rattle.mmt_model.specs.Units.{media_link}
use Rattle.mmt_runs.specs.Reading.{heard}
use Rattle.mmt_runs.proofs.Followed.{Followed}
use Rattle.mmt_runs.proofs.following.rest_of_run.Given as goal

abbrev pub invariant-packets : goal.invariant-packets
invariant-packets l =
    record {
      packet_id : l.span.packet_id ≡ l.fn.first.packet_id;
      count : l.count ≤ l.most;
      followed : Followed (media_link l.timed l.mpu) (map heard l.pool.kept) l.fn.first.packet_id l.most l.fn.first.number l.count l.span.number l.length;
    }

abbrev pub decreases-packets : goal.decreases-packets
decreases-packets l = l.most - l.count
