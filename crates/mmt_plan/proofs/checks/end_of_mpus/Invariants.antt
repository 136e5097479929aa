use Rattle.std.proofs.Common.{◌≤◌, take}
use Rattle.std.specs.List.{All}
use Rattle.mmt_plan.specs.Files.{MpuEndsBy}
use Rattle.mmt_plan.proofs.checks.end_of_mpus.Given as goal

abbrev pub invariant-loop-mpu : goal.invariant-loop-mpu
invariant-loop-mpu l = record {
  some : 1 ≤ l.end;
  ends : All (MpuEndsBy l.end) (take l.mpu-index l.mpus);
}
