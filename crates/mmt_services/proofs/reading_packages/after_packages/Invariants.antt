use Rattle.std.proofs.Common.{◌≡◌, ◌+◌, ◌≤◌, length}
use Rattle.mmt_lists.specs.Counted.{counted}
use Rattle.mmt_services.specs.PackageReading.{package_at}
use Rattle.mmt_services.proofs.reading_packages.after_packages.Given as goal

abbrev pub invariant-loop-left : goal.invariant-loop-left
invariant-loop-left l = record {
  stop : (counted l.left package_at l.at l.rest).stop ≡ (counted l.count package_at 5 l.bytes).stop;
  rest : (counted l.left package_at l.at l.rest).rest ≡ (counted l.count package_at 5 l.bytes).rest;
  places : l.at + length l.rest ≡ 5 + length l.bytes;
  shorter : length l.rest ≤ length l.bytes;
}

abbrev pub decreases-loop-left : goal.decreases-loop-left
decreases-loop-left l = l.left
