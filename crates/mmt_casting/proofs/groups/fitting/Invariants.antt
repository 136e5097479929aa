use Rattle.std.proofs.Common.{◌≡◌, ◌≤◌, ◌+◌, drop}
use Rattle.mmt_casting.specs.Places.{fits, room_left}
use Rattle.mmt_casting.proofs.groups.fitting.Given as goal

abbrev pub invariant-loop-i : goal.invariant-loop-i
invariant-loop-i l = record {
  from : l.first + l.count ≡ l.i;
  fits : fits l.header l.limit l.at.0 l.limit (drop l.first l.units) ≡ l.count + fits l.header l.limit l.at.0 l.room (drop l.i l.units);
  room : room_left l.header l.limit l.at.0 l.limit (drop l.first l.units) ≡ room_left l.header l.limit l.at.0 l.room (drop l.i l.units);
  within : l.room ≤ l.limit;
}
