use Rattle.std.proofs.Common.{◌≡◌, ◌-◌, length}
use Rattle.std.specs.List.Sorted.{IsPermutation}
use Rattle.mmt_slots.specs.Lines.{in_line, IsSound, AreReleased}
use Rattle.mmt_slots.proofs.line.Line.release.Given as goal

abbrev pub invariant-loop-self : goal.invariant-loop-self
invariant-loop-self l = IsPermutation (in_line l.fn.self) (in_line l.self) × (l.self.order ≡ l.fn.self.order) × IsSound l.self × AreReleased l.slots l.slot l.self

abbrev pub decreases-loop-self : goal.decreases-loop-self
decreases-loop-self l = length l.self.order.items - l.self.at
