use Rattle.std.proofs.Common.{◌-◌, drop}
use Rattle.mmt_pace.specs.Spanned.{AreSpans, count_of, has_thing}
use Rattle.mmt_pace.proofs.spans.spans_of.Given as goal

abbrev pub invariant-loop-i : goal.invariant-loop-i
invariant-loop-i l = AreSpans (count_of l.cast l.things) (has_thing l.cast l.things) (drop (l.count - l.i) l.packets) l.spans.items
