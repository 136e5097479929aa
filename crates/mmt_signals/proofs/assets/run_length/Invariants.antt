use Rattle.std.proofs.Common.{◌≡◌, ◌+◌, drop}
use Rattle.std.specs.List.{prefix_len}
use Rattle.mmt_signals.specs.Named.{is_of}
use Rattle.mmt_signals.proofs.assets.run_length.Given as goal

abbrev pub invariant-loop-name : goal.invariant-loop-name
invariant-loop-name l = record {
  count : l.count + prefix_len (is_of l.asset) (drop l.name-index l.names) ≡ prefix_len (is_of l.asset) l.names;
  at : l.count ≡ l.name-index;
}
