use Rattle.std.proofs.Common.{◌≡◌, ◌++◌, map}
use Rattle.mmt_cast.specs.Sending.{Sending}
use Rattle.mmt_casting.specs.Numbered.{numbered_packet}
use Rattle.mmt_model.specs.Carrying.{numbers}
use Rattle.mmt_casting.proofs.messages.put_table.Given as goal

abbrev pub invariant-loop-k : goal.invariant-loop-k
invariant-loop-k l = l.out.items ≡ l.initial.out.items ++ map (numbered_packet l.programme (Sending.Table l.message.signal l.message.at l.message.bytes) l.message.number) (numbers 0 l.k)
