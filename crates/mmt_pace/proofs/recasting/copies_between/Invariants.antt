use Rattle.std.proofs.Common.{◌≡◌, List, get_or}
use Rattle.mmt_model.specs.Carrying.{no_table_copy}
use Rattle.mmt_model.specs.declared.casts.Sent.{Sent}
use Rattle.mmt_pace.proofs.Between.{made_to}
use Rattle.mmt_pace.specs.Recast.{copy_in_packets}
use Rattle.mmt_pace.specs.Spanned.{AreCopySpans}
use Rattle.mmt_pace.proofs.recasting.copies_between.Given as goal

abbrev pub invariant-loop-n : goal.invariant-loop-n
invariant-loop-n l = (packets : List Sent) → AreCopySpans l.fn.copies packets l.fn.spans → l.between.items ≡ made_to (λ i. copy_in_packets packets (get_or l.fn.copies i no_table_copy)) l.n
