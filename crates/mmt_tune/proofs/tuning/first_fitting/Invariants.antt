use Rattle.std.proofs.Common.{◌≡◌, ◌<◌, ◌^◌, length}
use Rattle.std.specs.List.{All}
use Rattle.mmt_sig.specs.View.{messages_left}
use Rattle.mmt_tune.specs.Tuning.{first_fitting}
use Rattle.mmt_tune.proofs.tuning.first_fitting.Given as goal

abbrev pub invariant-loop-message : goal.invariant-loop-message
invariant-loop-message l = record {
  values : first_fitting l.bound (messages_left l.message-iterator) ≡ first_fitting l.bound (messages_left l.messages);
  short : All (λ m. length m < 2 ^ 31) (messages_left l.message-iterator);
}
