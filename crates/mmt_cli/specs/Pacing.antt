-- What `pace` does.
use Rattle.std.specs.Prelude.{◌≡◌, ℕ, List, Option, Result}
use Rattle.mmt_mux.specs.Pacing.{IsPaceAnswer, PaceSends}
use Rattle.mmt_mux.specs.declared.ends.PaceEnd.{PaceEnd}
use Rattle.mmt_cli.specs.Moments.{Moment}
use Rattle.mmt_cli.specs.Statuses.{status_of_pace}
use Rattle.mmt_cli.specs.declared.status.Status.{Status}

-- `pace` writes the stream of the plan of a name over its cast that is paced with a step, which is admitted, where it is done. It is refused if and only if the plan, its cast or its files are; it is not paced only where an interval of the cast has more packets than slots; it is not admitted only where the paced cast has a fault; and then it writes nothing. Otherwise it writes a prefix of that stream, or nothing. It reads and notes nothing (this project's rule).
pub record Paces (file : List ℕ → Option (List ℕ)) (name : List ℕ) (step : ℕ) (outcome : Status) (old new : Moment) : Type 0 where
  pub end : Result (Unit {0}) PaceEnd
  pub told : outcome ≡ status_of_pace end
  pub answer : IsPaceAnswer file name step end
  pub sent : PaceSends file name step end old.history new.history
