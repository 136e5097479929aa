-- Notes that go out one after another.
use Rattle.std.specs.Prelude.{◌≡◌, ℕ, List, ◌++◌}
use Rattle.mmt_io.specs.History.{Event}
use Rattle.mmt_io.specs.Output.{only_noted, Puts}

-- of these lines the first were noted, and those that are left were not (this project's rule)
pub record Begun (old now : List Event) (all left : List ℕ) : Type 0 where
  pub front : List ℕ
  pub whole : all ≡ front ++ left
  pub puts : Puts old now (only_noted front)
