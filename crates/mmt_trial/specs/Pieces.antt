-- The pieces of a stream that stand in memory one after the other (this project's rules).
use Rattle.std.specs.Prelude.{ℕ, ◌-◌, ◌≤◌, List, take, drop}
use Rattle.std.specs.List.{AllByRecursion}
use Rattle.mmt_trial.specs.declared.recording.Span.{Span}

-- the bytes of a span
abbrev pub piece_in : List ℕ → Span → List ℕ
piece_in bytes span = take (span.to - span.from) (drop span.from bytes)

-- spans lie within N bytes
abbrev pub AreWithin : ℕ → List Span → Type 0
AreWithin total spans = AllByRecursion (λ span. (span.from ≤ span.to) × (span.to ≤ total)) spans
