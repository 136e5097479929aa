-- Places of a cast, one by one.
use Rattle.std.proofs.Common.{ℕ, ◌<◌, List, [], ◌∷◌, length}
use Rattle.std.specs.List.{AllByRecursion}
use Rattle.mmt_model.specs.Survival.{AreOf}
use Rattle.mmt_model.specs.declared.casts.Sent.{Sent}

pub of-each : (packets : List Sent) (list : List ℕ) → AllByRecursion (λ (d : ℕ). d < length packets) list → AreOf packets list
of-each packets [] h = tt
of-each packets (d ∷ list) h = (h.0, of-each packets list h.1)
