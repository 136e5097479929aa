-- The heard packets from the one that tunes on: the clock, and what becomes of each. Lists of packets have the newest first.
use Rattle.std.specs.Prelude.{ℕ, List, [], ◌∷◌}
use Rattle.mmt_model.specs.declared.programmes.Params.{Params}
use Rattle.mmt_model.specs.Packets.{Heard}
use Rattle.mmt_model.specs.Keeping.{Outcome, clock, kept, outcome, still_kept}

-- the clock begins at the timestamp of the packet that tunes (this project's rule)
abbrev pub start_of : List Heard → ℕ
start_of [] = 0
start_of (h ∷ []) = h.time
start_of (h ∷ g ∷ older) = start_of (g ∷ older)

-- the clock after these packets
abbrev pub clock_of : List Heard → ℕ
clock_of history = clock (start_of history) history

-- the clock before a packet behind older ones: where it is the first, its own timestamp
abbrev pub before_of : Heard → List Heard → ℕ
before_of h older = clock (start_of (h ∷ older)) older

-- what is still kept at a packet behind older ones, before it is stored itself
abbrev pub rest_at : Params → Heard → List Heard → List Heard
rest_at r h older = still_kept r (clock_of (h ∷ older)) (kept r (start_of older) older)

-- what becomes of a packet behind older ones
abbrev pub outcome_at : Params → Heard → List Heard → Outcome
outcome_at r h older = outcome r (clock_of (h ∷ older)) (rest_at r h older) h

-- what becomes of each packet
abbrev pub outcomes : Params → List Heard → List Outcome
outcomes r [] = []
outcomes r (h ∷ older) = outcome_at r h older ∷ outcomes r older
