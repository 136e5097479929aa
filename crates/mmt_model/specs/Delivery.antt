-- Deliveries: lists of places of a cast, lost, repeated and reordered, in the order in which they come.
use Rattle.std.specs.Prelude.{ℕ, ◌+◌, ◌%◌, ◌<◌, Bool, ◌||◌, ◌==◌, List, [], ◌∷◌, max, if◌then◌else◌}
use Rattle.mmt_model.specs.Survival.{latest, sent_at}
use Rattle.mmt_model.specs.declared.casts.Sent.{Sent}

-- the places from the first that is heard: with compressed headers, from the first with a full one (ARIB STD-B32 Part 3, header compression)
unfoldable pub from_heard : ℕ → List ℕ → List ℕ
from_heard full_every [] = []
from_heard full_every (d ∷ ds) = if (full_every == 0) || (d % full_every == 0) then d ∷ ds else from_heard full_every ds

-- the items from the first that passes a test
unfoldable pub from_first : {X : Type 0} → (X → Bool) → List X → List X
from_first test [] = []
from_first test (x ∷ xs) = if test x then x ∷ xs else from_first test xs

-- a list in the order of the stream, turned and put onto older items
unfoldable pub onto : {X : Type 0} → List X → List X → List X
onto [] older = older
onto (x ∷ xs) older = onto xs (x ∷ older)

-- a list in the order of the stream as a history
unfoldable pub newest_first : {X : Type 0} → List X → List X
newest_first xs = onto xs []

-- the ticks that a packet may be behind or ahead of the greatest timestamp before it: 8 hours, 57 minutes and 36 seconds (this project's rule)
abbrev pub reach : ℕ
reach = 2113929216

-- each of these places lies less than the reach from the greatest timestamp before it
abbrev pub NearAfter : List Sent → ℕ → List ℕ → Type 0
NearAfter packets latest [] = Unit {0}
NearAfter packets latest (d ∷ ds) =
    (sent_at packets d < latest + reach) × (latest < sent_at packets d + reach) × NearAfter packets (max latest (sent_at packets d)) ds

-- a delivery from its tuning packet on is near (this project's rule)
abbrev pub NearDelivery : List Sent → List ℕ → Type 0
NearDelivery packets [] = Unit {0}
NearDelivery packets (t ∷ ds) = NearAfter packets (sent_at packets t) ds

-- when the clock begins: the timestamp of the tuning packet
unfoldable pub start_of : List Sent → List ℕ → ℕ
start_of packets [] = 0
start_of packets (t ∷ ds) = sent_at packets t

-- the places of a delivery from the one that tunes
abbrev pub tuned : ℕ → (ℕ → Bool) → List ℕ → List ℕ
tuned full_every tunes ds = from_first tunes (from_heard full_every ds)
