-- What a delivery is expected to hand out. It knows no clock, no pool and no state.
use Rattle.std.specs.Prelude.{ℕ, zero, suc, Bool, false, ◌&&◌, ◌||◌, nat_lt, List, [], ◌∷◌, ◌++◌, length, map}
use Rattle.std.specs.List.{filter, list_any, list_all}
use Rattle.mmt_model.specs.Broadcast.{Broadcast, NamedCast, due_of_unit, presentation_of, unit_of}
use Rattle.mmt_model.specs.Counts.{member}
use Rattle.mmt_model.specs.Handing.{Presentation, is_presented_before}
use Rattle.mmt_model.specs.Sorted.{sort_by}
use Rattle.mmt_model.specs.Survival.{sent_at, survives}

-- each packet of these places survived
unfoldable pub is_complete : NamedCast → ℕ → List ℕ → List ℕ → Bool
is_complete cast delay hist members = list_all (survives cast.packets.sent delay hist) members

-- some copy that names the MPU survived whole
unfoldable pub is_named : NamedCast → ℕ → List ℕ → ℕ → Bool
is_named cast delay hist m = list_any (λ c. member m c.names && is_complete cast delay hist c.members) cast.copies

-- a table copy counts for a due tick where all its packets had survived at some moment, up to which no packet had that due tick or a later one (this project's rule)
unfoldable pub is_counted : NamedCast → ℕ → List ℕ → List ℕ → ℕ → Bool
is_counted cast delay [] members due = false
is_counted cast delay (n ∷ older) members due =
    (is_complete cast delay (n ∷ older) members && list_all (λ k. nat_lt (sent_at cast.packets.sent k) due) (n ∷ older)) || is_counted cast delay older members due

-- a unit is expected where each of its packets survived and some copy that names its MPU counts for it (this project's rule)
unfoldable pub is_expected : Broadcast → ℕ → List ℕ → ℕ → Bool
is_expected broadcast delay hist u =
    is_complete broadcast.cast delay hist (unit_of broadcast u).members
    && list_any (λ c. member (unit_of broadcast u).mpu c.names && is_counted broadcast.cast delay hist c.members (due_of_unit broadcast u)) broadcast.cast.copies

-- 0, 1, .. : the numbers below n
unfoldable pub places : ℕ → List ℕ
places zero = []
places (suc n) = places n ++ n ∷ []

-- the expected units of a cast with their times, in the order of handing out (this project's rule)
unfoldable pub expected : Broadcast → ℕ → List ℕ → List Presentation
expected broadcast delay hist = sort_by is_presented_before (map (presentation_of broadcast) (filter (is_expected broadcast delay hist) (places (length broadcast.units))))
