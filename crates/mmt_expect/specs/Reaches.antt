-- How far a delivery is when a packet survives. A history is a list of places, the newest first.
use Rattle.std.specs.Prelude.{◌≡◌, ℕ, ◌+◌, ◌-◌, ◌^◌, ◌<◌, nat_le, ◌==◌, ◌&&◌, List, [], ◌∷◌, length, get_or, if◌then◌else◌}
use Rattle.mmt_model.specs.Survival.{latest, sent_at}
use Rattle.mmt_model.specs.declared.casts.Sent.{Sent}

-- a tick after each due tick
abbrev pub never : ℕ
never = 2 ^ 64 - 1

-- the greatest timestamp up to the first occurrence of a packet, where that is not overtaken by more than the delay
unfoldable pub reach : List Sent → ℕ → List ℕ → ℕ → ℕ
reach packets delay [] n = never
reach packets delay (k ∷ older) n =
    if (k == n) && (nat_le (latest packets 0 older) (sent_at packets n + delay) && (reach packets delay older n == never))
    then latest packets 0 (k ∷ older)
    else reach packets delay older n

-- these are the reaches of all packets of a cast
pub record AreReaches (packets : List Sent) (delay : ℕ) (history : List ℕ) (reaches : List ℕ) : Type 0 where
  pub many : length reaches ≡ length packets
  pub each : (n : ℕ) → n < length packets → get_or reaches n 0 ≡ reach packets delay history n
