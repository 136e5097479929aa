-- How far a delivery is when all packets of a unit, or of a table, have survived.
use Rattle.std.specs.Prelude.{◌≡◌, ℕ, zero, suc, ◌+◌, ◌<◌, nat_le, nat_lt, Bool, false, ◌==◌, ◌&&◌, max, List, length, get_or, if◌then◌else◌}
use Rattle.mmt_model.specs.Survival.{no_packet}
use Rattle.mmt_model.specs.declared.casts.Carries.{Carries}
use Rattle.mmt_model.specs.declared.casts.Carries.TheVariants as carries
use Rattle.mmt_model.specs.declared.casts.Sent.{Sent}

-- a packet carries a part of a unit
abbrev pub unit_in : ℕ → Carries → Bool
unit_in u (carries.Whole v) = v == u
unit_in u (carries.Fragment v k) = v == u
unit_in u (carries.Group f c) = nat_le f u && nat_lt u (f + c)
unit_in u (carries.Parameters s) = false
unit_in u (carries.Table s) = false
unit_in u (carries.TablePart s k) = false

-- a packet carries a part of the table of a signalling message
abbrev pub signal_in : ℕ → Carries → Bool
signal_in s (carries.Table t) = t == s
signal_in s (carries.TablePart t k) = t == s
signal_in s (carries.Whole u) = false
signal_in s (carries.Fragment u k) = false
signal_in s (carries.Group f c) = false
signal_in s (carries.Parameters t) = false

-- the greatest reach of the first packets that pass a test
unfoldable pub greatest : (Carries → Bool) → List Sent → List ℕ → ℕ → ℕ
greatest test packets reaches zero = 0
greatest test packets reaches (suc i) =
    if test (get_or packets i no_packet).carries then max (greatest test packets reaches i) (get_or reaches i 0) else greatest test packets reaches i

-- so it is at each of N places, of the first packets
pub record AreUpTo (test : ℕ → Carries → Bool) (packets : List Sent) (reaches : List ℕ) (i many : ℕ) (latest : List ℕ) : Type 0 where
  pub long : length latest ≡ many
  pub each : (u : ℕ) → u < many → get_or latest u 0 ≡ greatest (test u) packets reaches i

-- and of all packets
abbrev pub AreLatest : (ℕ → Carries → Bool) → List Sent → List ℕ → ℕ → List ℕ → Type 0
AreLatest test packets reaches many latest = AreUpTo test packets reaches (length packets) many latest

-- the numbers of what a packet carries were raised to at least its reach
pub record IsTaken (test : ℕ → Carries → Bool) (packet : Carries) (reach : ℕ) (old new : List ℕ) : Type 0 where
  pub long : length new ≡ length old
  pub each : (u : ℕ) → u < length old → get_or new u 0 ≡ (if test u packet then max (get_or old u 0) reach else get_or old u 0)

-- the numbers at `count` places from `first` on were raised to at least `least`, and the others are as they were
pub record IsRaised (old new : List ℕ) (first count least : ℕ) : Type 0 where
  pub long : length new ≡ length old
  pub each : (u : ℕ) → u < length old → get_or new u 0 ≡ (if nat_le first u && nat_lt u (first + count) then max (get_or old u 0) least else get_or old u 0)
