-- The bytes of what packets carry are there (this project's rule).
use Rattle.std.specs.Prelude.{◌≡◌, ℕ, ◌+◌, ◌*◌, ◌≤◌, true, min, List, length}
use Rattle.mmt_cast.specs.Right.{unit_at, unit_bytes}
use Rattle.mmt_model.specs.Carrying.{has_part}
use Rattle.mmt_model.specs.declared.casts.Carries.{Carries}
use Rattle.mmt_model.specs.declared.programmes.Programme.{Programme}
use Rattle.mmt_send.specs.Files.{IsUnitShort}

-- a file has the bytes of a unit as far as the end of part k
abbrev pub HasPart : Programme → (ℕ → List ℕ) → ℕ → ℕ → Type 0
HasPart programme files u k = min (k * programme.limit + programme.limit) (unit_at programme u).value.length ≤ length (unit_bytes files (unit_at programme u))

-- so it is of each part of a unit that a packet carries
abbrev pub AreHeld : Programme → (ℕ → List ℕ) → Carries → Type 0
AreHeld programme files c = (u k : ℕ) → has_part u k c ≡ true → HasPart programme files u k

-- no unit is short: each file has the bytes of its units
abbrev pub AreWhole : Programme → (ℕ → List ℕ) → Type 0
AreWhole programme files = (unit size held : ℕ) → IsUnitShort programme files unit size held → ⊥
