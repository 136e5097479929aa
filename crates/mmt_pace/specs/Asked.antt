-- What is asked of a cast that is paced, and of the slots that are given to its packets (this project's rules).
use Rattle.std.specs.Prelude.{◌≡◌, ℕ, ◌+◌, ◌<◌, ◌≤◌, ◌^◌, Bool, ◌==◌, List, [], ◌∷◌, length, None}
use Rattle.std.specs.List.{AllByRecursion, IsDistinct}
use Rattle.mmt_admit.specs.Faults.{IsReadable}
use Rattle.mmt_cast.specs.Casting.{cast_of}
use Rattle.mmt_cast.specs.Refusing.{refusal}
use Rattle.mmt_model.specs.Carrying.{copy_place}
use Rattle.mmt_model.specs.Right.{IsRight}
use Rattle.mmt_model.specs.declared.casts.Carries.{Carries}
use Rattle.mmt_model.specs.declared.casts.Carries.TheVariants as carries
use Rattle.mmt_model.specs.declared.casts.Cast.{Cast}
use Rattle.mmt_model.specs.declared.casts.Sent.{Sent}
use Rattle.mmt_model.specs.declared.casts.TableCopy.{TableCopy}
use Rattle.mmt_model.specs.declared.programmes.Programme.{Programme}
use Rattle.mmt_slots.specs.Schedule.{slot_of}
use Rattle.mmt_slots.specs.declared.row.Slots.{Slots}

-- the units that a packet carries, or the table copy of which it carries a part, are those of the cast
abbrev pub IsCarriedBy : Cast → Carries → Type 0
IsCarriedBy cast (carries.Whole u) = u < length cast.units
IsCarriedBy cast (carries.Fragment u k) = u < length cast.units
IsCarriedBy cast (carries.Group f c) = (1 ≤ c) × (f + c ≤ length cast.units)
IsCarriedBy cast (carries.Parameters s) = Unit {0}
IsCarriedBy cast (carries.Table s) = copy_place cast.copies s < length cast.copies
IsCarriedBy cast (carries.TablePart s k) = copy_place cast.copies s < length cast.copies

-- the table copies stand in the order of the signalling messages that they are
abbrev pub AreListed : List TableCopy → Type 0
AreListed [] = Unit {0}
AreListed (c ∷ cs) = AllByRecursion (λ (d : TableCopy). c.signal < d.signal) cs × AreListed cs

-- the casts that may be paced: admission may be asked about them, what their packets carry is theirs, and their table copies stand in order
pub record CanBePaced (cast : Cast) : Type 0 where
  pub readable : IsReadable cast
  pub carried : AllByRecursion (λ p. IsCarriedBy cast p.carries) cast.packets
  pub listed : AreListed cast.copies

-- the cast of a right programme that has one may be paced
abbrev pub CastsCanBePaced : Type 0
CastsCanBePaced = (programme : Programme) → IsRight programme → refusal programme ≡ None → CanBePaced (cast_of programme)

-- a row of slots as a schedule asks for it
pub record IsRow (slots : Slots) : Type 0 where
  pub step : 1 ≤ slots.step
  pub count : slots.count ≤ 2 ^ 24
  pub start : slots.start ≤ 2 ^ 48

-- one slot of the row for each of N packets, all different
pub record AreGiven (packets : ℕ) (slots : Slots) (given : List ℕ) : Type 0 where
  pub one_each : length given ≡ packets
  pub in_row : (n : ℕ) → n < packets → slot_of given n < slots.count
  pub own : (m n : ℕ) → m < packets → n < packets → slot_of given m ≡ slot_of given n → m ≡ n

-- two packets have one timestamp
abbrev pub have_one_tick : Sent → Sent → Bool
have_one_tick p q = p.at.0 == q.at.0

-- no two of these packets have one timestamp
abbrev pub AreApart : List Sent → Type 0
AreApart packets = IsDistinct have_one_tick packets
