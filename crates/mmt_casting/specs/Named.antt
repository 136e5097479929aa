-- From when MPUs are named, copy by copy.
use Rattle.std.specs.Prelude.{◌≡◌, ℕ, ◌<◌, Bool, true, false, List, length, get_or, Option, Some, None}
use Rattle.std.specs.List.{AllByRecursion}
use Rattle.mmt_base.specs.declared.ticks.LongTick.{LongTick}
use Rattle.mmt_cast.specs.Casting.{long_tick}
use Rattle.mmt_model.specs.Carrying.{least_with, named_from_of, tick_of}
use Rattle.mmt_model.specs.declared.casts.TableCopy.{TableCopy}

-- from when an MPU is named by further copies and, if it names it, one that ends at a tick
abbrev pub named_with : Bool → LongTick → Option LongTick → Option LongTick
named_with true last before = Some (record { 0 = least_with last.0 (tick_of before) })
named_with false last before = before

-- these are the ticks from which N MPUs are named
pub record AreNamed (mpus : ℕ) (copies : List TableCopy) (named : List (Option LongTick)) : Type 0 where
  pub long : length named ≡ mpus
  pub each : (m : ℕ) → m < mpus → get_or named m None ≡ long_tick (named_from_of m copies)

-- a copy names MPUs that are there
abbrev pub NamesPlaces : ℕ → TableCopy → Type 0
NamesPlaces mpus copy = AllByRecursion (λ p. p < mpus) copy.names
