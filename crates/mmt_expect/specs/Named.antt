-- How far a delivery is when an MPU is first named.
use Rattle.std.specs.Prelude.{◌≡◌, ℕ, zero, suc, ◌<◌, min, List, length, get_or, if◌then◌else◌}
use Rattle.mmt_expect.specs.Reaches.{never}
use Rattle.mmt_model.specs.Carrying.{no_table_copy}
use Rattle.mmt_model.specs.Counts.{member}
use Rattle.mmt_model.specs.declared.casts.TableCopy.{TableCopy}

-- the least reach of the first table copies that name an MPU
unfoldable pub least_named : List TableCopy → List ℕ → ℕ → ℕ → ℕ
least_named copies signals m zero = never
least_named copies signals m (suc i) =
    let copy = get_or copies i no_table_copy in
    if member m copy.names then min (least_named copies signals m i) (get_or signals copy.signal 0) else least_named copies signals m i

-- so it is of each of N MPUs, of the first copies
pub record AreNamedBy (copies : List TableCopy) (signals : List ℕ) (i mpus : ℕ) (named : List ℕ) : Type 0 where
  pub long : length named ≡ mpus
  pub each : (m : ℕ) → m < mpus → get_or named m 0 ≡ least_named copies signals m i

-- and of all copies
abbrev pub AreNamed : List TableCopy → List ℕ → ℕ → List ℕ → Type 0
AreNamed copies signals mpus named = AreNamedBy copies signals (length copies) mpus named

-- the numbers at these places were lowered to at most `greatest`, and the others are as they were
pub record IsLowered (old new : List ℕ) (places : List ℕ) (greatest : ℕ) : Type 0 where
  pub long : length new ≡ length old
  pub each : (m : ℕ) → m < length old → get_or new m 0 ≡ (if member m places then min (get_or old m 0) greatest else get_or old m 0)
