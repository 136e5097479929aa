-- The parts of a unit or message, and the payload of a part.
use Rattle.std.specs.Prelude.{◌≡◌, ℕ, ◌+◌, ◌-◌, ◌*◌, ◌==◌, Bool, true, false, min, List, [], ◌∷◌, if◌then◌else◌}
use Rattle.mmt_frag.specs.Cuts.{part_length, parts}
use Rattle.mmt_frag.specs.declared.cutting.PartOf.{PartOf}
use Rattle.mmt_model.specs.Carrying.{role}
use Rattle.mmt_model.specs.declared.keys.Part.{Part}
use Rattle.mmt_model.specs.declared.keys.UnitKey.{UnitKey}
use Rattle.mmt_model.specs.declared.programmes.Unit.{Unit as PlannedUnit}
use Rattle.mmt_mpu.specs.Spelling.{Value, head_length}
use Rattle.mmt_model.specs.declared.keys.Part.TheVariants as part
use Rattle.mmt_model.specs.declared.keys.UnitKey.TheVariants as keys

-- which part of so many it is: the whole where it is the only one (ISO/IEC 23008-1, the fragmentation indicator)
unfoldable pub part_role : ℕ → ℕ → Part
part_role k count = if count == 1 then part.Whole else role k count

-- part number k of a unit or message: where it begins, its length, which part it is, and how many follow, 255 where there are more (ISO/IEC 23008-1, the fragment counter)
abbrev pub part_at : ℕ → ℕ → ℕ → PartOf
part_at length limit k =
    record {
      from = k * limit;
      length = part_length length limit k;
      part = part_role k (parts length limit);
      left = min (parts length limit - 1 - k) 255;
    }

-- a key is one of timed media
abbrev pub is_timed : UnitKey → Bool
is_timed (keys.Timed movie_fragment sample offset) = true
is_timed (keys.Item item) = false

-- an item has no priority and no dependency (ISO/IEC 23008-1, the data unit header)
abbrev pub IsPlainItem : UnitKey → ℕ → ℕ → Type 0
IsPlainItem (keys.Timed movie_fragment sample offset) priority dependency = Unit {0}
IsPlainItem (keys.Item item) priority dependency = (priority ≡ 0) × (dependency ≡ 0)

-- the payload of a part of a unit: it has the unit's header and these bytes (ISO/IEC 23008-1, the MPU payload; that each part has the header is this project's rule)
abbrev pub part_payload : ℕ → PlannedUnit → PartOf → List ℕ → Value
part_payload mpu unit cut bytes =
    record {
      head = record { timed = is_timed unit.key; part = cut.part; aggregated = false; counter = cut.left; mpu = mpu };
      units = record { head = record { key = unit.key; priority = unit.priority; dependency = unit.dependency }; from = 8 + head_length (is_timed unit.key); bytes = bytes } ∷ [];
    }
