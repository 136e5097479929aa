-- Units of a plan (this project's rules).
use Rattle.std.specs.Prelude.{ℕ, ◌+◌, ◌-◌, ◌^◌, Bool, true, false, List, [], ◌∷◌, codes, Result, Ok}
use Rattle.serde_json.specs.Data.{Data}
use Rattle.mmt_model.specs.declared.keys.UnitKey.TheVariants.{Timed, Item}
use Rattle.mmt_model.specs.declared.programmes.Unit as model
use Rattle.mmt_plan.specs.Members.{is_object_at, number_at, no_other_at}
use Rattle.mmt_plan.specs.Reading.{◌>>=◌}
use Rattle.mmt_plan.specs.declared.ends.Refusal.{Refusal}
use Rattle.mmt_plan.specs.declared.spots.Spot.{Spot}
use Rattle.mmt_plan.specs.declared.units.UnitHeader.{UnitHeader}

-- the members of a unit of timed media
abbrev pub timed_keys : List (List ℕ)
timed_keys = codes "at" ∷ codes "from" ∷ codes "length" ∷ codes "movie_fragment" ∷ codes "sample" ∷ codes "offset" ∷ codes "priority" ∷ codes "dependency" ∷ []

-- the members of an item
abbrev pub item_keys : List (List ℕ)
item_keys = codes "at" ∷ codes "from" ∷ codes "length" ∷ codes "item" ∷ []

-- the header of a unit of timed media
unfoldable pub timed_at : Spot → Data → Result UnitHeader Refusal
timed_at s d = do
  movie_fragment ← number_at 0 (2 ^ 32 - 1) s 4 (codes "movie_fragment") d
  sample ← number_at 0 (2 ^ 32 - 1) s 5 (codes "sample") d
  offset ← number_at 0 (2 ^ 32 - 1) s 6 (codes "offset") d
  priority ← number_at 0 255 s 7 (codes "priority") d
  dependency ← number_at 0 255 s 8 (codes "dependency") d
  _ ← no_other_at s timed_keys d
  Ok (record { key = Timed movie_fragment sample offset; priority = priority; dependency = dependency })

-- the header of an item
unfoldable pub item_at : Spot → Data → Result UnitHeader Refusal
item_at s d = do
  item ← number_at 0 (2 ^ 32 - 1) s 4 (codes "item") d
  _ ← no_other_at s item_keys d
  Ok (record { key = Item item; priority = 0; dependency = 0 })

-- the header of a unit
abbrev pub header_at : Bool → Spot → Data → Result UnitHeader Refusal
header_at true s d = timed_at s d
header_at false s d = item_at s d

-- the unit that a value is
unfoldable pub unit_at : Spot → Data → Result model.Unit Refusal
unit_at s d = do
  _ ← is_object_at s d
  at ← number_at 0 (2 ^ 47) s 1 (codes "at") d
  from ← number_at 0 (2 ^ 40) s 2 (codes "from") d
  length ← number_at 1 16777216 s 3 (codes "length") d
  header ← header_at s.timed s d
  Ok (record { at = record { 0 = s.start + at }; from = from; length = length; key = header.key; priority = header.priority; dependency = header.dependency })
