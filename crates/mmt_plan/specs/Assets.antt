-- Assets of a plan (this project's rules).
use Rattle.std.specs.Prelude.{ℕ, ◌+◌, ◌-◌, ◌*◌, ◌^◌, Bool, ◌&&◌, nat_le, List, [], ◌∷◌, codes, Option, Some, None, option_and_then, Result, Ok, if◌then◌else◌}
use Rattle.serde_json.specs.Data.{Data}
use Rattle.serde_json.specs.Find.{as_str}
use Rattle.mmt_model.specs.declared.programmes.Asset.{Asset}
use Rattle.mmt_plan.specs.Members.{is_object_at, right_member, number_at, text_at, boolean_at, list_from_at, no_other_at}
use Rattle.mmt_plan.specs.Mpus.{mpu_at}
use Rattle.mmt_plan.specs.Names.{place_of, with_name}
use Rattle.mmt_plan.specs.Places.{spot_of}
use Rattle.mmt_plan.specs.Reading.{◌>>=◌}
use Rattle.mmt_plan.specs.declared.ends.PlanPart.TheVariants as parts
use Rattle.mmt_plan.specs.declared.ends.Refusal.{Refusal}
use Rattle.mmt_plan.specs.declared.spots.Spot.{Spot}

-- a byte is of the ASCII characters that are printed
abbrev pub is_printed : ℕ → Bool
is_printed byte = nat_le 32 byte && nat_le byte 126

-- the asset type of four characters, as the number that their bytes are
abbrev pub kind_in : List ℕ → Option ℕ
kind_in [] = None
kind_in (a ∷ []) = None
kind_in (a ∷ b ∷ []) = None
kind_in (a ∷ b ∷ c ∷ []) = None
kind_in (a ∷ b ∷ c ∷ d ∷ []) = if is_printed a && is_printed b && is_printed c && is_printed d then Some (a * 16777216 + b * 65536 + c * 256 + d) else None
kind_in (a ∷ b ∷ c ∷ d ∷ e ∷ more) = None

-- the type of an asset
unfoldable pub kind_at : Spot → Data → Result ℕ Refusal
kind_at s d = right_member (λ v. option_and_then kind_in (as_str v)) s 3 (codes "type") d

-- the members of an asset
abbrev pub asset_keys : List (List ℕ)
asset_keys = codes "packet_id" ∷ codes "id" ∷ codes "type" ∷ codes "timed" ∷ codes "timescale" ∷ codes "file" ∷ codes "mpus" ∷ []

-- the asset that a value is at its spot, and the names of files with its own
unfoldable pub asset_of : Spot → List (List ℕ) → Data → Result (Asset × List (List ℕ)) Refusal
asset_of s files d = do
  _ ← is_object_at s d
  packet_id ← number_at 1 65535 s 1 (codes "packet_id") d
  id ← text_at 1 255 s 2 (codes "id") d
  kind ← kind_at s d
  timed ← boolean_at s 4 (codes "timed") d
  timescale ← number_at 1 (2 ^ 32 - 1) s 5 (codes "timescale") d
  file ← text_at 1 255 s 6 (codes "file") d
  mpus ← list_from_at mpu_at 1 (record s { timed = timed }) 7 (codes "mpus") d
  _ ← no_other_at s asset_keys d
  Ok (record { packet_id = packet_id; id = id; kind = kind; timed = timed; timescale = timescale; file = place_of file files; mpus = mpus }, with_name file files)

-- the asset of a number, and the names of files with its own
abbrev pub asset_at : Spot → List (List ℕ) → ℕ → Data → Result (Asset × List (List ℕ)) Refusal
asset_at s files n d = asset_of (spot_of parts.Asset n s) files d
