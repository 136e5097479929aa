-- What the objects of a plan ask of each other (this project's rules).
use Rattle.std.specs.Prelude.{ℕ, ◌+◌, Bool, false, nat_lt, List, [], ◌∷◌, length, map, slice_get, Option, Some, None, Result, Ok, Err, if◌then◌else◌}
use Rattle.std.specs.List.{list_all}
use Rattle.mmt_model.specs.declared.programmes.Asset.{Asset}
use Rattle.mmt_model.specs.declared.programmes.Programme.{Programme}
use Rattle.mmt_model.specs.declared.programmes.Signal.{Signal}
use Rattle.mmt_model.specs.declared.programmes.Signal.TheVariants as signals
use Rattle.mmt_plan.specs.Places.{refused, spot_of}
use Rattle.mmt_plan.specs.Reading.{◌>>=◌}
use Rattle.mmt_plan.specs.Tops.{top_spot}
use Rattle.mmt_plan.specs.Twice.{first_twice}
use Rattle.mmt_plan.specs.declared.ends.PlanPart.TheVariants as parts
use Rattle.mmt_plan.specs.declared.ends.Reason.TheVariants.{PacketIdTwice, MpuTwice, NoSuchMpu}
use Rattle.mmt_plan.specs.declared.ends.Refusal.{Refusal}

-- there is no place that is refused
abbrev pub unless_at : (ℕ → Refusal) → Option ℕ → Result (Unit {0}) Refusal
unless_at refusal None = Ok tt
unless_at refusal (Some n) = Err (refusal n)

-- no two assets have one packet id
unfoldable pub are_ids_once : List Asset → Result (Unit {0}) Refusal
are_ids_once assets = unless_at (λ n. refused PacketIdTwice 1 (spot_of parts.Asset n top_spot)) (first_twice [] 0 (map (λ a. a.packet_id) assets))

-- no two MPUs of an asset have one number
unfoldable pub are_numbers_once : ℕ → Asset → Result (Unit {0}) Refusal
are_numbers_once n a = unless_at (λ m. refused MpuTwice 1 (spot_of parts.Mpu m (spot_of parts.Asset n top_spot))) (first_twice [] 0 (map (λ m. m.number) a.mpus))

-- an asset that may be there has an MPU at a place
abbrev pub has_mpu : ℕ → Option Asset → Bool
has_mpu m None = false
has_mpu m (Some a) = nat_lt m (length a.mpus)

-- there is an MPU at these places
abbrev pub is_named : List Asset → ℕ × ℕ → Bool
is_named assets name = has_mpu name.1 (slice_get assets name.0)

-- there is each MPU that a table names
unfoldable pub are_named : List Asset → ℕ → Signal → Result (Unit {0}) Refusal
are_named assets n (signals.Parameters at) = Ok tt
are_named assets n (signals.Table at names) = if list_all (is_named assets) names then Ok tt else Err (refused NoSuchMpu 3 (spot_of parts.Signal n top_spot))

-- each item passes a check, where the first has this number
unfoldable pub each_checked : {A : Type 0} → (ℕ → A → Result (Unit {0}) Refusal) → ℕ → List A → Result (Unit {0}) Refusal
each_checked check n [] = Ok tt
each_checked check n (x ∷ xs) = do
  _ ← check n x
  each_checked check (n + 1) xs

-- the programme, where its objects are what they ask of each other
unfoldable pub agreeing : Programme → Result Programme Refusal
agreeing p = do
  _ ← are_ids_once p.assets
  _ ← each_checked are_numbers_once 0 p.assets
  _ ← each_checked (are_named p.assets) 0 p.signals
  Ok p
