-- The live entries that a receiver keeps, and the times that they give.
use Rattle.std.specs.Prelude.{◌≡◌, ℕ, Bool, false, ◌&&◌, ◌==◌, List, [], ◌∷◌, Option, Some, None, option_map, if◌then◌else◌, ⊤}
use Rattle.std.specs.List.{list_any}
use Rattle.mmt_base.specs.Ticks.{due_of, is_passed, low}
use Rattle.mmt_model.specs.declared.keys.UnitKey.{UnitKey}
use Rattle.mmt_model.specs.Entries.{Entry, is_of_same_mpu}
use Rattle.mmt_model.specs.Handing.{time_for}

-- the live entries in the order in which they were learned, and the number of the sample that an MPU's first access unit is (this project's rule)
pub record Known : Type 0 where
  pub entries : List Entry
  pub sample_base : ℕ

-- the first entry of a packet id and MPU number (this project's rule)
abbrev pub entry_of : List Entry → ℕ → ℕ → Option Entry
entry_of [] packet_id mpu = None
entry_of (e ∷ es) packet_id mpu = if (e.packet_id == packet_id) && (e.mpu == mpu) then Some e else entry_of es packet_id mpu

-- the time that the first entry of a packet id and MPU number gives a key, where there is one (this project's rule)
abbrev pub time_in : Known → ℕ → ℕ → UnitKey → Option ℕ
time_in k packet_id mpu key = option_map (λ e. time_for k.sample_base e key) (entry_of k.entries packet_id mpu)

-- the clock passes the due tick of a time of an entry, its own or an access unit's, on its way from one tick to another (this project's rule)
abbrev pub has_due : ℕ → ℕ → Entry → Bool
has_due from to e = list_any (λ t. is_passed (low (due_of t)) from to) (e.time ∷ e.aus)

-- no two entries are of the same MPU (this project's rule)
unfoldable pub HasOneEach : List Entry → Type 0
HasOneEach [] = ⊤
HasOneEach (e ∷ es) = (list_any (is_of_same_mpu e) es ≡ false) × HasOneEach es
