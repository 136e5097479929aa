-- Which casts are admitted.
use Rattle.std.specs.Prelude.{ℕ, ◌+◌, ◌^◌, ◌≡◌, ◌<◌, ◌≤◌, true, ◌&&◌, nat_lt, ◌==◌, List, [], ◌∷◌, length, get_or, take, min}
use Rattle.std.specs.List.{count_by}
use Rattle.std.specs.List.{AllByRecursion}
use Rattle.mmt_delivery.proofs.Cutting.{AreTables, IsCut}
use Rattle.mmt_delivery.proofs.Premises.{count_below, is_named_from, last_at}
use Rattle.mmt_model.specs.Broadcast.{Broadcast, CopyPlaces, NamedCast, due_at, due_of_unit, entry_of, unit_of}
use Rattle.mmt_model.specs.Entries.{Entry}
use Rattle.mmt_model.specs.Handing.{key_numbers, precedes}
use Rattle.mmt_model.specs.Survival.{load, no_packet, sent_at}
use Rattle.mmt_model.specs.declared.programmes.Params.{Params}

-- the least timestamp of these packets
unfoldable pub first_at : NamedCast → List ℕ → ℕ
first_at cast [] = 0
first_at cast (n ∷ []) = sent_at cast.packets.sent n
first_at cast (n ∷ m ∷ ns) = min (sent_at cast.packets.sent n) (first_at cast (m ∷ ns))

-- a table copy ends early enough for what it names, and is short
pub record IsTimelyCopy (cast : NamedCast) (r : Params) (c : CopyPlaces) : Type 0 where
  pub early : AllByRecursion (λ m. (last_at cast c.members + r.delay < due_at cast m) × (due_at cast m ≤ first_at cast c.members + 2 ^ 30)) c.names
  pub short : last_at cast c.members + r.delay < first_at cast c.members + r.window
  pub few : count_below (λ m. is_named_from cast (last_at cast c.members) m && nat_lt (last_at cast c.members) (due_at cast m)) (length cast.mpus) ≤ 1024

-- the rules of admission that the receiver's work rests on
pub record IsAdmitted (broadcast : Broadcast) (r : Params) : Type 0 where
  pub delay : 1 ≤ r.delay
  pub window : r.delay < r.window
  pub widest : r.window ≤ 2 ^ 24
  pub numbered : (n : ℕ) → n < length broadcast.cast.packets.sent
      → (get_or broadcast.cast.packets.sent n no_packet).number ≡ count_by (λ p. p.packet_id == (get_or broadcast.cast.packets.sent n no_packet).packet_id) (take n broadcast.cast.packets.sent)
  pub timely : (u : ℕ) → u < length broadcast.units
      → (last_at broadcast.cast (unit_of broadcast u).members + r.delay < due_of_unit broadcast u) × (due_of_unit broadcast u ≤ first_at broadcast.cast (unit_of broadcast u).members + r.window)
  pub copies : AllByRecursion (IsTimelyCopy broadcast.cast r) broadcast.cast.copies
  pub loads : (n : ℕ) → n < length broadcast.cast.packets.sent → load broadcast.cast.packets.sent r.window (sent_at broadcast.cast.packets.sent n) ≤ r.bound
  pub keys : (u v : ℕ) → u < v → v < length broadcast.units → (unit_of broadcast u).mpu ≡ (unit_of broadcast v).mpu
      → precedes (key_numbers ((unit_of broadcast u).value).key) (key_numbers ((unit_of broadcast v).value).key) ≡ true

-- what the parts of a cast have to do with each other
pub record IsWellFormed (broadcast : Broadcast) (names_in : List ℕ → List Entry) : Type 0 where
  pub starts : ℕ → List ℕ
  pub head : ℕ → ℕ
  pub tail : ℕ → List ℕ
  pub cut : IsCut broadcast starts
  pub tables : AreTables broadcast.cast names_in head tail
  pub one_mpu : (m k : ℕ) → m < length broadcast.cast.mpus → k < length broadcast.cast.mpus → (entry_of broadcast.cast m).packet_id ≡ (entry_of broadcast.cast k).packet_id → (entry_of broadcast.cast m).mpu ≡ (entry_of broadcast.cast k).mpu → m ≡ k
  pub unit_mpu : (u : ℕ) → u < length broadcast.units → (unit_of broadcast u).mpu < length broadcast.cast.mpus
  pub unit_id : (u : ℕ) → u < length broadcast.units → ((unit_of broadcast u).value).packet_id ≡ (entry_of broadcast.cast (unit_of broadcast u).mpu).packet_id
  pub unit_number : (u : ℕ) → u < length broadcast.units → ((unit_of broadcast u).value).mpu ≡ (entry_of broadcast.cast (unit_of broadcast u).mpu).mpu
  pub unit_some : (u : ℕ) → u < length broadcast.units → 0 < length (unit_of broadcast u).members
  pub unit_of_cast : (u : ℕ) → u < length broadcast.units → AllByRecursion (λ n. n < length broadcast.cast.packets.sent) (unit_of broadcast u).members
  pub copy_some : AllByRecursion (λ c. 0 < length c.members) broadcast.cast.copies
  pub copy_of_cast : AllByRecursion (λ c. AllByRecursion (λ n. n < length broadcast.cast.packets.sent) c.members) broadcast.cast.copies
  pub copy_names : AllByRecursion (λ c. AllByRecursion (λ m. m < length broadcast.cast.mpus) c.names) broadcast.cast.copies
