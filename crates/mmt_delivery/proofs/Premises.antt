-- What the proofs of the theorem rest on, by part.
use Rattle.std.specs.Prelude.{ℕ, zero, suc, ◌+◌, ◌^◌, ◌≡◌, ◌<◌, ◌≤◌, Bool, ◌&&◌, nat_lt, nat_le, List, [], ◌∷◌, max, length, get_or, if◌then◌else◌}
use Rattle.std.specs.List.{list_any, list_all, flat_map}
use Rattle.std.specs.List.{AllByRecursion}
use Rattle.mmt_model.specs.Broadcast.{Broadcast, CopyPlaces, NamedCast, due_at, due_of_unit, entry_of, presentation_of, unit_of}
use Rattle.mmt_model.specs.Counts.{member}
use Rattle.mmt_model.specs.Delivery.{reach}
use Rattle.mmt_model.specs.Handing.{order_numbers}
use Rattle.mmt_model.specs.Survival.{SentPackets, latest, load, no_packet, sent_at}
use Rattle.mmt_model.specs.declared.casts.Sent.{Sent}
use Rattle.mmt_model.specs.declared.programmes.Params.{Params}

-- each packet of a history lies less than the reach from the greatest timestamp before it
abbrev pub IsNear : List Sent → ℕ → List ℕ → Type 0
IsNear cast start [] = Unit {0}
IsNear cast start (n ∷ older) =
    IsNear cast start older × (sent_at cast n < latest cast start older + reach) × (latest cast start older < sent_at cast n + reach)

-- the first packet of the history has the timestamp at which the clock began
abbrev pub Begins : List Sent → ℕ → List ℕ → Type 0
Begins cast start [] = Unit {0}
Begins cast start (n ∷ []) = sent_at cast n ≡ start
Begins cast start (n ∷ m ∷ older) = Begins cast start (m ∷ older)

-- what the kept list rests on
pub record IsSound (cast : SentPackets) (r : Params) : Type 0 where
  pub short_delay : r.delay < r.window
  pub short_window : r.window ≤ 2 ^ 24
  pub apart : (m n : ℕ) → m < length cast.sent → n < length cast.sent → (get_or cast.sent m no_packet).packet_id ≡ (get_or cast.sent n no_packet).packet_id → (get_or cast.sent m no_packet).number ≡ (get_or cast.sent n no_packet).number → m ≡ n
  pub fits : (n : ℕ) → n < length cast.sent → load cast.sent r.window (sent_at cast.sent n) ≤ r.bound

-- the greatest timestamp of the packets at these places
unfoldable pub last_at : NamedCast → List ℕ → ℕ
last_at cast [] = 0
last_at cast (n ∷ ns) = max (sent_at cast.packets.sent n) (last_at cast ns)

-- how many numbers below n pass
unfoldable pub count_below : (ℕ → Bool) → ℕ → ℕ
count_below p zero = 0
count_below p (suc n) = count_below p n + (if p n then 1 else 0)

-- some copy that ends at this tick or before it names the MPU
unfoldable pub is_named_from : NamedCast → ℕ → ℕ → Bool
is_named_from cast tick m = list_any (λ c. member m c.names && nat_le (last_at cast c.members) tick) cast.copies

-- a right copy of an admitted cast
pub record IsRightCopy (cast : NamedCast) (r : Params) (c : CopyPlaces) : Type 0 where
  pub some : 0 < length c.members
  pub of : AllByRecursion (λ n. n < length cast.packets.sent) c.members
  pub known : AllByRecursion (λ m. m < length cast.mpus) c.names
  pub not_late : AllByRecursion (λ n. AllByRecursion (λ m. sent_at cast.packets.sent n + r.delay < due_at cast m) c.names) c.members
  pub soon : AllByRecursion (λ n. AllByRecursion (λ m. due_at cast m ≤ sent_at cast.packets.sent n + 2 ^ 30) c.names) c.members
  pub together : AllByRecursion (λ n. AllByRecursion (λ k. sent_at cast.packets.sent n + r.delay < sent_at cast.packets.sent k + r.window) c.members) c.members
  pub few : count_below (λ m. is_named_from cast (last_at cast c.members) m && nat_lt (last_at cast c.members) (due_at cast m)) (length cast.mpus) ≤ 1024

pub record IsNaming (cast : NamedCast) (r : Params) : Type 0 where
  pub right : AllByRecursion (IsRightCopy cast r) cast.copies
  pub one_mpu : (m k : ℕ) → m < length cast.mpus → k < length cast.mpus → (entry_of cast m).packet_id ≡ (entry_of cast k).packet_id → (entry_of cast m).mpu ≡ (entry_of cast k).mpu → m ≡ k

-- what the stored packet at place n makes known, where these places are kept: the names of its copy, where all of that copy is kept
unfoldable pub names_made_known : NamedCast → List ℕ → ℕ → List ℕ
names_made_known cast ks n = flat_map (λ c. if member n c.members && list_all (λ k. member k ks) c.members then c.names else []) cast.copies

pub record IsRightUnit (broadcast : Broadcast) (r : Params) (u : ℕ) : Type 0 where
  pub known : (unit_of broadcast u).mpu < length broadcast.cast.mpus
  pub some : 0 < length (unit_of broadcast u).members
  pub of : AllByRecursion (λ n. n < length broadcast.cast.packets.sent) (unit_of broadcast u).members
  pub same_id : (unit_of broadcast u).value.packet_id ≡ (entry_of broadcast.cast (unit_of broadcast u).mpu).packet_id
  pub same_mpu : (unit_of broadcast u).value.mpu ≡ (entry_of broadcast.cast (unit_of broadcast u).mpu).mpu
  pub not_late : AllByRecursion (λ n. sent_at broadcast.cast.packets.sent n + r.delay < due_of_unit broadcast u) (unit_of broadcast u).members
  pub not_gone : AllByRecursion (λ n. due_of_unit broadcast u ≤ sent_at broadcast.cast.packets.sent n + r.window) (unit_of broadcast u).members

pub record IsPlaying (broadcast : Broadcast) (r : Params) : Type 0 where
  pub right : (u : ℕ) → u < length broadcast.units → IsRightUnit broadcast r u
  pub apart : (u v : ℕ) → u < length broadcast.units → v < length broadcast.units → order_numbers (presentation_of broadcast u) ≡ order_numbers (presentation_of broadcast v) → u ≡ v
