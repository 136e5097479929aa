-- Which casts are admitted: ten rules, and the first fault. All rules are this project's.
use Rattle.std.specs.Prelude.{ℕ, zero, suc, ◌+◌, ◌-◌, Bool, true, false, not, ◌&&◌, ◌||◌, nat_lt, nat_le, ◌==◌, List, [], ◌∷◌, length, get_or, take, Option, Some, None, if◌then◌else◌}
use Rattle.std.specs.List.{count_by}
use Rattle.mmt_base.specs.declared.ticks.LongTick.{LongTick}
use Rattle.mmt_model.specs.Carrying.{sent_mpu, sent_unit, table_copy}
use Rattle.mmt_model.specs.Handing.{key_numbers, precedes}
use Rattle.mmt_model.specs.Survival.{load, no_packet, sent_at}
use Rattle.mmt_model.specs.declared.casts.Carries.{Carries}
use Rattle.mmt_model.specs.declared.casts.Cast.{Cast}
use Rattle.mmt_model.specs.declared.casts.Sent.{Sent}
use Rattle.mmt_model.specs.declared.casts.SentMpu.{SentMpu}
use Rattle.mmt_model.specs.declared.casts.SentUnit.{SentUnit}
use Rattle.mmt_model.specs.declared.keys.UnitKey.{UnitKey}
use Rattle.mmt_model.specs.declared.programmes.Params.{Params}
use Rattle.mmt_model.specs.declared.casts.Carries.TheVariants as carries
use Rattle.mmt_model.specs.declared.keys.UnitKey.TheVariants as keys

-- the first fault of a cast: the number of the rule, the lowest number at which it fails, and what was found and what is allowed there
pub record Fault : Type 0 where
  pub rule : ℕ
  pub number : ℕ
  pub found : ℕ
  pub allowed : ℕ

-- a fault where a test fails
abbrev pub unless : Bool → ℕ → ℕ → ℕ → ℕ → Option Fault
unless true rule number found allowed = None
unless false rule number found allowed = Some (record { rule = rule; number = number; found = found; allowed = allowed })

-- the first of two faults
abbrev pub or_else : Option Fault → Option Fault → Option Fault
or_else None later = later
or_else (Some fault) later = Some fault

-- the first of the faults at 0, 1, .. below n
unfoldable pub first_below : (ℕ → Option Fault) → ℕ → Option Fault
first_below fault_at zero = None
first_below fault_at (suc n) = or_else (first_below fault_at n) (fault_at n)

-- the first of the faults at these places
unfoldable pub first_among : (ℕ → Option Fault) → List ℕ → Option Fault
first_among fault_at [] = None
first_among fault_at (m ∷ ms) = or_else (fault_at m) (first_among fault_at ms)

-- rule 1: the buffer message's values are in their ranges
unfoldable pub fault_of_params : Params → Option Fault
fault_of_params p =
    or_else (unless (nat_le 1 p.delay) 1 0 p.delay 1)
    (or_else (unless (nat_lt p.delay p.window) 1 1 p.window (p.delay + 1))
    (or_else (unless (nat_le p.window 16777216) 1 2 p.window 16777216)
    (or_else (unless (nat_le 1 p.bound) 1 3 p.bound 1)
    (unless (nat_le p.bound 1073741824) 1 4 p.bound 1073741824))))

-- rule 2: a timestamp is not below the one before it, and less than 2^30 ticks above it
unfoldable pub fault_of_gap : List Sent → ℕ → Option Fault
fault_of_gap packets zero = None
fault_of_gap packets (suc n) =
    or_else (unless (nat_le (sent_at packets n) (sent_at packets (suc n))) 2 (suc n) (sent_at packets (suc n)) (sent_at packets n))
    (unless (nat_lt (sent_at packets (suc n)) (sent_at packets n + 1073741824)) 2 (suc n) (sent_at packets (suc n)) (sent_at packets n + 1073741823))

-- how many packets before this one have its packet id
unfoldable pub count_before : List Sent → ℕ → ℕ
count_before packets n = count_by (λ p. p.packet_id == (get_or packets n no_packet).packet_id) (take n packets)

-- rule 3: a packet's number is the count of earlier packets of its packet id
unfoldable pub fault_of_number : List Sent → ℕ → Option Fault
fault_of_number packets n = unless ((get_or packets n no_packet).number == count_before packets n) 3 n (get_or packets n no_packet).number (count_before packets n)

-- rule 4: a unit is due more than the delay after its last packet, and no later than the window after its first
unfoldable pub fault_of_unit : Cast → ℕ → Option Fault
fault_of_unit cast u =
    or_else (unless (nat_lt ((sent_unit cast u).last.0 + cast.params.delay) (sent_unit cast u).due.0) 4 u ((sent_unit cast u).last.0 + cast.params.delay) ((sent_unit cast u).due.0 - 1))
    (unless (nat_le (sent_unit cast u).due.0 ((sent_unit cast u).first.0 + cast.params.window)) 4 u (sent_unit cast u).due.0 ((sent_unit cast u).first.0 + cast.params.window))

-- rule 5, for an MPU that a copy names: its last due tick is more than the delay after the copy's last packet, and at most 2^30 ticks after its first
unfoldable pub fault_of_name : Cast → ℕ → ℕ → Option Fault
fault_of_name cast c m =
    or_else (unless (nat_lt ((table_copy cast c).last.0 + cast.params.delay) (sent_mpu cast m).last.0) 5 c ((table_copy cast c).last.0 + cast.params.delay) ((sent_mpu cast m).last.0 - 1))
    (unless (nat_le (sent_mpu cast m).last.0 ((table_copy cast c).first.0 + 1073741824)) 5 c (sent_mpu cast m).last.0 ((table_copy cast c).first.0 + 1073741824))

-- rule 5: so for each MPU that the copy names; then the copy's last packet and the delay come before its first and the window
unfoldable pub fault_of_copy : Cast → ℕ → Option Fault
fault_of_copy cast c =
    or_else (first_among (fault_of_name cast c) (table_copy cast c).names)
    (unless (nat_lt ((table_copy cast c).last.0 + cast.params.delay) ((table_copy cast c).first.0 + cast.params.window)) 5 c ((table_copy cast c).last.0 + cast.params.delay) ((table_copy cast c).first.0 + cast.params.window - 1))

-- rule 6: the payload bytes in the window that ends with a packet are no more than the bound
unfoldable pub fault_of_load : Cast → ℕ → Option Fault
fault_of_load cast n =
    unless (nat_le (load cast.packets cast.params.window (sent_at cast.packets n)) cast.params.bound) 6 n (load cast.packets cast.params.window (sent_at cast.packets n)) cast.params.bound

-- an MPU is named at this tick or before it
abbrev pub is_named_by : ℕ → Option LongTick → Bool
is_named_by tick None = false
is_named_by tick (Some from) = nat_le from.0 tick

-- how many MPUs are named at this tick or before it and have a later last due tick
unfoldable pub live_at : List SentMpu → ℕ → ℕ
live_at mpus tick = count_by (λ m. is_named_by tick m.named_from && nat_lt tick m.last.0) mpus

-- rule 7: where a copy ends, at most 1,024 MPUs are live
unfoldable pub fault_of_live : Cast → ℕ → Option Fault
fault_of_live cast c =
    unless (nat_le (live_at cast.mpus (table_copy cast c).last.0) 1024) 7 c (live_at cast.mpus (table_copy cast c).last.0) 1024

-- the sample or the item of a key
abbrev pub sample_or_item : UnitKey → ℕ
sample_or_item (keys.Item item) = item
sample_or_item (keys.Timed movie_fragment sample offset) = sample

-- two units are of one MPU
unfoldable pub is_of_one_mpu : SentUnit → SentUnit → Bool
is_of_one_mpu u v = (u.asset == v.asset) && (u.mpu == v.mpu)

-- rule 8: in each MPU the keys of the units rise strictly
unfoldable pub fault_of_key : Cast → ℕ → Option Fault
fault_of_key cast zero = None
fault_of_key cast (suc u) =
    unless (not (is_of_one_mpu (sent_unit cast u) (sent_unit cast (suc u))) || precedes (key_numbers (sent_unit cast u).key) (key_numbers (sent_unit cast (suc u)).key))
    8 (suc u) (sample_or_item (sent_unit cast (suc u)).key) (sample_or_item (sent_unit cast u).key)

-- a packet carries a buffer message
abbrev pub has_parameters : Carries → Bool
has_parameters (carries.Parameters s) = true
has_parameters (carries.Whole u) = false
has_parameters (carries.Fragment u k) = false
has_parameters (carries.Group f c) = false
has_parameters (carries.Table s) = false
has_parameters (carries.TablePart s k) = false

-- the place of the first packet with a buffer message, or the number of packets
unfoldable pub first_parameters : List Sent → ℕ
first_parameters [] = 0
first_parameters (p ∷ ps) = if has_parameters p.carries then 0 else suc (first_parameters ps)

-- rule 9: packet 0 carries a buffer message
unfoldable pub fault_of_start : List Sent → Option Fault
fault_of_start packets = unless (nat_lt 0 (length packets) && (first_parameters packets == 0)) 9 0 (first_parameters packets) 0

-- rule 10 by the tick from which an MPU is named, where there is one
abbrev pub fault_of_naming : ℕ → ℕ → ℕ → Option LongTick → Option Fault
fault_of_naming delay m least None = Some (record { rule = 10; number = m; found = 0; allowed = 1 })
fault_of_naming delay m least (Some from) = unless (nat_lt (from.0 + delay) least) 10 m (from.0 + delay) (least - 1)

-- rule 10: some copy names an MPU, and ends more than the delay before its least due tick
unfoldable pub fault_of_mpu : Cast → ℕ → Option Fault
fault_of_mpu cast m = fault_of_naming cast.params.delay m (sent_mpu cast m).least.0 (sent_mpu cast m).named_from

-- the first fault of a cast: the rules in their order, and in each the lowest number first. A cast is admitted where there is none
unfoldable pub fault : Cast → Option Fault
fault cast =
    or_else (fault_of_params cast.params)
    (or_else (first_below (fault_of_gap cast.packets) (length cast.packets))
    (or_else (first_below (fault_of_number cast.packets) (length cast.packets))
    (or_else (first_below (fault_of_unit cast) (length cast.units))
    (or_else (first_below (fault_of_copy cast) (length cast.copies))
    (or_else (first_below (fault_of_load cast) (length cast.packets))
    (or_else (first_below (fault_of_live cast) (length cast.copies))
    (or_else (first_below (fault_of_key cast) (length cast.units))
    (or_else (fault_of_start cast.packets)
    (first_below (fault_of_mpu cast) (length cast.mpus))))))))))
