-- Why a programme has no cast: the first of three refusals, in their order.
use Rattle.std.specs.Prelude.{ℕ, ◌+◌, nat_le, List, [], ◌∷◌, map, length, Option, Some, None, if◌then◌else◌}
use Rattle.mmt_cast.specs.Casting.{planned}
use Rattle.mmt_cast.specs.Placing.{PlacedMpu, all_mpus}
use Rattle.mmt_cast.specs.Tables.{table_length}
use Rattle.mmt_model.specs.declared.programmes.Programme.{Programme}
use Rattle.mmt_model.specs.declared.programmes.Signal.{Signal}
use Rattle.mmt_model.specs.declared.programmes.Signal.TheVariants as signals
use Rattle.mmt_times.specs.Times.{unit_times}
use Rattle.mmt_times.specs.Writing.{au_value}

-- an access unit's time is out of range, a table is too long, or there are too many packets
pub data Refusal : Type 0 where
  TimeRange : (asset mpu au : ℕ) → Refusal
  TableLong : (signal : ℕ) → Refusal
  CastLong : (packets : ℕ) → Refusal

-- the first of two refusals
abbrev pub first_of : Option Refusal → Option Refusal → Option Refusal
first_of None later = later
first_of (Some refusal) later = Some refusal

-- the place of the first time that is out of range, the places being counted from n
unfoldable pub out_of_range : ℕ → List (Option ℕ) → Option ℕ
out_of_range n [] = None
out_of_range n (None ∷ times) = Some n
out_of_range n (Some time ∷ times) = out_of_range (n + 1) times

-- the refusal of an access unit of an MPU
abbrev pub of_au : PlacedMpu → Option ℕ → Option Refusal
of_au m None = None
of_au m (Some au) = Some (Refusal.TimeRange m.asset m.mpu au)

-- the refusal of an MPU, one of whose access units has a time outside 0 to 2^64 - 1
unfoldable pub refusal_of_mpu : PlacedMpu → Option Refusal
refusal_of_mpu m = of_au m (out_of_range 0 (unit_times m.value.time.0 m.value.decoding_offset m.in_asset.timescale 0 0 (map au_value m.value.aus)))

-- the first refusal of several MPUs
unfoldable pub refusal_of_mpus : List PlacedMpu → Option Refusal
refusal_of_mpus [] = None
refusal_of_mpus (m ∷ ms) = first_of (refusal_of_mpu m) (refusal_of_mpus ms)

-- the refusal of a signalling message: a table with more than 65,535 bytes
unfoldable pub refusal_of_signal : Programme → ℕ → Signal → Option Refusal
refusal_of_signal programme s (signals.Parameters at) = None
refusal_of_signal programme s (signals.Table at names) = if nat_le (table_length programme names) 65535 then None else Some (Refusal.TableLong s)

-- the first refusal of the signalling messages from message s on
unfoldable pub refusal_of_signals : Programme → ℕ → List Signal → Option Refusal
refusal_of_signals programme s [] = None
refusal_of_signals programme s (signal ∷ rest) = first_of (refusal_of_signal programme s signal) (refusal_of_signals programme (s + 1) rest)

-- the refusal of a cast with more than 16,777,216 packets
unfoldable pub refusal_of_packets : ℕ → Option Refusal
refusal_of_packets packets = if nat_le packets 16777216 then None else Some (Refusal.CastLong packets)

-- the first refusal of a programme: times, then tables, then packets. There is a cast where there is none
unfoldable pub refusal : Programme → Option Refusal
refusal programme = first_of (refusal_of_mpus (all_mpus programme)) (first_of (refusal_of_signals programme 0 programme.signals) (refusal_of_packets (length (planned programme))))
