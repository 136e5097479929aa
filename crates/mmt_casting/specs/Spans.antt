-- What is sent of the units of a sending.
use Rattle.std.specs.Prelude.{ℕ, ◌-◌, ◌==◌, List, [], ◌∷◌, map, length, take, Option, Some, None, if◌then◌else◌}
use Rattle.std.specs.List.{flat_map, sum_by}
use Rattle.mmt_cast.specs.Casting.{due_of_placed, numbered_after, place_of_mpu, time_of_unit}
use Rattle.mmt_cast.specs.Placing.{PlacedUnit, all_mpus, map_from}
use Rattle.mmt_cast.specs.Right.{unit_at}
use Rattle.mmt_cast.specs.Sending.{Sending, packet_count, packets_of, sending_of_signal, tick_of_packet}
use Rattle.mmt_casting.specs.declared.units.Run.{Run}
use Rattle.mmt_model.specs.Carrying.{numbers}
use Rattle.mmt_model.specs.declared.casts.Sent.{Sent}
use Rattle.mmt_model.specs.declared.casts.SentUnit.{SentUnit}
use Rattle.mmt_model.specs.declared.casts.TableCopy.{TableCopy}
use Rattle.mmt_model.specs.declared.programmes.Programme.{Programme}
use Rattle.mmt_model.specs.declared.programmes.Signal.{Signal}
use Rattle.mmt_model.specs.declared.programmes.Signal.TheVariants as signals

-- the packets of a sending of whose packet id N stand before it
abbrev pub run_by : Programme → Sending → ℕ → Run
run_by programme x number =
    record {
      first = record { 0 = tick_of_packet programme x 0 };
      last = record { 0 = tick_of_packet programme x (packet_count programme x - 1) };
      first_number = number;
      count = packet_count programme x;
    }

-- a unit that is sent in these packets
abbrev pub unit_by : PlacedUnit → Run → SentUnit
unit_by x run =
    record {
      asset = x.in_mpu.asset;
      mpu = x.in_mpu.mpu;
      unit = x.unit;
      key = x.value.key;
      time = record { 0 = time_of_unit x };
      due = record { 0 = due_of_placed x };
      first = run.first;
      last = run.last;
      first_number = run.first_number;
      count = run.count;
    }

-- N units from one on that are sent in these packets
abbrev pub units_by : Programme → Run → ℕ → ℕ → List SentUnit
units_by programme run u count = map (λ k. unit_by (unit_at programme k) run) (numbers u count)

-- the packets of the signalling messages with their numbers, in the order of the plan
unfoldable pub signalling : Programme → List Sent
signalling programme = numbered_after [] (flat_map (packets_of programme) (map_from (sending_of_signal programme) 0 programme.signals))

-- the number of the first packet of the next group: the numbers go on within an asset
abbrev pub next_number : ℕ → ℕ → ℕ → ℕ
next_number asset next number = if next == asset then number else 0

-- a signalling message as a table copy, where it is a table, that is sent in these packets
unfoldable pub copies_by : Programme → ℕ → Run → Signal → List TableCopy
copies_by programme s run (signals.Parameters at) = []
copies_by programme s run (signals.Table at names) =
    record { signal = s; names = map (place_of_mpu (all_mpus programme)) names; first = run.first; last = run.last; first_number = run.first_number; count = run.count } ∷ []

-- the same, of the packets from a number on
abbrev pub copies_at : Programme → ℕ → ℕ → Signal → List TableCopy
copies_at programme s number signal = copies_by programme s (run_by programme (sending_of_signal programme s signal) number) signal

-- how many MPUs the assets before one have
abbrev pub start_of : Programme → ℕ → ℕ
start_of programme a = sum_by (λ x. length x.mpus) (take a programme.assets)

-- that of each asset
abbrev pub starts : Programme → List ℕ
starts programme = map (start_of programme) (numbers 0 (length programme.assets))

-- an item that may be there, as a list
abbrev pub listed : Option TableCopy → List TableCopy
listed None = []
listed (Some copy) = copy ∷ []
