-- The worked plans and plans like them as programmes, and which of their casts are admitted.
use Rattle.std.specs.Prelude.{ℕ, ◌+◌, ◌≡◌, List, [], ◌∷◌, ◌++◌, true, get_or, length, None, Some}
use Rattle.mmt_cast.specs.Casting.{cast_of}
use Rattle.mmt_cast.specs.SentTables.{sent_table}
use Rattle.mmt_mpt.specs.Table.{mpt_spelling}
use Rattle.mmt_model.specs.Admission.{fault}
use Rattle.mmt_model.specs.Survival.{no_packet}
use Rattle.mmt_model.specs.declared.programmes.Mpu.{Mpu}
use Rattle.mmt_model.specs.declared.programmes.Params.{Params}
use Rattle.mmt_model.specs.declared.programmes.Programme.{Programme}
use Rattle.mmt_model.specs.declared.programmes.Signal.{Signal}
use Rattle.mmt_model.specs.declared.programmes.Unit.{Unit as PlannedUnit}
use Rattle.mmt_model.specs.declared.keys.UnitKey.TheVariants as keys
use Rattle.mmt_model.specs.declared.programmes.Signal.TheVariants as signals

-- the values of the worked plan's buffer message: its bound, window and delay
abbrev pub usual : Params
usual = record { bound = 4000; window = 65536; delay = 1000 }

-- the least window and a short delay
abbrev pub tight : Params
tight = record { bound = 4000; window = 34655; delay = 100 }

-- a plan like the worked one, with these values of its buffer message, signalling and MPUs
abbrev pub plan_with : Params → List Signal → List Mpu → Programme
plan_with values signalling mpus =
    record {
      flow = record { address = 339025831081173035177270227320096948481; port = 51300 };
      source = record { address = 42540766411282592856903984951653826561; port = 51300 };
      context = 1;
      full_every = 3;
      limit = 1400;
      spacing = 10;
      «package» = 112 ∷ 49 ∷ [];
      params = values;
      signals = signalling;
      assets = record { packet_id = 256; id = 118 ∷ []; kind = 1751479857; timed = true; timescale = 60000; file = 0; mpus = mpus } ∷ [];
      files = (118 ∷ 46 ∷ 98 ∷ 105 ∷ 110 ∷ []) ∷ [];
    }

-- a buffer message and a table of MPU 0 at ticks after the start
abbrev pub parameters_at : ℕ → Signal
parameters_at tick = signals.Parameters (record { 0 = 65536000 + tick })

abbrev pub table_at : ℕ → ℕ → Signal
table_at tick mpu = signals.Table (record { 0 = 65536000 + tick }) ((0, mpu) ∷ [])

-- a unit at a tick after the start
abbrev pub unit_with : ℕ → ℕ → ℕ → ℕ → ℕ → PlannedUnit
unit_with tick from bytes fragment sample = record { at = record { 0 = 65536000 + tick }; from = from; length = bytes; key = keys.Timed fragment sample 0; priority = 0; dependency = 0 }

-- the plan's MPU, its second unit at this tick
abbrev pub mpu_seven : ℕ → Mpu
mpu_seven second =
    record {
      number = 7;
      time = record { 0 = 4297114779648 };
      decoding_offset = 1001;
      aus = record { dts_pts = 1001; pts = 1001 } ∷ record { dts_pts = 2002; pts = 0 } ∷ [];
      units = unit_with 200 0 3000 1 1 ∷ unit_with second 3000 500 1 2 ∷ [];
    }

-- a further MPU, 18 hours later
abbrev pub mpu_eight : Mpu
mpu_eight =
    record {
      number = 8;
      time = record { 0 = 285772091490304 };
      decoding_offset = 1001;
      aus = record { dts_pts = 1001; pts = 1001 } ∷ [];
      units = unit_with 4294967496 0 500 2 1 ∷ [];
    }

-- the plan's signalling: a buffer message and a table
abbrev pub usual_signals : List Signal
usual_signals = parameters_at 0 ∷ table_at 100 0 ∷ []

-- the worked plan: a unit in three packets and a unit in one
abbrev pub plan_one : Programme
plan_one = plan_with usual usual_signals (mpu_seven 300 ∷ [])

-- the worked plan with its window and bound
abbrev pub plan_of : ℕ → ℕ → Programme
plan_of window bound = plan_with (record { bound = bound; window = window; delay = 1000 }) usual_signals (mpu_seven 300 ∷ [])

-- the worked plan with one more table
abbrev pub plan_three : ℕ → Programme
plan_three tick = plan_with usual (usual_signals ++ table_at tick 0 ∷ []) (mpu_seven 300 ∷ [])

-- the worked plan with a second table, which comes after the first unit is due
abbrev pub plan_two_tables : Programme
plan_two_tables = plan_three 32800

-- the worked plan at the limits of what is in time, kept and due: the second unit is due at the end of its window, its packet comes a whole delay after the first unit's first one, a second table is sent at the first unit's due tick, and a buffer message, the last packet, at the second unit's
abbrev pub plan_at_limits : Programme
plan_at_limits = plan_with tight (usual_signals ++ (table_at 32768 0 ∷ parameters_at 34955 ∷ [])) (mpu_seven 300 ∷ [])

-- it holds of each worked plan: with one table, with two, and at the limits
pub record EachWorked (Holds : Programme → Type 0) : Type 0 where
  pub one_table : Holds plan_one
  pub two_tables : Holds plan_two_tables
  pub at_the_limits : Holds plan_at_limits

-- the worked plan with these buffer messages and, 18 hours later, a table and a further MPU
abbrev pub plan_four : List Signal → Programme
plan_four messages = plan_with usual (usual_signals ++ (messages ++ table_at 4294967396 1 ∷ [])) (mpu_seven 300 ∷ mpu_eight ∷ [])

-- buffer messages that leave no long silence
abbrev pub eight_messages : List Signal
eight_messages = parameters_at 536870912 ∷ parameters_at 1073741824 ∷ parameters_at 1610612736 ∷ parameters_at 2147483648 ∷ parameters_at 2684354560 ∷ parameters_at 3221225472 ∷ parameters_at 3758096384 ∷ parameters_at 4294967296 ∷ []

-- the table of the worked plan has these 68 bytes
abbrev pub TableOfPlanOne : Type 0
TableOfPlanOne =
    mpt_spelling (sent_table plan_one 0 ((0, 0) ∷ []))
    ≡ 0x20 ∷ 0x00 ∷ 0x00 ∷ 0x40 ∷ 0xFC ∷ 0x02 ∷ 0x70 ∷ 0x31 ∷ 0x00 ∷ 0x00 ∷ 0x01
    ∷ 0x00 ∷ 0x00 ∷ 0x00 ∷ 0x00 ∷ 0x00 ∷ 0x01 ∷ 0x76 ∷ 0x68 ∷ 0x65 ∷ 0x76 ∷ 0x31 ∷ 0xFE ∷ 0x01 ∷ 0x00 ∷ 0x01 ∷ 0x00 ∷ 0x00 ∷ 0x27
    ∷ 0x00 ∷ 0x01 ∷ 0x0C ∷ 0x00 ∷ 0x00 ∷ 0x00 ∷ 0x07 ∷ 0x00 ∷ 0x00 ∷ 0x03 ∷ 0xE8 ∷ 0x80 ∷ 0x00 ∷ 0x00 ∷ 0x00
    ∷ 0x80 ∷ 0x26 ∷ 0x15 ∷ 0xFD ∷ 0x00 ∷ 0x00 ∷ 0xEA ∷ 0x60 ∷ 0x00 ∷ 0x00 ∷ 0x00 ∷ 0x07 ∷ 0x3F ∷ 0x03 ∷ 0xE9 ∷ 0x02 ∷ 0x03 ∷ 0xE9 ∷ 0x03 ∷ 0xE9 ∷ 0x07 ∷ 0xD2 ∷ 0x00 ∷ 0x00 ∷ []

-- the first fault of the cast of a programme
abbrev pub HasFault : Programme → ℕ → ℕ → ℕ → ℕ → Type 0
HasFault programme rule number found allowed = fault (cast_of programme) ≡ Some (record { rule = rule; number = number; found = found; allowed = allowed })

-- plans like the worked one whose casts are not admitted, each with its first fault, and one whose cast is
pub record AreRefusedPlans : Type 0 where
  pub window_too_small : HasFault (plan_of 32567 4000) 4 0 65568768 65568767
  pub window_short_of_second_unit : HasFault (plan_of 32568 4000) 4 1 65570955 65568868
  pub bound_too_small : HasFault (plan_of 65536 3688) 6 5 3689 3688
  pub no_parameters : HasFault (plan_with usual (table_at 100 0 ∷ []) (mpu_seven 300 ∷ [])) 9 0 5 0
  pub second_unit_at_205 : HasFault (plan_with usual usual_signals (mpu_seven 205 ∷ [])) 3 3 3 1
  pub second_table_too_late : HasFault (plan_three 33955) 5 1 65570955 65570954
  pub no_early_table : HasFault (plan_with usual (parameters_at 0 ∷ table_at 32800 0 ∷ []) (mpu_seven 300 ∷ [])) 10 0 65569800 65568767
  pub long_silence : HasFault (plan_four []) 2 6 4360503396 1139278123
  pub no_long_silence : fault (cast_of (plan_four eight_messages)) ≡ None
  pub sixteen_packets : (length (cast_of (plan_four eight_messages)).packets ≡ 16) × ((get_or (cast_of (plan_four eight_messages)).packets 14 no_packet).length ≡ 78)
