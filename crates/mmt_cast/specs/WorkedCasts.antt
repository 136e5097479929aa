-- The casts of the worked plans, packet by packet: with one table, with two, and at the limits of what is in time, kept and due.
use Rattle.std.specs.Prelude.{ℕ, ◌≡◌, Bool, true, false, List, [], ◌∷◌, ◌++◌, Some}
use Rattle.mmt_cast.specs.Casting.{cast_of}
use Rattle.mmt_cast.specs.PlanOne.{TableOfPlanOne, plan_at_limits, plan_one, plan_two_tables, tight, usual}
use Rattle.mmt_model.specs.declared.casts.Carries.{Carries}
use Rattle.mmt_model.specs.declared.casts.Cast.{Cast}
use Rattle.mmt_model.specs.declared.casts.Sent.{Sent}
use Rattle.mmt_model.specs.declared.casts.TableCopy.{TableCopy}
use Rattle.mmt_model.specs.declared.programmes.Params.{Params}
use Rattle.mmt_model.specs.declared.casts.Carries.TheVariants as carries
use Rattle.mmt_model.specs.declared.keys.UnitKey.TheVariants as keys

-- a packet of a plan
abbrev pub packet : ℕ → ℕ → ℕ → Bool → ℕ → Carries → Sent
packet tick packet_id number rap bytes carried = record { at = record { 0 = tick }; packet_id = packet_id; number = number; rap = rap; length = bytes; carries = carried }

-- the packets of the worked plan: a buffer message, a table, a unit in three packets and a unit in one
abbrev pub one_table : List Sent
one_table =
    packet 65536000 0 0 false 19 (carries.Parameters 0)
    ∷ packet 65536100 0 1 false 82 (carries.Table 1)
    ∷ packet 65536200 256 0 true 1422 (carries.Fragment 0 0)
    ∷ packet 65536210 256 1 false 1422 (carries.Fragment 0 1)
    ∷ packet 65536220 256 2 false 222 (carries.Fragment 0 2)
    ∷ packet 65536300 256 3 false 522 (carries.Whole 1)
    ∷ []

-- the packets of the plan with two tables: the same, and the table once more
abbrev pub two_tables : List Sent
two_tables = one_table ++ packet 65568800 0 2 false 82 (carries.Table 2) ∷ []

-- the packets of the plan at the limits: those of the worked plan, a table at the first unit's due tick and a buffer message at the second unit's
abbrev pub at_the_limits : List Sent
at_the_limits = one_table ++ (packet 65568768 0 2 false 82 (carries.Table 2) ∷ packet 65570955 0 3 false 19 (carries.Parameters 3) ∷ [])

-- a table copy in one packet
abbrev pub copy : ℕ → ℕ → ℕ → TableCopy
copy signal tick number = record { signal = signal; names = 0 ∷ []; first = record { 0 = tick }; last = record { 0 = tick }; first_number = number; count = 1 }

-- the cast of a worked plan with these values of its buffer message, packets and table copies
abbrev pub cast_with : Params → List Sent → List TableCopy → Cast
cast_with values packets copies =
    record {
      params = values;
      packets = packets;
      units = record { asset = 0; mpu = 0; unit = 0; key = keys.Timed 1 1 0; time = record { 0 = 4297114779648 }; due = record { 0 = 65568768 }; first = record { 0 = 65536200 }; last = record { 0 = 65536220 }; first_number = 0; count = 3 }
          ∷ record { asset = 0; mpu = 0; unit = 1; key = keys.Timed 1 2 0; time = record { 0 = 4297258088390 }; due = record { 0 = 65570955 }; first = record { 0 = 65536300 }; last = record { 0 = 65536300 }; first_number = 3; count = 1 }
          ∷ [];
      mpus = record { asset = 0; mpu = 0; least = record { 0 = 65568768 }; last = record { 0 = 65570955 }; named_from = Some (record { 0 = 65536100 }) } ∷ [];
      copies = copies;
    }

-- the cast of the worked plan
abbrev pub first_cast : Cast
first_cast = cast_with usual one_table (copy 1 65536100 1 ∷ [])

-- the cast of the plan with two tables
abbrev pub second_cast : Cast
second_cast = cast_with usual two_tables (copy 1 65536100 1 ∷ copy 2 65568800 2 ∷ [])

-- the cast of the plan at the limits
abbrev pub third_cast : Cast
third_cast = cast_with tight at_the_limits (copy 1 65536100 1 ∷ copy 2 65568768 2 ∷ [])

-- the casts of the worked plans by the definition, and the bytes of the worked plan's table
pub record WorkedPlansCompute : Type 0 where
  pub one_table : cast_of plan_one ≡ first_cast
  pub two_tables : cast_of plan_two_tables ≡ second_cast
  pub at_the_limits : cast_of plan_at_limits ≡ third_cast
  pub table : TableOfPlanOne
