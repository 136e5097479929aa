-- The answers of admission as faults, and which casts may be asked about.
use Rattle.std.specs.Prelude.{ℕ, suc, ◌^◌, ◌<◌, ◌≤◌, List, length, Option, Some, None, All}
use Rattle.mmt_admit.specs.declared.answers.NotAdmitted.{NotAdmitted}
use Rattle.mmt_admit.specs.declared.answers.Rule.{Rule}
use Rattle.mmt_model.specs.Admission.{Fault}
use Rattle.mmt_base.specs.declared.ticks.LongTick.{LongTick}
use Rattle.mmt_model.specs.Carrying.{sent_mpu, sent_unit, table_copy}
use Rattle.mmt_model.specs.declared.casts.Cast.{Cast}
use Rattle.mmt_model.specs.declared.casts.Sent.{Sent}
use Rattle.mmt_model.specs.declared.casts.SentMpu.{SentMpu}
use Rattle.mmt_model.specs.declared.casts.SentUnit.{SentUnit}
use Rattle.mmt_model.specs.declared.casts.TableCopy.{TableCopy}
use Rattle.mmt_model.specs.Survival.{sent_at}
use Rattle.mmt_admit.specs.declared.answers.Rule.TheVariants as rules

-- the number of a rule
abbrev pub rule_number : Rule → ℕ
rule_number rules.A1 = 1
rule_number rules.A2 = 2
rule_number rules.A3 = 3
rule_number rules.A4 = 4
rule_number rules.A5 = 5
rule_number rules.A6 = 6
rule_number rules.A7 = 7
rule_number rules.A8 = 8
rule_number rules.A9 = 9
rule_number rules.A10 = 10

-- an answer as a fault
abbrev pub fault_value : NotAdmitted → Fault
fault_value answer = record { rule = rule_number answer.rule; number = answer.number; found = answer.found; allowed = answer.allowed }

-- an answer that may be there
abbrev pub as_fault : Option NotAdmitted → Option Fault
as_fault None = None
as_fault (Some answer) = Some (fault_value answer)

-- a cast's packets are at most 16,777,216, and their timestamps are below 2^60
pub record PacketsFit (packets : List Sent) : Type 0 where
  pub few : length packets ≤ 16777216
  pub ticks : All (λ (p : Sent). p.at.0 < 2 ^ 60) packets

-- a tick that may be there is below 2^60
abbrev pub TickFits : Option LongTick → Type 0
TickFits None = Unit {0}
TickFits (Some tick) = tick.0 < 2 ^ 60

-- the ticks of a sent unit are below 2^60
abbrev pub UnitFits : SentUnit → Type 0
UnitFits unit = (unit.first.0 < 2 ^ 60) × (unit.last.0 < 2 ^ 60) × (unit.due.0 < 2 ^ 60)

-- the ticks of a sent MPU are below 2^60
abbrev pub MpuFits : SentMpu → Type 0
MpuFits mpu = (mpu.least.0 < 2 ^ 60) × (mpu.last.0 < 2 ^ 60) × TickFits mpu.named_from

-- the ticks of a table copy are below 2^60, and the places that it names are below this number of MPUs
abbrev pub CopyFits : ℕ → TableCopy → Type 0
CopyFits mpus copy = (copy.first.0 < 2 ^ 60) × (copy.last.0 < 2 ^ 60) × All (λ m. m < mpus) copy.names

-- no timestamp is below the one before it
abbrev pub AreInOrder : List Sent → Type 0
AreInOrder packets = (n : ℕ) → suc n < length packets → sent_at packets n ≤ sent_at packets (suc n)

-- the casts that may be asked about: at most 16,777,216 packets, fewer than 2^32 units, MPUs and table copies each, ticks
-- below 2^60, and each place that a copy names is that of an MPU of the cast
pub record IsReadable (cast : Cast) : Type 0 where
  pub packets : PacketsFit cast.packets
  pub few_units : length cast.units < 2 ^ 32
  pub few_mpus : length cast.mpus < 2 ^ 32
  pub few_copies : length cast.copies < 2 ^ 32
  pub units : (u : ℕ) → u < length cast.units → UnitFits (sent_unit cast u)
  pub mpus : (m : ℕ) → m < length cast.mpus → MpuFits (sent_mpu cast m)
  pub copies : (c : ℕ) → c < length cast.copies → CopyFits (length cast.mpus) (table_copy cast c)
