-- The numbers of a trial (this project's rules).
use Rattle.std.specs.Prelude.{◌≡◌, ℕ, ◌≤◌, Bool, IsTrue, List, length, Option, None}
use Rattle.mmt_cast.specs.Casting.{cast_of}
use Rattle.mmt_headline.specs.Taken.{expected_of, placed_of}
use Rattle.mmt_io.specs.Port.{Rose}
use Rattle.mmt_model.specs.declared.programmes.FlowChoice.TheVariants as choice
use Rattle.mmt_model.specs.declared.programmes.Programme.{Programme}
use Rattle.mmt_recv.specs.Receiving.{summary_of}
use Rattle.mmt_recv.specs.declared.summary.Summary.{Summary}
use Rattle.mmt_send.specs.Files.{IsUnitShort, files_on}
use Rattle.mmt_send.specs.declared.ends.SendEnd.{SendEnd}
use Rattle.mmt_send.specs.declared.ends.SendEnd.TheVariants as sends
use Rattle.mmt_tune.specs.declared.config.Config.{Config}
use Rattle.mmt_trial.specs.declared.trying.TrialEnd.{TrialEnd}
use Rattle.mmt_trial.specs.declared.trying.TrialEnd.TheVariants as ends
use Rattle.mmt_trial.specs.declared.trying.Tried.{Tried}

-- a receiver of a programme: the programme's buffer size and flow, the first sample of an MPU counted as 1, a timescale of 90,000 units a second for descriptors that carry none, and no assumed values
abbrev pub receiver_of : Programme → Config
receiver_of p = record { bound = p.params.bound; flow = choice.One p.flow; sample_base = 1; timescale = 90000; assumed = None }

-- what that receiver counts of the packets of a delivery
abbrev pub counts_of : Programme → (ℕ → List ℕ) → List ℕ → Summary
counts_of p files delivery = summary_of (receiver_of p) (placed_of p (cast_of p) files delivery)

-- the numbers of a trial, from how many packets there are, how many units are expected, and what a receiver counts
abbrev pub put_together : Programme → ℕ → ℕ → ℕ → Summary → Tried
put_together p sent delivered expected s = record {
  sent = sent;
  delivered = delivered;
  units = s.units;
  expected = expected;
  bytes = s.bytes;
  peak = s.peak;
  bound = p.params.bound;
  late = s.late;
  repeat = s.repeat;
  full = s.full;
}

-- the numbers of a trial of a delivery: how many packets the cast and the delivery have; what a receiver of the programme counts of the delivery; how many units are expected of it; and the programme's buffer size
abbrev pub tried : Programme → (ℕ → List ℕ) → List ℕ → Tried
tried p files delivery = put_together p (length (cast_of p).packets) (length delivery) (length (expected_of p (cast_of p) files delivery)) (counts_of p files delivery)

-- all expected units came out, the buffer held them, and no packet was without room
pub record KeepsBound (t : Tried) : Type 0 where
  pub units : t.units ≡ t.expected
  pub peak : t.peak ≤ t.bound
  pub full : t.full ≡ 0

-- why a trial ended: a read of a file failed, so the count of faults rose; a unit is short, where the shelf tells its files; or out of memory
abbrev pub TrialEnds : Programme → Bool → (List ℕ → Option (List ℕ)) → ℕ → ℕ → TrialEnd → Type 0
TrialEnds p tells file before now ends.ReadFault = Rose before now
TrialEnds p tells file before now (ends.UnitShort unit len got) = IsTrue tells → IsUnitShort p (files_on file p) unit len got
TrialEnds p tells file before now ends.OutOfMemory = Unit {0}

-- the end of a trial by that of sending into memory, where a write fails only for want of it
abbrev pub send_end : SendEnd → TrialEnd
send_end sends.ReadFault = ends.ReadFault
send_end (sends.UnitShort unit len got) = ends.UnitShort unit len got
send_end sends.WriteFault = ends.OutOfMemory
send_end sends.OutOfMemory = ends.OutOfMemory
