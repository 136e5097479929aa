-- Which casts admission may be asked about.
use Rattle.std.specs.Prelude.{ℕ, ◌≡◌, ◌^◌, ◌<◌, ◌≤◌, length, None}
use Rattle.mmt_admit.specs.Faults.{IsReadable}
use Rattle.mmt_cast.specs.Casting.{cast_of}
use Rattle.mmt_cast.specs.Placing.{all_mpus, all_units}
use Rattle.mmt_cast.specs.Refusing.{refusal}
use Rattle.mmt_cast.specs.Right.{IsRight, mpu_at, signal_at, unit_at}
use Rattle.mmt_model.specs.declared.programmes.Programme.{Programme}
use Rattle.mmt_model.specs.declared.programmes.Signal.{Signal}
use Rattle.mmt_model.specs.declared.programmes.Signal.TheVariants as signals

-- when a signalling message is sent
abbrev pub tick_of_signal : Signal → ℕ
tick_of_signal (signals.Parameters at) = at.0
tick_of_signal (signals.Table at names) = at.0

-- the ticks and counts of a programme that a plan can give
pub record FitsTicks (programme : Programme) : Type 0 where
  pub spacing : programme.spacing < 2 ^ 16
  pub signals : (s : ℕ) → s < length programme.signals → tick_of_signal (signal_at programme s) ≤ 2 ^ 48
  pub units : (u : ℕ) → u < length (all_units programme) → (unit_at programme u).value.at.0 ≤ 2 ^ 48
  pub times : (m : ℕ) → m < length (all_mpus programme) → (mpu_at programme m).value.time.0 < 2 ^ 64
  pub few_signals : length programme.signals < 2 ^ 32
  pub few_units : length (all_units programme) < 2 ^ 32
  pub few_mpus : length (all_mpus programme) < 2 ^ 32

-- the cast of a right programme that has one may be asked about
abbrev pub CastsAreReadable : Type 0
CastsAreReadable = (programme : Programme) → IsRight programme → FitsTicks programme → refusal programme ≡ None → IsReadable (cast_of programme)
