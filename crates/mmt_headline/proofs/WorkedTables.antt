-- What a receiver reads in the messages of the worked plans.
use Rattle.std.proofs.Common.{◌≡◌, ℕ, ◌<◌, [], ◌∷◌, length, arith, refl}
use Rattle.mmt_cast.proofs.Examples.{examples}
use Rattle.mmt_cast.proofs.FromRight.{right-programmes-fit}
use Rattle.mmt_cast.specs.Casting.{place_of_mpu}
use Rattle.mmt_cast.specs.Examples.{CanBeCast}
use Rattle.mmt_cast.specs.Placing.{all_mpus, entry_of_mpu, flat_map_from, map_from, mpus_of}
use Rattle.mmt_cast.specs.PlanOne.{plan_at_limits, plan_one, plan_two_tables}
use Rattle.mmt_cast.specs.Right.{IsMessage, mpu_at, signal_at}
use Rattle.mmt_messages.proofs.Fitting.{right-bytes}
use Rattle.mmt_messages.proofs.Headline.{values}
use Rattle.mmt_messages.proofs.Messages.{messages-right}
use Rattle.mmt_model.specs.Carrying.{numbers}
use Rattle.mmt_model.specs.declared.programmes.Programme.{Programme}
use Rattle.mmt_naming.specs.Findings.{names_in}
use Rattle.mmt_sent.specs.Messages.{message_bytes}
use Rattle.mmt_times.specs.Times.{in_range, time_at, unit_times}
use Rattle.mmt_headline.specs.WorkedDeliveries.{AreRead, Reads, name}

message : (programme : Programme) → CanBeCast programme → (timescale s : ℕ) → s < length programme.signals → IsMessage programme (names_in timescale) (signal_at programme s) (message_bytes programme s)
message programme can timescale s l = messages-right programme timescale (right-programmes-fit.right programme can.right) (right-bytes programme can.right can.has_cast) can.has_cast (values programme can.admitted) s l

one-0 : (timescale : ℕ) → names_in timescale (message_bytes plan_one 0) ≡ []
unfolding signal_at
one-0 timescale = (message plan_one examples.worked.one_table timescale 0 (omega arith)).1

one-1 : (timescale : ℕ) → names_in timescale (message_bytes plan_one 1) ≡ name ∷ []
unfolding signal_at place_of_mpu mpu_at all_mpus flat_map_from map_from mpus_of entry_of_mpu in_range unit_times time_at
one-1 timescale = (message plan_one examples.worked.one_table timescale 1 (omega arith)).1

one-read : Reads plan_one ([] ∷ (name ∷ []) ∷ [])
unfolding numbers
one-read timescale = rw (one-0 timescale, one-1 timescale) refl

two-0 : (timescale : ℕ) → names_in timescale (message_bytes plan_two_tables 0) ≡ []
unfolding signal_at
two-0 timescale = (message plan_two_tables examples.worked.two_tables timescale 0 (omega arith)).1

two-1 : (timescale : ℕ) → names_in timescale (message_bytes plan_two_tables 1) ≡ name ∷ []
unfolding signal_at place_of_mpu mpu_at all_mpus flat_map_from map_from mpus_of entry_of_mpu in_range unit_times time_at
two-1 timescale = (message plan_two_tables examples.worked.two_tables timescale 1 (omega arith)).1

two-2 : (timescale : ℕ) → names_in timescale (message_bytes plan_two_tables 2) ≡ name ∷ []
unfolding signal_at place_of_mpu mpu_at all_mpus flat_map_from map_from mpus_of entry_of_mpu in_range unit_times time_at
two-2 timescale = (message plan_two_tables examples.worked.two_tables timescale 2 (omega arith)).1

two-read : Reads plan_two_tables ([] ∷ (name ∷ []) ∷ (name ∷ []) ∷ [])
unfolding numbers
two-read timescale = rw (two-0 timescale, two-1 timescale, two-2 timescale) refl

limits-0 : (timescale : ℕ) → names_in timescale (message_bytes plan_at_limits 0) ≡ []
unfolding signal_at
limits-0 timescale = (message plan_at_limits examples.worked.at_the_limits timescale 0 (omega arith)).1

limits-1 : (timescale : ℕ) → names_in timescale (message_bytes plan_at_limits 1) ≡ name ∷ []
unfolding signal_at place_of_mpu mpu_at all_mpus flat_map_from map_from mpus_of entry_of_mpu in_range unit_times time_at
limits-1 timescale = (message plan_at_limits examples.worked.at_the_limits timescale 1 (omega arith)).1

limits-2 : (timescale : ℕ) → names_in timescale (message_bytes plan_at_limits 2) ≡ name ∷ []
unfolding signal_at place_of_mpu mpu_at all_mpus flat_map_from map_from mpus_of entry_of_mpu in_range unit_times time_at
limits-2 timescale = (message plan_at_limits examples.worked.at_the_limits timescale 2 (omega arith)).1

limits-3 : (timescale : ℕ) → names_in timescale (message_bytes plan_at_limits 3) ≡ []
unfolding signal_at
limits-3 timescale = (message plan_at_limits examples.worked.at_the_limits timescale 3 (omega arith)).1

limits-read : Reads plan_at_limits ([] ∷ (name ∷ []) ∷ (name ∷ []) ∷ [] ∷ [])
unfolding numbers
limits-read timescale = rw (limits-0 timescale, limits-1 timescale, limits-2 timescale, limits-3 timescale) refl

pub read : AreRead
read = record { one_table = one-read; two_tables = two-read; at_the_limits = limits-read }
