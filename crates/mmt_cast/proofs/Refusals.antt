-- What a programme without a refusal has.
use Rattle.std.proofs.Common.{◌≡◌, ℕ, ◌+◌, ◌<◌, ◌≤◌, zero, suc, Bool, true, false, nat_le, cond, List, [], ◌∷◌, map, length, get_or, arith, refl, Option, Some, None}
use Rattle.std.specs.List.{AllByRecursion}
use Rattle.std.specs.Option.{IsSome}
use Rattle.std.proofs.lemmas.Bool.{leb-true}
use Rattle.mmt_cast.specs.Casting.{planned}
use Rattle.mmt_cast.specs.Placing.{PlacedMpu, all_mpus}
use Rattle.mmt_cast.specs.Refusing.{Refusal, first_of, of_au, out_of_range, refusal, refusal_of_mpu, refusal_of_mpus, refusal_of_packets, refusal_of_signal, refusal_of_signals}
use Rattle.mmt_cast.specs.Right.{no_signal, signal_at}
use Rattle.mmt_cast.specs.Tables.{table_length}
use Rattle.mmt_model.specs.declared.programmes.Programme.{Programme}
use Rattle.mmt_model.specs.declared.programmes.Signal.{Signal}
use Rattle.mmt_model.specs.declared.programmes.Signal.TheVariants as signals
use Rattle.mmt_times.specs.Times.{all_in_range, unit_times, with_first}
use Rattle.mmt_times.specs.Writing.{au_value}

first-none : (a b : Option Refusal) → first_of a b ≡ None → a ≡ None
first-none None b e = refl
first-none (Some r) b e = absurd cc

later-none : (a b : Option Refusal) → first_of a b ≡ None → b ≡ None
later-none None b e = e
later-none (Some r) b e = absurd cc

-- there are few packets
packets-few : (n : ℕ) → refusal_of_packets n ≡ None → n ≤ 16777216
unfolding refusal_of_packets
packets-few n e = go (nat_le n 16777216) refl e
  where
    go : (t : Bool) → nat_le n 16777216 ≡ t → cond t None (Some (Refusal.CastLong n)) ≡ None → n ≤ 16777216
    go true t e = leb-true n 16777216 t
    go false t e = absurd cc

pub few-packets : (programme : Programme) → refusal programme ≡ None → length (planned programme) ≤ 16777216
unfolding refusal
few-packets programme e = packets-few (length (planned programme)) (later-none _ _ (later-none _ _ e))

-- tables are not too long
abbrev pub IsShort : Programme → Signal → Type 0
IsShort programme (signals.Parameters at) = Unit {0}
IsShort programme (signals.Table at names) = table_length programme names ≤ 65535

signal-short : (programme : Programme) (s : ℕ) (signal : Signal) → refusal_of_signal programme s signal ≡ None → IsShort programme signal
unfolding refusal_of_signal
signal-short programme s (signals.Parameters at) e = tt
signal-short programme s (signals.Table at names) e = go (nat_le (table_length programme names) 65535) refl e
  where
    go : (t : Bool) → nat_le (table_length programme names) 65535 ≡ t → cond t None (Some (Refusal.TableLong s)) ≡ None → table_length programme names ≤ 65535
    go true t e = leb-true (table_length programme names) 65535 t
    go false t e = absurd cc

signals-short : (programme : Programme) (s : ℕ) (xs : List Signal) (j : ℕ) → refusal_of_signals programme s xs ≡ None → j < length xs → IsShort programme (get_or xs j no_signal)
unfolding refusal_of_signals
signals-short programme s [] j e l = absurd (omega arith)
signals-short programme s (x ∷ xs) zero e l = signal-short programme s x (first-none _ _ e)
signals-short programme s (x ∷ xs) (suc j) e l = signals-short programme (s + 1) xs j (later-none _ _ e) (omega arith)

pub short-tables : (programme : Programme) → refusal programme ≡ None → (s : ℕ) → s < length programme.signals → IsShort programme (signal_at programme s)
unfolding refusal signal_at
short-tables programme e s l = signals-short programme 0 programme.signals s (first-none _ _ (later-none _ _ e)) l

-- times are in range
range-some : (n : ℕ) (ts : List (Option ℕ)) → out_of_range n ts ≡ None → IsSome (all_in_range ts)
unfolding out_of_range all_in_range
range-some n [] e = refl
range-some n (None ∷ ts) e = absurd cc
range-some n (Some t ∷ ts) e = more (all_in_range ts) (range-some (n + 1) ts e)
  where
    more : (o : Option (List ℕ)) → IsSome o → IsSome (with_first t o)
    more None s = s
    more (Some ts) s = refl

au-none : (m : PlacedMpu) (o : Option ℕ) → of_au m o ≡ None → o ≡ None
au-none m None e = refl
au-none m (Some au) e = absurd cc

-- the times of an MPU's access units are all there
abbrev pub HasTimes : PlacedMpu → Type 0
HasTimes m = IsSome (all_in_range (unit_times m.value.time.0 m.value.decoding_offset m.in_asset.timescale 0 0 (map au_value m.value.aus)))

mpus-timed : (ms : List PlacedMpu) → refusal_of_mpus ms ≡ None → AllByRecursion HasTimes ms
unfolding refusal_of_mpus refusal_of_mpu
mpus-timed [] e = tt
mpus-timed (m ∷ ms) e = (range-some 0 (unit_times m.value.time.0 m.value.decoding_offset m.in_asset.timescale 0 0 (map au_value m.value.aus)) (au-none m _ (first-none _ _ e)), mpus-timed ms (later-none _ _ e))

pub all-timed : (programme : Programme) → refusal programme ≡ None → AllByRecursion HasTimes (all_mpus programme)
unfolding refusal
all-timed programme e = mpus-timed (all_mpus programme) (first-none _ _ e)
