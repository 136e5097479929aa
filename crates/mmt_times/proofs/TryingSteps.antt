-- Trying the extended entries for an MPU in order.
use Rattle.std.proofs.Common.{◌≡◌, ◌<◌, ◌≤◌, ◌==◌, ℕ, Bool, false, List, [], ◌∷◌, Some, None, refl, ap, arith}
use Rattle.std.proofs.lemmas.Bool.{ne_eqb}
use Rattle.mmt_times.specs.declared.times_why.TimesWhy.TheVariants as why
use Rattle.mmt_times.specs.Times.{unit_times, in_range}
use Rattle.mmt_times.specs.AuReading.{aus_from}
use Rattle.mmt_times.specs.Stamps.{PairValue}
use Rattle.mmt_times.specs.NamesOf.{IsEntry, IsRefused, ExtendedEntry, times_by, tried, for_mpu, names_of_tried, names_of_pair}
use Rattle.mmt_times.proofs.TimesSteps.{aus_zero, units_none, range_none}

pub no_times_left : (time offset timescale default before : ℕ) (each : Bool) → in_range (unit_times time offset timescale default before (aus_from each 0 [])) ≡ []
no_times_left time offset timescale default before each =
    range_none (unit_times time offset timescale default before (aus_from each 0 [])) (units_none time offset timescale default before (aus_from each 0 []) (aus_zero each 0 [] refl))

none_tried : (time : ℕ) (es : List ExtendedEntry) → es ≡ [] → tried time es ≡ record { refused = []; times = [] }
unfolding tried
none_tried time es e = rw e refl

given_tried : (time : ℕ) (es more : List ExtendedEntry) (x : ExtendedEntry) (ts : List ℕ) → es ≡ x ∷ more → times_by time x ≡ Some ts → tried time es ≡ record { refused = []; times = ts }
unfolding tried
given_tried time es more x ts e some = rw (e, some) refl

refused_tried : (time : ℕ) (es more : List ExtendedEntry) (x : ExtendedEntry) → es ≡ x ∷ more → times_by time x ≡ None → tried time es ≡ record { refused = x.at ∷ (tried time more).refused; times = (tried time more).times }
unfolding tried
refused_tried time es more x e none = rw (e, none) refl

pub no_entry_left : (es : List ExtendedEntry) (id : ℕ) (p : PairValue) → for_mpu p.mpu es ≡ []
    → names_of_pair es id p ≡ IsEntry (record { packet_id = id; mpu = p.mpu; time = p.time; aus = [] }) ∷ []
no_entry_left es id p none = ap (names_of_tried id p) (none_tried p.time (for_mpu p.mpu es) none)

pub entry_gives : (es more : List ExtendedEntry) (id : ℕ) (p : PairValue) (x : ExtendedEntry) (ts : List ℕ) → for_mpu p.mpu es ≡ x ∷ more → times_by p.time x ≡ Some ts
    → names_of_pair es id p ≡ IsEntry (record { packet_id = id; mpu = p.mpu; time = p.time; aus = ts }) ∷ []
entry_gives es more id p x ts e some = ap (names_of_tried id p) (given_tried p.time (for_mpu p.mpu es) more x ts e some)

pub entry_refused : (es rest : List ExtendedEntry) (id : ℕ) (p : PairValue) (x : ExtendedEntry) → for_mpu p.mpu es ≡ x ∷ for_mpu p.mpu rest → times_by p.time x ≡ None
    → names_of_pair es id p ≡ IsRefused x.at why.Range ∷ names_of_pair rest id p
entry_refused es rest id p x e none = ap (names_of_tried id p) (refused_tried p.time (for_mpu p.mpu es) (for_mpu p.mpu rest) x e none)

-- an entry below the MPU number that is asked for is none of its entries
pub lower_passed : (es more : List ExtendedEntry) (x : ExtendedEntry) (mpu number : ℕ) → es ≡ x ∷ more → x.mpu.mpu < mpu → mpu ≤ number → for_mpu number more ≡ for_mpu number es
lower_passed es more x mpu number e below above =
    let other : (x.mpu.mpu == number) ≡ false = ne_eqb x.mpu.mpu number (λ same. absurd (omega (arith, below, above, same))) in
    rw (e, other) refl
