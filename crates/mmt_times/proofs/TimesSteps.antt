-- The times of access units, one after the other.
use Rattle.std.proofs.Common.{◌≡◌, ℕ, ◌+◌, ◌-◌, ◌<◌, Bool, true, false, List, [], ◌∷◌, length, Option, Some, None, Ok, Err, refl, ap, ◌∙◌, arith}
use Rattle.std.specs.Option.{is_some}
use Rattle.mmt_base.specs.declared.refused.Refused.{Refused}
use Rattle.mmt_lists.proofs.CountedSteps.{no_item, items_zero}
use Rattle.mmt_times.specs.declared.times_why.TimesWhy.{TimesWhy}
use Rattle.mmt_times.specs.Times.{AuValue, time_at, pts_or, unit_times, in_range, with_first, all_in_range}
use Rattle.mmt_times.specs.AuReading.{au_at, aus_from}
use Rattle.mmt_times.proofs.Anywhere.{IsAnywhere, first_anywhere}

pub au_anywhere : (each : Bool) → IsAnywhere (au_at each)
unfolding au_at
au_anywhere each p q bytes = refl

pub aus_first : (each : Bool) (n : ℕ) (bytes : List ℕ) (x : AuValue × List ℕ) → 0 < n → au_at each 0 bytes ≡ Ok x → aus_from each n bytes ≡ x.0 ∷ aus_from each (n - 1) x.1
aus_first each n bytes x some e = first_anywhere (au_at each) (au_anywhere each) n 0 bytes x some e

pub aus_zero : (each : Bool) (n : ℕ) (bytes : List ℕ) → n ≡ 0 → aus_from each n bytes ≡ []
aus_zero each n bytes e = items_zero (au_at each) n 0 bytes e

pub aus_err : (each : Bool) (n : ℕ) (bytes : List ℕ) (d : Refused TimesWhy) → au_at each 0 bytes ≡ Err d → aus_from each n bytes ≡ []
aus_err each n bytes d e = no_item (au_at each) n 0 bytes d e

-- ---- one access unit's time after the other

pub units_none : (time offset timescale default before : ℕ) (aus : List AuValue) → aus ≡ [] → unit_times time offset timescale default before aus ≡ []
unfolding unit_times
units_none time offset timescale default before aus e = rw e refl

pub units_first : (time offset timescale default before : ℕ) (aus : List AuValue) (a : AuValue) (more : List AuValue) → aus ≡ a ∷ more
    → unit_times time offset timescale default before aus ≡ time_at time offset before a.dts_pts timescale ∷ unit_times time offset timescale default (before + pts_or default a.pts) more
unfolding unit_times
units_first time offset timescale default before aus a more e = rw e refl

-- ---- those in range

pub range_none : (us : List (Option ℕ)) → us ≡ [] → in_range us ≡ []
unfolding in_range
range_none us e = rw e refl

pub range_stop : (us more : List (Option ℕ)) → us ≡ None ∷ more → in_range us ≡ []
unfolding in_range
range_stop us more e = rw e refl

pub range_first : (us more : List (Option ℕ)) (t : ℕ) → us ≡ Some t ∷ more → in_range us ≡ t ∷ in_range more
unfolding in_range
range_first us more t e = rw e refl

pub range_count : (us more : List (Option ℕ)) (t : ℕ) → us ≡ Some t ∷ more → length (in_range us) ≡ length (in_range more) + 1
range_count us more t e = ap length (range_first us more t e) ∙ omega arith

-- ---- whether all are

with_is : (t : ℕ) (o : Option (List ℕ)) → is_some (with_first t o) ≡ is_some o
with_is t None = refl
with_is t (Some ts) = refl

pub all_first : (us more : List (Option ℕ)) (t : ℕ) → us ≡ Some t ∷ more → is_some (all_in_range us) ≡ is_some (all_in_range more)
unfolding all_in_range
all_first us more t e = rw e (with_is t (all_in_range more))

pub all_none : (us : List (Option ℕ)) → us ≡ [] → is_some (all_in_range us) ≡ true
unfolding all_in_range
all_none us e = rw e refl

pub all_stop : (us more : List (Option ℕ)) → us ≡ None ∷ more → is_some (all_in_range us) ≡ false
unfolding all_in_range
all_stop us more e = rw e refl

pub none_is : {A : Type 0} (o : Option A) → is_some o ≡ false → o ≡ None
none_is None e = refl
none_is (Some x) e = absurd cc

with_all : (t : ℕ) (o : Option (List ℕ)) (ts : List ℕ) → (is_some o ≡ true → o ≡ Some ts) → is_some (with_first t o) ≡ true → with_first t o ≡ Some (t ∷ ts)
with_all t None ts h e = absurd cc
with_all t (Some us) ts h e = ap (with_first t) (h refl)

pub all_is : (us : List (Option ℕ)) → is_some (all_in_range us) ≡ true → all_in_range us ≡ Some (in_range us)
unfolding all_in_range in_range
all_is [] e = refl
all_is (None ∷ us) e = absurd cc
all_is (Some t ∷ us) e = with_all t (all_in_range us) (in_range us) (all_is us) e
