-- The times of access units by the formula.
use Rattle.std.proofs.Common.{◌≡◌, ℕ, zero, suc, ◌+◌, ◌<◌, List, [], ◌∷◌, length, get_or, take, None, ap, ◌∙◌, arith}
use Rattle.std.specs.List.{sum_by}
use Rattle.std.proofs.lemmas.List.Sums.{sum_by-cons}
use Rattle.mmt_times.specs.Times.{AuValue, time_at, pts_or, unit_times, TimesFollowTheFormula}

from_before : (time offset timescale default before : ℕ) (aus : List AuValue) (n : ℕ) (a : AuValue) → n < length aus
    → get_or (unit_times time offset timescale default before aus) n None ≡ time_at time offset (before + sum_by (λ (b : AuValue). pts_or default b.pts) (take n aus)) (get_or aus n a).dts_pts timescale
unfolding unit_times
from_before time offset timescale default before [] n a lt = absurd (omega arith)
from_before time offset timescale default before (b ∷ aus) zero a lt =
    let same : before ≡ before + 0 = omega arith in
    ap (λ (s : ℕ). time_at time offset s b.dts_pts timescale) same
from_before time offset timescale default before (b ∷ aus) (suc n) a lt =
    let more = sum_by (λ (d : AuValue). pts_or default d.pts) (take n aus) in
    let all : sum_by (λ (d : AuValue). pts_or default d.pts) (b ∷ take n aus) ≡ pts_or default b.pts + more = sum_by-cons (λ (d : AuValue). pts_or default d.pts) b (take n aus) in
    let same : before + pts_or default b.pts + more ≡ before + sum_by (λ (d : AuValue). pts_or default d.pts) (b ∷ take n aus) = omega arith in
    from_before time offset timescale default (before + pts_or default b.pts) aus n a (omega arith)
    ∙ ap (λ (s : ℕ). time_at time offset s (get_or aus n a).dts_pts timescale) same

pub follow : TimesFollowTheFormula
follow time offset timescale default aus n a lt =
    let same : 0 + sum_by (λ (b : AuValue). pts_or default b.pts) (take n aus) ≡ sum_by (λ (b : AuValue). pts_or default b.pts) (take n aus) = omega arith in
    from_before time offset timescale default 0 aus n a lt ∙ ap (λ (s : ℕ). time_at time offset s (get_or aus n a).dts_pts timescale) same
