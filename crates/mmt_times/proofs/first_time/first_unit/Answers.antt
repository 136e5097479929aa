use Rattle.std.proofs.Common.{ℕ, ◌+◌, ◌-◌, ◌∷◌, ◌∙◌, sym, ap, Option, option_map}
use Rattle.mmt_times.specs.TimesLeft.{view_time}
use Rattle.mmt_times.specs.Times.{unit_times, pts_or}
use Rattle.mmt_times.specs.AuReading.{aus_from}
use Rattle.mmt_times.specs.AuView.{view_au}
use Rattle.mmt_times.proofs.TimesSteps.{units_first}
use Rattle.mmt_times.proofs.first_time.first_unit.Goals as goal

pub returns-clause-first : goal.returns-clause-first
returns-clause-first c =
    let t = c.args.times.now in
    let more = aus_from t.each (t.left - 1) c.in_ok-au.rest.now in
    units_first t.time.0 t.offset t.timescale t.default t.before (aus_from t.each t.left t.rest.now) (view_au c.in_ok-au.au) more c.in_ok-au.ensures.first
    ∙ ap (λ (first : Option ℕ). first ∷ unit_times t.time.0 t.offset t.timescale t.default (t.before + pts_or t.default c.in_ok-au.au.pts) more) (sym c.time_at-time.ensures)
    ∙ ap (λ (pts : ℕ). option_map view_time c.time_at-time.result ∷ unit_times t.time.0 t.offset t.timescale t.default (t.before + pts) more) (sym c.pts_or.ensures)
