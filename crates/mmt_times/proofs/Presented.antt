-- The time that the live entries give a unit is the one that it is handed out with.
use Rattle.std.proofs.Common.{◌≡◌, ℕ, Bool, true, false, ◌&&◌, ◌==◌, cond, List, [], ◌∷◌, Option, Some, None, option_map, refl, ap, ◌∙◌}
use Rattle.mmt_model.specs.Entries.{Entry}
use Rattle.mmt_model.specs.Handing.{Presentation, presentations_by, time_of, time_for}
use Rattle.mmt_model.specs.Units.{MediaUnit}
use Rattle.mmt_times.specs.Known.{entry_of, time_in}

-- a unit with a time, where there is one
abbrev pub timed : MediaUnit → Option ℕ → List Presentation
timed u None = []
timed u (Some t) = record { unit = u; time = t } ∷ []

pub presented : (base : ℕ) (es : List Entry) (u : MediaUnit) → presentations_by base es u ≡ timed u (time_in (record { entries = es; sample_base = base }) u.packet_id u.mpu u.key)
unfolding presentations_by time_of
presented base [] u = refl
presented base (e ∷ es) u = go ((e.packet_id == u.packet_id) && (e.mpu == u.mpu)) (presented base es u)
  where
    go : (b : Bool) → presentations_by base es u ≡ timed u (option_map (λ f. time_for base f u.key) (entry_of es u.packet_id u.mpu))
        → cond b (record { unit = u; time = time_of base e u } ∷ []) (presentations_by base es u) ≡ timed u (option_map (λ f. time_for base f u.key) (cond b (Some e) (entry_of es u.packet_id u.mpu)))
    go true ih = refl
    go false ih = ih

-- without a time there is no presentation
pub presented_none : (base : ℕ) (es : List Entry) (u : MediaUnit) → time_in (record { entries = es; sample_base = base }) u.packet_id u.mpu u.key ≡ None → presentations_by base es u ≡ []
presented_none base es u none = presented base es u ∙ ap (timed u) none

-- with a time there is one, with that time
pub presented_some : (base : ℕ) (es : List Entry) (u : MediaUnit) (t : ℕ) → time_in (record { entries = es; sample_base = base }) u.packet_id u.mpu u.key ≡ Some t → presentations_by base es u ≡ record { unit = u; time = t } ∷ []
presented_some base es u t some = presented base es u ∙ ap (timed u) some
