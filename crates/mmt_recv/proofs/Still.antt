-- Nothing is due where the clock passes the due tick of no time of an entry.
use Rattle.std.proofs.Common.{◌≡◌, ℕ, zero, suc, Bool, true, false, ◌&&◌, ◌||◌, cond, List, [], ◌∷◌, get_or, length, refl, filter}
use Rattle.std.specs.Prelude.{nat_le, nat_lt, ◌-◌, ◌==◌}
use Rattle.std.specs.List.{list_any, flat_map}
use Rattle.std.proofs.lemmas.List.Elements.{filter-append}
use Rattle.mmt_base.specs.Ticks.{due_of, is_passed, low}
use Rattle.mmt_model.specs.declared.keys.UnitKey.{UnitKey}
use Rattle.mmt_model.specs.declared.keys.UnitKey.TheVariants as keys
use Rattle.mmt_model.specs.Entries.{Entry}
use Rattle.mmt_model.specs.Handing.{Presentation, due_units, named_units, presentations_by, time_for, time_of}
use Rattle.mmt_model.specs.Sorted.{sort_by}
use Rattle.mmt_model.specs.Units.{MediaUnit}
use Rattle.mmt_times.specs.Known.{has_due}

both_false : (a b : Bool) → (a || b) ≡ false → (a ≡ false) × (b ≡ false)
both_false true b e = absurd cc
both_false false b e = (refl, e)

any_not : (f : ℕ → Bool) (xs : List ℕ) (i d : ℕ) → f d ≡ false → list_any f xs ≡ false → f (get_or xs i d) ≡ false
any_not f [] i d fails none = fails
any_not f (x ∷ xs) zero d fails none = (both_false (f x) (list_any f xs) none).0
any_not f (x ∷ xs) (suc i) d fails none = any_not f xs i d fails (both_false (f x) (list_any f xs) none).1

module _ (from to : ℕ) where
  abbrev Passes : ℕ → Bool
  Passes t = is_passed (low (due_of t)) from to

  abbrev IsDue : Presentation → Bool
  IsDue d = is_passed (low (due_of d.time)) from to

  time_not : (base : ℕ) (e : Entry) (k : UnitKey) → has_due from to e ≡ false → Passes (time_for base e k) ≡ false
  unfolding time_for
  time_not base e (keys.Item item) none = (both_false (Passes e.time) (list_any Passes e.aus) none).0
  time_not base e (keys.Timed movie_fragment sample offset) none =
      let parts = both_false (Passes e.time) (list_any Passes e.aus) none in
      go (nat_le base sample && nat_lt (sample - base) (length e.aus)) (any_not Passes e.aus (sample - base) e.time parts.0 parts.1) parts.0
    where
      go : (b : Bool) → Passes (get_or e.aus (sample - base) e.time) ≡ false → Passes e.time ≡ false → Passes (cond b (get_or e.aus (sample - base) e.time) e.time) ≡ false
      go true one other = one
      go false one other = other

  none_presented : (base : ℕ) (es : List Entry) (u : MediaUnit) → list_any (has_due from to) es ≡ false → filter IsDue (presentations_by base es u) ≡ []
  unfolding presentations_by time_of
  none_presented base [] u none = refl
  none_presented base (e ∷ es) u none =
      let parts = both_false (has_due from to e) (list_any (has_due from to) es) none in
      go ((e.packet_id == u.packet_id) && (e.mpu == u.mpu)) (time_not base e u.key parts.0) (none_presented base es u parts.1)
    where
      go : (b : Bool) → Passes (time_for base e u.key) ≡ false → filter IsDue (presentations_by base es u) ≡ [] → filter IsDue (cond b (record { unit = u; time = time_for base e u.key } ∷ []) (presentations_by base es u)) ≡ []
      go true is rest = rw is refl
      go false is rest = rest

  none_named : (base : ℕ) (es : List Entry) (us : List MediaUnit) → list_any (has_due from to) es ≡ false → filter IsDue (named_units base es us) ≡ []
  unfolding named_units
  none_named base es [] none = refl
  none_named base es (u ∷ us) none = rw (filter-append IsDue (presentations_by base es u) (flat_map (presentations_by base es) us), none_presented base es u none) (none_named base es us none)

  pub none_due : (base : ℕ) (es : List Entry) (us : List MediaUnit) → list_any (has_due from to) es ≡ false → due_units base es us from to ≡ []
  unfolding sort_by
  none_due base es us none = rw (none_named base es us none) refl
