-- What is kept is bounded, and what lives is.
use Rattle.std.proofs.Common.{◌≡◌, ℕ, ◌+◌, ◌≤◌, Bool, true, false, not, ◌&&◌, cond, ltb, List, [], ◌∷◌, ◌++◌, length, map, filter, refl, sym, ap, subst, arith}
use Rattle.std.specs.List.{sum_by, list_any}
use Rattle.std.proofs.lemmas.Bool.{ltb-false, ltb-true}
use Rattle.std.proofs.lemmas.List.{length-append}
use Rattle.std.proofs.lemmas.List.Sums.{sum_by-cons}
use Rattle.mmt_base.specs.Ticks.{is_after, is_passed, low}
use Rattle.mmt_model.specs.declared.programmes.Params.{Params}
use Rattle.mmt_model.specs.Packets.{Heard}
use Rattle.mmt_model.specs.Keeping.{Outcome, bytes_of, is_in_time, is_kept_before, is_repeat, kept_after, outcome}
use Rattle.mmt_model.specs.Entries.{Entry, forget, is_of_same_mpu, last_due, learn, learn_one}
use Rattle.mmt_model.proofs.Inserting.{sum-insert}
use Rattle.mmt_pool.specs.Holding.{Holding, Kept, held, size_of}
use Rattle.mmt_runs.specs.Reading.{heard}
use Rattle.mmt_times.specs.Known.{Known}
use Rattle.mmt_tune.specs.Tuning.{HeardAt, heard_as}
use Rattle.mmt_recv.specs.Taking.{Rules, Takes}
use Rattle.mmt_recv.proofs.Taken.{held_is}

-- ---- payload bytes

fewer : {X : Type 0} (f : X → ℕ) (p : X → Bool) (xs : List X) → sum_by f (filter p xs) ≤ sum_by f xs
fewer f p [] = omega arith
fewer f p (x ∷ xs) = go (p x) (fewer f p xs)
  where
    go : (b : Bool) → sum_by f (filter p xs) ≤ sum_by f xs → sum_by f (cond b (x ∷ filter p xs) (filter p xs)) ≤ sum_by f (x ∷ xs)
    go true ih = omega (arith, ih, sum_by-cons f x xs, sum_by-cons f x (filter p xs))
    go false ih = omega (arith, ih, sum_by-cons f x xs)

kept_bounded : (r : Params) (now : ℕ) (rest : List Heard) (h : Heard) → bytes_of rest ≤ r.bound → bytes_of (kept_after (outcome r now rest h) rest h) ≤ r.bound
unfolding outcome kept_after
kept_bounded r now rest h le = go (not h.is_opened) (not (is_in_time r now h)) (list_any (is_repeat h) rest) (ltb r.bound (bytes_of rest + h.length)) refl
  where
    go : (shut late again full : Bool) → ltb r.bound (bytes_of rest + h.length) ≡ full
        → bytes_of (kept_after (cond shut Outcome.Unopened (cond late Outcome.Late (cond again Outcome.Repeat (cond full Outcome.Full Outcome.Stored)))) rest h) ≤ r.bound
    go true late again full is = le
    go false true again full is = le
    go false false true full is = le
    go false false false true is = le
    go false false false false is = omega (arith, sum-insert is_kept_before (λ (p : Heard). p.length) h rest, ltb-false r.bound (bytes_of rest + h.length) is)

-- ---- live entries

shorter : {X : Type 0} (p : X → Bool) (xs : List X) → length (filter p xs) ≤ length xs
shorter p [] = omega arith
shorter p (x ∷ xs) = go (p x) (shorter p xs)
  where
    go : (b : Bool) → length (filter p xs) ≤ length xs → length (cond b (x ∷ filter p xs) (filter p xs)) ≤ length (x ∷ xs)
    go true ih = omega (arith, ih)
    go false ih = omega (arith, ih)

learn_one_bounded : (now : ℕ) (es : List Entry) (e : Entry) → length es ≤ 1024 → length (learn_one now es e) ≤ 1024
unfolding learn_one
learn_one_bounded now es e le = go (is_after (low (last_due e)) now) (not (list_any (is_of_same_mpu e) es)) (ltb (length es) 1024) refl
  where
    go : (after new room : Bool) → ltb (length es) 1024 ≡ room → length (cond (after && (new && room)) (es ++ e ∷ []) es) ≤ 1024
    go true true true is = omega (arith, length-append es (e ∷ []), ltb-true (length es) 1024 is)
    go true true false is = le
    go true false room is = le
    go false new room is = le

learn_bounded : (now : ℕ) (es new : List Entry) → length es ≤ 1024 → length (learn now es new) ≤ 1024
unfolding learn
learn_bounded now es [] le = le
learn_bounded now es (e ∷ new) le = learn_bounded now (learn_one now es e) new (learn_one_bounded now es e le)

-- ---- a heard packet more

-- packets leave the window
pub left_bounded : (old mid : Holding) (p : Kept → Bool) (bound : ℕ) → mid.kept ≡ filter p old.kept → held old.kept ≤ bound → held mid.kept ≤ bound
left_bounded old mid p bound is le = omega (arith, ap held is, fewer size_of p old.kept)

-- entries are forgotten
pub forgotten_bounded : (old mid : Known) (from to : ℕ) → mid ≡ record { entries = forget from to old.entries; sample_base = old.sample_base } → length old.entries ≤ 1024 → length mid.entries ≤ 1024
unfolding forget
forgotten_bounded old mid from to is le = omega (arith, ap (λ (k : Known). length k.entries) is, shorter (λ (e : Entry). not (is_passed (low (last_due e)) from to)) old.entries)

module _ (r : Rules) (old : Holding) (live : Known) (h : HeardAt) (new : Holding) (next : Known) (t : Takes r old live h new next) where
  -- a packet is kept
  pub taken_bounded : held old.kept ≤ r.bound → held new.kept ≤ r.bound
  taken_bounded le =
      let all = kept_bounded (record { bound = r.bound; window = r.values.window; delay = r.values.delay }) r.clock (map heard old.kept) (heard_as h.packet) (omega (arith, held_is old.kept)) in
      omega (arith, all, held_is new.kept, ap bytes_of t.kept)

  -- entries are learned
  pub learned_bounded : length live.entries ≤ 1024 → length next.entries ≤ 1024
  learned_bounded le = subst (λ (es : List Entry). length es ≤ 1024) (sym t.entries) (learn_bounded r.clock live.entries _ le)
