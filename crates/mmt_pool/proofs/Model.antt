-- What a pool does is what the model does with packets that show the kept ones.
use Rattle.std.proofs.Common.{◌≡◌, ℕ, ◌+◌, Bool, true, false, not, ◌||◌, nat_lt, cond, List, [], ◌∷◌, map, length, refl, ap, sym, ◌∙◌, arith, filter, sum_by, Some, Result, Ok, Err}
use Rattle.std.specs.List.{list_any}
use Rattle.std.proofs.lemmas.List.Sums.{sum_by-cons}
use Rattle.mmt_base.specs.Ticks.{is_after, plus}
use Rattle.mmt_model.specs.Sorted.{insert_by}
use Rattle.mmt_model.specs.Packets.{Heard}
use Rattle.mmt_model.specs.declared.programmes.Params.{Params}
use Rattle.mmt_model.specs.Keeping.{is_in_time, is_in_window as in_window, is_repeat, is_kept_before, Outcome, outcome, kept_after, still_kept}
use Rattle.mmt_pool.specs.declared.types.Span.{Span}
use Rattle.mmt_pool.specs.declared.types.NotStored.{NotStored}
use Rattle.mmt_pool.specs.declared.types.NotStored.TheVariants as why
use Rattle.mmt_pool.specs.Holding.{Kept, Holding, held, size_of, is_at, is_before, is_in_window}
use Rattle.mmt_pool.specs.Outcome.{pool_outcome, Shows, Follows}
use Rattle.mmt_pool.specs.Doing.{Stores}

repeat-shown : (heard : Kept → Heard) → Shows heard → (p q : Kept) → is_repeat (heard p) (heard q) ≡ is_at p.packet_id p.number q
unfolding is_repeat is_at
repeat-shown heard s p q = rw (s.packet_id q, s.packet_id p, s.number q, s.number p) refl

any-shown : (heard : Kept → Heard) → Shows heard → (p : Kept) (kept : List Kept) → list_any (is_repeat (heard p)) (map heard kept) ≡ list_any (is_at p.packet_id p.number) kept
any-shown heard s p [] = refl
any-shown heard s p (q ∷ kept) = rw (repeat-shown heard s p q) (ap (λ b. is_at p.packet_id p.number q || b) (any-shown heard s p kept))

sum-shown : (heard : Kept → Heard) → Shows heard → (kept : List Kept) → sum_by (λ h. h.length) (map heard kept) ≡ held kept
sum-shown heard s [] = refl
sum-shown heard s (q ∷ kept) = omega (arith, sum_by-cons (λ (h : Heard). h.length) (heard q) (map heard kept), sum_by-cons size_of q kept, sum-shown heard s kept, s.length q)

-- the pool's outcome of a packet that the model opens is the model's
pub outcome-shown : (heard : Kept → Heard) → Shows heard → (window clock delay : ℕ) (h : Holding) (p : Kept) → (heard p).is_opened ≡ true
    → outcome (record { window = window; delay = delay; bound = h.bound }) clock (map heard h.kept) (heard p) ≡ pool_outcome h clock delay p
unfolding outcome pool_outcome is_in_time
outcome-shown heard s window clock delay h p o =
    rw (any-shown heard s p h.kept, sum-shown heard s h.kept, s.time p, s.length p, o) (twice (is_after clock (plus p.time delay)))
  where
    twice : (b : Bool) → cond (not (not b)) Outcome.Late (cond (list_any (is_at p.packet_id p.number) h.kept) Outcome.Repeat (cond (nat_lt h.bound (held h.kept + length p.payload)) Outcome.Full Outcome.Stored))
        ≡ cond b Outcome.Late (cond (list_any (is_at p.packet_id p.number) h.kept) Outcome.Repeat (cond (nat_lt h.bound (held h.kept + length p.payload)) Outcome.Full Outcome.Stored))
    twice true = refl
    twice false = refl

before-shown : (heard : Kept → Heard) → Shows heard → (p q : Kept) → is_kept_before (heard p) (heard q) ≡ is_before p q
unfolding is_kept_before is_before
before-shown heard s p q = rw (s.packet_id q, s.packet_id p, s.number q, s.number p) refl

-- a packet takes the same place among the model's packets
pub insert-shown : (heard : Kept → Heard) → Shows heard → (p : Kept) (kept : List Kept) → map heard (insert_by is_before p kept) ≡ insert_by is_kept_before (heard p) (map heard kept)
unfolding insert_by
insert-shown heard s p [] = refl
insert-shown heard s p (q ∷ kept) = rw (before-shown heard s q p) (go (is_before q p) (insert-shown heard s p kept))
  where
    go : (b : Bool) → map heard (insert_by is_before p kept) ≡ insert_by is_kept_before (heard p) (map heard kept)
        → map heard (cond b (q ∷ insert_by is_before p kept) (p ∷ q ∷ kept)) ≡ cond b (heard q ∷ insert_by is_kept_before (heard p) (map heard kept)) (heard p ∷ heard q ∷ map heard kept)
    go true ih = ap (λ l. heard q ∷ l) ih
    go false ih = refl

window-shown : (heard : Kept → Heard) → Shows heard → (r : Params) (clock : ℕ) (p : Kept) → in_window r clock (heard p) ≡ is_in_window clock r.window p
unfolding in_window is_in_window
window-shown heard s r clock p = rw (s.time p) refl

-- the kept packets in the window are those that the model leaves in it
pub rest-shown : (heard : Kept → Heard) → Shows heard → (r : Params) (clock : ℕ) (kept : List Kept) → still_kept r clock (map heard kept) ≡ map heard (filter (is_in_window clock r.window) kept)
unfolding still_kept
rest-shown heard s r clock [] = refl
rest-shown heard s r clock (p ∷ kept) = rw (window-shown heard s r clock p) (go (is_in_window clock r.window p) (rest-shown heard s r clock kept))
  where
    go : (b : Bool) → filter (in_window r clock) (map heard kept) ≡ map heard (filter (is_in_window clock r.window) kept)
        → cond b (heard p ∷ filter (in_window r clock) (map heard kept)) (filter (in_window r clock) (map heard kept)) ≡ map heard (cond b (p ∷ filter (is_in_window clock r.window) kept) (filter (is_in_window clock r.window) kept))
    go true ih = ap (λ l. heard p ∷ l) ih
    go false ih = ih

after-refused : (rest : List Heard) (h : Heard) (f : Outcome) → (f ≡ Outcome.Stored → ⊥) → kept_after f rest h ≡ rest
unfolding kept_after
after-refused rest h Outcome.Unopened n = refl
after-refused rest h Outcome.Late n = refl
after-refused rest h Outcome.Repeat n = refl
after-refused rest h Outcome.Full n = refl
after-refused rest h Outcome.Stored n = absurd (n refl)

after-stored : (rest : List Heard) (h : Heard) (f : Outcome) → f ≡ Outcome.Stored → kept_after f rest h ≡ insert_by is_kept_before h rest
unfolding kept_after
after-stored rest h f e = rw e refl

-- a refusal leaves what the model leaves
refused-follows : (heard : Kept → Heard) (old new : Holding) (f g : Outcome) (p : Kept) → f ≡ g → (g ≡ Outcome.Stored → ⊥) → new ≡ old
    → (f ≡ g) × (map heard new.kept ≡ kept_after f (map heard old.kept) (heard p))
refused-follows heard old new f g p e n same = (e, rw same (sym (after-refused (map heard old.kept) (heard p) f (λ x. n (sym e ∙ x)))))

-- what the pool does is what the model does
pub follows-stores : (old : Holding) (clock delay : ℕ) (p : Kept) (result : Result Span NotStored) (new : Holding) → Stores old clock delay p result new → Follows old clock delay p result new
follows-stores old clock delay p (Ok span) new d = λ heard s o window.
    let e = outcome-shown heard s window clock delay old p o ∙ d.0 in
    (e, rw (d.2) (insert-shown heard s p old.kept ∙ sym (after-stored (map heard old.kept) (heard p) _ e)))
follows-stores old clock delay p (Err (why.Late now)) new d = λ heard s o window. refused-follows heard old new _ Outcome.Late p (outcome-shown heard s window clock delay old p o ∙ d.0) (λ x. cc) (d.2)
follows-stores old clock delay p (Err why.Repeat) new d = λ heard s o window. refused-follows heard old new _ Outcome.Repeat p (outcome-shown heard s window clock delay old p o ∙ d.0) (λ x. cc) (d.1)
follows-stores old clock delay p (Err (why.Full sum length')) new d = λ heard s o window. refused-follows heard old new _ Outcome.Full p (outcome-shown heard s window clock delay old p o ∙ d.0) (λ x. cc) (d.3)
follows-stores old clock delay p (Err why.OutOfMemory) new d = λ heard s o window. (outcome-shown heard s window clock delay old p o ∙ d.0, rw (d.1) refl)
