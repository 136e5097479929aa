-- Kept packets: their sum, their order, those that are taken out, and those that come.
use Rattle.std.proofs.Common.{◌≡◌, ℕ, ◌+◌, ◌-◌, ◌<◌, ◌≤◌, Bool, true, false, ◌||◌, nat_lt, cond, List, [], ◌∷◌, length, take, drop, refl, ap, arith, filter, max, Some, None, Result, Ok, Err}
use Rattle.std.specs.List.{list_any, AllByRecursion}
use Rattle.std.proofs.lemmas.Bool.Decides.{nat_tests}
use Rattle.std.proofs.lemmas.Bool.{lt-ltb, le-ltb}
use Rattle.std.proofs.lemmas.List.Sums.{sum_by-cons}
use Rattle.mmt_base.specs.Ticks.{is_after, plus}
use Rattle.mmt_model.specs.Sorted.{insert_by}
use Rattle.mmt_model.specs.Keeping.{Outcome}
use Rattle.mmt_model.proofs.Inserting.{sum-insert}
use Rattle.mmt_pool.specs.declared.types.Span.{Span}
use Rattle.mmt_pool.specs.declared.types.NotStored.{NotStored}
use Rattle.mmt_pool.specs.declared.types.NotStored.TheVariants as why
use Rattle.mmt_pool.specs.Holding.{Kept, Holding, held, size_of, is_at, is_before, is_in_window, packet_at, without, IsInOrder, IsKeepable, HasRoom, IsSound, HasPart, part_at, LiesAt}
use Rattle.mmt_pool.specs.Outcome.{pool_outcome}
use Rattle.mmt_pool.specs.Doing.{with_packet, span_of, Keeps, Stores}

-- the sum without a packet is less by its length
pub held-without : (kept : List Kept) (id number : ℕ) (p : Kept) → packet_at kept id number ≡ Some p → held (without kept id number) + length p.payload ≡ held kept
held-without [] id number p f = absurd cc
held-without (q ∷ kept) id number p f = go (is_at id number q) (λ g. held-without kept id number p g) f
  where
    go : (b : Bool) → (packet_at kept id number ≡ Some p → held (without kept id number) + length p.payload ≡ held kept) → cond b (Some q) (packet_at kept id number) ≡ Some p
        → held (cond b kept (q ∷ without kept id number)) + length p.payload ≡ held (q ∷ kept)
    go true ih e = let same : q ≡ p = cc in omega (arith, sum_by-cons size_of q kept, ap size_of same)
    go false ih e = omega (arith, sum_by-cons size_of q kept, sum_by-cons size_of q (without kept id number), ih e)

-- one packet fewer
pub length-without : (kept : List Kept) (id number : ℕ) (p : Kept) → packet_at kept id number ≡ Some p → length (without kept id number) < length kept
length-without [] id number p f = absurd cc
length-without (q ∷ kept) id number p f = go (is_at id number q) (λ g. length-without kept id number p g) f
  where
    go : (b : Bool) → (packet_at kept id number ≡ Some p → length (without kept id number) < length kept) → cond b (Some q) (packet_at kept id number) ≡ Some p
        → length (cond b kept (q ∷ without kept id number)) < length (q ∷ kept)
    go true ih e = omega arith
    go false ih e = omega (arith, ih e)

-- what holds of each kept packet holds of one of them
pub each_at : (P : Kept → Type 0) (kept : List Kept) (id number : ℕ) (p : Kept) → AllByRecursion P kept → packet_at kept id number ≡ Some p → P p
each_at P [] id number p h f = absurd cc
each_at P (q ∷ kept) id number p h f = go (is_at id number q) (λ g. each_at P kept id number p h.1 g) f
  where
    go : (b : Bool) → (packet_at kept id number ≡ Some p → P p) → cond b (Some q) (packet_at kept id number) ≡ Some p → P p
    go true ih e = let same : q ≡ p = cc in subst_at same
      where
        subst_at : q ≡ p → P p
        subst_at s = rw (← s) h.0
    go false ih e = ih e

-- and of those without one
pub each_without : (P : Kept → Type 0) (kept : List Kept) (id number : ℕ) → AllByRecursion P kept → AllByRecursion P (without kept id number)
each_without P [] id number h = tt
each_without P (q ∷ kept) id number h = go (is_at id number q) (each_without P kept id number h.1)
  where
    go : (b : Bool) → AllByRecursion P (without kept id number) → AllByRecursion P (cond b kept (q ∷ without kept id number))
    go true ih = h.1
    go false ih = (h.0, ih)

-- and of those with one more
pub each_insert : (P : Kept → Type 0) (p : Kept) (kept : List Kept) → P p → AllByRecursion P kept → AllByRecursion P (insert_by is_before p kept)
unfolding insert_by
each_insert P p [] a h = (a, tt)
each_insert P p (q ∷ kept) a h = go (is_before q p) (each_insert P p kept a h.1)
  where
    go : (b : Bool) → AllByRecursion P (insert_by is_before p kept) → AllByRecursion P (cond b (q ∷ insert_by is_before p kept) (p ∷ q ∷ kept))
    go true ih = (h.0, ih)
    go false ih = (a, h)

pub in_order-without : (kept : List Kept) (id number : ℕ) → IsInOrder kept → IsInOrder (without kept id number)
unfolding IsInOrder
in_order-without [] id number r = tt
in_order-without (q ∷ kept) id number r = go (is_at id number q) (in_order-without kept id number r.1)
  where
    go : (b : Bool) → IsInOrder (without kept id number) → IsInOrder (cond b kept (q ∷ without kept id number))
    go true ih = r.1
    go false ih = (each_without (λ y. is_before q y ≡ true) kept id number r.0, ih)

before_other : (p q : Kept) → is_at p.packet_id p.number q ≡ false → is_before q p ≡ false → is_before p q ≡ true
unfolding is_at is_before
before_other p q a b = grind (arith, nat_tests)

before_through : (p q s : Kept) → is_before p q ≡ true → is_before q s ≡ true → is_before p s ≡ true
unfolding is_before
before_through p q s a b = grind (arith, nat_tests)

each_before : (p q : Kept) (kept : List Kept) → is_before p q ≡ true → AllByRecursion (λ y. is_before q y ≡ true) kept → AllByRecursion (λ y. is_before p y ≡ true) kept
each_before p q [] a h = tt
each_before p q (y ∷ kept) a h = (before_through p q y a h.0, each_before p q kept a h.1)

pub in_order-insert : (p : Kept) (kept : List Kept) → IsInOrder kept → list_any (is_at p.packet_id p.number) kept ≡ false → IsInOrder (insert_by is_before p kept)
unfolding insert_by IsInOrder
in_order-insert p [] r n = (tt, tt)
in_order-insert p (q ∷ kept) r n =
    let a : is_at p.packet_id p.number q ≡ false = or_left_false (is_at p.packet_id p.number q) (list_any (is_at p.packet_id p.number) kept) n in
    let m : list_any (is_at p.packet_id p.number) kept ≡ false = or_right_false (is_at p.packet_id p.number q) (list_any (is_at p.packet_id p.number) kept) n in
    go (is_before q p) refl a (in_order-insert p kept r.1 m)
  where
    or_left_false : (x y : Bool) → (x || y) ≡ false → x ≡ false
    or_left_false true y e = e
    or_left_false false y e = refl

    or_right_false : (x y : Bool) → (x || y) ≡ false → y ≡ false
    or_right_false true y e = absurd cc
    or_right_false false y e = e

    go : (b : Bool) → is_before q p ≡ b → is_at p.packet_id p.number q ≡ false → IsInOrder (insert_by is_before p kept) → IsInOrder (cond b (q ∷ insert_by is_before p kept) (p ∷ q ∷ kept))
    go true e a ih = (each_insert (λ y. is_before q y ≡ true) p kept e r.0, ih)
    go false e a ih = let b = before_other p q a e in ((b, each_before p q kept b r.0), r)

-- the outcomes, one by one
pub pool_outcome-late : (h : Holding) (clock delay : ℕ) (p : Kept) → is_after clock (plus p.time delay) ≡ true → pool_outcome h clock delay p ≡ Outcome.Late
unfolding pool_outcome
pool_outcome-late h clock delay p a = rw a refl

pub pool_outcome-repeat : (h : Holding) (clock delay : ℕ) (p : Kept) → is_after clock (plus p.time delay) ≡ false → list_any (is_at p.packet_id p.number) h.kept ≡ true → pool_outcome h clock delay p ≡ Outcome.Repeat
unfolding pool_outcome
pool_outcome-repeat h clock delay p a b = rw (a, b) refl

pub pool_outcome-full : (h : Holding) (clock delay : ℕ) (p : Kept) → is_after clock (plus p.time delay) ≡ false → list_any (is_at p.packet_id p.number) h.kept ≡ false
    → h.bound < held h.kept + length p.payload → pool_outcome h clock delay p ≡ Outcome.Full
unfolding pool_outcome
pool_outcome-full h clock delay p a b l = rw (a, b, lt-ltb h.bound (held h.kept + length p.payload) l) refl

pub pool_outcome-stored : (h : Holding) (clock delay : ℕ) (p : Kept) → is_after clock (plus p.time delay) ≡ false → list_any (is_at p.packet_id p.number) h.kept ≡ false
    → held h.kept + length p.payload ≤ h.bound → pool_outcome h clock delay p ≡ Outcome.Stored
unfolding pool_outcome
pool_outcome-stored h clock delay p a b l = rw (a, b, le-ltb h.bound (held h.kept + length p.payload) l) refl

-- a packet that is to be stored is new, and has room
pub stored-room : (h : Holding) (clock delay : ℕ) (p : Kept) → pool_outcome h clock delay p ≡ Outcome.Stored → HasRoom h p
unfolding pool_outcome
stored-room h clock delay p v = go (is_after clock (plus p.time delay)) (list_any (is_at p.packet_id p.number) h.kept) (nat_lt h.bound (held h.kept + length p.payload)) refl refl v
  where
    go : (a b c : Bool) → list_any (is_at p.packet_id p.number) h.kept ≡ b → nat_lt h.bound (held h.kept + length p.payload) ≡ c
        → cond a Outcome.Late (cond b Outcome.Repeat (cond c Outcome.Full Outcome.Stored)) ≡ Outcome.Stored → HasRoom h p
    go true b c eb ec e = absurd cc
    go false true c eb ec e = absurd cc
    go false false true eb ec e = absurd cc
    go false false false eb ec e = record { absent = eb; room = grind (arith, nat_tests) }

-- a pool with one more packet is sound
pub sound-with : (h : Holding) (p : Kept) → IsSound h → HasRoom h p → IsKeepable p → IsSound (with_packet h p)
sound-with h p s r k =
    let e : held (insert_by is_before p h.kept) ≡ held h.kept + length p.payload = sum-insert is_before size_of p h.kept in
    record {
      within_peak = omega (arith, e);
      within_bound = omega (arith, r.room, s.within_peak, s.within_bound);
      in_order = in_order-insert p h.kept s.in_order r.absent;
      keepable = each_insert IsKeepable p h.kept k s.keepable;
    }

pub sound-without : (h : Holding) (id number : ℕ) (p : Kept) → packet_at h.kept id number ≡ Some p → IsSound h → IsSound (record h { kept = without h.kept id number })
sound-without h id number p f s =
    record {
      within_peak = omega (arith, held-without h.kept id number p f, s.within_peak);
      within_bound = s.within_bound;
      in_order = in_order-without h.kept id number s.in_order;
      keepable = each_without IsKeepable h.kept id number s.keepable;
    }

pub sound-stores : (old : Holding) (clock delay : ℕ) (p : Kept) (result : Result Span NotStored) (new : Holding) → IsSound old → IsKeepable p → Stores old clock delay p result new → IsSound new
sound-stores old clock delay p (Ok span) new s k d = rw (d.2) (sound-with old p s (stored-room old clock delay p d.0) k)
sound-stores old clock delay p (Err (why.Late now)) new s k d = rw (d.2) s
sound-stores old clock delay p (Err why.Repeat) new s k d = rw (d.1) s
sound-stores old clock delay p (Err (why.Full sum length')) new s k d = rw (d.3) s
sound-stores old clock delay p (Err why.OutOfMemory) new s k d = rw (d.1) s

-- the filter by the window is the same without an expired packet
pub filter-without : (clock window : ℕ) (kept : List Kept) (id number : ℕ) (p : Kept) → packet_at kept id number ≡ Some p → is_in_window clock window p ≡ false
    → filter (is_in_window clock window) (without kept id number) ≡ filter (is_in_window clock window) kept
filter-without clock window [] id number p f d = refl
filter-without clock window (q ∷ kept) id number p f d = go (is_at id number q) (λ g. filter-without clock window kept id number p g d) f
  where
    go : (b : Bool) → (packet_at kept id number ≡ Some p → filter (is_in_window clock window) (without kept id number) ≡ filter (is_in_window clock window) kept) → cond b (Some q) (packet_at kept id number) ≡ Some p
        → filter (is_in_window clock window) (cond b kept (q ∷ without kept id number)) ≡ filter (is_in_window clock window) (q ∷ kept)
    go true ih e = let same : q ≡ p = cc in rw (same, d) refl
    go false ih e = ap (λ l. cond (is_in_window clock window q) (q ∷ l) l) (ih e)

-- where all packets are in the window the filter by it leaves them all
pub filter-all : (clock window : ℕ) (kept : List Kept) → AllByRecursion (λ p. is_in_window clock window p ≡ true) kept → filter (is_in_window clock window) kept ≡ kept
filter-all clock window [] h = refl
filter-all clock window (p ∷ kept) h = rw (h.0) (ap (λ l. p ∷ l) (filter-all clock window kept h.1))

-- the range lies in the payload of the kept packet
pub part_in : (kept : List Kept) (id number from count : ℕ) (p : Kept) → HasPart kept id number from count → packet_at kept id number ≡ Some p → from + count ≤ length p.payload
part_in kept id number from count p h f = rw f at h

pub no_part : (kept : List Kept) (id number from count : ℕ) → HasPart kept id number from count → packet_at kept id number ≡ None → ⊥
no_part kept id number from count h f = rw f at h

pub part_is : (kept : List Kept) (id number from count : ℕ) (p : Kept) (bytes : List ℕ) → packet_at kept id number ≡ Some p → bytes ≡ p.payload → part_at kept id number from count ≡ Some (take (from + count - from) (drop from bytes))
part_is kept id number from count p bytes f b = let e : from + count - from ≡ count = omega arith in rw (f, e, b) refl

-- the payload as it is cut out of the bytes that it lies in
pub lying : (bytes : List ℕ) (from : ℕ) (payload : List ℕ) → LiesAt bytes from payload → take (from + length payload - from) (drop from bytes) ≡ payload
lying bytes from payload l = let e : from + length payload - from ≡ length payload = omega arith in rw e l.same

-- the peak of a pool with one more packet, or of one that stays as it was, is the greatest sum so far
pub peak-stores : (old : Holding) (clock delay : ℕ) (p : Kept) (result : Result Span NotStored) (new : Holding) → IsSound old → Stores old clock delay p result new → new.peak ≡ max old.peak (held new.kept)
peak-stores old clock delay p (Ok span) new s d = rw (d.2, sum-insert is_before size_of p old.kept) refl
peak-stores old clock delay p (Err (why.Late now)) new s d = rw (d.2) (omega (arith, s.within_peak))
peak-stores old clock delay p (Err why.Repeat) new s d = rw (d.1) (omega (arith, s.within_peak))
peak-stores old clock delay p (Err (why.Full sum length')) new s d = rw (d.3) (omega (arith, s.within_peak))
peak-stores old clock delay p (Err why.OutOfMemory) new s d = rw (d.1) (omega (arith, s.within_peak))

abbrev pub map_ok : Span → Result Unit NotStored → Result Span NotStored
map_ok span (Ok done) = Ok span
map_ok span (Err refusal) = Err refusal

-- what becomes of a packet that is in time is what becomes of it
pub keeps-stores : (old : Holding) (clock delay : ℕ) (p : Kept) (result : Result Unit NotStored) (span : Span) (new : Holding) → is_after clock (plus p.time delay) ≡ false → span ≡ span_of p → Keeps old p result new → Stores old clock delay p (map_ok span result) new
keeps-stores old clock delay p (Ok done) span new a e k = (pool_outcome-stored old clock delay p a k.0.absent k.0.room, e, k.1)
keeps-stores old clock delay p (Err (why.Late now)) span new a e k = absurd k
keeps-stores old clock delay p (Err why.Repeat) span new a e k = (pool_outcome-repeat old clock delay p a k.0, k.1)
keeps-stores old clock delay p (Err (why.Full sum length')) span new a e k = (pool_outcome-full old clock delay p a k.0 k.1, k.2, k.3, k.4)
keeps-stores old clock delay p (Err why.OutOfMemory) span new a e k = (pool_outcome-stored old clock delay p a k.0.absent k.0.room, k.1)
