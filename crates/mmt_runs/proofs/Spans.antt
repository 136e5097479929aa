-- What was told, as packets and names come and go.
use Rattle.std.proofs.Common.{◌≡◌, ℕ, Bool, true, false, ◌&&◌, ◌||◌, ◌==◌, nat_lt, cond, List, [], ◌∷◌, ◌++◌, ◌⊎◌, inl, inr, ⊎_elim, map, refl, ap, sym, ◌∙◌, arith, subst, Option, Some, None, IfSome}
use Rattle.std.specs.List.{AllByRecursion}
use Rattle.std.specs.Ordering.{is_eq}
use Rattle.std.proofs.lemmas.Bool.Decides.{nat_tests}
use Rattle.std.proofs.lemmas.Bool.{eq-eqb, eqb-true, and_parts}
use Rattle.mmt_model.specs.Sorted.{insert_by}
use Rattle.mmt_model.specs.Entries.{Entry, forget}
use Rattle.mmt_model.specs.Packets.{DataUnit, Payload}
use Rattle.mmt_pool.specs.declared.types.Span.{Span}
use Rattle.mmt_pool.specs.Holding.{Kept, is_at, is_before, without, IsInOrder}
use Rattle.mmt_pool.specs.Holding.{packet_at as kept_at}
use Rattle.mmt_pool.specs.Doing.{span_of}
use Rattle.mmt_pool.proofs.Entries.{order, same_span}
use Rattle.mmt_pool.proofs.Kept.{in_order-without}
use Rattle.mmt_times.specs.Known.{Known, HasOneEach, time_in}
use Rattle.mmt_times.proofs.OneEach.{one-forget, time-forgotten, time-added}
use Rattle.mmt_runs.specs.declared.index.Due.{Due}
use Rattle.mmt_runs.specs.Index.{IsIn, Keeps, KeepsOthers, HasTimes, at_span, begun_by, spelled_at}
use Rattle.mmt_runs.specs.Told.{IsTold, IsIndexed, Tracked}
use Rattle.mmt_runs.proofs.DueOrder.{Either, Alike, Unlike, either}
use Rattle.mmt_runs.proofs.Indexing.{times-keep, times-known, times-none}

-- ---- the kept packet of a span as others come and go

at-span : (t : Span) (q : Kept) → is_at t.packet_id t.number q ≡ true → span_of q ≡ t
unfolding is_at
at-span t q e = let h = and_parts (q.packet_id == t.packet_id) (q.number == t.number) e in same_span (span_of q) t (eqb-true q.packet_id t.packet_id h.0) (eqb-true q.number t.number h.1)

not-at : (s t : Span) (q : Kept) → (t ≡ s → ⊥) → is_at s.packet_id s.number q ≡ true → is_at t.packet_id t.number q ≡ false
not-at s t q n e = go (is_at t.packet_id t.number q) refl
  where
    go : (b : Bool) → is_at t.packet_id t.number q ≡ b → b ≡ false
    go true f = absurd (n (sym (at-span t q f) ∙ at-span s q e))
    go false f = refl

new-other : (p : Kept) (t : Span) → (t ≡ span_of p → ⊥) → is_at t.packet_id t.number p ≡ false
new-other p t n = go (is_at t.packet_id t.number p) refl
  where
    go : (b : Bool) → is_at t.packet_id t.number p ≡ b → b ≡ false
    go true f = absurd (n (sym (at-span t p f)))
    go false f = refl

pub without-other : (kept : List Kept) (s t : Span) → (t ≡ s → ⊥) → kept_at (without kept s.packet_id s.number) t.packet_id t.number ≡ kept_at kept t.packet_id t.number
without-other [] s t n = refl
without-other (q ∷ kept) s t n = go (is_at s.packet_id s.number q) refl (without-other kept s t n)
  where
    go : (b : Bool) → is_at s.packet_id s.number q ≡ b → kept_at (without kept s.packet_id s.number) t.packet_id t.number ≡ kept_at kept t.packet_id t.number
        → kept_at (cond b kept (q ∷ without kept s.packet_id s.number)) t.packet_id t.number ≡ cond (is_at t.packet_id t.number q) (Some q) (kept_at kept t.packet_id t.number)
    go true e ih = rw (not-at s t q n e) refl
    go false e ih = ap (λ o. cond (is_at t.packet_id t.number q) (Some q) o) ih

later-not : (id number : ℕ) (p q : Kept) → is_at id number p ≡ true → is_before p q ≡ true → is_at id number q ≡ false
unfolding is_at is_before
later-not id number p q a b = grind (arith, nat_tests)

none-later : (s : Span) (p : Kept) (kept : List Kept) → is_at s.packet_id s.number p ≡ true → AllByRecursion (λ q. is_before p q ≡ true) kept → kept_at kept s.packet_id s.number ≡ None
none-later s p [] a h = refl
none-later s p (q ∷ kept) a h = rw (later-not s.packet_id s.number p q a h.0) (none-later s p kept a h.1)

pub without-here : (kept : List Kept) (s : Span) → IsInOrder kept → kept_at (without kept s.packet_id s.number) s.packet_id s.number ≡ None
unfolding IsInOrder
without-here [] s o = refl
without-here (q ∷ kept) s o = go (is_at s.packet_id s.number q) refl (without-here kept s o.1)
  where
    go : (b : Bool) → is_at s.packet_id s.number q ≡ b → kept_at (without kept s.packet_id s.number) s.packet_id s.number ≡ None → kept_at (cond b kept (q ∷ without kept s.packet_id s.number)) s.packet_id s.number ≡ None
    go true e ih = none-later s q kept e o.0
    go false e ih = rw e ih

pub insert-other : (p : Kept) (kept : List Kept) (t : Span) → (t ≡ span_of p → ⊥) → kept_at (insert_by is_before p kept) t.packet_id t.number ≡ kept_at kept t.packet_id t.number
unfolding insert_by
insert-other p [] t n = rw (new-other p t n) refl
insert-other p (q ∷ kept) t n = go (is_before q p) (insert-other p kept t n)
  where
    go : (b : Bool) → kept_at (insert_by is_before p kept) t.packet_id t.number ≡ kept_at kept t.packet_id t.number
        → kept_at (cond b (q ∷ insert_by is_before p kept) (p ∷ q ∷ kept)) t.packet_id t.number ≡ cond (is_at t.packet_id t.number q) (Some q) (kept_at kept t.packet_id t.number)
    go true ih = ap (λ o. cond (is_at t.packet_id t.number q) (Some q) o) ih
    go false ih = rw (new-other p t n) refl

-- ---- what was told

abbrev spelled : List Kept → Span → Payload
spelled kept s = spelled_at (kept_at kept s.packet_id s.number)

pub none_told : (told : Tracked) (known : Known) → known.entries ≡ [] → IsTold told [] known
unfolding IsTold IsInOrder HasOneEach
none_told told known e = record { in_order = tt; one_each = rw e tt; begins = λ s. tt; has_times = λ i s. tt }

pub added_told : (old new : Tracked) (s : Span) (p : Kept) (kept now : List Kept) (known : Known)
    → IfSome (begun_by (spelled now s)) (λ mpu. at_span new.starts s ≡ Some mpu)
    → ((t : Span) → (t ≡ s → ⊥) → at_span new.starts t ≡ at_span old.starts t)
    → Keeps old.index new.index
    → (new.is_indexed ≡ true → HasTimes new.index known s (spelled now s))
    → (new.is_indexed ≡ true → old.is_indexed ≡ true)
    → IsTold old kept known → s ≡ span_of p → now ≡ insert_by is_before p kept → IsInOrder now → IsTold new now known
unfolding IsTold
added_told old new s p kept now known begun others keeps times was t is placed o =
    record {
      in_order = o;
      one_each = t.one_each;
      begins = λ r. go_begins r (either s r);
      has_times = λ i r. go_times i r (either s r);
    }
  where
    same_at : (r : Span) → (r ≡ s → ⊥) → kept_at now r.packet_id r.number ≡ kept_at kept r.packet_id r.number
    same_at r n = ap (λ l. kept_at l r.packet_id r.number) placed ∙ insert-other p kept r (λ e. n (e ∙ sym is))

    go_begins : (r : Span) → Either s r → IfSome (begun_by (spelled now r)) (λ mpu. at_span new.starts r ≡ Some mpu)
    go_begins r (Alike e same) = subst (λ r. IfSome (begun_by (spelled now r)) (λ mpu. at_span new.starts r ≡ Some mpu)) same begun
    go_begins r (Unlike e n) = rw (same_at r n, others r n) (t.begins r)

    go_times : new.is_indexed ≡ true → (r : Span) → Either s r → HasTimes new.index known r (spelled now r)
    go_times i r (Alike e same) = subst (λ r. HasTimes new.index known r (spelled now r)) same (times i)
    go_times i r (Unlike e n) = rw (same_at r n) (times-keep old.index new.index known r (spelled kept r) (λ q e h. keeps q h) (t.has_times (was i) r))

pub removed_told : (old new : Tracked) (s : Span) (kept : List Kept) (known : Known)
    → ((t : Span) → at_span new.starts t ≡ cond (is_eq (order s t)) None (at_span old.starts t))
    → KeepsOthers old.index new.index s
    → new.is_indexed ≡ old.is_indexed
    → IsTold old kept known → IsTold new (without kept s.packet_id s.number) known
unfolding IsTold
removed_told old new s kept known gets keeps was t =
    record {
      in_order = in_order-without kept s.packet_id s.number t.in_order;
      one_each = t.one_each;
      begins = λ r. go_begins r (either s r);
      has_times = λ i r. go_times i r (either s r);
    }
  where
    gone : (r : Span) → s ≡ r → kept_at (without kept s.packet_id s.number) r.packet_id r.number ≡ None
    gone r same = subst (λ r. kept_at (without kept s.packet_id s.number) r.packet_id r.number ≡ None) same (without-here kept s t.in_order)

    go_begins : (r : Span) → Either s r → IfSome (begun_by (spelled (without kept s.packet_id s.number) r)) (λ mpu. at_span new.starts r ≡ Some mpu)
    go_begins r (Alike e same) = rw (gone r same) tt
    go_begins r (Unlike e n) = rw (without-other kept s r n, gets r, e) (t.begins r)

    go_times : new.is_indexed ≡ true → (r : Span) → Either s r → HasTimes new.index known r (spelled (without kept s.packet_id s.number) r)
    go_times i r (Alike e same) = rw (gone r same) tt
    go_times i r (Unlike e n) = rw (without-other kept s r n) (times-keep old.index new.index known r (spelled kept r) (λ q e h. keeps q (λ x. n (sym e ∙ x)) h) (t.has_times (sym was ∙ i) r))

pub named_told : (old new : Tracked) (kept : List Kept) (before : List Entry) (e : Entry) (known : Known)
    → new.starts ≡ old.starts
    → Keeps old.index new.index
    → (new.is_indexed ≡ true → old.is_indexed ≡ true)
    → HasOneEach known.entries
    → (new.is_indexed ≡ true → (s : Span) → s.packet_id ≡ e.packet_id → at_span old.starts s ≡ Some e.mpu → HasTimes new.index known s (spelled kept s))
    → known.entries ≡ before ++ e ∷ []
    → IsTold old kept (record { entries = before; sample_base = known.sample_base }) → IsTold new kept known
unfolding IsTold
named_told old new kept before e known starts keeps was one put is t =
    record {
      in_order = t.in_order;
      one_each = one;
      begins = λ r. rw starts (t.begins r);
      has_times = λ i r. go i r (begun_by (spelled kept r)) refl;
    }
  where
    earlier : (r : Span) (mpu : ℕ) (d : DataUnit) (u : ℕ) → ((e.packet_id == r.packet_id) && (e.mpu == mpu)) ≡ false → time_in known r.packet_id mpu d.key ≡ Some u → time_in (record { entries = before; sample_base = known.sample_base }) r.packet_id mpu d.key ≡ Some u
    earlier r mpu d u n f = time-added known.sample_base before e r.packet_id mpu d.key u n (sym (ap (λ es. time_in (record { entries = es; sample_base = known.sample_base }) r.packet_id mpu d.key) is) ∙ f)

    some_is : (m n : ℕ) → Some m ≡ Some n → m ≡ n
    some_is m n e = cc

    by_test : new.is_indexed ≡ true → (r : Span) (mpu : ℕ) → begun_by (spelled kept r) ≡ Some mpu → (b : Bool) → ((e.packet_id == r.packet_id) && (e.mpu == mpu)) ≡ b → HasTimes new.index known r (spelled kept r)
    by_test i r mpu b true f =
        let h = and_parts (e.packet_id == r.packet_id) (e.mpu == mpu) f in
        let begun : at_span old.starts r ≡ Some mpu = rw b at (t.begins r) in
        put i r (sym (eqb-true e.packet_id r.packet_id h.0)) (begun ∙ ap (λ m. Some m) (sym (eqb-true e.mpu mpu h.1)))
    by_test i r mpu b false f =
        times-keep old.index new.index known r (spelled kept r) (λ q e h. keeps q h)
        (times-known old.index (record { entries = before; sample_base = known.sample_base }) known r (spelled kept r)
        (λ m g d u k. earlier r m d u (subst (λ m. ((e.packet_id == r.packet_id) && (e.mpu == m)) ≡ false) (some_is mpu m (sym b ∙ g)) f) k)
        (t.has_times (was i) r))

    go : new.is_indexed ≡ true → (r : Span) (o : Option ℕ) → begun_by (spelled kept r) ≡ o → HasTimes new.index known r (spelled kept r)
    go i r None f = times-none new.index known r (spelled kept r) f
    go i r (Some mpu) f = by_test i r mpu f ((e.packet_id == r.packet_id) && (e.mpu == mpu)) refl

-- what was told is still so where entries are forgotten
pub forgotten_told : (told : Tracked) (kept : List Kept) (known : Known) (from to : ℕ) → IsTold told kept known → IsTold told kept (record { entries = forget from to known.entries; sample_base = known.sample_base })
unfolding IsTold
forgotten_told told kept known from to t =
    record {
      in_order = t.in_order;
      one_each = one-forget from to known.entries t.one_each;
      begins = t.begins;
      has_times = λ i r. times-known told.index known _ r (spelled kept r) (λ mpu g d u f. time-forgotten from to known.sample_base known.entries r.packet_id mpu d.key u t.one_each f) (t.has_times i r);
    }

-- the kept packets of which was told stand in their order
pub told_order : (told : Tracked) (kept : List Kept) (known : Known) → IsTold told kept known → IsInOrder kept
unfolding IsTold
told_order told kept known t = t.in_order

-- the index has the times of each packet
pub told_times : (told : Tracked) (kept : List Kept) (known : Known) → IsTold told kept known → told.is_indexed ≡ true → (s : Span) → HasTimes told.index known s (spelled_at (kept_at kept s.packet_id s.number))
unfolding IsTold
told_times told kept known t i s = t.has_times i s

-- each packet that units may begin in is known
pub told_begins : (told : Tracked) (kept : List Kept) (known : Known) → IsTold told kept known → (s : Span) → IfSome (begun_by (spelled_at (kept_at kept s.packet_id s.number))) (λ mpu. at_span told.starts s ≡ Some mpu)
unfolding IsTold
told_begins told kept known t s = t.begins s

-- one of those packets is the next, or is among the rest
pub next_start : (e : Span × ℕ) (rest : List (Span × ℕ)) (s : Span) (mpu : ℕ) → at_span (e ∷ rest) s ≡ Some mpu → ((s ≡ e.0) × (e.1 ≡ mpu)) ⊎ (at_span rest s ≡ Some mpu)
next_start e rest s mpu f = go (either s e.0) f
  where
    some_is : Some e.1 ≡ Some mpu → e.1 ≡ mpu
    some_is g = cc

    go : Either s e.0 → cond (is_eq (order s e.0)) (Some e.1) (at_span rest s) ≡ Some mpu → ((s ≡ e.0) × (e.1 ≡ mpu)) ⊎ (at_span rest s ≡ Some mpu)
    go (Alike o same) f = inl (same, some_is (rw o at f))
    go (Unlike o n) f = inr (rw o at f)

-- the other packets of those stay
pub others_stay : (old new : List (Span × ℕ)) (s : Span) (w : Option ℕ) → ((t : Span) → at_span new t ≡ cond (is_eq (order s t)) w (at_span old t)) → (t : Span) → (t ≡ s → ⊥) → at_span new t ≡ at_span old t
others_stay old new s w gets t n = go (either s t)
  where
    go : Either s t → at_span new t ≡ at_span old t
    go (Alike e same) = absurd (n (sym same))
    go (Unlike e m) = rw (gets t, e) refl
