-- The queue stays tied to the map as packets come and go.
use Rattle.std.proofs.Common.{◌≡◌, ℕ, ◌/◌, ◌%◌, ◌^◌, ◌<◌, Bool, true, false, ◌||◌, ◌&&◌, ◌==◌, nat_lt, cond, ⊎_elim, List, [], ◌∷◌, map, refl, arith, ap, sym, ◌∙◌, Option, Some, None, option_map}
use Rattle.std.specs.List.{AllByRecursion}
use Rattle.std.specs.Map.{lookup}
use Rattle.std.specs.Ordering.{is_eq, nat_cmp}
use Rattle.std.proofs.lemmas.Bool.Decides.{nat_tests}
use Rattle.std.proofs.lemmas.Bool.{eq-eqb, eqb-true, ne_eqb, cases_eq}
use Rattle.mmt_pool.specs.declared.queue.Queued.{Queued}
use Rattle.mmt_pool.specs.declared.pool.Stored.{Stored}
use Rattle.mmt_pool.specs.Holding.{IsInOrder, is_before, is_in_window}
use Rattle.mmt_pool.specs.Doing.{IsExpired}
use Rattle.mmt_pool.specs.Stored.{key_of, entry_of}
use Rattle.mmt_pool.specs.Queue.{order as queue_order, has}
use Rattle.mmt_base.specs.Ticks.{is_after, plus}
use Rattle.mmt_pool.specs.Tied.{IsTied, has_time}
use Rattle.mmt_pool.proofs.Entries.{Compares, Same as IsSame, Lower, Higher, compares, same_place, same_key, whole_key, packet_at-entries}
use Rattle.mmt_pool.proofs.QueueOrder.{Apart, Same, Other, apart}

abbrev pub at : ℕ → List (ℕ × Stored) → Option Stored
at key es = lookup (λ k. is_eq (nat_cmp key k)) es

-- one more packet in the queue, or one fewer
abbrev pub Turns : List Queued → List Queued → Queued → Bool → Type 0
Turns old new q b = (r : Queued) → has new r ≡ cond (is_eq (queue_order q r)) b (has old r)

-- one more entry in the map, or one fewer
abbrev pub Gets : List (ℕ × Stored) → List (ℕ × Stored) → ℕ → Option Stored → Type 0
Gets old new key w = (k : ℕ) → at k new ≡ cond (is_eq (nat_cmp key k)) w (at k old)

-- a packet put into both
pub tied-insert : (old new : List Queued) (es fs : List (ℕ × Stored)) (q : Queued) (v : Stored) → q.span.number < 2 ^ 32 → v.time.0 ≡ q.time → at (key_of q.span) es ≡ None → Turns old new q true → Gets es fs (key_of q.span) (Some v) → IsTied old es → IsTied new fs
tied-insert old new es fs q v w t none turn gets tied = record { same = λ r b. same r b (apart q r) (compares q.span (key_of r.span) w) }
  where
    timed : (r : Queued) → q ≡ r → has_time r.time (at (key_of r.span) fs) ≡ true
    timed r here = rw (← here, gets (key_of q.span), same_place (key_of q.span), t) (eq-eqb q.time q.time refl)

    same : (r : Queued) → r.span.number < 2 ^ 32 → Apart q r → Compares q.span (key_of r.span) → has new r ≡ has_time r.time (at (key_of r.span) fs)
    same r b (Same e here) k = rw (turn r, e) (sym (timed r here))
    same r b (Other e n) (IsSame o key a) = rw (turn r, e, tied.same r b, ← key, none, gets (key_of q.span), same_place (key_of q.span)) (sym (ne_eqb v.time.0 r.time (λ x. n (sym t ∙ x) (same_key q.span r.span w b key))))
    same r b (Other e n) (Lower o c a) = rw (turn r, e, gets (key_of r.span), o) (tied.same r b)
    same r b (Other e n) (Higher o c a) = rw (turn r, e, gets (key_of r.span), o) (tied.same r b)

-- taken out of both
pub tied-remove : (old new : List Queued) (es fs : List (ℕ × Stored)) (q : Queued) (v : Stored) → q.span.number < 2 ^ 32 → v.time.0 ≡ q.time → at (key_of q.span) es ≡ Some v → Turns old new q false → Gets es fs (key_of q.span) None → IsTied old es → IsTied new fs
tied-remove old new es fs q v w t some turn gets tied = record { same = λ r b. same r b (apart q r) (compares q.span (key_of r.span) w) }
  where
    timed : (r : Queued) → q ≡ r → has_time r.time (at (key_of r.span) fs) ≡ false
    timed r here = rw (← here, gets (key_of q.span), same_place (key_of q.span)) refl

    same : (r : Queued) → r.span.number < 2 ^ 32 → Apart q r → Compares q.span (key_of r.span) → has new r ≡ has_time r.time (at (key_of r.span) fs)
    same r b (Same e here) k = rw (turn r, e) (sym (timed r here))
    same r b (Other e n) (IsSame o key a) = rw (turn r, e, tied.same r b, ← key, some, gets (key_of q.span), same_place (key_of q.span)) (ne_eqb v.time.0 r.time (λ x. n (sym t ∙ x) (same_key q.span r.span w b key)))
    same r b (Other e n) (Lower o c a) = rw (turn r, e, gets (key_of r.span), o) (tied.same r b)
    same r b (Other e n) (Higher o c a) = rw (turn r, e, gets (key_of r.span), o) (tied.same r b)

-- what the map has under a key, at a timestamp
timed-some : (time : ℕ) (o : Option Stored) → has_time time o ≡ true → (v : Stored) × (o ≡ Some v) × (v.time.0 ≡ time)
timed-some time None h = absurd cc
timed-some time (Some v) h = (v, refl, eqb-true v.time.0 time h)

-- the map has each packet of the queue
pub queued-has : (queue : List Queued) (es : List (ℕ × Stored)) (q : Queued) → q.span.number < 2 ^ 32 → has queue q ≡ true → IsTied queue es → (v : Stored) × (at (key_of q.span) es ≡ Some v) × (v.time.0 ≡ q.time)
queued-has queue es q w h tied = timed-some q.time (at (key_of q.span) es) (sym (tied.same q w) ∙ h)

-- a packet of the queue that is out of the window is a kept one that is
pub queued-expired : (queue : List Queued) (es : List (ℕ × Stored)) (clock window : ℕ) (q : Queued) → q.span.number < 2 ^ 32 → has queue q ≡ true → is_after (plus q.time window) clock ≡ false → IsTied queue es → IsExpired clock window (map entry_of es) q.span
unfolding is_in_window
queued-expired queue es clock window q w h e tied =
    let is : (v : Stored) × (at (key_of q.span) es ≡ Some v) × (v.time.0 ≡ q.time) = queued-has queue es q w h tied in
    record {
      packet = entry_of (key_of q.span, is.0);
      found = packet_at-entries q.span es w ∙ ap (λ o. option_map (λ v. entry_of (key_of q.span, v)) o) is.1;
      expired = rw (is.2) e;
    }

-- no key stands before itself
itself : (k l : ℕ) → l ≡ k → (nat_lt (k / 2 ^ 32) (l / 2 ^ 32) || ((k / 2 ^ 32 == l / 2 ^ 32) && nat_lt (k % 2 ^ 32) (l % 2 ^ 32))) ≡ true → ⊥
itself k l same b = let i : l / 2 ^ 32 ≡ k / 2 ^ 32 = ap (λ x. x / 2 ^ 32) same in let n : l % 2 ^ 32 ≡ k % 2 ^ 32 = ap (λ x. x % 2 ^ 32) same in grind (arith, nat_tests)

differ : (k l : ℕ) → (k ≡ l → ⊥) → is_eq (nat_cmp k l) ≡ false
differ k l n = grind (arith, nat_tests)

-- each entry of a map in order is found under its key
pub found-each : (es : List (ℕ × Stored)) → IsInOrder (map entry_of es) → AllByRecursion (λ e. at e.0 es ≡ Some e.1) es
unfolding IsInOrder is_before
found-each [] r = tt
found-each (e ∷ es) r = (rw (same_place e.0) refl, later es (found-each es r.1) r.0)
  where
    other : (f : ℕ × Stored) → is_before (entry_of e) (entry_of f) ≡ true → is_eq (nat_cmp f.0 e.0) ≡ false
    other f b = ⊎_elim (λ (same : f.0 ≡ e.0). absurd (itself e.0 f.0 same b)) (λ (n : f.0 ≡ e.0 → ⊥). differ f.0 e.0 n) (cases_eq f.0 e.0)

    later : (fs : List (ℕ × Stored)) → AllByRecursion (λ f. at f.0 es ≡ Some f.1) fs → AllByRecursion (λ q. is_before (entry_of e) q ≡ true) (map entry_of fs) → AllByRecursion (λ f. at f.0 (e ∷ es) ≡ Some f.1) fs
    later [] h b = tt
    later (f ∷ fs) h b = (rw (other f b.0) h.0, later fs h.1 b.1)

-- where no packet of the queue is out of the window, all kept ones are in it
pub all-in-window : (queue : List Queued) (es : List (ℕ × Stored)) (clock window : ℕ) → IsInOrder (map entry_of es) → ((q : Queued) → has queue q ≡ true → is_after (plus q.time window) clock ≡ true) → IsTied queue es → AllByRecursion (λ p. is_in_window clock window p ≡ true) (map entry_of es)
unfolding is_in_window
all-in-window queue es clock window r f tied = go es (found-each es r)
  where
    go : (fs : List (ℕ × Stored)) → AllByRecursion (λ e. at e.0 es ≡ Some e.1) fs → AllByRecursion (λ p. is_in_window clock window p ≡ true) (map entry_of fs)
    go [] h = tt
    go (e ∷ fs) h =
        let q : Queued = record { time = e.1.time.0; span = record { packet_id = e.0 / 2 ^ 32; number = e.0 % 2 ^ 32 } } in
        (f q (tied.same q (omega arith) ∙ (ap (λ k. has_time e.1.time.0 (at k es)) (whole_key e.0) ∙ ap (λ o. has_time e.1.time.0 o) h.0 ∙ eq-eqb e.1.time.0 e.1.time.0 refl)), go fs h.1)

-- an empty queue with an empty map
pub tied-none : IsTied [] []
tied-none = record { same = λ q b. refl }
