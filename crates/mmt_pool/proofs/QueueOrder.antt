-- The order of the queue.
use Rattle.std.proofs.Common.{◌≡◌, ℕ, ◌<◌, ◌≤◌, ◌^◌, Bool, true, false, List, [], ◌∷◌, length, ◌⊎◌, inl, inr, refl, ap, ap₂, arith, Option, Some, None}
use Rattle.std.specs.BTreeSet.{BTreeSet}
use Rattle.std.specs.BTreeSet as set
use Rattle.std.specs.declared.ops.Bound.TheVariants.{Included, Unbounded}
use Rattle.std.specs.Ordering.{is_eq, is_gt, is_lt}
use Rattle.std.proofs.lemmas.Bool.Decides.{nat_tests}
use Rattle.std.proofs.lemmas.Bool.{cases_lt}
use Rattle.mmt_pool.specs.declared.types.Span.{Span}
use Rattle.mmt_pool.specs.declared.queue.Queued.{Queued}
use Rattle.std.specs.List.{list_any}
use Rattle.mmt_base.specs.Ticks.{ahead_of, is_after, plus}
use Rattle.mmt_pool.specs.Queue.{order, has, IsShort, FindsFrom, FindsOneFrom, FindsBetween, FindsOut}
use Rattle.mmt_pool.proofs.Entries.{same_span}
use Rattle.mmt_pool.proofs.Ticks.{out_between, out_from, out_up_to, in_outside_first, in_outside_last, in_between}

-- an earlier timestamp does not come after
pub time-le : (q r : Queued) → is_gt (order q r) ≡ false → q.time ≤ r.time
time-le q r h = grind (arith, nat_tests)

-- the first of all packets of its timestamp comes after none of a later one
pub le-time : (q r : Queued) → q.span.packet_id ≡ 0 → q.span.number ≡ 0 → q.time ≤ r.time → is_gt (order q r) ≡ false
le-time q r i n h = grind (arith, nat_tests)

same_queued : (q r : Queued) → q.time ≡ r.time → q.span ≡ r.span → q ≡ r
same_queued q r t s = let queued = λ (a : ℕ) (b : Span). (let x : Queued = record { time = a; span = b } in x) in ap₂ queued t s

-- two are the same, or their order is not equal
pub data Apart (q r : Queued) : Type 0 where
  Same : is_eq (order q r) ≡ true → q ≡ r → Apart q r
  Other : is_eq (order q r) ≡ false → (q.time ≡ r.time → q.span ≡ r.span → ⊥) → Apart q r

pub apart : (q r : Queued) → Apart q r
apart q r = go (is_eq (order q r)) refl
  where
    go : (b : Bool) → is_eq (order q r) ≡ b → Apart q r
    go true e = Same e (same_queued q r (grind (arith, nat_tests)) (same_span q.span r.span (grind (arith, nat_tests)) (grind (arith, nat_tests))))
    go false e = Other e (λ t s. let i : q.span.packet_id ≡ r.span.packet_id = ap (λ (x : Span). x.packet_id) s in let n : q.span.number ≡ r.span.number = ap (λ (x : Span). x.number) s in grind (arith, nat_tests))

-- the first packet from a timestamp on, as a look-up of the range gives it
pub found_from : (queue : BTreeSet Queued) (from x : Queued) (r rest : List Queued) → from.span.packet_id ≡ 0 → from.span.number ≡ 0 → set.IsKeyRangeOf order (Included from) Unbounded queue r → r ≡ x ∷ rest → FindsFrom queue.keys from.time (Some x)
found_from queue from x r rest i n h e =
    let first = rw e at h.1 in
    let least = rw e at h.2 in
    (first.1, time-le from x first.0.0, λ q c l. time-le x q (least q (le-time from q i n l, tt) c))

pub none_from : (queue : BTreeSet Queued) (from : Queued) (r : List Queued) → from.span.packet_id ≡ 0 → from.span.number ≡ 0 → set.IsKeyRangeOf order (Included from) Unbounded queue r → r ≡ [] → FindsFrom queue.keys from.time None
none_from queue from r i n h e = λ q c. before q c (cases_lt q.time from.time)
  where
    before : (q : Queued) → set.contains order queue q ≡ true → ((q.time < from.time) ⊎ (from.time ≤ q.time)) → q.time < from.time
    before q c (inl l) = l
    before q c (inr l) = let none : set.contains order queue q ≡ false = h.5 e q (le-time from q i n l, tt) in absurd cc

-- where there is no packet, none is found
pub none_queued : (queue : List Queued) → (0 < length queue → ⊥) → (r : Queued) → has queue r ≡ true → ⊥
none_queued queue n r h = go queue n h
  where
    go : (ks : List Queued) → (0 < length ks → ⊥) → list_any (λ k. is_eq (order r k)) ks ≡ true → ⊥
    go [] n h = cc
    go (k ∷ ks) n h = n (omega arith)

-- a later timestamp comes after
pub le-greatest : (q r : Queued) → is_lt (order q r) ≡ false → r.time ≤ q.time
le-greatest q r h = grind (arith, nat_tests)

-- where the interval wraps round, and the least timestamp is in the window
pub out_wrapped : (queue : List Queued) (clock window last first : ℕ) (q : Queued) (o : Option Queued) → IsShort queue → window < 2 ^ 32 → clock < 2 ^ 32 → last ≡ ahead_of clock window → first ≡ plus last (2 ^ 31) → last < first
    → has queue q ≡ true → ((r : Queued) → has queue r ≡ true → q.time ≤ r.time) → is_after (plus q.time window) clock ≡ true → FindsOneFrom queue first o → FindsOut queue clock window o
out_wrapped queue clock window last first q (Some g) s w c l f o h least in_window u = (u.0, out_from g.time window clock last first (s g u.0) w c l f o u.1)
out_wrapped queue clock window last first q None s w c l f o h least in_window u = λ r k. in_between r.time window clock last first (s r k) w c l f o (let later : last < q.time = by (cases_lt last q.time) in omega (arith, least r k)) (u r k)
  where
    by : (last < q.time) ⊎ (q.time ≤ last) → last < q.time
    by (inl m) = m
    by (inr m) = let out : is_after (plus q.time window) clock ≡ false = out_up_to q.time window clock last first (s q h) w c l f o m in absurd cc

-- where it does not
pub out_straight : (queue : List Queued) (clock window last first : ℕ) (o : Option Queued) → IsShort queue → window < 2 ^ 32 → clock < 2 ^ 32 → last ≡ ahead_of clock window → first ≡ plus last (2 ^ 31) → first ≤ last → FindsBetween queue first last o → FindsOut queue clock window o
out_straight queue clock window last first (Some q) s w c l f o u = (u.0, out_between q.time window clock last first (s q u.0) w c l f o u.1 u.2)
out_straight queue clock window last first None s w c l f o u = λ r h. go r h (cases_lt r.time first)
  where
    go : (r : Queued) → has queue r ≡ true → (r.time < first) ⊎ (first ≤ r.time) → is_after (plus r.time window) clock ≡ true
    go r h (inl m) = in_outside_first r.time window clock last first (s r h) w c l f o m
    go r h (inr m) = in_outside_last r.time window clock last first (s r h) w c l f o (u r h m)
