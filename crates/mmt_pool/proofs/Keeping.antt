-- A packet that is offered, as the map answers where its place is.
use Rattle.std.proofs.Common.{◌≡◌, ℕ, ◌+◌, ◌<◌, ◌^◌, Bool, true, false, List, map, length, max, refl, arith, ap, sym, ◌∙◌, Some, None, is_some}
use Rattle.std.specs.List.{list_any}
use Rattle.std.specs.BTreeMap.{insert_entry}
use Rattle.std.specs.Ordering.{nat_cmp}
use Rattle.mmt_model.proofs.Inserting.{sum-insert}
use Rattle.mmt_pool.specs.declared.types.Span.{Span}
use Rattle.mmt_pool.specs.declared.queue.Queued.{Queued}
use Rattle.mmt_pool.specs.declared.pool.Stored.{Stored}
use Rattle.mmt_pool.specs.Holding.{Kept, Holding, held, size_of, is_at, is_before, HasRoom, IsKeepable}
use Rattle.mmt_pool.specs.Stored.{key_of, entry_of, holding_of}
use Rattle.mmt_pool.specs.Tied.{IsKept, IsTied}
use Rattle.mmt_pool.specs.Queue.{has}
use Rattle.mmt_pool.specs.Doing.{with_packet, span_of}
use Rattle.mmt_pool.proofs.Entries.{any-entries, holding-insert, id_of_key, number_of_key}
use Rattle.mmt_pool.proofs.Kept.{sound-with}
use Rattle.mmt_pool.proofs.Tying.{at, Turns, Gets, tied-insert}

-- whether a packet's span is kept, by what the map has under it
pub any_of : (b : Bool) (p : Kept) (s : Span) (es : List (ℕ × Stored)) (h : Holding) (bound peak : ℕ) → p.number < 2 ^ 32 → s ≡ span_of p → holding_of es bound peak ≡ h → is_some (at (key_of s) es) ≡ b → list_any (is_at p.packet_id p.number) h.kept ≡ b
any_of b p s es h bound peak w e v a = ap (λ x. list_any (is_at p.packet_id p.number) x.kept) (sym v) ∙ (any-entries (span_of p) es w ∙ rw e at a)

-- the pool is as it was where the map has the same entries
pub unchanged : (es fs : List (ℕ × Stored)) (bound peak : ℕ) (h : Holding) → holding_of fs bound peak ≡ h → es ≡ fs → holding_of es bound peak ≡ h
unchanged es fs bound peak h v e = rw e v

pub still_kept : (es fs : List (ℕ × Stored)) (queue : List Queued) (total bound peak : ℕ) → IsKept fs queue total bound peak → es ≡ fs → IsKept es queue total bound peak
still_kept es fs queue total bound peak k e = rw e k

-- no packet of the queue has a span that the map has not
pub none_queued_at : (queue : List Queued) (es : List (ℕ × Stored)) (q : Queued) → q.span.number < 2 ^ 32 → IsTied queue es → at (key_of q.span) es ≡ None → has queue q ≡ false
none_queued_at queue es q w tied n = tied.same q w ∙ rw n refl

-- an entry of the map as the packet that was offered
pub same_packet : (s : Span) (v : Stored) (p : Kept) → p.number < 2 ^ 32 → s ≡ span_of p → v.time.0 ≡ p.time → v.kind ≡ p.kind → v.payload ≡ p.payload → entry_of (key_of s, v) ≡ p
same_packet s v p w e t k b = rw (e, id_of_key (span_of p) w, number_of_key (span_of p) w, t, k, b) refl

-- the pool with one more entry is the pool with the packet
pub holding_new : (s : Span) (v : Stored) (es fs ms : List (ℕ × Stored)) (total bound peak new_peak n : ℕ) (h : Holding) (p : Kept) → s.number < 2 ^ 32 → entry_of (key_of s, v) ≡ p → holding_of es bound peak ≡ h → length v.payload ≡ n → total ≡ held (map entry_of es)
    → at (key_of s) es ≡ None → fs ≡ ms → ms ≡ insert_entry nat_cmp es (key_of s) v → new_peak ≡ max peak (total + n) → holding_of fs bound new_peak ≡ with_packet h p
holding_new s v es fs ms total bound peak new_peak n h p b same w l t none f i m = holding-insert s v es fs bound peak total new_peak b none (f ∙ i) t (m ∙ ap (λ x. max peak (total + x)) (sym l)) ∙ (ap (λ x. with_packet (holding_of es bound peak) x) same ∙ ap (λ x. with_packet x p) w)

-- a packet with its place in the map and in the queue
pub kept_new : (s : Span) (v : Stored) (es fs ms : List (ℕ × Stored)) (old new : List Queued) (total bound peak new_peak n : ℕ) (h : Holding) (p : Kept) → s.number < 2 ^ 32 → entry_of (key_of s, v) ≡ p → holding_of es bound peak ≡ h → length v.payload ≡ n → IsKept es old total bound peak
    → at (key_of s) es ≡ None → fs ≡ ms → ms ≡ insert_entry nat_cmp es (key_of s) v → Gets es ms (key_of s) (Some v) → Turns old new (record { time = v.time.0; span = s }) true → new_peak ≡ max peak (total + n) → HasRoom h p → IsKeepable p → IsKept fs new (total + n) bound new_peak
kept_new s v es fs ms old new total bound peak new_peak n h p b same w l k none f i g t m r a =
    let is : holding_of fs bound new_peak ≡ with_packet h p = holding_new s v es fs ms total bound peak new_peak n h p b same w l k.sum none f i m in
    let sum : held (map entry_of fs) ≡ held h.kept + length p.payload = ap (λ x. held x.kept) is ∙ sum-insert is_before size_of p h.kept in
    let size : length p.payload ≡ n = ap (λ x. length x.payload) (sym same) ∙ l in
    let was : held (map entry_of es) ≡ held h.kept = ap (λ x. held x.kept) w in
    record {
      sound = rw is (sound-with h p (rw w at k.sound) r a);
      sum = omega (arith, sum, size, was, k.sum);
      tied = rw f (tied-insert old new es ms (record { time = v.time.0; span = s }) v b refl none t g k.tied);
    }
