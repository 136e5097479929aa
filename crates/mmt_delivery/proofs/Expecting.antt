-- Which units are expected, by the clock.
use Rattle.std.proofs.Common.{◌≡◌, ℕ, ◌+◌, ◌-◌, ◌<◌, ◌≤◌, zero, suc, Bool, true, false, not, ◌&&◌, ◌||◌, ◌==◌, nat_lt, nat_le, max, List, [], ◌∷◌, length, get_or, arith, refl, ap, ap₂, sym, ◌∙◌, ⊎_elim, le_refl}
use Rattle.std.specs.List.{list_all, fold}
use Rattle.std.proofs.lemmas.Bool.Decides.{nat_tests}
use Rattle.std.proofs.lemmas.Bool.{and_parts, eqb-true, or_cases, or_right, ltb-true, leb-true, lt-ltb, le-ltb, cond_both}
use Rattle.mmt_base.specs.Ticks.{due_of}
use Rattle.mmt_delivery.proofs.Known.{absorb, survives-step}
use Rattle.mmt_delivery.proofs.Premises.{Begins, IsRightUnit}
use Rattle.mmt_delivery.proofs.Tests.{all-at, all-from, any-same, each-at, same_tests}
use Rattle.mmt_model.specs.Broadcast.{Broadcast, NamedCast, due_at, due_of_unit, entry_of, presentation_of, unit_of}
use Rattle.mmt_model.specs.Counts.{member}
use Rattle.mmt_model.specs.Entries.{Entry, last_due}
use Rattle.mmt_model.specs.Expected.{is_complete, is_counted, is_expected, is_named}
use Rattle.mmt_model.specs.Handing.{time_for, time_of}
use Rattle.mmt_model.specs.Survival.{SentPackets, is_overtaken, latest, sent_at, survives}
use Rattle.mmt_model.specs.declared.keys.UnitKey.{UnitKey}
use Rattle.mmt_model.specs.declared.programmes.Params.{Params}
use Rattle.mmt_model.specs.declared.keys.UnitKey.TheVariants as keys

-- the parts of a complete list survive
pub survives-later : (cast : SentPackets) (delay n : ℕ) (older : List ℕ) (j : ℕ) → survives cast.sent delay older j ≡ true → survives cast.sent delay (n ∷ older) j ≡ true
unfolding survives
survives-later cast delay n older j s = or_right ((n == j) && not (is_overtaken cast.sent delay older j)) (survives cast.sent delay older j) s

pub complete-later : (cast : NamedCast) (delay n : ℕ) (older ms : List ℕ) → is_complete cast delay older ms ≡ true → is_complete cast delay (n ∷ older) ms ≡ true
unfolding is_complete
complete-later cast delay n older ms c =
    all-from (survives cast.packets.sent delay (n ∷ older)) ms (λ k m. survives-later cast.packets delay n older k (all-at (survives cast.packets.sent delay older) ms k c m))

-- the clock is before the tick where each packet is
before_all : (cast : SentPackets) (start m due : ℕ) (older : List ℕ) → Begins cast.sent start (m ∷ older) → list_all (λ k. nat_lt (sent_at cast.sent k) due) (m ∷ older) ≡ nat_lt (latest cast.sent start (m ∷ older)) due
unfolding latest
before_all cast start m due [] b = let e : max start (sent_at cast.sent m) ≡ sent_at cast.sent m = omega (arith, b) in rw e (go (nat_lt (sent_at cast.sent m) due))
  where
    go : (b : Bool) → (b && true) ≡ b
    go true = refl
    go false = refl
before_all cast start m due (k ∷ older) b = rw (before_all cast start k due older b) (grind (arith, nat_tests))

counted-complete : (cast : NamedCast) (delay : ℕ) (o ms : List ℕ) (due : ℕ) → is_counted cast delay o ms due ≡ true → is_complete cast delay o ms ≡ true
unfolding is_counted
counted-complete cast delay [] ms due c = absurd cc
counted-complete cast delay (k ∷ o) ms due c =
    ⊎_elim
    (λ (h : (is_complete cast delay (k ∷ o) ms && list_all (λ k. nat_lt (sent_at cast.packets.sent k) due) (k ∷ o)) ≡ true). (and_parts (is_complete cast delay (k ∷ o) ms) (list_all (λ k. nat_lt (sent_at cast.packets.sent k) due) (k ∷ o)) h).0)
    (λ (h : is_counted cast delay o ms due ≡ true). complete-later cast delay k o ms (counted-complete cast delay o ms due h))
    (or_cases (is_complete cast delay (k ∷ o) ms && list_all (λ k. nat_lt (sent_at cast.packets.sent k) due) (k ∷ o)) (is_counted cast delay o ms due) c)

-- while the clock is before the due tick, the whole copies count
pub counted-early : (cast : NamedCast) (delay start n due : ℕ) (older ms : List ℕ) → Begins cast.packets.sent start (n ∷ older) → latest cast.packets.sent start (n ∷ older) < due
    → is_counted cast delay (n ∷ older) ms due ≡ is_complete cast delay (n ∷ older) ms
unfolding is_counted
counted-early cast delay start n due older ms b early =
    let e : list_all (λ k. nat_lt (sent_at cast.packets.sent k) due) (n ∷ older) ≡ true = before_all cast.packets start n due older b ∙ lt-ltb (latest cast.packets.sent start (n ∷ older)) due early in
    rw e (keep (is_complete cast delay (n ∷ older) ms) (is_counted cast delay older ms due) (λ c. complete-later cast delay n older ms (counted-complete cast delay older ms due c)))
  where
    keep : (a c : Bool) → (c ≡ true → a ≡ true) → ((a && true) || c) ≡ a
    keep true c h = refl
    keep false true h = absurd (cc (h refl))
    keep false false h = refl

-- from the due tick on no more copies count
pub counted-over : (cast : NamedCast) (delay start n due : ℕ) (older ms : List ℕ) → Begins cast.packets.sent start (n ∷ older) → due ≤ latest cast.packets.sent start (n ∷ older)
    → is_counted cast delay (n ∷ older) ms due ≡ is_counted cast delay older ms due
unfolding is_counted
counted-over cast delay start n due older ms b over =
    let e : list_all (λ k. nat_lt (sent_at cast.packets.sent k) due) (n ∷ older) ≡ false = before_all cast.packets start n due older b ∙ le-ltb (latest cast.packets.sent start (n ∷ older)) due over in
    rw e (none (is_complete cast delay (n ∷ older) ms) (is_counted cast delay older ms due))
  where
    none : (a c : Bool) → ((a && false) || c) ≡ c
    none true c = refl
    none false c = refl

-- a unit whose packets are whole by now, and whose MPU is named
unfoldable pub is_ready : Broadcast → ℕ → List ℕ → ℕ → Bool
is_ready broadcast delay hist u = is_complete broadcast.cast delay hist (unit_of broadcast u).members && is_named broadcast.cast delay hist (unit_of broadcast u).mpu

pub expected-early : (broadcast : Broadcast) (delay start n : ℕ) (older : List ℕ) (u : ℕ) → Begins broadcast.cast.packets.sent start (n ∷ older) → latest broadcast.cast.packets.sent start (n ∷ older) < due_of_unit broadcast u
    → is_expected broadcast delay (n ∷ older) u ≡ is_ready broadcast delay (n ∷ older) u
unfolding is_expected is_ready is_named
expected-early broadcast delay start n older u b early =
    ap (λ x. is_complete broadcast.cast delay (n ∷ older) (unit_of broadcast u).members && x)
    (any-same (λ c. member (unit_of broadcast u).mpu c.names && is_counted broadcast.cast delay (n ∷ older) c.members (due_of_unit broadcast u))
    (λ c. member (unit_of broadcast u).mpu c.names && is_complete broadcast.cast delay (n ∷ older) c.members) broadcast.cast.copies
    (λ c. ap (λ x. member (unit_of broadcast u).mpu c.names && x) (counted-early broadcast.cast delay start n (due_of_unit broadcast u) older c.members b early)))

-- after the due tick nothing of the unit survives anew
pub complete-over : (broadcast : Broadcast) (r : Params) (start n : ℕ) (older : List ℕ) (u : ℕ) → Begins broadcast.cast.packets.sent start (n ∷ older) → IsRightUnit broadcast r u → due_of_unit broadcast u ≤ latest broadcast.cast.packets.sent start (n ∷ older)
    → is_complete broadcast.cast r.delay (n ∷ older) (unit_of broadcast u).members ≡ is_complete broadcast.cast r.delay older (unit_of broadcast u).members
unfolding is_complete
complete-over broadcast r start n older u b right over =
    let p : SentPackets = broadcast.cast.packets in
    let ms : List ℕ = (unit_of broadcast u).members in
    let same : (k : ℕ) → member k ms ≡ true → survives p.sent r.delay (n ∷ older) k ≡ survives p.sent r.delay older k =
    λ k m. survives-step p r.delay start n older k b
    ∙ absorb (n == k) (nat_le (latest p.sent start (n ∷ older)) (sent_at p.sent n + r.delay)) (survives p.sent r.delay older k)
    (λ e t. absurd (let s = eqb-true n k e in
    let l = leb-true (latest p.sent start (n ∷ older)) (sent_at p.sent n + r.delay) t in
    let late : sent_at p.sent k + r.delay < due_of_unit broadcast u = each-at (λ n. sent_at p.sent n + r.delay < due_of_unit broadcast u) ms k right.not_late m in
    omega (arith, l, late, ap (sent_at p.sent) s))) in
    same_tests (list_all (survives p.sent r.delay (n ∷ older)) ms) (list_all (survives p.sent r.delay older) ms)
    (λ h. all-from (survives p.sent r.delay older) ms (λ k m. sym (same k m) ∙ all-at (survives p.sent r.delay (n ∷ older)) ms k h m))
    (λ h. all-from (survives p.sent r.delay (n ∷ older)) ms (λ k m. same k m ∙ all-at (survives p.sent r.delay older) ms k h m))

pub expected-over : (broadcast : Broadcast) (r : Params) (start n : ℕ) (older : List ℕ) (u : ℕ) → Begins broadcast.cast.packets.sent start (n ∷ older) → IsRightUnit broadcast r u → due_of_unit broadcast u ≤ latest broadcast.cast.packets.sent start (n ∷ older)
    → is_expected broadcast r.delay (n ∷ older) u ≡ is_expected broadcast r.delay older u
unfolding is_expected
expected-over broadcast r start n older u b right over =
    ap₂ (λ x y. x && y) (complete-over broadcast r start n older u b right over)
    (any-same (λ c. member (unit_of broadcast u).mpu c.names && is_counted broadcast.cast r.delay (n ∷ older) c.members (due_of_unit broadcast u))
    (λ c. member (unit_of broadcast u).mpu c.names && is_counted broadcast.cast r.delay older c.members (due_of_unit broadcast u)) broadcast.cast.copies
    (λ c. ap (λ x. member (unit_of broadcast u).mpu c.names && x) (counted-over broadcast.cast r.delay start n (due_of_unit broadcast u) older c.members b over)))

-- nothing is expected of no packets
pub complete-none : (broadcast : Broadcast) (r : Params) (u : ℕ) → IsRightUnit broadcast r u → is_complete broadcast.cast r.delay [] (unit_of broadcast u).members ≡ false
unfolding is_complete survives
complete-none broadcast r u right = none (unit_of broadcast u).members right.some
  where
    none : (ks : List ℕ) → 0 < length ks → list_all {X = ℕ} (λ n. false) ks ≡ false
    none [] l = absurd (omega arith)
    none (k ∷ ks) l = refl

-- a unit's time is one of its entry's, so it is due no later than the entry's last
pub due-mono : (s t : ℕ) → s ≤ t → due_of s ≤ due_of t
unfolding due_of
due-mono s t h = grind arith

max-from : (aus : List ℕ) (s : ℕ) → s ≤ fold max s aus
max-from [] s = le_refl s
max-from (a ∷ aus) s = omega (arith, max-from aus (max s a))

max-at : (aus : List ℕ) (s i : ℕ) → i < length aus → get_or aus i s ≤ fold max s aus
max-at [] s i l = absurd (omega arith)
max-at (a ∷ aus) s zero l = omega (arith, max-from aus (max s a))
max-at (a ∷ aus) s (suc i) l = omega (arith, max-at aus (max s a) i (omega arith), same aus i s (max s a) (omega arith))
  where
    same : (xs : List ℕ) (i d e : ℕ) → i < length xs → get_or xs i d ≡ get_or xs i e
    same [] i d e l = absurd (omega arith)
    same (x ∷ xs) zero d e l = refl
    same (x ∷ xs) (suc i) d e l = same xs i d e (omega arith)

time-le : (sample_base : ℕ) (e : Entry) (k : UnitKey) → time_for sample_base e k ≤ fold max e.time e.aus
unfolding time_for
time-le sample_base e (keys.Item item) = max-from e.aus e.time
time-le sample_base e (keys.Timed f s o) =
    cond_both (nat_le sample_base s && nat_lt (s - sample_base) (length e.aus)) (get_or e.aus (s - sample_base) e.time) e.time (λ t. t ≤ fold max e.time e.aus)
    (λ h. max-at e.aus e.time (s - sample_base) (ltb-true (s - sample_base) (length e.aus) (and_parts (nat_le sample_base s) (nat_lt (s - sample_base) (length e.aus)) h).1))
    (λ h. max-from e.aus e.time)

pub due_of_unit-le : (broadcast : Broadcast) (u : ℕ) → due_of_unit broadcast u ≤ due_at broadcast.cast (unit_of broadcast u).mpu
unfolding due_of_unit presentation_of due_at last_due time_of
due_of_unit-le broadcast u = due-mono (time_for broadcast.sample_base (entry_of broadcast.cast (unit_of broadcast u).mpu) ((unit_of broadcast u).value).key) (fold max (entry_of broadcast.cast (unit_of broadcast u).mpu).time (entry_of broadcast.cast (unit_of broadcast u).mpu).aus) (time-le broadcast.sample_base (entry_of broadcast.cast (unit_of broadcast u).mpu) ((unit_of broadcast u).value).key)
