-- The entries over whole ticks, as places of the cast's MPUs.
use Rattle.std.proofs.Common.{◌≡◌, ℕ, ◌+◌, ◌^◌, ◌<◌, ◌≤◌, Bool, true, false, not, ◌&&◌, ◌||◌, ◌==◌, nat_lt, nat_le, cond, if◌then◌else◌, max, List, [], ◌∷◌, ◌++◌, length, arith, refl, ap, ap₂, sym, ◌∙◌, ⊎_elim, filter, true≢false}
use Rattle.std.specs.List.{list_any, list_all}
use Rattle.std.proofs.lemmas.Bool.Decides.{nat_tests}
use Rattle.std.proofs.lemmas.Bool.{ne_eqb, and_parts, and_cases, not-false, eqb-true, or_cases, or_right, or_left, ltb-true, leb-true, lt-ltb, false_from_ne_true}
use Rattle.std.specs.List.{AllByRecursion}
use Rattle.mmt_delivery.proofs.Held.{begins-older, held, in_time-survives, occurrences-held, occurrences-step, window-step, within}
use Rattle.mmt_delivery.proofs.Kept.{held_facts, times_of_filter}
use Rattle.mmt_delivery.proofs.Premises.{Begins, IsNaming, IsRightCopy, names_made_known}
use Rattle.mmt_delivery.proofs.Tests.{all-at, all-from, all-same, any-or, any-same, any-some, each-at, member-cond, member-flat_map, member-occurrences, same_tests}
use Rattle.mmt_model.proofs.Counting.{any-occurrences, occurrences-filter, occurrences-push}
use Rattle.mmt_model.specs.Broadcast.{CopyPlaces, NamedCast, due_at}
use Rattle.mmt_model.specs.Counts.{as_number, member, occurrences}
use Rattle.mmt_model.specs.Expected.{is_complete, is_named}
use Rattle.mmt_model.specs.Survival.{AreOf, SentPackets, latest, sent_at, survives}
use Rattle.mmt_model.specs.declared.programmes.Params.{Params}

unfoldable pub learned : List ℕ → List ℕ → List ℕ
learned xs [] = xs
learned xs (m ∷ ms) = learned (if not (member m xs) then xs ++ m ∷ [] else xs) ms

unfoldable pub is_new : NamedCast → Params → ℕ → ℕ → List ℕ → Bool
is_new cast r start n older =
    let now = latest cast.packets.sent start (n ∷ older) in
    nat_le now (sent_at cast.packets.sent n + r.delay) && not (list_any (λ k. k == n) (within cast.packets r now (held cast.packets r start older)))

unfoldable pub known : NamedCast → Params → ℕ → List ℕ → List ℕ
known cast r start [] = []
known cast r start (n ∷ older) =
    let now = latest cast.packets.sent start (n ∷ older) in
    let left = filter (λ m. nat_lt now (due_at cast m)) (known cast r start older) in
    learned left (if is_new cast r start n older then names_made_known cast (held cast.packets r start (n ∷ older)) n else [])

twice : (e a : Bool) (t : ℕ) → cond a (max 1 (cond e (max 1 t) t)) (cond e (max 1 t) t) ≡ cond (e || a) (max 1 t) t
twice true true t = omega arith
twice true false t = refl
twice false true t = refl
twice false false t = refl

pub occurrences-learned : (k : ℕ) (xs ms : List ℕ) → occurrences k (learned xs ms) ≡ cond (member k ms) (max 1 (occurrences k xs)) (occurrences k xs)
unfolding learned member
occurrences-learned k xs [] = refl
occurrences-learned k xs (m ∷ ms) =
    let xs' : List ℕ = cond (not (list_any (λ j. j == m) xs)) (xs ++ m ∷ []) xs in
    let s : occurrences k xs' ≡ cond ((m == k) && true) (max 1 (occurrences k xs)) (occurrences k xs) = occurrences-step k m xs (xs ++ m ∷ []) true (list_any (λ j. j == m) xs) (m == k) refl refl (occurrences-push k xs m) in
    let s' : occurrences k xs' ≡ cond (m == k) (max 1 (occurrences k xs)) (occurrences k xs) = s ∙ ap (λ b. cond b (max 1 (occurrences k xs)) (occurrences k xs)) (and_true (m == k)) in
    occurrences-learned k xs' ms
    ∙ (ap (λ t. cond (list_any (λ j. j == k) ms) (max 1 t) t) s'
    ∙ twice (m == k) (list_any (λ j. j == k) ms) (occurrences k xs))
  where
    and_true : (b : Bool) → (b && true) ≡ b
    and_true true = refl
    and_true false = refl

-- who survives after one more packet
pub survives-step : (cast : SentPackets) (delay start k : ℕ) (older : List ℕ) (j : ℕ) → Begins cast.sent start (k ∷ older)
    → survives cast.sent delay (k ∷ older) j ≡ (((k == j) && nat_le (latest cast.sent start (k ∷ older)) (sent_at cast.sent k + delay)) || survives cast.sent delay older j)
unfolding survives latest
survives-step cast delay start k older j b = ap (λ x. x || survives cast.sent delay older j) (sym (in_time-survives cast delay start k j older b (k == j) refl))

pub absorb : (e t s : Bool) → (e ≡ true → t ≡ true → s ≡ true) → ((e && t) || s) ≡ s
absorb true true s h = sym (h refl refl)
absorb true false s h = refl
absorb false t s h = refl

-- a packet that is not stored changes nothing
survives-not_new : (cast : NamedCast) (r : Params) (start n : ℕ) (older : List ℕ) (j : ℕ) → r.delay < r.window → AreOf cast.packets.sent (n ∷ older) → Begins cast.packets.sent start (n ∷ older)
    → is_new cast r start n older ≡ false → survives cast.packets.sent r.delay (n ∷ older) j ≡ survives cast.packets.sent r.delay older j
unfolding is_new within
survives-not_new cast r start n older j dw o b new =
    let p : SentPackets = cast.packets in
    let now : ℕ = latest p.sent start (n ∷ older) in
    let t : Bool = nat_le now (sent_at p.sent n + r.delay) in
    let rest : List ℕ = filter (λ k. nat_lt now (sent_at p.sent k + r.window)) (held p r start older) in
    let a : Bool = list_any (λ k. k == n) rest in
    survives-step p r.delay start n older j b
    ∙ absorb (n == j) t (survives p.sent r.delay older j)
    (λ e h.
    let kept : a ≡ true = ⊎_elim (λ (f : t ≡ false). absurd (cc (f, h))) (λ (f : not a ≡ false). not-false a f) (and_cases t (not a) new) in
    let some : nat_lt 0 (occurrences n rest) ≡ true = sym (any-occurrences n rest) ∙ kept in
    let f = held_facts p r start older n dw o.1 (begins-older p start n older b) (times_of_filter n (λ k. nat_lt now (sent_at p.sent k + r.window)) (held p r start older) (ltb-true 0 (occurrences n rest) some)) in
    let same : n ≡ j = eqb-true n j e in
    ap (survives p.sent r.delay older) (sym same) ∙ f.survived)

forth_case : (p : SentPackets) (r : Params) (start n : ℕ) (older : List ℕ) (c : CopyPlaces) → r.delay < r.window → Begins p.sent start (n ∷ older)
    → latest p.sent start (n ∷ older) ≤ sent_at p.sent n + r.delay → AllByRecursion (λ i. AllByRecursion (λ k. sent_at p.sent i + r.delay < sent_at p.sent k + r.window) c.members) c.members
    → (m : Bool) → member n c.members ≡ m → list_all (survives p.sent r.delay (n ∷ older)) c.members ≡ true
    → (list_all (survives p.sent r.delay older) c.members || (m && list_all (λ k. member k (held p r start (n ∷ older))) c.members)) ≡ true
forth_case p r start n older c dw b timely together true e h =
    or_right (list_all (survives p.sent r.delay older) c.members) (list_all (λ k. member k (held p r start (n ∷ older))) c.members)
    (all-from (λ k. member k (held p r start (n ∷ older))) c.members
    (λ k m.
    let s : survives p.sent r.delay (n ∷ older) k ≡ true = all-at (survives p.sent r.delay (n ∷ older)) c.members k h m in
    let near : sent_at p.sent n + r.delay < sent_at p.sent k + r.window = each-at (λ k. sent_at p.sent n + r.delay < sent_at p.sent k + r.window) c.members k (each-at (λ i. AllByRecursion (λ k. sent_at p.sent i + r.delay < sent_at p.sent k + r.window) c.members) c.members n together e) m in
    let w : nat_lt (latest p.sent start (n ∷ older)) (sent_at p.sent k + r.window) ≡ true = lt-ltb (latest p.sent start (n ∷ older)) (sent_at p.sent k + r.window) (omega arith) in
    let one : occurrences k (held p r start (n ∷ older)) ≡ 1 = occurrences-held p r start (n ∷ older) k dw b ∙ ap₂ (λ x y. as_number (x && y)) s w in
    member-occurrences k (held p r start (n ∷ older)) ∙ ap (nat_lt 0) one))
forth_case p r start n older c dw b timely together false e h =
    or_left (list_all (survives p.sent r.delay older) c.members) false
    (all-from (survives p.sent r.delay older) c.members
    (λ k m.
    let s : survives p.sent r.delay (n ∷ older) k ≡ true = all-at (survives p.sent r.delay (n ∷ older)) c.members k h m in
    let other : (n == k) ≡ false = ne_eqb n k (λ same. true≢false (sym m ∙ (ap (λ i. member i c.members) (sym same) ∙ e))) in
    let st = survives-step p r.delay start n older k b in
    sym (st ∙ ap (λ x. (x && nat_le (latest p.sent start (n ∷ older)) (sent_at p.sent n + r.delay)) || survives p.sent r.delay older k) other) ∙ s))

-- a copy is whole after a stored packet where it was whole before, or where the packet is of it and all of it is kept
whole-step : (cast : NamedCast) (r : Params) (start n : ℕ) (older : List ℕ) (c : CopyPlaces) → r.delay < r.window → AreOf cast.packets.sent (n ∷ older) → Begins cast.packets.sent start (n ∷ older)
    → is_new cast r start n older ≡ true → IsRightCopy cast r c
    → list_all (survives cast.packets.sent r.delay (n ∷ older)) c.members
    ≡ (list_all (survives cast.packets.sent r.delay older) c.members || (member n c.members && list_all (λ k. member k (held cast.packets r start (n ∷ older))) c.members))
unfolding is_new
whole-step cast r start n older c dw o b new right =
    let p : SentPackets = cast.packets in
    let now : ℕ = latest p.sent start (n ∷ older) in
    let t : Bool = nat_le now (sent_at p.sent n + r.delay) in
    let S : ℕ → Bool = survives p.sent r.delay older in
    let S' : ℕ → Bool = survives p.sent r.delay (n ∷ older) in
    let H : List ℕ = held p r start (n ∷ older) in
    let timely : now ≤ sent_at p.sent n + r.delay = leb-true now (sent_at p.sent n + r.delay) (and_parts t (not (list_any (λ k. k == n) (within p r now (held p r start older)))) new).0 in
    let step : (j : ℕ) → S' j ≡ (((n == j) && t) || S j) = λ j. survives-step p r.delay start n older j b in
    let forth : (m : Bool) → member n c.members ≡ m → list_all S' c.members ≡ true → (list_all S c.members || (m && list_all (λ k. member k H) c.members)) ≡ true =
    λ m. forth_case p r start n older c dw b timely right.together m in
    same_tests (list_all S' c.members) (list_all S c.members || (member n c.members && list_all (λ k. member k H) c.members))
    (forth (member n c.members) refl)
    (λ h. all-from S' c.members
    (λ k m. ⊎_elim
    (λ (f : list_all S c.members ≡ true). step k ∙ or_right ((n == k) && t) (S k) (all-at S c.members k f m))
    (λ (f : (member n c.members && list_all (λ k. member k H) c.members) ≡ true).
    let g : member k H ≡ true = all-at (λ k. member k H) c.members k (and_parts (member n c.members) (list_all (λ k. member k H) c.members) f).1 m in
    (held_facts p r start (n ∷ older) k dw o b (ltb-true 0 (occurrences k H) (sym (member-occurrences k H) ∙ g))).survived)
    (or_cases (list_all S c.members) (member n c.members && list_all (λ k. member k H) c.members) h)))

-- which MPUs are named after a stored packet
named-new : (cast : NamedCast) (r : Params) (start n : ℕ) (older : List ℕ) (m : ℕ) → r.delay < r.window → IsNaming cast r → AreOf cast.packets.sent (n ∷ older) → Begins cast.packets.sent start (n ∷ older)
    → is_new cast r start n older ≡ true
    → is_named cast r.delay (n ∷ older) m ≡ (is_named cast r.delay older m || member m (names_made_known cast (held cast.packets r start (n ∷ older)) n))
unfolding is_named is_complete names_made_known
named-new cast r start n older m dw naming o b new =
    let H : List ℕ = held cast.packets r start (n ∷ older) in
    let S : ℕ → Bool = survives cast.packets.sent r.delay older in
    let S' : ℕ → Bool = survives cast.packets.sent r.delay (n ∷ older) in
    let says : CopyPlaces → Bool = λ c. member n c.members && list_all (λ k. member k H) c.members in
    any-or (IsRightCopy cast r) (λ c. member m c.names && list_all S' c.members) (λ c. member m c.names && list_all S c.members) (λ c. member m (cond (says c) c.names [])) cast.copies naming.right
    (λ c right.
    ap (λ x. member m c.names && x) (whole-step cast r start n older c dw o b new right)
    ∙ (spread (member m c.names) (list_all S c.members) (says c)
    ∙ ap (λ x. (member m c.names && list_all S c.members) || x) (sym (member-cond m (says c) c.names))))
    ∙ ap (λ x. list_any (λ c. member m c.names && list_all S c.members) cast.copies || x) (sym (member-flat_map m (λ c. cond (says c) c.names []) cast.copies))
  where
    spread : (x a s : Bool) → (x && (a || s)) ≡ ((x && a) || (s && x))
    spread true true true = refl
    spread true true false = refl
    spread true false true = refl
    spread true false false = refl
    spread false a true = refl
    spread false a false = refl

named-not_new : (cast : NamedCast) (r : Params) (start n : ℕ) (older : List ℕ) (m : ℕ) → r.delay < r.window → AreOf cast.packets.sent (n ∷ older) → Begins cast.packets.sent start (n ∷ older)
    → is_new cast r start n older ≡ false → is_named cast r.delay (n ∷ older) m ≡ is_named cast r.delay older m
unfolding is_named is_complete
named-not_new cast r start n older m dw o b new =
    any-same (λ c. member m c.names && list_all (survives cast.packets.sent r.delay (n ∷ older)) c.members) (λ c. member m c.names && list_all (survives cast.packets.sent r.delay older) c.members) cast.copies
    (λ c. ap (λ x. member m c.names && x) (all-same (survives cast.packets.sent r.delay (n ∷ older)) (survives cast.packets.sent r.delay older) c.members (λ j. survives-not_new cast r start n older j dw o b new)))

named-none : (cast : NamedCast) (r : Params) (m : ℕ) → IsNaming cast r → is_named cast r.delay [] m ≡ false
unfolding is_named is_complete survives
named-none cast r m naming =
    false_from_ne_true (list_any (λ c. member m c.names && list_all (λ n. false) c.members) cast.copies)
    (λ h.
    let w = any-some (IsRightCopy cast r) (λ c. member m c.names && list_all (λ n. false) c.members) cast.copies naming.right h in
    none w.0.members w.1.some (and_parts (member m w.0.names) (list_all (λ n. false) w.0.members) w.2).1)
  where
    none : (ks : List ℕ) → 0 < length ks → list_all {X = ℕ} (λ n. false) ks ≡ true → ⊥
    none [] l e = omega arith
    none (k ∷ ks) l e = true≢false (sym e)

-- what a table names is not due when the table is read
pub record IsTold (cast : NamedCast) (r : Params) (n m : ℕ) : Type 0 where
  pub not_late : sent_at cast.packets.sent n + r.delay < due_at cast m
  pub soon : due_at cast m ≤ sent_at cast.packets.sent n + 2 ^ 30
  pub known : m < length cast.mpus

pub told_facts : (cast : NamedCast) (r : Params) (ks : List ℕ) (n m : ℕ) → IsNaming cast r → member m (names_made_known cast ks n) ≡ true → IsTold cast r n m
unfolding names_made_known
told_facts cast r ks n m naming h =
    let says : CopyPlaces → Bool = λ c. member n c.members && list_all (λ k. member k ks) c.members in
    let a : list_any (λ c. member m (cond (says c) c.names [])) cast.copies ≡ true = sym (member-flat_map m (λ c. cond (says c) c.names []) cast.copies) ∙ h in
    let w = any-some (IsRightCopy cast r) (λ c. member m (cond (says c) c.names [])) cast.copies naming.right a in
    let c : CopyPlaces = w.0 in
    let both = and_parts (says c) (member m c.names) (sym (member-cond m (says c) c.names) ∙ w.2) in
    let of : member n c.members ≡ true = (and_parts (member n c.members) (list_all (λ k. member k ks) c.members) both.0).0 in
    record {
      not_late = each-at (λ m. sent_at cast.packets.sent n + r.delay < due_at cast m) c.names m (each-at (λ n. AllByRecursion (λ m. sent_at cast.packets.sent n + r.delay < due_at cast m) c.names) c.members n w.1.not_late of) both.1;
      soon = each-at (λ m. due_at cast m ≤ sent_at cast.packets.sent n + 2 ^ 30) c.names m (each-at (λ n. AllByRecursion (λ m. due_at cast m ≤ sent_at cast.packets.sent n + 2 ^ 30) c.names) c.members n w.1.soon of) both.1;
      known = each-at (λ m. m < length cast.mpus) c.names m w.1.known both.1;
    }

add-told : (e s w : Bool) → (e ≡ true → w ≡ true) → cond e (max 1 (as_number (s && w))) (as_number (s && w)) ≡ as_number ((s || e) && w)
add-told true true true h = refl
add-told true true false h = absurd (cc (h refl))
add-told true false true h = refl
add-told true false false h = absurd (cc (h refl))
add-told false true w h = refl
add-told false false w h = refl

-- an entry is of an MPU that a copy names that survived whole, and that is not over; and there is one
pub occurrences-known : (cast : NamedCast) (r : Params) (start : ℕ) (hist : List ℕ) (m : ℕ) → r.delay < r.window → IsNaming cast r → AreOf cast.packets.sent hist → Begins cast.packets.sent start hist
    → occurrences m (known cast r start hist) ≡ as_number (is_named cast r.delay hist m && nat_lt (latest cast.packets.sent start hist) (due_at cast m))
unfolding known
occurrences-known cast r start [] m dw naming o b = rw (named-none cast r m naming) refl
occurrences-known cast r start (n ∷ older) m dw naming o b =
    let p : SentPackets = cast.packets in
    let L : ℕ = latest p.sent start older in
    let now : ℕ = latest p.sent start (n ∷ older) in
    let now_is : now ≡ max L (sent_at p.sent n) = unfold latest in refl in
    let s : Bool = is_named cast r.delay older m in
    let w : Bool = nat_lt now (due_at cast m) in
    let w0 : Bool = nat_lt L (due_at cast m) in
    let told : List ℕ = names_made_known cast (held p r start (n ∷ older)) n in
    let new : Bool = is_new cast r start n older in
    let left : List ℕ = filter (λ m. nat_lt now (due_at cast m)) (known cast r start older) in
    let ih = occurrences-known cast r start older m dw naming o.1 (begins-older p start n older b) in
    let a : occurrences m left ≡ as_number (s && w) = occurrences-filter m (λ j. nat_lt now (due_at cast j)) (known cast r start older) ∙ (ap (λ x. cond w x 0) ih ∙ window-step s w0 w (λ h. grind (arith, nat_tests))) in
    let is : (x : Bool) → new ≡ x → member m (cond x told []) ≡ true → w ≡ true = λ x. told-due cast r start n older m naming x in
    let e : (x : Bool) → new ≡ x → is_named cast r.delay (n ∷ older) m ≡ (s || member m (cond x told [])) = λ x. named-step cast r start n older m dw naming o b x in
    occurrences-learned m left (cond new told [])
    ∙ (ap (λ x. cond (member m (cond new told [])) (max 1 x) x) a
    ∙ (add-told (member m (cond new told [])) s w (is new refl)
    ∙ ap (λ x. as_number (x && w)) (sym (e new refl))))
  where
    named-step : (cast : NamedCast) (r : Params) (start n : ℕ) (older : List ℕ) (m : ℕ) → r.delay < r.window → IsNaming cast r → AreOf cast.packets.sent (n ∷ older) → Begins cast.packets.sent start (n ∷ older)
        → (x : Bool) → is_new cast r start n older ≡ x
        → is_named cast r.delay (n ∷ older) m ≡ (is_named cast r.delay older m || member m (cond x (names_made_known cast (held cast.packets r start (n ∷ older)) n) []))
    named-step cast r start n older m dw naming o b true new = named-new cast r start n older m dw naming o b new
    named-step cast r start n older m dw naming o b false new = named-not_new cast r start n older m dw o b new ∙ (unfold member in or_false (is_named cast r.delay older m))
      where
        or_false : (b : Bool) → b ≡ (b || false)
        or_false true = refl
        or_false false = refl

    told-due : (cast : NamedCast) (r : Params) (start n : ℕ) (older : List ℕ) (m : ℕ) → IsNaming cast r → (x : Bool) → is_new cast r start n older ≡ x
        → member m (cond x (names_made_known cast (held cast.packets r start (n ∷ older)) n) []) ≡ true → nat_lt (latest cast.packets.sent start (n ∷ older)) (due_at cast m) ≡ true
    told-due cast r start n older m naming true new h =
        let f = told_facts cast r (held cast.packets r start (n ∷ older)) n m naming h in
        let t : nat_le (latest cast.packets.sent start (n ∷ older)) (sent_at cast.packets.sent n + r.delay) ≡ true =
        (and_parts (nat_le (latest cast.packets.sent start (n ∷ older)) (sent_at cast.packets.sent n + r.delay)) (not (list_any (λ k. k == n) (within cast.packets r (latest cast.packets.sent start (n ∷ older)) (held cast.packets r start older)))) (unfold is_new in new)).0 in
        let l = leb-true (latest cast.packets.sent start (n ∷ older)) (sent_at cast.packets.sent n + r.delay) t in
        lt-ltb (latest cast.packets.sent start (n ∷ older)) (due_at cast m) (omega (arith, f.not_late))
    told-due cast r start n older m naming false new h = absurd (true≢false (sym h ∙ (unfold member in refl)))
