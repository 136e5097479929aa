-- The payload bytes in a window that slides over sorted packets.
use Rattle.std.proofs.Common.{◌≡◌, ℕ, ◌+◌, ◌-◌, ◌*◌, ◌<◌, ◌≤◌, ◌^◌, zero, suc, Bool, true, false, ◌&&◌, nat_le, nat_lt, cond, List, [], ◌∷◌, length, get_or, take, min, arith, refl, ap, ap₂, sym, ◌∙◌, ⊎_elim, subst}
use Rattle.std.specs.List.{filter, sum_by}
use Rattle.std.proofs.lemmas.Bool.{and_from, and_left, and_right, cases_eq, cases_lt, le-leb, le-ltb, lt-leb, lt-ltb}
use Rattle.std.proofs.lemmas.List.{take_all, take_more}
use Rattle.std.proofs.lemmas.List.Elements.{filter-append}
use Rattle.std.proofs.lemmas.List.Sums.{sum_by-append, sum_by-cons}
use Rattle.mmt_admit.specs.Faults.{AreInOrder}
use Rattle.mmt_model.specs.Admission.{fault_of_load, unless}
use Rattle.mmt_model.specs.Survival.{length_of, load, no_packet, sent_at}
use Rattle.mmt_model.specs.declared.casts.Cast.{Cast}
use Rattle.mmt_model.specs.declared.casts.Sent.{Sent}

-- the payload bytes of the first k packets
unfoldable pub bytes_of : List Sent → ℕ → ℕ
bytes_of packets k = sum_by (λ (p : Sent). p.length) (take k packets)

pub bytes-more : (packets : List Sent) (k : ℕ) → k < length packets → bytes_of packets (k + 1) ≡ bytes_of packets k + (get_or packets k no_packet).length
unfolding bytes_of
bytes-more packets k l =
    let p : Sent = get_or packets k no_packet in
    ap (sum_by (λ (p : Sent). p.length)) (take_more packets k no_packet l) ∙ omega (arith, sum_by-append (λ (p : Sent). p.length) (take k packets) (p ∷ []), sum_by-cons (λ (p : Sent). p.length) p [])

pub bytes-rise : (packets : List Sent) (j n : ℕ) → j + n ≤ length packets → bytes_of packets j ≤ bytes_of packets (j + n)
bytes-rise packets j zero l = let z : j ≡ j + 0 = omega arith in omega (arith, ap (bytes_of packets) z)
bytes-rise packets j (suc n) l =
    let s : j + n + 1 ≡ j + suc n = omega arith in
    omega (arith, bytes-rise packets j n (omega arith), bytes-more packets (j + n) (omega arith), ap (bytes_of packets) s)

pub sorted-by : (packets : List Sent) → AreInOrder packets → (j n : ℕ) → j + n < length packets → sent_at packets j ≤ sent_at packets (j + n)
sorted-by packets sorted j zero l = let z : j ≡ j + 0 = omega arith in omega (arith, ap (sent_at packets) z)
sorted-by packets sorted j (suc n) l =
    let s : suc (j + n) ≡ j + suc n = omega arith in
    omega (arith, sorted-by packets sorted j n (omega arith), sorted (j + n) (omega arith), ap (sent_at packets) s)

pub sorted-at : (packets : List Sent) → AreInOrder packets → (j k : ℕ) → j ≤ k → k < length packets → sent_at packets j ≤ sent_at packets k
sorted-at packets sorted j k l b =
    let s : j + (k - j) ≡ k = omega (arith, l) in
    omega (arith, sorted-by packets sorted j (k - j) (omega (arith, l, b)), ap (sent_at packets) s)

-- the packets before `end` are sent by now, and those before `start` have left the window
pub record IsWindow (packets : List Sent) (window now start end bytes : ℕ) : Type 0 where
  pub order : start ≤ end
  pub within : end ≤ length packets
  pub come : (k : ℕ) → k < end → sent_at packets k ≤ now
  pub gone : (k : ℕ) → k < start → sent_at packets k + window ≤ now
  pub sum : bytes + bytes_of packets start ≡ bytes_of packets end
  pub small : bytes ≤ end * 4294967296

pub window-begins : (packets : List Sent) (window now : ℕ) → IsWindow packets window now 0 0 0
window-begins packets window now = record { order = omega arith; within = omega arith; come = λ k l. absurd (omega arith); gone = λ k l. absurd (omega arith); sum = omega arith; small = omega arith }

-- a later moment
pub window-later : (packets : List Sent) (window now later start end bytes : ℕ) → IsWindow packets window now start end bytes → now ≤ later → IsWindow packets window later start end bytes
window-later packets window now later start end bytes w l =
    record { order = w.order; within = w.within; come = λ k b. omega (arith, w.come k b, l); gone = λ k b. omega (arith, w.gone k b, l); sum = w.sum; small = w.small }

-- one more packet is sent by now
pub window-takes : (packets : List Sent) (window now start end bytes : ℕ) → IsWindow packets window now start end bytes → end < length packets → sent_at packets end ≤ now → length_of packets end < 2 ^ 32
    → IsWindow packets window now start (end + 1) (bytes + length_of packets end)
unfolding length_of
window-takes packets window now start end bytes w l by short =
    record {
      order = omega (arith, w.order);
      within = omega arith;
      come = λ k b. ⊎_elim (λ (e : k ≡ end). omega (arith, by, ap (sent_at packets) e)) (λ (ne : k ≡ end → ⊥). w.come k (⊎_elim (λ (lt : k < end). lt) (λ (ge : end ≤ k). absurd (ne (omega arith))) (cases_lt k end))) (cases_eq k end);
      gone = w.gone;
      sum = omega (arith, w.sum, bytes-more packets end l);
      small = omega (arith, w.small, short);
    }

-- the packet that leaves has its bytes in the sum
pub window-holds : (packets : List Sent) (window now start end bytes : ℕ) → IsWindow packets window now start end bytes → start < end → length_of packets start ≤ bytes
unfolding length_of
window-holds packets window now start end bytes w l =
    let s : start + 1 + (end - (start + 1)) ≡ end = omega (arith, l) in
    omega (arith, w.sum, bytes-more packets start (omega (arith, l, w.within)), bytes-rise packets (start + 1) (end - (start + 1)) (omega (arith, l, w.within)), ap (bytes_of packets) s)

-- one more packet has left
pub window-drops : (packets : List Sent) (window now start end bytes : ℕ) → IsWindow packets window now start end bytes → start < end → sent_at packets start + window ≤ now
    → IsWindow packets window now (start + 1) end (bytes - length_of packets start)
unfolding length_of
window-drops packets window now start end bytes w l by =
    record {
      order = omega arith;
      within = w.within;
      come = w.come;
      gone = λ k b. ⊎_elim (λ (e : k ≡ start). omega (arith, by, ap (sent_at packets) e)) (λ (ne : k ≡ start → ⊥). w.gone k (⊎_elim (λ (lt : k < start). lt) (λ (ge : start ≤ k). absurd (ne (omega arith))) (cases_lt k start))) (cases_eq k start);
      sum = (let h = window-holds packets window now start end bytes w l in omega (arith, w.sum, h, bytes-more packets start (omega (arith, l, w.within))));
      small = omega (arith, w.small);
    }

-- no other packet is sent by now, or has left
pub record IsWhole (packets : List Sent) (window now start end : ℕ) : Type 0 where
  pub all_come : end < length packets → now < sent_at packets end
  pub all_gone : start < end → now < sent_at packets start + window

-- the bytes of the packets in a window among the first m
abbrev front : List Sent → ℕ → ℕ → ℕ → ℕ
front packets window now m = sum_by (λ (p : Sent). p.length) (filter (λ (p : Sent). nat_le p.at.0 now && nat_lt now (p.at.0 + window)) (take m packets))

front-more : (packets : List Sent) (window now m : ℕ) → m < length packets
    → front packets window now (m + 1) ≡ front packets window now m + cond (nat_le (sent_at packets m) now && nat_lt now (sent_at packets m + window)) (get_or packets m no_packet).length 0
unfolding sent_at
front-more packets window now m l =
    let p : Sent = get_or packets m no_packet in
    let test : Sent → Bool = λ q. nat_le q.at.0 now && nat_lt now (q.at.0 + window) in
    ap (λ ps. sum_by (λ (q : Sent). q.length) (filter test ps)) (take_more packets m no_packet l)
    ∙ (ap (sum_by (λ (q : Sent). q.length)) (filter-append test (take m packets) (p ∷ []))
    ∙ (sum_by-append (λ (q : Sent). q.length) (filter test (take m packets)) (filter test (p ∷ []))
    ∙ ap (λ n. front packets window now m + n) (one (test p))))
  where
    one : (t : Bool) → sum_by (λ (q : Sent). q.length) (cond t (get_or packets m no_packet ∷ []) []) ≡ cond t (get_or packets m no_packet).length 0
    one true = omega (arith, sum_by-cons (λ (q : Sent). q.length) (get_or packets m no_packet) [])
    one false = refl

front-load : (packets : List Sent) (window now start end bytes : ℕ) → AreInOrder packets → 1 ≤ window → IsWindow packets window now start end bytes → IsWhole packets window now start end → (m : ℕ) → m ≤ length packets
    → front packets window now m + bytes_of packets (min m start) ≡ bytes_of packets (min m end)
front-load packets window now start end bytes sorted some w whole zero l =
    let a : min 0 start ≡ min 0 end = omega arith in
    omega (arith, ap (bytes_of packets) a)
front-load packets window now start end bytes sorted some w whole (suc m) l =
    let ih = front-load packets window now start end bytes sorted some w whole m (omega arith) in
    let here : m < length packets = omega arith in
    let s : suc m ≡ m + 1 = omega arith in
    let f = ap (front packets window now) s in
    let g = front-more packets window now m here in
    let b = bytes-more packets m here in
    let at : ℕ = sent_at packets m in
    let p : ℕ = (get_or packets m no_packet).length in
    ⊎_elim
    (λ (before : m < start).
    (let t = ap (λ (t : Bool). cond t p 0) (and_right (nat_le at now) (nat_lt now (at + window)) (le-ltb now (at + window) (w.gone m before))) in
    let a : min (suc m) start ≡ m + 1 = omega arith in
    let a' : min m start ≡ m = omega arith in
    let e : min (suc m) end ≡ m + 1 = omega (arith, w.order) in
    let e' : min m end ≡ m = omega (arith, w.order) in
    omega (arith, ih, f, g, t, b, ap (bytes_of packets) a, ap (bytes_of packets) a', ap (bytes_of packets) e, ap (bytes_of packets) e')))
    (λ (after : start ≤ m). ⊎_elim
    (λ (inside : m < end).
    (let lo = sorted-at packets sorted start m after here in
    let out = whole.all_gone (omega arith) in
    let t = ap (λ (t : Bool). cond t p 0) (and_from (nat_le at now) (nat_lt now (at + window)) (le-leb at now (w.come m inside)) (lt-ltb now (at + window) (omega (arith, lo, out)))) in
    let a : min (suc m) start ≡ start = omega arith in
    let a' : min m start ≡ start = omega arith in
    let e : min (suc m) end ≡ m + 1 = omega arith in
    let e' : min m end ≡ m = omega arith in
    omega (arith, ih, f, g, t, b, ap (bytes_of packets) a, ap (bytes_of packets) a', ap (bytes_of packets) e, ap (bytes_of packets) e')))
    (λ (past : end ≤ m).
    (let lo = sorted-at packets sorted end m past here in
    let come = whole.all_come (omega arith) in
    let t = ap (λ (t : Bool). cond t p 0) (and_left (nat_le at now) (nat_lt now (at + window)) (lt-leb at now (omega (arith, lo, come)))) in
    let a : min (suc m) start ≡ start = omega arith in
    let a' : min m start ≡ start = omega arith in
    let e : min (suc m) end ≡ end = omega arith in
    let e' : min m end ≡ end = omega arith in
    omega (arith, ih, f, g, t, ap (bytes_of packets) a, ap (bytes_of packets) a', ap (bytes_of packets) e, ap (bytes_of packets) e')))
    (cases_lt m end))
    (cases_lt m start)

pub load-is : (packets : List Sent) (window now start end bytes : ℕ) → AreInOrder packets → 1 ≤ window → IsWindow packets window now start end bytes → IsWhole packets window now start end → load packets window now ≡ bytes
unfolding load
load-is packets window now start end bytes sorted some w whole =
    let n : ℕ = length packets in
    let a : min n start ≡ start = omega (arith, w.order, w.within) in
    let b : min n end ≡ end = omega (arith, w.within) in
    let f = front-load packets window now start end bytes sorted some w whole n (omega arith) in
    let t = ap (λ ps. sum_by (λ (p : Sent). p.length) (filter (λ (p : Sent). nat_le p.at.0 now && nat_lt now (p.at.0 + window)) ps)) (take_all n packets (omega arith)) in
    omega (arith, f, t, w.sum, ap (bytes_of packets) a, ap (bytes_of packets) b)

-- rule 6 by that sum
pub load-at : (cast : Cast) (n now bytes : ℕ) → now ≡ sent_at cast.packets n → load cast.packets cast.params.window now ≡ bytes → unless (nat_le bytes cast.params.bound) 6 n bytes cast.params.bound ≡ fault_of_load cast n
unfolding fault_of_load
load-at cast n now bytes e is = ap (λ b. unless (nat_le b cast.params.bound) 6 n b cast.params.bound) (sym is ∙ ap (load cast.packets cast.params.window) e)

-- the fault of a packet by the window that ends with it
pub load-found : (cast : Cast) (packets : List Sent) (n window bound now start end bytes : ℕ) → packets ≡ cast.packets → window ≡ cast.params.window → bound ≡ cast.params.bound → AreInOrder cast.packets → 1 ≤ cast.params.window → now ≡ sent_at packets n
    → IsWindow packets window now start end bytes → IsWhole packets window now start end → unless (nat_le bytes bound) 6 n bytes bound ≡ fault_of_load cast n
load-found cast packets n window bound now start end bytes e ew eb sorted some at w whole =
    ap (λ b. unless (nat_le bytes b) 6 n bytes b) eb
    ∙ load-at cast n now bytes (at ∙ ap (λ (ps : List Sent). sent_at ps n) e)
    (ap₂ (λ (ps : List Sent) v. load ps v now) (sym e) (sym ew) ∙ load-is packets window now start end bytes (subst AreInOrder (sym e) sorted) (omega (arith, some, ew)) w whole)

-- the window at the next packet
pub window-next : (packets : List Sent) (n window now start end bytes : ℕ) → AreInOrder packets → now ≡ sent_at packets n → n + 1 < length packets
    → IsWindow packets window now start end bytes → IsWindow packets window (sent_at packets (n + 1)) start end bytes
window-next packets n window now start end bytes sorted at l w =
    let s : n + 1 ≡ suc n = omega arith in
    let up = sorted n (omega arith) in
    window-later packets window now (sent_at packets (n + 1)) start end bytes w (omega (arith, up, at, ap (sent_at packets) s))
