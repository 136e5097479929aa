-- What admission gives.
use Rattle.std.proofs.Common.{◌≡◌, ℕ, ◌+◌, ◌^◌, ◌<◌, ◌≤◌, ◌⊎◌, zero, suc, Bool, true, false, ◌==◌, cond, List, [], ◌∷◌, ◌++◌, length, get_or, take, arith, refl, ap, ap₂, sym, ◌∙◌, ⊎_elim, count_by}
use Rattle.std.specs.List.{list_any}
use Rattle.std.proofs.lemmas.Bool.{eq-eqb, eqb-true, or_cases, or_right, or_left, cases_order}
use Rattle.std.proofs.lemmas.List.Sums.{sum_by-cons}
use Rattle.std.specs.List.{AllByRecursion}
use Rattle.mmt_delivery.proofs.Admitted.{IsAdmitted, IsTimelyCopy, IsWellFormed, first_at}
use Rattle.mmt_delivery.proofs.Finding.{IsApart}
use Rattle.mmt_delivery.proofs.Premises.{IsNaming, IsPlaying, IsRightCopy, IsSound, last_at}
use Rattle.mmt_model.proofs.Preceding.{before-one_way}
use Rattle.mmt_model.specs.Broadcast.{Broadcast, CopyPlaces, NamedCast, due_at, due_of_unit, presentation_of, unit_of}
use Rattle.mmt_model.specs.Carrying.{numbers}
use Rattle.mmt_model.specs.Counts.{member}
use Rattle.mmt_model.specs.Entries.{Entry}
use Rattle.mmt_model.specs.Handing.{key_numbers, order_numbers, precedes}
use Rattle.mmt_model.specs.Survival.{load, no_packet, sent_at}
use Rattle.mmt_model.specs.declared.casts.Sent.{Sent}
use Rattle.mmt_model.specs.declared.keys.UnitKey.{UnitKey}
use Rattle.mmt_model.specs.declared.programmes.Params.{Params}
use Rattle.mmt_model.specs.declared.keys.UnitKey.TheVariants as keys

-- a count over a longer front that has one more that passes is greater
count-grows : {X : Type 0} (p : X → Bool) (xs : List X) (i j : ℕ) (d : X) → i < j → j ≤ length xs → p (get_or xs i d) ≡ true → count_by p (take i xs) < count_by p (take j xs)
count-grows p [] i j d l le t = absurd (omega arith)
count-grows p (x ∷ xs) i zero d l le t = absurd (omega arith)
count-grows {X} p (x ∷ xs) zero (suc j) d l le t = omega (arith, sum_by-cons (λ (y : X). cond (p y) 1 0) x (take j xs), ap {B = ℕ} (λ b. cond b 1 0) t)
count-grows {X} p (x ∷ xs) (suc i) (suc j) d l le t =
    omega (arith, sum_by-cons (λ (y : X). cond (p y) 1 0) x (take i xs), sum_by-cons (λ (y : X). cond (p y) 1 0) x (take j xs), count-grows p xs i j d (omega arith) (omega arith) t)

-- numbers that count the packets of an id tell the packets apart
pub apart : (broadcast : Broadcast) (r : Params) → IsAdmitted broadcast r → IsApart broadcast.cast.packets
apart broadcast r admitted m n lm ln ids numbers =
    ⊎_elim (λ (e : m ≡ n). e)
    (λ (o : (m < n) ⊎ (n < m)). ⊎_elim
    (λ (lt : m < n). absurd (never m n lm ln lt ids numbers))
    (λ (gt : n < m). absurd (never n m ln lm gt (sym ids) (sym numbers))) o)
    (cases_order m n)
  where
    never : (m n : ℕ) → m < length broadcast.cast.packets.sent → n < length broadcast.cast.packets.sent → m < n
        → (get_or broadcast.cast.packets.sent m no_packet).packet_id ≡ (get_or broadcast.cast.packets.sent n no_packet).packet_id → (get_or broadcast.cast.packets.sent m no_packet).number ≡ (get_or broadcast.cast.packets.sent n no_packet).number → ⊥
    never m n lm ln lt ids numbers =
        let packet_id : ℕ = (get_or broadcast.cast.packets.sent n no_packet).packet_id in
        let g = count-grows (λ (p : Sent). p.packet_id == packet_id) broadcast.cast.packets.sent m n no_packet lt (omega arith) (eq-eqb (get_or broadcast.cast.packets.sent m no_packet).packet_id packet_id ids) in
        let a = admitted.numbered m lm in
        let a' : (get_or broadcast.cast.packets.sent m no_packet).number ≡ count_by (λ (p : Sent). p.packet_id == packet_id) (take m broadcast.cast.packets.sent) = a ∙ ap (λ i. count_by (λ (p : Sent). p.packet_id == i) (take m broadcast.cast.packets.sent)) ids in
        omega (arith, g, a', admitted.numbered n ln, numbers)

pub sound : (broadcast : Broadcast) (r k : Params) → IsAdmitted broadcast r → k.window ≡ r.window → k.delay ≡ r.delay → r.bound ≤ k.bound → IsSound broadcast.cast.packets k
sound broadcast r k admitted w d b =
    record {
      short_delay = omega (arith, admitted.window, w, d);
      short_window = omega (arith, admitted.widest, w);
      apart = apart broadcast r admitted;
      fits = λ n l. omega (arith, admitted.loads n l, b, ap (λ x. load broadcast.cast.packets.sent x (sent_at broadcast.cast.packets.sent n)) w);
    }

-- each packet lies between the first and the last
between : (cast : NamedCast) (ns : List ℕ) (n : ℕ) → member n ns ≡ true → (first_at cast ns ≤ sent_at cast.packets.sent n) × (sent_at cast.packets.sent n ≤ last_at cast ns)
unfolding member first_at last_at
between cast [] n m = absurd cc
between cast (k ∷ []) n m = ⊎_elim (λ (t : (k == n) ≡ true). (let e = ap (sent_at cast.packets.sent) (eqb-true k n t) in (omega (arith, e), omega (arith, e)))) (λ (t : false ≡ true). absurd cc) (or_cases (k == n) false m)
between cast (k ∷ j ∷ ns) n m =
    ⊎_elim
    (λ (t : (k == n) ≡ true). (let e = ap (sent_at cast.packets.sent) (eqb-true k n t) in (omega (arith, e), omega (arith, e))))
    (λ (t : list_any (λ i. i == n) (j ∷ ns) ≡ true). (let r = between cast (j ∷ ns) n t in (omega (arith, r.0), omega (arith, r.1))))
    (or_cases (k == n) (list_any (λ i. i == n) (j ∷ ns)) m)

each-from : (P : ℕ → Type 0) (ns : List ℕ) → ((n : ℕ) → member n ns ≡ true → P n) → AllByRecursion P ns
unfolding member
each-from P [] h = tt
each-from P (n ∷ ns) h = (h n (or_left (n == n) (list_any (λ i. i == n) ns) (eq-eqb n n refl)), each-from P ns (λ k m. h k (or_right (n == k) (list_any (λ i. i == k) ns) m)))

each-and : (P Q R S T : CopyPlaces → Type 0) (cs : List CopyPlaces) → ((c : CopyPlaces) → P c → Q c → R c → S c → T c) → AllByRecursion P cs → AllByRecursion Q cs → AllByRecursion R cs → AllByRecursion S cs → AllByRecursion T cs
each-and P Q R S T [] h p q r s = tt
each-and P Q R S T (c ∷ cs) h p q r s = (h c p.0 q.0 r.0 s.0, each-and P Q R S T cs h p.1 q.1 r.1 s.1)

each-weaker : (P Q : ℕ → Type 0) (ns : List ℕ) → ((n : ℕ) → P n → Q n) → AllByRecursion P ns → AllByRecursion Q ns
each-weaker P Q [] h e = tt
each-weaker P Q (n ∷ ns) h e = (h n e.0, each-weaker P Q ns h e.1)

pub naming : (broadcast : Broadcast) (r k : Params) (names_in : List ℕ → List Entry) → IsAdmitted broadcast r → IsWellFormed broadcast names_in → k.window ≡ r.window → k.delay ≡ r.delay → IsNaming broadcast.cast k
naming broadcast r k names_in admitted formed w d =
    record {
      one_mpu = formed.one_mpu;
      right =
          each-and (IsTimelyCopy broadcast.cast r) (λ c. 0 < length c.members) (λ c. AllByRecursion (λ n. n < length broadcast.cast.packets.sent) c.members) (λ c. AllByRecursion (λ m. m < length broadcast.cast.mpus) c.names) (IsRightCopy broadcast.cast k) broadcast.cast.copies
          (λ c timely some of known.
          record {
            some = some;
            of = of;
            known = known;
            not_late = each-from (λ n. AllByRecursion (λ m. sent_at broadcast.cast.packets.sent n + k.delay < due_at broadcast.cast m) c.names) c.members
                (λ n mem. each-weaker (λ m. (last_at broadcast.cast c.members + r.delay < due_at broadcast.cast m) × (due_at broadcast.cast m ≤ first_at broadcast.cast c.members + 2 ^ 30)) (λ m. sent_at broadcast.cast.packets.sent n + k.delay < due_at broadcast.cast m) c.names
                (λ m e. (let b = between broadcast.cast c.members n mem in omega (arith, e.0, b.1, d))) timely.early);
            soon = each-from (λ n. AllByRecursion (λ m. due_at broadcast.cast m ≤ sent_at broadcast.cast.packets.sent n + 2 ^ 30) c.names) c.members
                (λ n mem. each-weaker (λ m. (last_at broadcast.cast c.members + r.delay < due_at broadcast.cast m) × (due_at broadcast.cast m ≤ first_at broadcast.cast c.members + 2 ^ 30)) (λ m. due_at broadcast.cast m ≤ sent_at broadcast.cast.packets.sent n + 2 ^ 30) c.names
                (λ m e. (let b = between broadcast.cast c.members n mem in omega (arith, e.1, b.0))) timely.early);
            together = each-from (λ n. AllByRecursion (λ j. sent_at broadcast.cast.packets.sent n + k.delay < sent_at broadcast.cast.packets.sent j + k.window) c.members) c.members
                (λ n mem. each-from (λ j. sent_at broadcast.cast.packets.sent n + k.delay < sent_at broadcast.cast.packets.sent j + k.window) c.members
                (λ j mem'. (let b = between broadcast.cast c.members n mem in let b' = between broadcast.cast c.members j mem' in omega (arith, b.1, b'.0, timely.short, d, w))));
            few = timely.few;
          })
          admitted.copies formed.copy_some formed.copy_of_cast formed.copy_names;
    }

-- the units of a cast that is admitted
keys-append : (k l : UnitKey) (xs ys : List ℕ) → key_numbers k ++ xs ≡ key_numbers l ++ ys → (key_numbers k ≡ key_numbers l)
unfolding key_numbers
keys-append (keys.Item a) (keys.Item b) xs ys e = cc
keys-append (keys.Item a) (keys.Timed f s o) xs ys e = absurd cc
keys-append (keys.Timed f s o) (keys.Item b) xs ys e = absurd cc
keys-append (keys.Timed f s o) (keys.Timed g t p) xs ys e = cc

pub playing : (broadcast : Broadcast) (r k : Params) (names_in : List ℕ → List Entry) → IsAdmitted broadcast r → IsWellFormed broadcast names_in → k.window ≡ r.window → k.delay ≡ r.delay → IsPlaying broadcast k
unfolding order_numbers presentation_of
playing broadcast r k names_in admitted formed w d =
    record {
      right = λ u l.
          (let t = admitted.timely u l in
          record {
            known = formed.unit_mpu u l;
            some = formed.unit_some u l;
            of = formed.unit_of_cast u l;
            same_id = formed.unit_id u l;
            same_mpu = formed.unit_number u l;
            not_late = each-from (λ n. sent_at broadcast.cast.packets.sent n + k.delay < due_of_unit broadcast u) (unit_of broadcast u).members
                (λ n m. (let b = between broadcast.cast (unit_of broadcast u).members n m in omega (arith, t.0, b.1, d)));
            not_gone = each-from (λ n. due_of_unit broadcast u ≤ sent_at broadcast.cast.packets.sent n + k.window) (unit_of broadcast u).members
                (λ n m. (let b = between broadcast.cast (unit_of broadcast u).members n m in omega (arith, t.1, b.0, w)));
          });
      apart = λ u v lu lv e.
          (let a = (unit_of broadcast u).value in
          let b = (unit_of broadcast v).value in
          let ids : a.packet_id ≡ b.packet_id = cc in
          let mpus : a.mpu ≡ b.mpu = cc in
          let keys : key_numbers a.key ++ a.number ∷ a.place ∷ [] ≡ key_numbers b.key ++ b.number ∷ b.place ∷ [] = cc in
          let same_key : key_numbers a.key ≡ key_numbers b.key = keys-append a.key b.key (a.number ∷ a.place ∷ []) (b.number ∷ b.place ∷ []) keys in
          let m : (unit_of broadcast u).mpu ≡ (unit_of broadcast v).mpu =
          formed.one_mpu (unit_of broadcast u).mpu (unit_of broadcast v).mpu (formed.unit_mpu u lu) (formed.unit_mpu v lv)
          (sym (formed.unit_id u lu) ∙ (ids ∙ formed.unit_id v lv)) (sym (formed.unit_number u lu) ∙ (mpus ∙ formed.unit_number v lv)) in
          ⊎_elim (λ (s : u ≡ v). s)
          (λ (o : (u < v) ⊎ (v < u)). ⊎_elim
          (λ (lt : u < v). absurd (never (key_numbers a.key) (key_numbers b.key) same_key (admitted.keys u v lt lv m)))
          (λ (gt : v < u). absurd (never (key_numbers b.key) (key_numbers a.key) (sym same_key) (admitted.keys v u gt lu (sym m)))) o)
          (cases_order u v));
    }
  where
    never : (xs ys : List ℕ) → xs ≡ ys → precedes xs ys ≡ true → ⊥
    never xs ys e t = before-one_way xs ys t (ap₂ precedes (sym e) e ∙ t)
