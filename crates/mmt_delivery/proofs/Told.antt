-- The names of a stored packet are learned, and the messages in parts of kept packets are those of the cast.
use Rattle.std.proofs.Common.{◌≡◌, ℕ, ◌+◌, ◌<◌, ◌≤◌, zero, suc, Bool, true, false, not, ◌&&◌, ◌==◌, nat_lt, cond, max, List, [], ◌∷◌, ◌++◌, map, length, get_or, arith, refl, ap, sym, ◌∙◌, subst, filter}
use Rattle.std.specs.List.{AllByRecursion, flat_map}
use Rattle.std.proofs.lemmas.Bool.{and_parts, eqb-true, lt-ltb, ltb-true, ne_eqb}
use Rattle.mmt_base.specs.Ticks.{low}
use Rattle.mmt_delivery.proofs.Admitting.{apart, naming, sound}
use Rattle.mmt_delivery.proofs.Carried.{copies-many, formed, laid, laid-copies, layout_of}
use Rattle.mmt_delivery.proofs.Cutting.{IsTable, payload_of}
use Rattle.mmt_delivery.proofs.Delivering.{history, newest-push}
use Rattle.mmt_delivery.proofs.Faultless.{admitted}
use Rattle.mmt_delivery.proofs.Finding.{IsApart, payload-heard}
use Rattle.mmt_delivery.proofs.Handing.{IsHistory}
use Rattle.mmt_delivery.proofs.Held.{begins-older, held}
use Rattle.mmt_delivery.proofs.Kept.{as_number-true, clock-low, goes, held_facts, kept-held}
use Rattle.mmt_delivery.proofs.Known.{is_new, known, occurrences-known, occurrences-learned, told_facts}
use Rattle.mmt_delivery.proofs.Laid.{AreLaidCopies, Holding, IsLaid, IsPlaced, Layout, payload_by}
use Rattle.mmt_delivery.proofs.LayingTables.{first-part, heads, table-bytes, table-of, tails}
use Rattle.mmt_delivery.proofs.Learning.{entries-known, first_member, has_entry, later_member, named_facts, names_by-new}
use Rattle.mmt_delivery.proofs.Premises.{Begins, IsNaming, names_made_known}
use Rattle.mmt_delivery.proofs.Telling.{message_at, message_of, telling}
use Rattle.mmt_delivery.proofs.Tests.{member-occurrences}
use Rattle.mmt_delivery.specs.Tables.{IsAmong, IsOfCopy, MessagesAreSent, NamesAreLearned}
use Rattle.mmt_model.specs.Broadcast.{Broadcast, NamedCast, due_at, entry_of}
use Rattle.mmt_model.specs.Carrying.{Contents, broadcast_of, numbers, place_of, role}
use Rattle.mmt_model.specs.Counts.{member, occurrences}
use Rattle.mmt_model.specs.Delivery.{newest_first, start_of}
use Rattle.mmt_model.specs.Entries.{Entry, entries, is_of_same_mpu}
use Rattle.mmt_model.specs.Expected.{is_named}
use Rattle.mmt_model.specs.Keeping.{Outcome, kept, outcome}
use Rattle.mmt_model.specs.Packets.{Heard, Payload}
use Rattle.mmt_model.specs.Survival.{AreOf, SentPackets, heard_of, latest, no_packet}
use Rattle.mmt_model.specs.Units.{Message, joined, message_by, names_of}
use Rattle.mmt_model.specs.declared.casts.Cast.{Cast}
use Rattle.mmt_model.specs.declared.keys.Part.TheVariants as parts
use Rattle.mmt_model.specs.declared.programmes.Params.{Params}

-- ---- names

all-named : (P : Entry → Type 0) (f : ℕ → Entry) (ms : List ℕ) → ((m : ℕ) → member m ms ≡ true → P (f m)) → AllByRecursion P (map f ms)
all-named P f [] h = tt
all-named P f (m ∷ ms) h = (h m (first_member m ms), all-named P f ms (λ k e. h k (later_member k m ms e)))

-- how often a place is known that was just named
again : (k : ℕ) (xs : List ℕ) (b : Bool) → b ≡ true → 0 < cond b (max 1 (occurrences k xs)) (occurrences k xs)
again k xs true e = omega arith
again k xs false e = absurd cc

named-known : (cast : NamedCast) (r : Params) (start n : ℕ) (older : List ℕ) (m : ℕ) → is_new cast r start n older ≡ true → member m (names_made_known cast (held cast.packets r start (n ∷ older)) n) ≡ true → 0 < occurrences m (known cast r start (n ∷ older))
unfolding known
named-known cast r start n older m new e =
    let told : List ℕ = names_made_known cast (held cast.packets r start (n ∷ older)) n in
    let ms : List ℕ = cond (is_new cast r start n older) told [] in
    let in_ms : member m ms ≡ true = ap (λ (b : Bool). member m (cond b told [])) new ∙ e in
    let left : List ℕ = filter (λ m. nat_lt (latest cast.packets.sent start (n ∷ older)) (due_at cast m)) (known cast r start older) in
    omega (arith, occurrences-learned m left ms, again m left (member m ms) in_ms)

-- a known place is one of an MPU
known-below : (cast : NamedCast) (r : Params) (start : ℕ) (hist : List ℕ) (m : ℕ) → r.delay < r.window → IsNaming cast r → AreOf cast.packets.sent hist → Begins cast.packets.sent start hist → 0 < occurrences m (known cast r start hist) → m < length cast.mpus
known-below cast r start hist m dw naming o b l =
    let both = as_number-true (is_named cast r.delay hist m && nat_lt (latest cast.packets.sent start hist) (due_at cast m)) (omega (arith, l, occurrences-known cast r start hist m dw naming o b)) in
    (named_facts cast r start hist m naming (and_parts (is_named cast r.delay hist m) (nat_lt (latest cast.packets.sent start hist) (due_at cast m)) both).0).known

some-member : (m : ℕ) (xs : List ℕ) → 0 < occurrences m xs → member m xs ≡ true
some-member m xs l = member-occurrences m xs ∙ lt-ltb 0 (occurrences m xs) l

member-some : (m : ℕ) (xs : List ℕ) → member m xs ≡ true → 0 < occurrences m xs
member-some m xs e = ltb-true 0 (occurrences m xs) (sym (member-occurrences m xs) ∙ e)

same-entry : (cast : NamedCast) (r : Params) (m k : ℕ) → IsNaming cast r → m < length cast.mpus → k < length cast.mpus → is_of_same_mpu (entry_of cast m) (entry_of cast k) ≡ true → entry_of cast k ≡ entry_of cast m
unfolding is_of_same_mpu
same-entry cast r m k naming lm lk e =
    let both = and_parts ((entry_of cast k).packet_id == (entry_of cast m).packet_id) ((entry_of cast k).mpu == (entry_of cast m).mpu) e in
    ap (entry_of cast) (naming.one_mpu k m lk lm (eqb-true (entry_of cast k).packet_id (entry_of cast m).packet_id both.0) (eqb-true (entry_of cast k).mpu (entry_of cast m).mpu both.1))

-- what a new packet makes known is among what is known
told-known : (cast : NamedCast) (r : Params) (start n : ℕ) (older : List ℕ) → r.delay < r.window → IsNaming cast r → AreOf cast.packets.sent (n ∷ older) → Begins cast.packets.sent start (n ∷ older) → is_new cast r start n older ≡ true
    → AllByRecursion (IsAmong (map (entry_of cast) (known cast r start (n ∷ older)))) (map (entry_of cast) (names_made_known cast (held cast.packets r start (n ∷ older)) n))
told-known cast r start n older dw naming o b new =
    let xs : List ℕ = known cast r start (n ∷ older) in
    let ks : List ℕ = held cast.packets r start (n ∷ older) in
    let below : (k : ℕ) → 0 < occurrences k xs → k < length cast.mpus = λ k l. known-below cast r start (n ∷ older) k dw naming o b l in
    all-named (IsAmong (map (entry_of cast) xs)) (entry_of cast) (names_made_known cast ks n)
    (λ m e.
    let lm : m < length cast.mpus = (told_facts cast r ks n m naming e).known in
    record {
      there = has_entry cast r m xs naming lm below ∙ some-member m xs (named-known cast r start n older m new e);
      same = all-named (λ f. is_of_same_mpu (entry_of cast m) f ≡ true → f ≡ entry_of cast m) (entry_of cast) xs (λ k h. same-entry cast r m k naming lm (below k (member-some k xs h)));
    })

-- a stored packet is new
stored-new : (t a : Bool) (o : Outcome) → o ≡ cond t (cond a Outcome.Repeat Outcome.Stored) Outcome.Late → o ≡ Outcome.Stored → (t && not a) ≡ true
stored-new true true o e s = absurd (let x : Outcome.Repeat ≡ Outcome.Stored = sym e ∙ s in cc)
stored-new true false o e s = refl
stored-new false a o e s = absurd (let x : Outcome.Late ≡ Outcome.Stored = sym e ∙ s in cc)

pub names_learned : NamesAreLearned
unfolding is_new
names_learned names_in cast contents k ok right receiver ds d after of near stored =
    let broadcast : Broadcast = broadcast_of cast contents in
    let r : Params = cast.params in
    let a = admitted cast contents names_in ok right in
    let far : IsApart broadcast.cast.packets = apart broadcast r a in
    let form = formed cast contents names_in right far in
    let p : SentPackets = broadcast.cast.packets in
    let start : ℕ = start_of p.sent (ds ++ d ∷ []) in
    let older : List ℕ = newest_first ds in
    let h = subst (λ l. IsHistory broadcast start l) (newest-push ds d) (history broadcast (ds ++ d ∷ []) after of near) in
    let sd = sound broadcast r k a receiver.window receiver.delay receiver.bound in
    let g = goes p k start d older sd h.of h.begins h.near (kept-held p k start older sd h.of.1 (begins-older p start d older h.begins) h.near.0) in
    let c = clock-low p start (d ∷ older) h.near in
    let nm = naming broadcast r k names_in a form receiver.window receiver.delay in
    let tell = telling broadcast.cast names_in form.head form.tail far form.tables in
    let new : is_new broadcast.cast k start d older ≡ true = stored-new _ _ _ ((λ i. outcome k (c i) (g.rest i) (heard_of p d)) ∙ g.fated) stored in
    let all : entries (names_of names_in) k (low start) (map (heard_of p) (d ∷ older)) ≡ map (entry_of broadcast.cast) (known broadcast.cast k start (d ∷ older)) =
    entries-known (names_of names_in) broadcast.cast k start (d ∷ older) sd nm tell h.of h.begins h.near in
    let told : names_of names_in (map (heard_of p) (held p k start (d ∷ older))) (heard_of p d) ≡ map (entry_of broadcast.cast) (names_made_known broadcast.cast (held p k start (d ∷ older)) d) =
    names_by-new (names_of names_in) broadcast.cast k start d older tell sd.short_delay h.of h.begins true new in
    let names : names_of names_in (kept k (low start) (map (heard_of p) (d ∷ older))) (heard_of p d) ≡ map (entry_of broadcast.cast) (names_made_known broadcast.cast (held p k start (d ∷ older)) d) =
    ap (λ (hs : List Heard). names_of names_in hs (heard_of p d)) g.next_number ∙ told in
    subst (λ (xs : List Entry). AllByRecursion (IsAmong xs) (names_of names_in (kept k (low start) (map (heard_of p) (d ∷ older))) (heard_of p d))) (sym all)
    (subst (AllByRecursion (IsAmong (map (entry_of broadcast.cast) (known broadcast.cast k start (d ∷ older))))) (sym names)
    (told-known broadcast.cast k start d older sd.short_delay nm h.of h.begins new))

-- ---- messages in parts

-- a message in parts is that of a laid copy
abbrev IsOfLaid : Layout → ℕ → Message → Type 0
IsOfLaid l many m = (c : ℕ) × (c < many) × (m.bytes ≡ joined (map (l.copy_part c) (numbers 0 (l.copy_count c))))

each-append : {X : Type 0} (P : X → Type 0) (xs ys : List X) → AllByRecursion P xs → AllByRecursion P ys → AllByRecursion P (xs ++ ys)
each-append P [] ys p q = q
each-append P (x ∷ xs) ys p q = (p.0, each-append P xs ys p.1 q)

where-all : (P : Message → Type 0) (b : Bool) (m : Message) → P m → AllByRecursion P (cond b (m ∷ []) [])
where-all P true m p = (p, tt)
where-all P false m p = tt

later-begins : (kept : List Heard) (h : Heard) (l : Layout) (c k : ℕ) → message_by kept h (payload_by l (Holding.TablePart c (suc k))) ≡ []
unfolding payload_by role message_by
later-begins kept h l c k =
    ap (λ (b : Bool). message_by kept h (Payload.Signalling (cond b parts.First (cond (suc k + 1 == l.copy_count c) parts.Last parts.Middle)) (l.copy_part c (suc k) ∷ []))) (ne_eqb (suc k) 0 (omega arith))
    ∙ go (suc k + 1 == l.copy_count c)
  where
    go : (b : Bool) → message_by kept h (Payload.Signalling (cond b parts.Last parts.Middle) (l.copy_part c (suc k) ∷ [])) ≡ []
    go true = refl
    go false = refl

-- a packet carries no part of a table
abbrev IsOther : Holding → Type 0
IsOther (Holding.TablePart c k) = ⊥
IsOther _ = Unit {0}

others-begin : (kept : List Heard) (h : Heard) (l : Layout) (x : Holding) → IsOther x → message_by kept h (payload_by l x) ≡ []
unfolding payload_by message_by
others-begin kept h l (Holding.Whole u) o = refl
others-begin kept h l (Holding.Fragment u k) o = refl
others-begin kept h l (Holding.Group f c) o = refl
others-begin kept h l (Holding.Parameters b) o = refl
others-begin kept h l (Holding.Table c) o = refl
others-begin kept h l (Holding.TablePart c k) o = absurd o

none-begun : (broadcast : Broadcast) (l : Layout) (ks : List ℕ) (n : ℕ) (x : Holding) → IsLaid broadcast l → n < length broadcast.cast.packets.sent → l.holds n ≡ x
    → message_by (map (heard_of broadcast.cast.packets) ks) (heard_of broadcast.cast.packets n) (payload_by l x) ≡ []
    → AllByRecursion (IsOfLaid l (length broadcast.cast.copies)) (message_by (map (heard_of broadcast.cast.packets) ks) (heard_of broadcast.cast.packets n) (heard_of broadcast.cast.packets n).payload)
none-begun broadcast l ks n x ld ln is e =
    let p : SentPackets = broadcast.cast.packets in
    subst (AllByRecursion (IsOfLaid l (length broadcast.cast.copies))) (sym (ap (message_by (map (heard_of p) ks) (heard_of p n)) (payload-heard p n ∙ ld.payload n ln ∙ ap (payload_by l) is) ∙ e)) tt

first-paid : (broadcast : Broadcast) (l : Layout) (n c : ℕ) → IsLaid broadcast l → n < length broadcast.cast.packets.sent → l.holds n ≡ Holding.TablePart c 0 → payload_of broadcast.cast.packets n ≡ Payload.Signalling parts.First (l.copy_part c 0 ∷ [])
first-paid broadcast l n c ld ln is = ld.payload n ln ∙ ap (payload_by l) is ∙ first-part l c

by-part : (broadcast : Broadcast) (names_in : List ℕ → List Entry) (l : Layout) (ks : List ℕ) (n c k : ℕ) → IsApart broadcast.cast.packets → IsLaid broadcast l → AreLaidCopies broadcast names_in l
    → ((j : ℕ) → 0 < occurrences j ks → j < length broadcast.cast.packets.sent) → n < length broadcast.cast.packets.sent → l.holds n ≡ Holding.TablePart c k → (count : ℕ) → l.copy_count c ≡ count → 2 ≤ count
    → AllByRecursion (IsOfLaid l (length broadcast.cast.copies)) (message_by (map (heard_of broadcast.cast.packets) ks) (heard_of broadcast.cast.packets n) (heard_of broadcast.cast.packets n).payload)
by-part broadcast names_in l ks n c k far ld copies below ln is zero e two = absurd (omega arith)
by-part broadcast names_in l ks n c k far ld copies below ln is (suc zero) e two = absurd (omega arith)
by-part broadcast names_in l ks n c zero far ld copies below ln is (suc (suc d)) e two =
    let p : SentPackets = broadcast.cast.packets in
    let r = subst (IsPlaced broadcast l (get_or p.sent n no_packet).packet_id (get_or p.sent n no_packet).number) is (ld.placed n ln) in
    let copy = copies.copy c r.0 in
    let z : l.copy_first c + 0 ≡ l.copy_first c = omega arith in
    let at = (copy.each 0 r.3).0 in
    let here : n ≡ place_of p.sent 0 (l.copy_first c + 0) = far n (place_of p.sent 0 (l.copy_first c + 0)) ln at.of (r.1 ∙ sym at.has_id) (r.2 ∙ sym at.has_number) in
    let table : IsTable p (heads broadcast l) (tails broadcast l) n (l.copy_part c 0) = table-of broadcast names_in l c d n ld copy e (here ∙ ap (place_of p.sent 0) z) in
    let first : payload_of p n ≡ Payload.Signalling parts.First (l.copy_part c 0 ∷ []) = first-paid broadcast l n c ld ln is in
    let bytes : joined (l.copy_part c 0 ∷ table.parts) ≡ joined (map (l.copy_part c) (numbers 0 (l.copy_count c))) = table-bytes broadcast names_in l c d n ld copy e (here ∙ ap (place_of p.sent 0) z) ∙ ap (λ (i : ℕ). joined (map (l.copy_part c) (numbers 0 i))) (sym e) in
    subst (AllByRecursion (IsOfLaid l (length broadcast.cast.copies))) (sym (message_at p (heads broadcast l) (tails broadcast l) ks n (l.copy_part c 0) far below table first))
    (where-all (IsOfLaid l (length broadcast.cast.copies)) _ (message_of p n (l.copy_part c 0) table.parts) (c, r.0, bytes))
by-part broadcast names_in l ks n c (suc k) far ld copies below ln is (suc (suc d)) e two =
    let p : SentPackets = broadcast.cast.packets in
    subst (AllByRecursion (IsOfLaid l (length broadcast.cast.copies)))
    (sym (ap (message_by (map (heard_of p) ks) (heard_of p n)) (payload-heard p n ∙ ld.payload n ln ∙ ap (payload_by l) is) ∙ later-begins (map (heard_of p) ks) (heard_of p n) l c k)) tt

-- the messages in parts that begin with a packet are of the cast
by-holding : (broadcast : Broadcast) (names_in : List ℕ → List Entry) (l : Layout) (ks : List ℕ) (n : ℕ) → IsApart broadcast.cast.packets → IsLaid broadcast l → AreLaidCopies broadcast names_in l
    → ((j : ℕ) → 0 < occurrences j ks → j < length broadcast.cast.packets.sent) → n < length broadcast.cast.packets.sent → (x : Holding) → l.holds n ≡ x
    → AllByRecursion (IsOfLaid l (length broadcast.cast.copies)) (message_by (map (heard_of broadcast.cast.packets) ks) (heard_of broadcast.cast.packets n) (heard_of broadcast.cast.packets n).payload)
by-holding broadcast names_in l ks n far ld copies below ln (Holding.TablePart c k) is =
    let p : SentPackets = broadcast.cast.packets in
    let r = subst (IsPlaced broadcast l (get_or p.sent n no_packet).packet_id (get_or p.sent n no_packet).number) is (ld.placed n ln) in
    by-part broadcast names_in l ks n c k far ld copies below ln is (l.copy_count c) refl r.4
by-holding broadcast names_in l ks n far ld copies below ln (Holding.Whole u) is = none-begun broadcast l ks n (Holding.Whole u) ld ln is (others-begin (map (heard_of broadcast.cast.packets) ks) (heard_of broadcast.cast.packets n) l (Holding.Whole u) tt)
by-holding broadcast names_in l ks n far ld copies below ln (Holding.Fragment u k) is = none-begun broadcast l ks n (Holding.Fragment u k) ld ln is (others-begin (map (heard_of broadcast.cast.packets) ks) (heard_of broadcast.cast.packets n) l (Holding.Fragment u k) tt)
by-holding broadcast names_in l ks n far ld copies below ln (Holding.Group f c) is = none-begun broadcast l ks n (Holding.Group f c) ld ln is (others-begin (map (heard_of broadcast.cast.packets) ks) (heard_of broadcast.cast.packets n) l (Holding.Group f c) tt)
by-holding broadcast names_in l ks n far ld copies below ln (Holding.Parameters b) is = none-begun broadcast l ks n (Holding.Parameters b) ld ln is (others-begin (map (heard_of broadcast.cast.packets) ks) (heard_of broadcast.cast.packets n) l (Holding.Parameters b) tt)
by-holding broadcast names_in l ks n far ld copies below ln (Holding.Table c) is = none-begun broadcast l ks n (Holding.Table c) ld ln is (others-begin (map (heard_of broadcast.cast.packets) ks) (heard_of broadcast.cast.packets n) l (Holding.Table c) tt)

all-begun : (broadcast : Broadcast) (names_in : List ℕ → List Entry) (l : Layout) (ks js : List ℕ) → IsApart broadcast.cast.packets → IsLaid broadcast l → AreLaidCopies broadcast names_in l
    → ((j : ℕ) → 0 < occurrences j ks → j < length broadcast.cast.packets.sent) → ((j : ℕ) → member j js ≡ true → j < length broadcast.cast.packets.sent)
    → AllByRecursion (IsOfLaid l (length broadcast.cast.copies)) (flat_map (λ p. message_by (map (heard_of broadcast.cast.packets) ks) p p.payload) (map (heard_of broadcast.cast.packets) js))
all-begun broadcast names_in l ks [] far ld copies below each = tt
all-begun broadcast names_in l ks (j ∷ js) far ld copies below each =
    each-append (IsOfLaid l (length broadcast.cast.copies)) (message_by (map (heard_of broadcast.cast.packets) ks) (heard_of broadcast.cast.packets j) (heard_of broadcast.cast.packets j).payload) _
    (by-holding broadcast names_in l ks j far ld copies below (each j (first_member j js)) (l.holds j) refl)
    (all-begun broadcast names_in l ks js far ld copies below (λ i e. each i (later_member i j js e)))

cast-copies : (cast : Cast) (contents : Contents) (ms : List Message) → AllByRecursion (IsOfLaid (layout_of cast contents) (length (broadcast_of cast contents).cast.copies)) ms → AllByRecursion (IsOfCopy cast contents) ms
cast-copies cast contents [] h = tt
cast-copies cast contents (m ∷ ms) h = ((h.0.0, omega (arith, h.0.1, copies-many cast contents), h.0.2), cast-copies cast contents ms h.1)

pub messages_sent : MessagesAreSent
messages_sent names_in cast contents k ok right receiver ds after of near =
    let broadcast : Broadcast = broadcast_of cast contents in
    let a = admitted cast contents names_in ok right in
    let far : IsApart broadcast.cast.packets = apart broadcast cast.params a in
    let p : SentPackets = broadcast.cast.packets in
    let start : ℕ = start_of p.sent ds in
    let hist : List ℕ = newest_first ds in
    let h = history broadcast ds after of near in
    let sd = sound broadcast cast.params k a receiver.window receiver.delay receiver.bound in
    let ks : List ℕ = held p k start hist in
    let below : (n : ℕ) → 0 < occurrences n ks → n < length p.sent = λ n l. (held_facts p k start hist n sd.short_delay h.of h.begins l).of in
    let is : kept k (low start) (map (heard_of p) hist) ≡ map (heard_of p) ks = kept-held p k start hist sd h.of h.begins h.near in
    cast-copies cast contents _
    (subst (λ (hs : List Heard). AllByRecursion (IsOfLaid (layout_of cast contents) (length broadcast.cast.copies)) (flat_map (λ p. message_by hs p p.payload) hs)) (sym is)
    (all-begun broadcast names_in (layout_of cast contents) ks ks far (laid cast contents names_in right) (laid-copies cast contents names_in right) below (λ j e. below j (member-some j ks e))))
