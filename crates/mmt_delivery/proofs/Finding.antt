-- The units of kept packets are the units of the broadcast all of whose packets are kept.
use Rattle.std.proofs.Common.{◌≡◌, ℕ, ◌+◌, ◌*◌, ◌<◌, ◌≤◌, zero, suc, Bool, true, false, ◌&&◌, ◌||◌, ◌==◌, nat_lt, nat_le, cond, List, [], ◌∷◌, ◌++◌, map, length, get_or, Option, Some, None, arith, refl, ap, ap₂, sym, ◌∙◌, ⊎_elim, filter}
use Rattle.std.specs.List.{list_any, list_all, flat_map}
use Rattle.std.proofs.lemmas.Bool.Decides.{nat_tests}
use Rattle.std.proofs.lemmas.Bool.{cases_eq, eq-eqb, eqb-true, ne_eqb, and_parts, ltb-true, lt-ltb, le-leb, lt-leb, cases_lt}
use Rattle.std.specs.List.{AllByRecursion}
use Rattle.mmt_delivery.proofs.Cutting.{BeginsWith, IsAt, IsChain, IsCut, first_of, payload_of}
use Rattle.mmt_delivery.proofs.Kept.{as_number-true, below_from_times}
use Rattle.mmt_delivery.proofs.Learning.{length-map', ones}
use Rattle.mmt_delivery.proofs.Loads.{sum_by-occurrences, upto, upto-le}
use Rattle.mmt_delivery.proofs.Outs.{IsFinding}
use Rattle.mmt_delivery.proofs.Sorting.{occurrences-append}
use Rattle.mmt_delivery.proofs.Tests.{all-at, member-occurrences}
use Rattle.mmt_model.proofs.Counting.{occurrences-filter}
use Rattle.mmt_model.specs.Broadcast.{Broadcast, unit_of}
use Rattle.mmt_model.specs.Counts.{as_number, member, occurrences}
use Rattle.mmt_model.specs.Keeping.{kept}
use Rattle.mmt_model.specs.Packets.{DataUnit, Heard, Payload}
use Rattle.mmt_model.specs.Survival.{SentPackets, heard_of, no_packet}
use Rattle.mmt_model.specs.Units.{Link, after_link, joined, joined_unit, link_at, media_link, next_number, packet_at, rest_of_run, unit_from, units_by, units_of}
use Rattle.mmt_model.specs.declared.keys.Part.TheVariants as parts

-- packets of different places have different ids or numbers
abbrev pub IsApart : SentPackets → Type 0
IsApart packets = (m n : ℕ) → m < length packets.sent → n < length packets.sent → (get_or packets.sent m no_packet).packet_id ≡ (get_or packets.sent n no_packet).packet_id → (get_or packets.sent m no_packet).number ≡ (get_or packets.sent n no_packet).number → m ≡ n

packet_at-map : (packets : SentPackets) (ks : List ℕ) (packet_id k n : ℕ) → IsApart packets → ((j : ℕ) → 0 < occurrences j ks → j < length packets.sent) → IsAt packets n packet_id k
    → packet_at (map (heard_of packets) ks) packet_id k ≡ cond (member n ks) (Some (heard_of packets n)) None
unfolding packet_at member heard_of
packet_at-map packets [] packet_id k n apart below at = refl
packet_at-map packets (j ∷ ks) packet_id k n apart below at =
    let a : ℕ = (get_or packets.sent j no_packet).packet_id in
    let b : ℕ = (get_or packets.sent j no_packet).number in
    let test : ((a == packet_id) && (b == k)) ≡ (j == n) =
    ⊎_elim
    (λ (s : j ≡ n). ap₂ (λ x y. x && y)
    (eq-eqb a packet_id (ap (λ i. (get_or packets.sent i no_packet).packet_id) s ∙ at.has_id))
    (eq-eqb b k (ap (λ i. (get_or packets.sent i no_packet).number) s ∙ at.has_number)) ∙ sym (eq-eqb j n s))
    (λ (ne : j ≡ n → ⊥). different a packet_id b k (λ x y. ne (apart j n (below j (omega (arith, ap as_number (eq-eqb j j refl)))) at.of (x ∙ sym at.has_id) (y ∙ sym at.has_number))) ∙ sym (ne_eqb j n ne))
    (cases_eq j n) in
    ap (λ t. cond t (Some (heard_of packets j)) (packet_at (map (heard_of packets) ks) packet_id k)) test
    ∙ go (j == n) refl (packet_at-map packets ks packet_id k n apart (λ i l. below i (omega arith)) at)
  where
    different : (a b c d : ℕ) → (a ≡ b → c ≡ d → ⊥) → ((a == b) && (c == d)) ≡ false
    different a b c d h = grind (arith, nat_tests)

    go : (t : Bool) → (j == n) ≡ t → packet_at (map (heard_of packets) ks) packet_id k ≡ cond (list_any (λ i. i == n) ks) (Some (heard_of packets n)) None
        → cond t (Some (heard_of packets j)) (packet_at (map (heard_of packets) ks) packet_id k) ≡ cond (t || list_any (λ i. i == n) ks) (Some (heard_of packets n)) None
    go true e ih = ap (λ i. Some (heard_of packets i)) (eqb-true j n e)
    go false e ih = ih

zero_fuel : {A : Type 0} (x : Bool) (n : ℕ) (a : A) → None ≡ cond (x && nat_le (suc n) 0) (Some a) None
zero_fuel x n a = rw (lt-leb (suc n) 0 (omega arith)) (go x)
  where
    go : (x : Bool) → None ≡ cond (x && false) (Some a) None
    go true = refl
    go false = refl

end_case : (link : Payload → Link) (h : Heard) (b : List ℕ) (r : Option (List (List ℕ))) (f : ℕ) → link h.payload ≡ Link.End b → (m : Bool)
    → after_link (link_at link (cond m (Some h) None)) r ≡ cond ((m && true) && nat_le 1 (suc f)) (Some (b ∷ [])) None
unfolding after_link link_at
end_case link h b r f e true = rw (le-leb 1 (suc f) (omega arith), e) refl
end_case link h b r f e false = refl

inner_case : (link : Payload → Link) (h : Heard) (b : List ℕ) (parts : List (List ℕ)) (r : Option (List (List ℕ))) (all : Bool) (len f : ℕ) → link h.payload ≡ Link.Inner b
    → r ≡ cond (all && nat_le (suc len) f) (Some parts) None → (m : Bool)
    → after_link (link_at link (cond m (Some h) None)) r ≡ cond ((m && all) && nat_le (suc (suc len)) (suc f)) (Some (b ∷ parts)) None
unfolding after_link link_at
inner_case link h b parts r all len f e is true =
    let less : nat_le (suc (suc len)) (suc f) ≡ nat_le (suc len) f = grind (arith, nat_tests) in
    rw (less, e, is) (go (all && nat_le (suc len) f))
  where
    go : (t : Bool) → after_link (Link.Inner b) (cond t (Some parts) None) ≡ cond t (Some (b ∷ parts)) None
    go true = refl
    go false = refl
inner_case link h b parts r all len f e is false = refl

link_of : (packets : SentPackets) (link : Payload → Link) (n : ℕ) (l : Link) → link (payload_of packets n) ≡ l → link (heard_of packets n).payload ≡ l
unfolding payload_of heard_of
link_of packets link n l e = e

-- a rest_of_run in kept packets is there where all of it is kept
pub rest_of_run-chain : (packets : SentPackets) (ks : List ℕ) (link : Payload → Link) (packet_id fuel k : ℕ) (rest : List ℕ) (parts : List (List ℕ)) → IsApart packets → ((j : ℕ) → 0 < occurrences j ks → j < length packets.sent)
    → IsChain packets link packet_id k rest parts
    → rest_of_run link (map (heard_of packets) ks) packet_id fuel k ≡ cond (list_all (λ j. member j ks) rest && nat_le (length rest) fuel) (Some parts) None
unfolding rest_of_run
rest_of_run-chain packets ks link packet_id fuel k [] parts apart below chain = absurd chain
rest_of_run-chain packets ks link packet_id fuel k (n ∷ []) [] apart below chain = absurd chain
rest_of_run-chain packets ks link packet_id fuel k (n ∷ []) (b ∷ c ∷ parts) apart below chain = absurd chain
rest_of_run-chain packets ks link packet_id fuel k (n ∷ m ∷ ns) [] apart below chain = absurd chain
rest_of_run-chain packets ks link packet_id zero k (n ∷ []) (b ∷ []) apart below chain = zero_fuel (member n ks && true) 0 (b ∷ [])
rest_of_run-chain packets ks link packet_id (suc fuel) k (n ∷ []) (b ∷ []) apart below chain =
    ap (λ o. after_link (link_at link o) (rest_of_run link (map (heard_of packets) ks) packet_id fuel (next_number k))) (packet_at-map packets ks packet_id k n apart below chain.0)
    ∙ end_case link (heard_of packets n) b (rest_of_run link (map (heard_of packets) ks) packet_id fuel (next_number k)) fuel (link_of packets link n (Link.End b) chain.1) (member n ks)
rest_of_run-chain packets ks link packet_id zero k (n ∷ m ∷ ns) (b ∷ parts) apart below chain = zero_fuel (member n ks && (member m ks && list_all (λ j. member j ks) ns)) (suc (length ns)) (b ∷ parts)
rest_of_run-chain packets ks link packet_id (suc fuel) k (n ∷ m ∷ ns) (b ∷ parts) apart below chain =
    ap (λ o. after_link (link_at link o) (rest_of_run link (map (heard_of packets) ks) packet_id fuel (next_number k))) (packet_at-map packets ks packet_id k n apart below chain.0)
    ∙ inner_case link (heard_of packets n) b parts (rest_of_run link (map (heard_of packets) ks) packet_id fuel (next_number k)) (member m ks && list_all (λ j. member j ks) ns) (length ns) fuel
    (link_of packets link n (Link.Inner b) chain.1) (rest_of_run-chain packets ks link packet_id fuel (next_number k) (m ∷ ns) parts apart below chain.2) (member n ks)

-- distinct places that are all kept are no more than the kept ones
pub enough : (n : ℕ) (ks rest : List ℕ) → ((j : ℕ) → 0 < occurrences j ks → j < n) → ((j : ℕ) → occurrences j rest ≤ 1) → list_all (λ j. member j ks) rest ≡ true → length rest ≤ length ks
enough n ks rest below once all =
    let some : (j : ℕ) → 0 < occurrences j rest → 0 < occurrences j ks =
    λ j l. ltb-true 0 (occurrences j ks) (sym (member-occurrences j ks) ∙ all-at (λ j. member j ks) rest j all (member-occurrences j rest ∙ lt-ltb 0 (occurrences j rest) l)) in
    let le : upto (λ j. occurrences j rest * 1) n ≤ upto (λ j. occurrences j ks * 1) n =
    upto-le (λ j. occurrences j rest * 1) (λ j. occurrences j ks * 1) n
    (λ j l. ⊎_elim
    (λ (in' : 0 < occurrences j rest). omega (arith, once j, some j in'))
    (λ (out : occurrences j rest ≤ 0). omega arith)
    (cases_lt 0 (occurrences j rest))) in
    omega (
      arith,
      ones rest,
      ones ks,
      le,
      sum_by-occurrences (λ k. 1) n rest (below_from_times n rest (λ j l. below j (some j l))),
      sum_by-occurrences (λ k. 1) n ks (below_from_times n ks below),
    )

-- a rest_of_run of distinct packets among the kept ones
pub rest_of_run-whole : (packets : SentPackets) (ks : List ℕ) (link : Payload → Link) (packet_id k : ℕ) (rest : List ℕ) (parts : List (List ℕ)) → IsApart packets → ((j : ℕ) → 0 < occurrences j ks → j < length packets.sent)
    → IsChain packets link packet_id k rest parts → ((j : ℕ) → occurrences j rest ≤ 1)
    → rest_of_run link (map (heard_of packets) ks) packet_id (length (map (heard_of packets) ks)) k ≡ cond (list_all (λ j. member j ks) rest) (Some parts) None
rest_of_run-whole packets ks link packet_id k rest parts apart below chain once =
    rest_of_run-chain packets ks link packet_id (length (map (heard_of packets) ks)) k rest parts apart below chain
    ∙ ap (λ t. cond t (Some parts) None)
    (go (list_all (λ j. member j ks) rest) (λ all. le-leb (length rest) (length (map (heard_of packets) ks)) (omega (arith, enough (length packets.sent) ks rest below once all, length-map' (heard_of packets) ks))))
  where
    go : (a : Bool) → (a ≡ true → nat_le (length rest) (length (map (heard_of packets) ks)) ≡ true) → (a && nat_le (length rest) (length (map (heard_of packets) ks))) ≡ a
    go true h = h refl
    go false h = refl

-- the units that begin with a packet, of those whose packets are all kept
unfoldable pub found_in : Broadcast → (ℕ → List ℕ) → List ℕ → ℕ → List ℕ
found_in broadcast starts ks n = filter (λ u. list_all (λ k. member k ks) (unit_of broadcast u).members) (starts n)

unfoldable pub found : Broadcast → (ℕ → List ℕ) → List ℕ → List ℕ
found broadcast starts ks = flat_map (found_in broadcast starts ks) ks

filter-all : (q : ℕ → Bool) (us : List ℕ) → AllByRecursion (λ u. q u ≡ true) us → filter q us ≡ us
filter-all q [] e = refl
filter-all q (u ∷ us) e = rw e.0 (ap (λ l. u ∷ l) (filter-all q us e.1))

each-weaker : (P Q : ℕ → Type 0) (us : List ℕ) → ((u : ℕ) → P u → Q u) → AllByRecursion P us → AllByRecursion Q us
each-weaker P Q [] h e = tt
each-weaker P Q (u ∷ us) h e = (h u e.0, each-weaker P Q us h e.1)

one : (broadcast : Broadcast) (n u : ℕ) (data_unit : DataUnit) (mpu : ℕ) (parts : List (List ℕ)) → ((unit_of broadcast u).value ≡ unit_from (heard_of broadcast.cast.packets n) mpu 0 data_unit (joined (data_unit.bytes ∷ parts)))
    → (a : Bool) → joined_unit (heard_of broadcast.cast.packets n) mpu data_unit (cond a (Some parts) None) ≡ map (λ u. (unit_of broadcast u).value) (cond a (u ∷ []) [])
unfolding joined_unit
one broadcast n u data_unit mpu parts e true = ap (λ v. v ∷ []) (sym e)
one broadcast n u data_unit mpu parts e false = refl

found_by : (broadcast : Broadcast) (starts : ℕ → List ℕ) (ks : List ℕ) (n : ℕ) → IsApart broadcast.cast.packets → IsCut broadcast starts → ((j : ℕ) → 0 < occurrences j ks → j < length broadcast.cast.packets.sent) → member n ks ≡ true
    → (us : List ℕ) → (us ≡ starts n) → ((u : ℕ) → 0 < occurrences u us → u < length broadcast.units) → (c : Payload) → BeginsWith broadcast us n c
    → units_by (map (heard_of broadcast.cast.packets) ks) (heard_of broadcast.cast.packets n) c ≡ map (λ u. (unit_of broadcast u).value) (filter (λ u. list_all (λ k. member k ks) (unit_of broadcast u).members) us)
unfolding units_by
found_by broadcast starts ks n apart cut below kept us is lu (Payload.Media parts.Whole timed mpu data_units) b =
    let q : ℕ → Bool = λ u. list_all (λ k. member k ks) (unit_of broadcast u).members in
    sym b.0 ∙ ap (map (λ u. (unit_of broadcast u).value)) (sym (filter-all q us (each-weaker (λ u. (unit_of broadcast u).members ≡ n ∷ []) (λ u. q u ≡ true) us
    (λ u e. ap (list_all (λ k. member k ks)) e ∙ ap (λ x. x && true) kept) b.1)))
found_by broadcast starts ks n apart cut below kept us is lu (Payload.Media parts.First timed mpu []) b = rw b refl
found_by broadcast starts ks n apart cut below kept us is lu (Payload.Media parts.First timed mpu (data_unit ∷ [])) b =
    let u : ℕ = b.0 in
    let f = b.2 in
    let h : Heard = heard_of broadcast.cast.packets n in
    let A : Bool = list_all (λ k. member k ks) f.rest in
    let lt : u < length broadcast.units = lu u (rw b.1 (omega (arith, ap as_number (eq-eqb u u refl)))) in
    let once : (j : ℕ) → occurrences j f.rest ≤ 1 = λ j. omega (arith, cut.distinct u lt j, ap (occurrences j) f.members) in
    let q : list_all (λ k. member k ks) (unit_of broadcast u).members ≡ A = ap (list_all (λ k. member k ks)) f.members ∙ ap (λ x. x && A) kept in
    ap (joined_unit h mpu data_unit) (rest_of_run-whole broadcast.cast.packets ks (media_link timed mpu) h.packet_id (next_number h.number) f.rest f.parts apart below f.chain once)
    ∙ (one broadcast n u data_unit mpu f.parts f.value A
    ∙ sym (ap (λ l. map (λ u. (unit_of broadcast u).value) (filter (λ u. list_all (λ k. member k ks) (unit_of broadcast u).members) l)) b.1
    ∙ ap (λ x. map (λ u. (unit_of broadcast u).value) (cond x (u ∷ []) [])) q))
found_by broadcast starts ks n apart cut below kept us is lu (Payload.Media parts.First timed mpu (p ∷ q ∷ data_units)) b = rw b refl
found_by broadcast starts ks n apart cut below kept us is lu (Payload.Media parts.Middle timed mpu data_units) b = rw b refl
found_by broadcast starts ks n apart cut below kept us is lu (Payload.Media parts.Last timed mpu data_units) b = rw b refl
found_by broadcast starts ks n apart cut below kept us is lu (Payload.Signalling part ms) b = rw b refl
found_by broadcast starts ks n apart cut below kept us is lu Payload.Other b = rw b refl

pub payload-heard : (packets : SentPackets) (n : ℕ) → (heard_of packets n).payload ≡ payload_of packets n
unfolding payload_of heard_of
payload-heard packets n = refl

pub map-append : {X : Type 0} (f : ℕ → X) (xs ys : List ℕ) → map f (xs ++ ys) ≡ map f xs ++ map f ys
map-append f [] ys = refl
map-append f (x ∷ xs) ys = ap (λ l. f x ∷ l) (map-append f xs ys)

-- the units of kept packets, packet by packet
found_from : (broadcast : Broadcast) (starts : ℕ → List ℕ) (ks : List ℕ) → IsApart broadcast.cast.packets → IsCut broadcast starts → ((j : ℕ) → 0 < occurrences j ks → j < length broadcast.cast.packets.sent)
    → (js : List ℕ) → ((j : ℕ) → 0 < occurrences j js → 0 < occurrences j ks)
    → flat_map (λ p. units_by (map (heard_of broadcast.cast.packets) ks) p p.payload) (map (heard_of broadcast.cast.packets) js) ≡ map (λ u. (unit_of broadcast u).value) (flat_map (found_in broadcast starts ks) js)
unfolding found_in
found_from broadcast starts ks apart cut below [] sub = refl
found_from broadcast starts ks apart cut below (n ∷ js) sub =
    let some : 0 < occurrences n ks = sub n (omega (arith, ap as_number (eq-eqb n n refl))) in
    let ln : n < length broadcast.cast.packets.sent = below n some in
    let q : ℕ → Bool = λ u. list_all (λ k. member k ks) (unit_of broadcast u).members in
    let e = found_by broadcast starts ks n apart cut below (member-occurrences n ks ∙ lt-ltb 0 (occurrences n ks) some) (starts n) refl
    (λ u l. ltb-true u (length broadcast.units) (and_parts (nat_lt u (length broadcast.units)) (n == first_of (unit_of broadcast u).members) (as_number-true (nat_lt u (length broadcast.units) && (n == first_of (unit_of broadcast u).members)) (omega (arith, l, cut.once u n ln)))).0)
    (payload_of broadcast.cast.packets n) (cut.begins n ln) in
    ap₂ (λ a b. a ++ b) (ap (units_by (map (heard_of broadcast.cast.packets) ks) (heard_of broadcast.cast.packets n)) (payload-heard broadcast.cast.packets n) ∙ e) (found_from broadcast starts ks apart cut below js (λ j l. sub j (omega arith)))
    ∙ sym (map-append (λ u. (unit_of broadcast u).value) (filter q (starts n)) (flat_map (found_in broadcast starts ks) js))

-- each unit whose packets are all kept, once
occurrences-found_from : (broadcast : Broadcast) (starts : ℕ → List ℕ) (ks : List ℕ) (u : ℕ) → IsCut broadcast starts → ((j : ℕ) → 0 < occurrences j ks → j < length broadcast.cast.packets.sent)
    → (js : List ℕ) → ((j : ℕ) → 0 < occurrences j js → 0 < occurrences j ks)
    → occurrences u (flat_map (found_in broadcast starts ks) js)
    ≡ cond (list_all (λ k. member k ks) (unit_of broadcast u).members) (as_number (nat_lt u (length broadcast.units)) * occurrences (first_of (unit_of broadcast u).members) js) 0
unfolding found_in
occurrences-found_from broadcast starts ks u cut below [] sub = go (list_all (λ k. member k ks) (unit_of broadcast u).members)
  where
    go : (a : Bool) → 0 ≡ cond a (as_number (nat_lt u (length broadcast.units)) * 0) 0
    go true = omega arith
    go false = refl
occurrences-found_from broadcast starts ks u cut below (n ∷ js) sub =
    let q : ℕ → Bool = λ u. list_all (λ k. member k ks) (unit_of broadcast u).members in
    let f : ℕ = first_of (unit_of broadcast u).members in
    let l : Bool = nat_lt u (length broadcast.units) in
    let ln : n < length broadcast.cast.packets.sent = below n (sub n (omega (arith, ap as_number (eq-eqb n n refl)))) in
    let ih = occurrences-found_from broadcast starts ks u cut below js (λ j l. sub j (omega arith)) in
    occurrences-append u (filter q (starts n)) (flat_map (found_in broadcast starts ks) js)
    ∙ (ap₂ (λ x y. x + y) (occurrences-filter u q (starts n) ∙ ap (λ x. cond (q u) x 0) (cut.once u n ln)) ih
    ∙ go (q u) l (n == f) (occurrences f js))
  where
    go : (a l e : Bool) (t : ℕ) → cond a (as_number (l && e)) 0 + cond a (as_number l * t) 0 ≡ cond a (as_number l * (as_number e + t)) 0
    go true true e t = omega arith
    go true false e t = omega arith
    go false l e t = refl

pub occurrences-found : (broadcast : Broadcast) (starts : ℕ → List ℕ) (ks : List ℕ) (u : ℕ) → IsCut broadcast starts → ((j : ℕ) → occurrences j ks ≤ 1) → ((j : ℕ) → 0 < occurrences j ks → j < length broadcast.cast.packets.sent)
    → (u < length broadcast.units → 0 < length (unit_of broadcast u).members)
    → occurrences u (found broadcast starts ks) ≡ as_number (nat_lt u (length broadcast.units) && list_all (λ k. member k ks) (unit_of broadcast u).members)
unfolding found
occurrences-found broadcast starts ks u cut once below some =
    occurrences-found_from broadcast starts ks u cut below ks (λ j l. l)
    ∙ go (nat_lt u (length broadcast.units)) refl (list_all (λ k. member k ks) (unit_of broadcast u).members) refl
  where
    at_first : (ms : List ℕ) → 0 < length ms → list_all (λ k. member k ks) ms ≡ true → member (first_of ms) ks ≡ true
    at_first [] l a = absurd (omega arith)
    at_first (m ∷ ms) l a = (and_parts (member m ks) (list_all (λ k. member k ks) ms) a).0

    go : (l : Bool) → nat_lt u (length broadcast.units) ≡ l → (a : Bool) → list_all (λ k. member k ks) (unit_of broadcast u).members ≡ a → cond a (as_number l * occurrences (first_of (unit_of broadcast u).members) ks) 0 ≡ as_number (l && a)
    go true e true f =
        let m = at_first (unit_of broadcast u).members (some (ltb-true u (length broadcast.units) e)) f in
        let t : 0 < occurrences (first_of (unit_of broadcast u).members) ks = ltb-true 0 (occurrences (first_of (unit_of broadcast u).members) ks) (sym (member-occurrences (first_of (unit_of broadcast u).members) ks) ∙ m) in
        omega (arith, once (first_of (unit_of broadcast u).members))
    go true e false f = refl
    go false e true f = omega arith
    go false e false f = refl

-- the units of kept packets are found
pub finding : (broadcast : Broadcast) (starts : ℕ → List ℕ) → IsApart broadcast.cast.packets → IsCut broadcast starts → ((u : ℕ) → u < length broadcast.units → 0 < length (unit_of broadcast u).members)
    → IsFinding units_of broadcast (found broadcast starts)
unfolding units_of found
finding broadcast starts apart cut some =
    record {
      values = λ ks once below. found_from broadcast starts ks apart cut below ks (λ j l. l);
      once = λ ks once below u. occurrences-found broadcast starts ks u cut once below (some u);
    }
