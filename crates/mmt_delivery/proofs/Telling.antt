-- What a stored packet names is what its table copy names, where all of the copy is kept.
use Rattle.std.proofs.Common.{◌≡◌, ℕ, ◌+◌, ◌-◌, ◌%◌, ◌^◌, ◌<◌, ◌≤◌, ◌⊎◌, zero, suc, Bool, true, false, ◌&&◌, ◌||◌, ◌==◌, nat_lt, nat_le, cond, List, [], ◌∷◌, ◌++◌, map, length, get_or, Some, None, arith, refl, ap, ap₂, sym, ◌∙◌, ⊎_elim, filter, true≢false, append-nil, inl, inr}
use Rattle.std.specs.List.{list_any, list_all, flat_map}
use Rattle.std.proofs.lemmas.Bool.{cases_eq, eq-eqb, eqb-true, eqb-false, ne_eqb, and_parts, and_from, or_cases, or_right, or_left, ltb-true, lt-ltb, le-leb, false_from_ne_true}
use Rattle.std.proofs.lemmas.List.Elements.{filter-append}
use Rattle.mmt_base.specs.Ticks.{ahead_of, low}
use Rattle.mmt_delivery.proofs.Cutting.{AreTables, IsAt, IsChain, IsTable, IsTablePart, NamesOf, NamesOfWhole, payload_of}
use Rattle.mmt_delivery.proofs.Finding.{IsApart, payload-heard, rest_of_run-whole}
use Rattle.mmt_delivery.proofs.Learning.{IsTelling}
use Rattle.mmt_delivery.proofs.Premises.{names_made_known}
use Rattle.mmt_delivery.proofs.Tests.{each-at, member-occurrences}
use Rattle.mmt_model.proofs.Counting.{any-occurrences}
use Rattle.mmt_model.specs.Broadcast.{CopyPlaces, NamedCast, entry_of}
use Rattle.mmt_model.specs.Counts.{as_number, member, occurrences}
use Rattle.mmt_model.specs.Entries.{Entry}
use Rattle.mmt_model.specs.Keeping.{kept}
use Rattle.mmt_model.specs.Packets.{Heard, Payload}
use Rattle.mmt_model.specs.Survival.{SentPackets, heard_of, no_packet}
use Rattle.mmt_model.specs.Units.{Link, Message, is_part_of, joined, message, message_by, messages_by, names_of, next_number, part_messages, signal_link}
use Rattle.mmt_model.specs.declared.keys.Part.TheVariants as parts

-- what a packet makes known is what the copies with that packet name
told-only : (cast : NamedCast) (ks : List ℕ) (n : ℕ) (cs : List CopyPlaces)
    → flat_map (λ c. cond (member n c.members && list_all (λ k. member k ks) c.members) c.names []) cs
    ≡ flat_map (λ c. cond (list_all (λ k. member k ks) c.members) c.names []) (filter (λ c. member n c.members) cs)
told-only cast ks n [] = refl
told-only cast ks n (c ∷ cs) = go (member n c.members) (told-only cast ks n cs)
  where
    all : Bool
    all = list_all (λ k. member k ks) c.members

    go : (m : Bool) → flat_map (λ c. cond (member n c.members && list_all (λ k. member k ks) c.members) c.names []) cs
        ≡ flat_map (λ c. cond (list_all (λ k. member k ks) c.members) c.names []) (filter (λ c. member n c.members) cs)
        → cond (m && list_all (λ k. member k ks) c.members) c.names [] ++ flat_map (λ c. cond (member n c.members && list_all (λ k. member k ks) c.members) c.names []) cs
        ≡ flat_map (λ c. cond (list_all (λ k. member k ks) c.members) c.names []) (cond m (c ∷ filter (λ c. member n c.members) cs) (filter (λ c. member n c.members) cs))
    go true ih = ap (λ l. cond (list_all (λ k. member k ks) c.members) c.names [] ++ l) ih
    go false ih = ih

-- the packets of a chain: as many as the parts, and with the numbers from the first on
chain-length : (packets : SentPackets) (link : Payload → Link) (packet_id k : ℕ) (rest : List ℕ) (parts : List (List ℕ)) → IsChain packets link packet_id k rest parts → length parts ≡ length rest
chain-length packets link packet_id k [] parts chain = absurd chain
chain-length packets link packet_id k (n ∷ []) [] chain = absurd chain
chain-length packets link packet_id k (n ∷ []) (b ∷ []) chain = refl
chain-length packets link packet_id k (n ∷ []) (b ∷ c ∷ parts) chain = absurd chain
chain-length packets link packet_id k (n ∷ m ∷ ns) [] chain = absurd chain
chain-length packets link packet_id k (n ∷ m ∷ ns) (b ∷ parts) chain = ap suc (chain-length packets link packet_id (next_number k) (m ∷ ns) parts chain.2)

pub next_number-low : (k : ℕ) → k + 1 < 2 ^ 32 → next_number k ≡ k + 1
unfolding next_number
next_number-low k h = omega arith

-- a place with a number of the chain
pub record InChain (packets : SentPackets) (packet_id k : ℕ) (rest : List ℕ) (i : ℕ) : Type 0 where
  pub place : ℕ
  pub is_in : member place rest ≡ true
  pub at : IsAt packets place packet_id (k + i)

chain-at : (packets : SentPackets) (link : Payload → Link) (packet_id k : ℕ) (rest : List ℕ) (parts : List (List ℕ)) (i : ℕ) → IsChain packets link packet_id k rest parts → k + length rest ≤ 2 ^ 32 → i < length rest → InChain packets packet_id k rest i
unfolding member
chain-at packets link packet_id k [] parts i chain low l = absurd chain
chain-at packets link packet_id k (n ∷ []) [] i chain low l = absurd chain
chain-at packets link packet_id k (n ∷ []) (b ∷ c ∷ parts) i chain low l = absurd chain
chain-at packets link packet_id k (n ∷ m ∷ ns) [] i chain low l = absurd chain
chain-at packets link packet_id k (n ∷ []) (b ∷ []) i chain low l =
    record { place = n; is_in = or_left (n == n) false (eq-eqb n n refl); at = record { of = (chain.0).of; has_id = (chain.0).has_id; has_number = (let e = (chain.0).has_number in omega (arith, e)) } }
chain-at packets link packet_id k (n ∷ m ∷ ns) (b ∷ parts) zero chain low l =
    record { place = n; is_in = or_left (n == n) (list_any (λ j. j == n) (m ∷ ns)) (eq-eqb n n refl); at = record { of = (chain.0).of; has_id = (chain.0).has_id; has_number = (let e = (chain.0).has_number in omega (arith, e)) } }
chain-at packets link packet_id k (n ∷ m ∷ ns) (b ∷ parts) (suc i) chain low l =
    let e = next_number-low k (omega arith) in
    let r = chain-at packets link packet_id (next_number k) (m ∷ ns) parts i chain.2 (omega (arith, e)) (omega arith) in
    record { place = r.place; is_in = or_right (n == r.place) (list_any (λ j. j == r.place) (m ∷ ns)) r.is_in; at = record { of = (r.at).of; has_id = (r.at).has_id; has_number = (let f = (r.at).has_number in omega (arith, e, f)) } }

here : (packets : SentPackets) (packet_id k j n len : ℕ) → IsAt packets j packet_id k → j ≡ n → 0 < len
    → ((get_or packets.sent n no_packet).packet_id ≡ packet_id) × (k ≤ (get_or packets.sent n no_packet).number) × ((get_or packets.sent n no_packet).number < k + len)
here packets packet_id k j n len at e l =
    let f : (get_or packets.sent j no_packet).number ≡ (get_or packets.sent n no_packet).number = ap (λ i. (get_or packets.sent i no_packet).number) e in
    (sym (ap (λ i. (get_or packets.sent i no_packet).packet_id) e) ∙ at.has_id, omega (arith, f, at.has_number), omega (arith, f, at.has_number))

-- the number of a place of the chain
chain-number : (packets : SentPackets) (link : Payload → Link) (packet_id k : ℕ) (rest : List ℕ) (parts : List (List ℕ)) (n : ℕ) → IsChain packets link packet_id k rest parts → k + length rest ≤ 2 ^ 32 → member n rest ≡ true
    → ((get_or packets.sent n no_packet).packet_id ≡ packet_id) × (k ≤ (get_or packets.sent n no_packet).number) × ((get_or packets.sent n no_packet).number < k + length rest)
unfolding member
chain-number packets link packet_id k [] parts n chain low m = absurd chain
chain-number packets link packet_id k (j ∷ []) [] n chain low m = absurd chain
chain-number packets link packet_id k (j ∷ []) (b ∷ c ∷ parts) n chain low m = absurd chain
chain-number packets link packet_id k (j ∷ i ∷ ns) [] n chain low m = absurd chain
chain-number packets link packet_id k (j ∷ []) (b ∷ []) n chain low m = ⊎_elim (λ (t : (j == n) ≡ true). here packets packet_id k j n 1 chain.0 (eqb-true j n t) (omega arith)) (λ (t : false ≡ true). absurd cc) (or_cases (j == n) false m)
chain-number packets link packet_id k (j ∷ i ∷ ns) (b ∷ parts) n chain low m =
    ⊎_elim
    (λ (t : (j == n) ≡ true). here packets packet_id k j n (suc (suc (length ns))) chain.0 (eqb-true j n t) (omega arith))
    (λ (t : list_any (λ z. z == n) (i ∷ ns) ≡ true).
    let e = next_number-low k (omega arith) in
    let r = chain-number packets link packet_id (next_number k) (i ∷ ns) parts n chain.2 (omega (arith, e)) t in
    (r.0, omega (arith, e, r.1), omega (arith, e, r.2)))
    (or_cases (j == n) (list_any (λ z. z == n) (i ∷ ns)) m)

abbrev pub message_of : SentPackets → ℕ → List ℕ → List (List ℕ) → Message
message_of packets f b parts = record { number = (heard_of packets f).number; count = suc (length parts); bytes = joined (b ∷ parts) }

message-cond : (packets : SentPackets) (f : ℕ) (b : List ℕ) (parts : List (List ℕ)) (a : Bool) → message (heard_of packets f) b (cond a (Some parts) None) ≡ cond a (message_of packets f b parts ∷ []) []
unfolding message
message-cond packets f b parts true = refl
message-cond packets f b parts false = refl

-- the message that begins with the first packet of a table, where all of it is kept
pub message_at : (packets : SentPackets) (head : ℕ → ℕ) (tail : ℕ → List ℕ) (ks : List ℕ) (f : ℕ) (b : List ℕ) → IsApart packets → ((k : ℕ) → 0 < occurrences k ks → k < length packets.sent)
    → (table : IsTable packets head tail f b) → payload_of packets f ≡ Payload.Signalling parts.First (b ∷ [])
    → message_by (map (heard_of packets) ks) (heard_of packets f) (heard_of packets f).payload ≡ cond (list_all (λ k. member k ks) (tail f)) (message_of packets f b table.parts ∷ []) []
unfolding message_by
message_at packets head tail ks f b apart below table first =
    ap (message_by (map (heard_of packets) ks) (heard_of packets f)) (payload-heard packets f ∙ first)
    ∙ (ap (message (heard_of packets f) b) (rest_of_run-whole packets ks signal_link (heard_of packets f).packet_id (next_number (heard_of packets f).number) (tail f) table.parts apart below table.chain table.once)
    ∙ message-cond packets f b table.parts (list_all (λ k. member k ks) (tail f)))

-- a packet of the message is a part of it
pub record IsOfMessage (packets : SentPackets) (tail : ℕ → List ℕ) (f n : ℕ) : Type 0 where
  pub same_id : (heard_of packets n).packet_id ≡ (heard_of packets f).packet_id
  pub least : (heard_of packets f).number ≤ (heard_of packets n).number
  pub below : (heard_of packets n).number < (heard_of packets f).number + suc (length (tail f))

later_of : (packets : SentPackets) (head : ℕ → ℕ) (tail : ℕ → List ℕ) (f n : ℕ) (b : List ℕ) → IsTable packets head tail f b → member n (tail f) ≡ true → (rest : List ℕ) → tail f ≡ rest → IsOfMessage packets tail f n
unfolding heard_of member
later_of packets head tail f n b table m [] e = absurd (true≢false (sym m ∙ ap (member n) e))
later_of packets head tail f n b table m (r ∷ rest) e =
    let len : length (tail f) ≡ suc (length rest) = ap length e in
    let k = next_number-low (get_or packets.sent f no_packet).number (omega (arith, len, table.low)) in
    let c = chain-number packets signal_link (heard_of packets f).packet_id (next_number (heard_of packets f).number) (tail f) table.parts n table.chain (omega (arith, k, table.low)) m in
    record { same_id = c.0; least = omega (arith, k, c.1); below = omega (arith, k, c.2) }

of_message : (packets : SentPackets) (head : ℕ → ℕ) (tail : ℕ → List ℕ) (f n : ℕ) (b : List ℕ) → IsTable packets head tail f b → member n (f ∷ tail f) ≡ true → IsOfMessage packets tail f n
unfolding member
of_message packets head tail f n b table m =
    ⊎_elim
    (λ (t : (f == n) ≡ true).
    let e : f ≡ n = eqb-true f n t in
    let g : (heard_of packets f).number ≡ (heard_of packets n).number = ap (λ i. (heard_of packets i).number) e in
    self packets tail f n e)
    (λ (t : list_any (λ j. j == n) (tail f) ≡ true). later packets head tail f n b table (unfold member in t))
    (or_cases (f == n) (list_any (λ j. j == n) (tail f)) m)
  where
    self : (packets : SentPackets) (tail : ℕ → List ℕ) (f n : ℕ) → f ≡ n → IsOfMessage packets tail f n
    self packets tail f n e =
        let g : (heard_of packets f).number ≡ (heard_of packets n).number = ap (λ i. (heard_of packets i).number) e in
        record { same_id = sym (ap (λ i. (heard_of packets i).packet_id) e); least = omega (arith, g); below = omega (arith, g) }

    later : (packets : SentPackets) (head : ℕ → ℕ) (tail : ℕ → List ℕ) (f n : ℕ) (b : List ℕ) → IsTable packets head tail f b → member n (tail f) ≡ true → IsOfMessage packets tail f n
    later packets head tail f n b table m = later_of packets head tail f n b table m (tail f) refl

is_part : (packets : SentPackets) (head : ℕ → ℕ) (tail : ℕ → List ℕ) (f n : ℕ) (b : List ℕ) → (table : IsTable packets head tail f b) → IsOfMessage packets tail f n → is_part_of (heard_of packets n) (message_of packets f b table.parts) ≡ true
unfolding is_part_of ahead_of
is_part packets head tail f n b table of =
    and_from (nat_lt (((heard_of packets n).number + (2 ^ 32 - (heard_of packets f).number)) % 2 ^ 32) (suc (length table.parts))) (nat_le (length (joined (b ∷ table.parts))) 131072)
    (lt-ltb (((heard_of packets n).number + (2 ^ 32 - (heard_of packets f).number)) % 2 ^ 32) (suc (length table.parts))
    (omega (arith, of.least, of.below, table.low, chain-length packets signal_link (heard_of packets f).packet_id (next_number (heard_of packets f).number) (tail f) table.parts table.chain)))
    (le-leb (length (joined (b ∷ table.parts))) 131072 table.short)

-- a part of the message is a packet of it
by_distance : (packets : SentPackets) (head : ℕ → ℕ) (tail : ℕ → List ℕ) (f n : ℕ) (b : List ℕ) → IsApart packets → (table : IsTable packets head tail f b) → n < length packets.sent → (heard_of packets n).packet_id ≡ (heard_of packets f).packet_id
    → (d : ℕ) → d ≤ length (tail f) → (heard_of packets n).number ≡ (heard_of packets f).number + d → head n ≡ f
unfolding heard_of
by_distance packets head tail f n b apart table ln same zero le sum =
    let e : n ≡ f = apart n f ln table.of same (omega (arith, sum)) in
    ap head e ∙ (table.heads).0
by_distance packets head tail f n b apart table ln same (suc i) le sum =
    let k = next_number-low (get_or packets.sent f no_packet).number (omega (arith, table.low)) in
    let c = chain-at packets signal_link (get_or packets.sent f no_packet).packet_id (next_number (get_or packets.sent f no_packet).number) (tail f) table.parts i table.chain (omega (arith, k, table.low)) (omega arith) in
    let at = c.at in
    let e : c.place ≡ n = apart c.place n at.of ln (at.has_id ∙ sym same) (omega (arith, at.has_number, k, sum)) in
    each-at (λ k. head k ≡ f) (tail f) n (table.heads).1 (ap (λ i. member i (tail f)) (sym e) ∙ c.is_in)

part_only : (packets : SentPackets) (head : ℕ → ℕ) (tail : ℕ → List ℕ) (f n : ℕ) (b : List ℕ) → IsApart packets → (table : IsTable packets head tail f b) → n < length packets.sent → (heard_of packets n).number < 2 ^ 32 → (heard_of packets n).packet_id ≡ (heard_of packets f).packet_id
    → is_part_of (heard_of packets n) (message_of packets f b table.parts) ≡ true → head n ≡ f
unfolding is_part_of ahead_of
part_only packets head tail f n b apart table ln small same t =
    let d : ℕ = ((heard_of packets n).number + (2 ^ 32 - (heard_of packets f).number)) % 2 ^ 32 in
    let l : d < suc (length table.parts) = ltb-true d (suc (length table.parts)) (and_parts (nat_lt d (suc (length table.parts))) (nat_le (length (joined (b ∷ table.parts))) 131072) t).0 in
    let len = chain-length packets signal_link (heard_of packets f).packet_id (next_number (heard_of packets f).number) (tail f) table.parts table.chain in
    let sum : (heard_of packets n).number ≡ (heard_of packets f).number + d = omega (arith, len, table.low) in
    by_distance packets head tail f n b apart table ln same d (omega (arith, len)) sum

-- a packet begins no message, or it is the first packet of a table copy
begins : (cast : NamedCast) (names_in : List ℕ → List Entry) (head : ℕ → ℕ) (tail : ℕ → List ℕ) (kept : List Heard) (j : ℕ) → (c : Payload) → NamesOf cast names_in head tail j c
    → (message_by kept (heard_of cast.packets j) c ≡ []) ⊎ ((head j ≡ j) × IsTablePart cast names_in head tail j)
unfolding message_by
begins cast names_in head tail kept j (Payload.Signalling parts.Whole ms) t = inl refl
begins cast names_in head tail kept j (Payload.Signalling parts.First ms) t = inr t
begins cast names_in head tail kept j (Payload.Signalling parts.Middle ms) t = inl refl
begins cast names_in head tail kept j (Payload.Signalling parts.Last ms) t = inl refl
begins cast names_in head tail kept j (Payload.Media part timed mpu data_units) t = inl refl
begins cast names_in head tail kept j Payload.Other t = inl refl

low_number : (cast : NamedCast) (names_in : List ℕ → List Entry) (head : ℕ → ℕ) (tail : ℕ → List ℕ) (n : ℕ) → (part : IsTablePart cast names_in head tail n) → (heard_of cast.packets n).number < 2 ^ 32
low_number cast names_in head tail n part =
    let m = of_message cast.packets head tail (head n) n part.bytes part.table part.is_in in
    omega (arith, m.below, (part.table).low)

filter-cond : (q : Message → Bool) (a : Bool) (m : Message) (b : Bool) → q m ≡ b → filter q (cond a (m ∷ []) []) ≡ cond a (cond b (m ∷ []) []) []
filter-cond q true m b e = ap (λ x. cond x (m ∷ []) []) e
filter-cond q false m b e = refl

cond-nil : (a : Bool) → ◌≡◌ {A = List Message} (cond a [] []) []
cond-nil true = refl
cond-nil false = refl

other_at : (cast : NamedCast) (names_in : List ℕ → List Entry) (head : ℕ → ℕ) (tail : ℕ → List ℕ) (ks : List ℕ) (n : ℕ) → IsApart cast.packets → AreTables cast names_in head tail → ((k : ℕ) → 0 < occurrences k ks → k < length cast.packets.sent)
    → (part : IsTablePart cast names_in head tail n) → n < length cast.packets.sent → (j : ℕ) → 0 < occurrences j ks → (j ≡ head n → ⊥) → (heard_of cast.packets n).packet_id ≡ (heard_of cast.packets j).packet_id
    → filter (is_part_of (heard_of cast.packets n)) (message_by (map (heard_of cast.packets) ks) (heard_of cast.packets j) (heard_of cast.packets j).payload) ≡ []
other_at cast names_in head tail ks n apart tables below part ln j kept other same =
    let p : SentPackets = cast.packets in
    let h : Heard = heard_of p n in
    let kd = begins cast names_in head tail (map (heard_of p) ks) j (payload_of p j) (tables.names_by j (below j kept)) in
    ⊎_elim
    (λ (e : message_by (map (heard_of p) ks) (heard_of p j) (payload_of p j) ≡ []). ap (λ c. filter (is_part_of h) (message_by (map (heard_of p) ks) (heard_of p j) c)) (payload-heard p j) ∙ ap (filter (is_part_of h)) e)
    (λ (e : (head j ≡ j) × IsTablePart cast names_in head tail j).
    let t = (e.1).table in
    let none : is_part_of h (message_of p (head j) (e.1).bytes t.parts) ≡ false =
    false_from_ne_true (is_part_of h (message_of p (head j) (e.1).bytes t.parts))
    (λ x. other (sym (part_only p head tail (head j) n (e.1).bytes apart t ln (low_number cast names_in head tail n part) (same ∙ sym (ap (λ i. (heard_of p i).packet_id) e.0)) x ∙ e.0))) in
    let at = message_at p head tail ks (head j) (e.1).bytes apart below t (e.1).first in
    ap (λ i. filter (is_part_of h) (message_by (map (heard_of p) ks) (heard_of p i) (heard_of p i).payload)) (sym e.0)
    ∙ (ap (filter (is_part_of h)) at
    ∙ (filter-cond (is_part_of h) (list_all (λ k. member k ks) (tail (head j))) (message_of p (head j) (e.1).bytes t.parts) false none
    ∙ cond-nil (list_all (λ k. member k ks) (tail (head j))))))
    kd

begin_at : (cast : NamedCast) (names_in : List ℕ → List Entry) (head : ℕ → ℕ) (tail : ℕ → List ℕ) (ks : List ℕ) (n : ℕ) → IsApart cast.packets → AreTables cast names_in head tail → ((k : ℕ) → 0 < occurrences k ks → k < length cast.packets.sent)
    → (part : IsTablePart cast names_in head tail n) → n < length cast.packets.sent → (j : ℕ) → 0 < occurrences j ks → (e : Bool) → (j == head n) ≡ e
    → filter (is_part_of (heard_of cast.packets n)) (cond ((heard_of cast.packets j).packet_id == (heard_of cast.packets n).packet_id) (message_by (map (heard_of cast.packets) ks) (heard_of cast.packets j) (heard_of cast.packets j).payload) [])
    ≡ cond e (cond (list_all (λ k. member k ks) (tail (head n))) (message_of cast.packets (head n) part.bytes (part.table).parts ∷ []) []) []
begin_at cast names_in head tail ks n apart tables below part ln j kept true e =
    let p : SentPackets = cast.packets in
    let h : Heard = heard_of p n in
    let same : j ≡ head n = eqb-true j (head n) e in
    let m = of_message p head tail (head n) n part.bytes part.table part.is_in in
    let ids : ((heard_of p j).packet_id == h.packet_id) ≡ true = eq-eqb (heard_of p j).packet_id h.packet_id (ap (λ i. (heard_of p i).packet_id) same ∙ sym m.same_id) in
    ap (λ x. filter (is_part_of h) (cond x (message_by (map (heard_of p) ks) (heard_of p j) (heard_of p j).payload) [])) ids
    ∙ (ap (λ i. filter (is_part_of h) (message_by (map (heard_of p) ks) (heard_of p i) (heard_of p i).payload)) same
    ∙ (ap (filter (is_part_of h)) (message_at p head tail ks (head n) part.bytes apart below part.table part.first)
    ∙ filter-cond (is_part_of h) (list_all (λ k. member k ks) (tail (head n))) (message_of p (head n) part.bytes (part.table).parts) true (is_part p head tail (head n) n part.bytes part.table m)))
begin_at cast names_in head tail ks n apart tables below part ln j kept false e =
    let p : SentPackets = cast.packets in
    let h : Heard = heard_of p n in
    ⊎_elim
    (λ (same : (heard_of p j).packet_id ≡ h.packet_id).
    ap (λ x. filter (is_part_of h) (cond x (message_by (map (heard_of p) ks) (heard_of p j) (heard_of p j).payload) [])) (eq-eqb (heard_of p j).packet_id h.packet_id same)
    ∙ other_at cast names_in head tail ks n apart tables below part ln j kept (eqb-false j (head n) e) (sym same))
    (λ (ne : (heard_of p j).packet_id ≡ h.packet_id → ⊥).
    ap (λ x. filter (is_part_of h) (cond x (message_by (map (heard_of p) ks) (heard_of p j) (heard_of p j).payload) [])) (ne_eqb (heard_of p j).packet_id h.packet_id ne))
    (cases_eq (heard_of p j).packet_id h.packet_id)

-- of the messages that begin in these packets, the packet is a part of its own alone
parts_from : (cast : NamedCast) (names_in : List ℕ → List Entry) (head : ℕ → ℕ) (tail : ℕ → List ℕ) (ks : List ℕ) (n : ℕ) → IsApart cast.packets → AreTables cast names_in head tail → ((k : ℕ) → 0 < occurrences k ks → k < length cast.packets.sent)
    → (part : IsTablePart cast names_in head tail n) → n < length cast.packets.sent → (js : List ℕ) → ((k : ℕ) → 0 < occurrences k js → 0 < occurrences k ks) → occurrences (head n) js ≤ 1
    → filter (is_part_of (heard_of cast.packets n)) (flat_map (λ p. cond (p.packet_id == (heard_of cast.packets n).packet_id) (message_by (map (heard_of cast.packets) ks) p p.payload) []) (map (heard_of cast.packets) js))
    ≡ cond (member (head n) js) (cond (list_all (λ k. member k ks) (tail (head n))) (message_of cast.packets (head n) part.bytes (part.table).parts ∷ []) []) []
unfolding member
parts_from cast names_in head tail ks n apart tables below part ln [] sub once = refl
parts_from cast names_in head tail ks n apart tables below part ln (j ∷ js) sub once =
    let p : SentPackets = cast.packets in
    let h : Heard = heard_of p n in
    let f : ℕ = head n in
    let x : List Message = cond (list_all (λ k. member k ks) (tail f)) (message_of p f part.bytes (part.table).parts ∷ []) [] in
    filter-append (is_part_of h)
    (cond ((heard_of p j).packet_id == h.packet_id) (message_by (map (heard_of p) ks) (heard_of p j) (heard_of p j).payload) [])
    (flat_map (λ p. cond (p.packet_id == h.packet_id) (message_by (map (heard_of cast.packets) ks) p p.payload) []) (map (heard_of p) js))
    ∙ (ap₂ (λ a b. a ++ b)
    (begin_at cast names_in head tail ks n apart tables below part ln j (sub j (omega (arith, ap as_number (eq-eqb j j refl)))) (j == f) refl)
    (parts_from cast names_in head tail ks n apart tables below part ln js (λ k l. sub k (omega arith)) (omega arith))
    ∙ both x (j == f) refl (member f js) refl)
  where
    both : (x : List Message) (a : Bool) → (j == head n) ≡ a → (b : Bool) → list_any (λ k. k == head n) js ≡ b → cond a x [] ++ cond b x [] ≡ cond (a || b) x []
    both x true e true g =
        let t : nat_lt 0 (occurrences (head n) js) ≡ true = sym (any-occurrences (head n) js) ∙ g in
        let l = ltb-true 0 (occurrences (head n) js) t in
        absurd (omega (arith, once, ap as_number e))
    both x true e false g = append-nil x
    both x false e b g = refl

-- what a part of a table copy names
part_told : (cast : NamedCast) (names_in : List ℕ → List Entry) (head : ℕ → ℕ) (tail : ℕ → List ℕ) (ks : List ℕ) (n : ℕ) → IsApart cast.packets → AreTables cast names_in head tail → ((k : ℕ) → occurrences k ks ≤ 1) → ((k : ℕ) → 0 < occurrences k ks → k < length cast.packets.sent)
    → (part : IsTablePart cast names_in head tail n) → n < length cast.packets.sent
    → flat_map names_in (part_messages (map (heard_of cast.packets) ks) (heard_of cast.packets n)) ≡ map (entry_of cast) (names_made_known cast ks n)
unfolding part_messages names_made_known
part_told cast names_in head tail ks n apart tables once below part ln =
    let p : SentPackets = cast.packets in
    let f : ℕ = head n in
    let m : Message = message_of p f part.bytes (part.table).parts in
    let A : Bool = list_all (λ k. member k ks) (tail f) in
    let told : flat_map (λ c. cond (member n c.members && list_all (λ k. member k ks) c.members) c.names []) cast.copies ≡ cond (member f ks && A) (part.copy).names [] =
    told-only cast ks n cast.copies
    ∙ (ap (flat_map (λ c. cond (list_all (λ k. member k ks) c.members) c.names [])) part.only
    ∙ (append-nil (cond (list_all (λ k. member k ks) (part.copy).members) (part.copy).names [])
    ∙ ap (λ l. cond (list_all (λ k. member k ks) l) (part.copy).names []) part.members)) in
    ap (λ l. flat_map names_in (map (λ m. m.bytes) l)) (parts_from cast names_in head tail ks n apart tables below part ln ks (λ k l. l) (once f))
    ∙ (go part.bytes (part.table).parts m.bytes (part.copy).names part.names (member f ks) A
    ∙ sym (ap (map (entry_of cast)) told))
  where
    go : (b : List ℕ) (parts : List (List ℕ)) (bytes : List ℕ) (names : List ℕ) → map (entry_of cast) names ≡ names_in (joined (b ∷ parts)) → (x a : Bool)
        → flat_map names_in (map (λ m. m.bytes) (cond x (cond a (message_of cast.packets (head n) b parts ∷ []) []) [])) ≡ map (entry_of cast) (cond (x && a) names [])
    go b parts bytes names e true true = append-nil (names_in (joined (b ∷ parts))) ∙ sym e
    go b parts bytes names e true false = refl
    go b parts bytes names e false a = refl

-- what a whole payload names
whole_told : (cast : NamedCast) (names_in : List ℕ → List Entry) (ks : List ℕ) (n : ℕ) (ms : List (List ℕ)) → NamesOfWhole cast names_in n ms → member n ks ≡ true
    → flat_map names_in ms ≡ map (entry_of cast) (names_made_known cast ks n)
unfolding names_made_known
whole_told cast names_in ks n ms t kept =
    ⊎_elim
    (λ (e : (filter (λ c. member n c.members) cast.copies ≡ []) × (flat_map names_in ms ≡ [])).
    e.1 ∙ sym (ap (map (entry_of cast)) (told-only cast ks n cast.copies ∙ ap (flat_map (λ c. cond (list_all (λ k. member k ks) c.members) c.names [])) e.0)))
    (λ (e : (c : CopyPlaces) × (filter (λ c. member n c.members) cast.copies ≡ c ∷ []) × (c.members ≡ n ∷ []) × (map (entry_of cast) c.names ≡ flat_map names_in ms)).
    let c : CopyPlaces = e.0 in
    let all : list_all (λ k. member k ks) c.members ≡ true = ap (list_all (λ k. member k ks)) e.2 ∙ ap (λ x. x && true) kept in
    sym (ap (map (entry_of cast))
    (told-only cast ks n cast.copies
    ∙ (ap (flat_map (λ c. cond (list_all (λ k. member k ks) c.members) c.names [])) e.1
    ∙ (append-nil (cond (list_all (λ k. member k ks) c.members) c.names [])
    ∙ ap (λ x. cond x c.names []) all)))
    ∙ e.3))
    t

nothing_told : (cast : NamedCast) (ks : List ℕ) (n : ℕ) → filter (λ c. member n c.members) cast.copies ≡ [] → [] ≡ map (entry_of cast) (names_made_known cast ks n)
unfolding names_made_known
nothing_told cast ks n e = sym (ap (map (entry_of cast)) (told-only cast ks n cast.copies ∙ ap (flat_map (λ c. cond (list_all (λ k. member k ks) c.members) c.names [])) e))

told_by_content : (cast : NamedCast) (names_in : List ℕ → List Entry) (head : ℕ → ℕ) (tail : ℕ → List ℕ) (ks : List ℕ) (n : ℕ) → IsApart cast.packets → AreTables cast names_in head tail → ((k : ℕ) → occurrences k ks ≤ 1) → ((k : ℕ) → 0 < occurrences k ks → k < length cast.packets.sent)
    → n < length cast.packets.sent → member n ks ≡ true → (c : Payload) → NamesOf cast names_in head tail n c
    → flat_map names_in (messages_by (map (heard_of cast.packets) ks) (heard_of cast.packets n) c) ≡ map (entry_of cast) (names_made_known cast ks n)
unfolding messages_by
told_by_content cast names_in head tail ks n apart tables once below ln kept (Payload.Signalling parts.Whole ms) t = whole_told cast names_in ks n ms t kept
told_by_content cast names_in head tail ks n apart tables once below ln kept (Payload.Signalling parts.First ms) t = part_told cast names_in head tail ks n apart tables once below t.1 ln
told_by_content cast names_in head tail ks n apart tables once below ln kept (Payload.Signalling parts.Middle ms) t = part_told cast names_in head tail ks n apart tables once below t ln
told_by_content cast names_in head tail ks n apart tables once below ln kept (Payload.Signalling parts.Last ms) t = part_told cast names_in head tail ks n apart tables once below t ln
told_by_content cast names_in head tail ks n apart tables once below ln kept (Payload.Media part timed mpu data_units) t = nothing_told cast ks n t
told_by_content cast names_in head tail ks n apart tables once below ln kept Payload.Other t = nothing_told cast ks n t

-- the messages of stored packets tell what their copies name
pub telling : (cast : NamedCast) (names_in : List ℕ → List Entry) (head : ℕ → ℕ) (tail : ℕ → List ℕ) → IsApart cast.packets → AreTables cast names_in head tail → IsTelling (names_of names_in) cast
unfolding names_of
telling cast names_in head tail apart tables =
    record {
      told = λ ks n once below kept.
          (let ln : n < length cast.packets.sent = below n (ltb-true 0 (occurrences n ks) (sym (member-occurrences n ks) ∙ kept)) in
          ap (λ c. flat_map names_in (messages_by (map (heard_of cast.packets) ks) (heard_of cast.packets n) c)) (payload-heard cast.packets n)
          ∙ told_by_content cast names_in head tail ks n apart tables once below ln kept (payload_of cast.packets n) (tables.names_by n ln));
    }
