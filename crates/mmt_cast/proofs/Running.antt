-- What a sender keeps while it walks over a programme: spans without looking at packets, and counts of packet ids.
use Rattle.std.proofs.Common.{◌≡◌, ℕ, ◌+◌, ◌-◌, ◌≤◌, zero, suc, Bool, true, ◌==◌, cond, List, [], ◌∷◌, ◌++◌, map, length, get_or, arith, refl, ap, ap₂, ◌∙◌, zero-add}
use Rattle.std.proofs.lemmas.Bool.{ne_eqb}
use Rattle.std.proofs.lemmas.List.{append-nil, length-map}
use Rattle.std.proofs.lemmas.List.Concat.{flat_map-append}
use Rattle.std.proofs.lemmas.List.Sums.{sum_by-cons}
use Rattle.mmt_cast.proofs.Covering.{covers_table, covers_unit}
use Rattle.mmt_cast.proofs.Listing.{map-map}
use Rattle.mmt_frag.proofs.PartsJoined.{length-numbers}
use Rattle.mmt_cast.proofs.Numbering.{before, count-append, count-packets, flat, packet_after}
use Rattle.mmt_cast.proofs.SentIn.{table-span, unit-span}
use Rattle.mmt_cast.specs.Casting.{Span, count_of_id, greatest, least, span_of, span_of_table, span_of_unit, tick_of_sent, with_number}
use Rattle.mmt_cast.specs.Sending.{Sending, id_of, packet_count, packet_of, packets_of, sendings, tick_of_packet}
use Rattle.mmt_model.specs.Carrying.{numbers}
use Rattle.mmt_model.specs.Survival.{no_packet}
use Rattle.mmt_model.specs.declared.casts.Sent.{Sent}
use Rattle.mmt_model.specs.declared.programmes.Programme.{Programme}

-- ---- rising numbers

least-first : (f : ℕ → ℕ) → ((k : ℕ) → f k ≤ f (k + 1)) → (j n : ℕ) → least (map f (numbers j (suc n))) ≡ f j
unfolding least numbers
least-first f rises j zero = refl
least-first f rises j (suc n) = omega (arith, least-first f rises (j + 1) n, rises j)

greatest-last : (f : ℕ → ℕ) → ((k : ℕ) → f k ≤ f (k + 1)) → (j n : ℕ) → (greatest (map f (numbers j (suc n))) ≡ f (j + n)) × (f j ≤ f (j + n))
unfolding greatest numbers
greatest-last f rises j zero = let z : j ≡ j + 0 = omega arith in (omega (arith, ap f z), omega (arith, ap f z))
greatest-last f rises j (suc n) =
    let r = greatest-last f rises (j + 1) n in
    let s : j + 1 + n ≡ j + suc n = omega arith in
    (omega (arith, r.0, r.1, rises j, ap f s), omega (arith, r.1, rises j, ap f s))

ticks-rise : (programme : Programme) (x : Sending) (k : ℕ) → tick_of_packet programme x k ≤ tick_of_packet programme x (k + 1)
unfolding tick_of_packet
ticks-rise programme (Sending.Parameters s at) k = omega arith
ticks-rise programme (Sending.Table s at bytes) k = omega arith
ticks-rise programme (Sending.Alone u x) k = omega arith
ticks-rise programme (Sending.Group f c x bytes) k = omega arith

-- ---- spans

-- the span of a sending of n packets, of whose packet id c stand before it: from its first tick to its last
abbrev pub span_by : Programme → Sending → ℕ → ℕ → Span
span_by programme x c n =
    record { first = record { 0 = tick_of_packet programme x 0 }; last = record { 0 = tick_of_packet programme x (n - 1) }; first_number = c; count = n }

same : (programme : Programme) (x : Sending) (c : ℕ) (ks : List ℕ) → map (λ k. tick_of_sent (packet_after programme x c k)) ks ≡ map (tick_of_packet programme x) ks
unfolding with_number packet_of
same programme x c ks = refl

head : (programme : Programme) (x : Sending) (c n : ℕ) → (get_or (map (packet_after programme x c) (numbers 0 (suc n))) 0 no_packet).number ≡ c
unfolding numbers with_number
head programme x c n = omega arith

run : (programme : Programme) (x : Sending) (c n : ℕ) → 1 ≤ n → span_of (map (packet_after programme x c) (numbers 0 n)) ≡ span_by programme x c n
unfolding span_of
run programme x c zero some = absurd (omega arith)
run programme x c (suc n) some =
    let ticks : map tick_of_sent (map (packet_after programme x c) (numbers 0 (suc n))) ≡ map (tick_of_packet programme x) (numbers 0 (suc n)) = map-map tick_of_sent (packet_after programme x c) (numbers 0 (suc n)) ∙ same programme x c (numbers 0 (suc n)) in
    let s : 0 + n ≡ suc n - 1 = omega arith in
    let first = ap least ticks ∙ least-first (tick_of_packet programme x) (ticks-rise programme x) 0 n in
    let last = ap greatest ticks ∙ ((greatest-last (tick_of_packet programme x) (ticks-rise programme x) 0 n).0 ∙ ap (tick_of_packet programme x) s) in
    let count = length-map (numbers 0 (suc n)) (packet_after programme x c) ∙ length-numbers 0 (suc n) in
    ap₂ (λ (f l : ℕ). record { first = record { 0 = f }; last = record { 0 = l }; first_number = (get_or (map (packet_after programme x c) (numbers 0 (suc n))) 0 no_packet).number; count = length (map (packet_after programme x c) (numbers 0 (suc n))) }) first last
    ∙ ap₂ (λ (m k : ℕ). record { first = record { 0 = tick_of_packet programme x 0 }; last = record { 0 = tick_of_packet programme x (suc n - 1) }; first_number = m; count = k }) (head programme x c n) count

pub unit-span-is : (programme : Programme) (u : ℕ) (a b : List Sending) (x : Sending) → sendings programme ≡ a ++ x ∷ b → covers_unit u x ≡ true → 1 ≤ packet_count programme x → span_of_unit programme u ≡ span_by programme x (before programme a x) (packet_count programme x)
unit-span-is programme u a b x e t some = unit-span programme u a b x e t ∙ run programme x (before programme a x) (packet_count programme x) some

pub table-span-is : (programme : Programme) (s : ℕ) (a b : List Sending) (x : Sending) → sendings programme ≡ a ++ x ∷ b → covers_table s x ≡ true → 1 ≤ packet_count programme x → span_of_table programme s ≡ span_by programme x (before programme a x) (packet_count programme x)
table-span-is programme s a b x e t some = table-span programme s a b x e t ∙ run programme x (before programme a x) (packet_count programme x) some

-- ---- counts

flat-more : (programme : Programme) (a : List Sending) (x : Sending) → flat programme (a ++ x ∷ []) ≡ flat programme a ++ packets_of programme x
flat-more programme a x = flat_map-append (packets_of programme) a (x ∷ []) ∙ ap (λ l. flat programme a ++ l) (append-nil (packets_of programme x))

-- a sending of a packet id adds its packets to the count of that id
pub count-own_more : (programme : Programme) (a : List Sending) (x : Sending) → count_of_id (id_of x) (flat programme (a ++ x ∷ [])) ≡ count_of_id (id_of x) (flat programme a) + packet_count programme x
count-own_more programme a x = ap (count_of_id (id_of x)) (flat-more programme a x) ∙ (count-append (id_of x) (flat programme a) (packets_of programme x) ∙ ap (λ n. count_of_id (id_of x) (flat programme a) + n) (count-packets programme x))

none : (i : ℕ) → count_of_id i [] ≡ 0
unfolding count_of_id
none i = refl

count-skip : (i : ℕ) (p : Sent) (xs : List Sent) → (p.packet_id ≡ i → ⊥) → count_of_id i (p ∷ xs) ≡ count_of_id i xs
unfolding count_of_id
count-skip i p xs ne = sum_by-cons (λ (q : Sent). cond (q.packet_id == i) 1 0) p xs ∙ (ap (λ (b : Bool). cond b 1 0 + count_of_id i xs) (ne_eqb p.packet_id i ne) ∙ zero-add (count_of_id i xs))

other-run : (programme : Programme) (x : Sending) (i j n : ℕ) → (id_of x ≡ i → ⊥) → count_of_id i (map (packet_of programme x) (numbers j n)) ≡ 0
unfolding numbers packet_of
other-run programme x i j zero ne = none i
other-run programme x i j (suc n) ne = count-skip i (packet_of programme x j) (map (packet_of programme x) (numbers (j + 1) n)) ne ∙ other-run programme x i (j + 1) n ne

-- and none to that of another
pub count-other_more : (programme : Programme) (a : List Sending) (x : Sending) (i : ℕ) → (id_of x ≡ i → ⊥) → count_of_id i (flat programme (a ++ x ∷ [])) ≡ count_of_id i (flat programme a)
unfolding packets_of
count-other_more programme a x i ne = omega (arith, ap (count_of_id i) (flat-more programme a x), count-append i (flat programme a) (packets_of programme x), other-run programme x i 0 (packet_count programme x) ne)
