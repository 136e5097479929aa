-- The numbers of packets: each is how many packets before it have its packet id.
use Rattle.std.proofs.Common.{◌≡◌, ℕ, ◌+◌, ◌<◌, ◌≤◌, zero, suc, Bool, ◌==◌, cond, List, [], ◌∷◌, ◌++◌, map, length, arith, refl, ap, ap₂, sym, ◌∙◌, subst, append_assoc}
use Rattle.std.specs.List.{AllByRecursion, flat_map}
use Rattle.std.proofs.lemmas.Bool.{eq-eqb}
use Rattle.std.proofs.lemmas.List.{append-nil}
use Rattle.std.proofs.lemmas.List.Concat.{flat_map-append}
use Rattle.std.proofs.lemmas.List.Sums.{sum_by-append, sum_by-cons, count_by-le-length}
use Rattle.mmt_cast.proofs.Listing.{IsIn, each-append, each-map_numbers, each-weaker, in-left, in-map_numbers, in-right}
use Rattle.mmt_cast.specs.Casting.{count_of_id, numbered_after, planned, with_number}
use Rattle.mmt_cast.specs.Sending.{Sending, id_of, packet_count, packet_of, packets_of, sendings}
use Rattle.mmt_model.specs.Carrying.{numbers}
use Rattle.mmt_model.specs.declared.casts.Sent.{Sent}
use Rattle.mmt_model.specs.declared.programmes.Programme.{Programme}

-- the packets of several sendings, without their numbers
abbrev pub flat : Programme → List Sending → List Sent
flat programme xs = flat_map (packets_of programme) xs

-- ---- counting packet ids

pub count-append : (i : ℕ) (xs ys : List Sent) → count_of_id i (xs ++ ys) ≡ count_of_id i xs + count_of_id i ys
unfolding count_of_id
count-append i xs ys = sum_by-append (λ (p : Sent). cond (p.packet_id == i) 1 0) xs ys

count-cons : (i : ℕ) (p : Sent) (xs : List Sent) → count_of_id i (p ∷ xs) ≡ cond (p.packet_id == i) 1 0 + count_of_id i xs
unfolding count_of_id
count-cons i p xs = sum_by-cons (λ (q : Sent). cond (q.packet_id == i) 1 0) p xs

count-own : (i : ℕ) (p : Sent) (xs : List Sent) → p.packet_id ≡ i → count_of_id i (p ∷ xs) ≡ 1 + count_of_id i xs
count-own i p xs e = count-cons i p xs ∙ ap (λ (t : Bool). cond t 1 0 + count_of_id i xs) (eq-eqb p.packet_id i e)

count-none : (i : ℕ) → count_of_id i [] ≡ 0
unfolding count_of_id
count-none i = refl

pub count-push : (i : ℕ) (p : Sent) (xs : List Sent) → p.packet_id ≡ i → count_of_id i (xs ++ p ∷ []) ≡ count_of_id i xs + 1
count-push i p xs e = omega (arith, count-append i xs (p ∷ []), count-own i p [] e, count-none i)

pub count-le-length : (i : ℕ) (xs : List Sent) → count_of_id i xs ≤ length xs
unfolding count_of_id
count-le-length i xs = count_by-le-length (λ (p : Sent). p.packet_id == i) xs

count-run : (programme : Programme) (x : Sending) (j n : ℕ) → count_of_id (id_of x) (map (packet_of programme x) (numbers j n)) ≡ n
unfolding numbers packet_of
count-run programme x j zero = count-none (id_of x)
count-run programme x j (suc n) =
    omega (arith, count-own (id_of x) (packet_of programme x j) (map (packet_of programme x) (numbers (j + 1) n)) refl, count-run programme x (j + 1) n)

pub count-packets : (programme : Programme) (x : Sending) → count_of_id (id_of x) (packets_of programme x) ≡ packet_count programme x
unfolding packets_of
count-packets programme x = count-run programme x 0 (packet_count programme x)

-- ---- numbering lists one after another

pub numbered-append : (e xs ys : List Sent) → numbered_after e (xs ++ ys) ≡ numbered_after e xs ++ numbered_after (e ++ xs) ys
unfolding numbered_after
numbered-append e [] ys = ap (λ l. numbered_after l ys) (sym (append-nil e))
numbered-append e (x ∷ xs) ys =
    ap (λ l. with_number x (count_of_id x.packet_id e) ∷ l)
    (numbered-append (e ++ x ∷ []) xs ys ∙ ap (λ l. numbered_after (e ++ x ∷ []) xs ++ numbered_after l ys) (append_assoc e (x ∷ []) xs))

pub length-numbered : (e xs : List Sent) → length (numbered_after e xs) ≡ length xs
unfolding numbered_after
length-numbered e [] = refl
length-numbered e (x ∷ xs) = ap suc (length-numbered (e ++ x ∷ []) xs)

-- a number is no less than the count of the packets before all
pub from-earlier : (e xs : List Sent) → AllByRecursion (λ q. count_of_id q.packet_id e ≤ q.number) (numbered_after e xs)
unfolding numbered_after with_number
from-earlier e [] = tt
from-earlier e (x ∷ xs) = (
  omega arith,
  each-weaker (λ q. count_of_id q.packet_id (e ++ x ∷ []) ≤ q.number) (λ q. count_of_id q.packet_id e ≤ q.number) (numbered_after (e ++ x ∷ []) xs)
      (λ q l. omega (arith, l, count-append q.packet_id e (x ∷ []))) (from-earlier (e ++ x ∷ []) xs),
)

-- and below the count of all packets
pub below-all : (e xs : List Sent) → AllByRecursion (λ q. q.number < count_of_id q.packet_id (e ++ xs)) (numbered_after e xs)
unfolding numbered_after with_number
below-all e [] = tt
below-all e (x ∷ xs) = (
  omega (arith, count-append x.packet_id e (x ∷ xs), count-own x.packet_id x xs refl),
  each-weaker (λ q. q.number < count_of_id q.packet_id ((e ++ x ∷ []) ++ xs)) (λ q. q.number < count_of_id q.packet_id (e ++ x ∷ xs)) (numbered_after (e ++ x ∷ []) xs)
      (λ q l. subst (λ l. q.number < count_of_id q.packet_id l) (append_assoc e (x ∷ []) xs) l) (below-all (e ++ x ∷ []) xs),
)

-- ---- the packets of a sending

-- packet number k of a sending, where so many packets of its packet id stand before the sending
abbrev pub packet_after : Programme → Sending → ℕ → ℕ → Sent
packet_after programme x c k = with_number (packet_of programme x k) (c + k)

-- all of them
abbrev pub piece : Programme → Sending → ℕ → List Sent
piece programme x c = map (packet_after programme x c) (numbers 0 (packet_count programme x))

numbered-run : (programme : Programme) (x : Sending) (c : ℕ) (e : List Sent) (j n : ℕ) → count_of_id (id_of x) e ≡ c + j
    → numbered_after e (map (packet_of programme x) (numbers j n)) ≡ map (packet_after programme x c) (numbers j n)
unfolding numbers numbered_after packet_of
numbered-run programme x c e j zero h = refl
numbered-run programme x c e j (suc n) h =
    ap₂ (λ (m : ℕ) l. with_number (packet_of programme x j) m ∷ l) h
    (numbered-run programme x c (e ++ packet_of programme x j ∷ []) (j + 1) n (omega (arith, h, count-push (id_of x) (packet_of programme x j) e refl)))

pub numbered-packets : (programme : Programme) (x : Sending) (e : List Sent) → numbered_after e (packets_of programme x) ≡ piece programme x (count_of_id (id_of x) e)
unfolding packets_of
numbered-packets programme x e = numbered-run programme x (count_of_id (id_of x) e) e 0 (packet_count programme x) (omega arith)

-- how many packets of its packet id stand before a sending
abbrev pub before : Programme → List Sending → Sending → ℕ
before programme a x = count_of_id (id_of x) (flat programme a)

flat-split : (programme : Programme) (a b : List Sending) (x : Sending) → flat programme (a ++ x ∷ b) ≡ flat programme a ++ (packets_of programme x ++ flat programme b)
flat-split programme a b x = flat_map-append (packets_of programme) a (x ∷ b)

-- the packets before a sending, its own, and those after it
pub planned-split : (programme : Programme) (a b : List Sending) (x : Sending) → sendings programme ≡ a ++ x ∷ b
    → planned programme ≡ numbered_after [] (flat programme a) ++ (piece programme x (before programme a x) ++ numbered_after (flat programme a ++ packets_of programme x) (flat programme b))
unfolding planned
planned-split programme a b x e =
    ap (λ l. numbered_after [] (flat programme l)) e
    ∙ (ap (numbered_after []) (flat-split programme a b x)
    ∙ (numbered-append [] (flat programme a) (packets_of programme x ++ flat programme b)
    ∙ (ap (λ l. numbered_after [] (flat programme a) ++ l) (numbered-append (flat programme a) (packets_of programme x) (flat programme b))
    ∙ ap (λ l. numbered_after [] (flat programme a) ++ (l ++ numbered_after (flat programme a ++ packets_of programme x) (flat programme b))) (numbered-packets programme x (flat programme a)))))

-- a packet of a sending is among the packets, and no other has its packet id and number
pub is-planned : (programme : Programme) (a b : List Sending) (x : Sending) (k : ℕ) → sendings programme ≡ a ++ x ∷ b → k < packet_count programme x
    → IsIn (packet_after programme x (before programme a x) k) (planned programme)
is-planned programme a b x k e l =
    let c : ℕ = before programme a x in
    let after : List Sent = numbered_after (flat programme a ++ packets_of programme x) (flat programme b) in
    subst (IsIn (packet_after programme x c k)) (sym (planned-split programme a b x e))
    (in-right (packet_after programme x c k) (numbered_after [] (flat programme a)) (piece programme x c ++ after)
    (in-left (packet_after programme x c k) (piece programme x c) after
    (in-map_numbers (packet_after programme x c) 0 (packet_count programme x) k (omega arith) (omega arith))))

-- what tells a packet of a sending from others
abbrev pub IsTold : Programme → Sending → ℕ → ℕ → Sent → Type 0
IsTold programme x c k q = q.packet_id ≡ id_of x → q.number ≡ c + k → q ≡ packet_after programme x c k

pub is-told : (programme : Programme) (a b : List Sending) (x : Sending) (k : ℕ) → sendings programme ≡ a ++ x ∷ b → k < packet_count programme x
    → AllByRecursion (IsTold programme x (before programme a x) k) (planned programme)
unfolding with_number
is-told programme a b x k e l =
    let c : ℕ = before programme a x in
    let own : List Sent = packets_of programme x in
    let told : Sent → Type 0 = IsTold programme x c k in
    subst (AllByRecursion told) (sym (planned-split programme a b x e))
    (each-append told (numbered_after [] (flat programme a)) (piece programme x c ++ numbered_after (flat programme a ++ own) (flat programme b))
    (each-weaker (λ q. q.number < count_of_id q.packet_id (flat programme a)) told (numbered_after [] (flat programme a))
    (λ q lt id n. absurd (omega (arith, lt, n, ap (λ i. count_of_id i (flat programme a)) id))) (below-all [] (flat programme a)))
    (each-append told (piece programme x c) (numbered_after (flat programme a ++ own) (flat programme b))
    (each-map_numbers told (packet_after programme x c) 0 (packet_count programme x) (λ j from below id n. ap (packet_after programme x c) (omega (arith, n))))
    (each-weaker (λ q. count_of_id q.packet_id (flat programme a ++ own) ≤ q.number) told (numbered_after (flat programme a ++ own) (flat programme b))
    (λ q ge id n. absurd (omega (arith, ge, n, l, ap (λ i. count_of_id i (flat programme a ++ own)) id, count-append (id_of x) (flat programme a) own, count-packets programme x)))
    (from-earlier (flat programme a ++ own) (flat programme b)))))

-- what holds of each packet of each sending holds of each packet
each-after : (programme : Programme) (P : Sent → Type 0) (done rest : List Sending)
    → ((a b : List Sending) (x : Sending) (k : ℕ) → done ++ rest ≡ a ++ x ∷ b → k < packet_count programme x → P (packet_after programme x (before programme a x) k))
    → AllByRecursion P (numbered_after (flat programme done) (flat programme rest))
unfolding numbered_after
each-after programme P done [] h = tt
each-after programme P done (x ∷ rest) h =
    subst (AllByRecursion P) (sym (numbered-append (flat programme done) (packets_of programme x) (flat programme rest) ∙ ap (λ l. l ++ numbered_after (flat programme done ++ packets_of programme x) (flat programme rest)) (numbered-packets programme x (flat programme done))))
    (each-append P (piece programme x (before programme done x)) (numbered_after (flat programme done ++ packets_of programme x) (flat programme rest))
    (each-map_numbers P (packet_after programme x (before programme done x)) 0 (packet_count programme x) (λ k from below. h done rest x k refl (omega arith)))
    (let e : flat programme (done ++ x ∷ []) ≡ flat programme done ++ packets_of programme x = flat_map-append (packets_of programme) done (x ∷ []) ∙ ap (λ l. flat programme done ++ l) (append-nil (packets_of programme x)) in
    subst (λ l. AllByRecursion P (numbered_after l (flat programme rest))) e
    (each-after programme P (done ++ x ∷ []) rest (λ a b y k s. h a b y k (sym (append_assoc done (x ∷ []) rest) ∙ s)))))

pub each-planned : (programme : Programme) (P : Sent → Type 0)
    → ((a b : List Sending) (x : Sending) (k : ℕ) → sendings programme ≡ a ++ x ∷ b → k < packet_count programme x → P (packet_after programme x (before programme a x) k))
    → AllByRecursion P (planned programme)
unfolding planned
each-planned programme P h = each-after programme P [] (sendings programme) h
