-- The message that a packet is a part of: there is at most one, and it begins where the walk back comes to.
use Rattle.std.proofs.Common.{◌≡◌, ℕ, zero, suc, ◌+◌, ◌*◌, ◌^◌, ◌<◌, ◌≤◌, Bool, true, false, ◌&&◌, ◌==◌, nat_lt, cond, List, [], ◌∷◌, ◌++◌, map, length, refl, ap, ap₂, sym, ◌∙◌, subst, Option, Some, None, option_map, arith, ◌⊎◌, inl, inr, filter, add-one}
use Rattle.std.specs.List.{flat_map, AllByRecursion}
use Rattle.std.proofs.lemmas.Bool.{eqb-true, eq-eqb}
use Rattle.std.proofs.lemmas.Bool.Decides.{nat_tests}
use Rattle.std.proofs.lemmas.List.{append-nil}
use Rattle.std.proofs.lemmas.List.Elements.{filter-append}
use Rattle.mmt_base.specs.Ticks.{ahead_of}
use Rattle.mmt_model.specs.declared.keys.Part.{Part}
use Rattle.mmt_model.specs.declared.keys.Part.TheVariants as parts
use Rattle.mmt_model.specs.Packets.{Heard}
use Rattle.mmt_model.specs.Units.{Message, packet_at, signal_link, rest_of_run, next_number, message, message_by, joined, is_part_of, part_messages}
use Rattle.mmt_pool.specs.Holding.{Kept, held, is_at, is_before, IsInOrder, IsKeepable}
use Rattle.mmt_pool.specs.Holding.{packet_at as kept_at}
use Rattle.mmt_runs.specs.Reading.{heard}
use Rattle.mmt_runs.specs.Messages.{messages_on, messages_with, is_part, is_short, short_bytes, message_of}
use Rattle.mmt_runs.specs.MessageParts.{lone_part, lone_at, first_of, parts_from, all_parts, Ends}
use Rattle.mmt_runs.proofs.Sums.{rest_short, next_below, same_rest, run_fits, cost_two}
use Rattle.mmt_runs.proofs.LoneParts.{begun, lone_message, signals_within, first_within}
use Rattle.mmt_runs.proofs.Linking.{heard_at, found_at}
use Rattle.mmt_runs.proofs.Walked.{part_at, Walked, walked, walked_run, leads_back, ahead_on, some_is}

-- ---- kept packets in their order

not_at : (p q : Kept) → is_before p q ≡ true → is_at q.packet_id q.number p ≡ false
unfolding is_before is_at
not_at p q e = grind (arith, nat_tests)

at_itself : (p : Kept) → is_at p.packet_id p.number p ≡ true
unfolding is_at
at_itself p = rw (eq-eqb p.packet_id p.packet_id refl, eq-eqb p.number p.number refl) refl

each_later : (p : Kept) (all ps : List Kept) → AllByRecursion (λ q. is_before p q ≡ true) ps → AllByRecursion (λ q. kept_at all q.packet_id q.number ≡ Some q) ps → AllByRecursion (λ q. kept_at (p ∷ all) q.packet_id q.number ≡ Some q) ps
each_later p all [] h k = tt
each_later p all (q ∷ ps) h k = (rw (not_at p q h.0) k.0, each_later p all ps h.1 k.1)

each_itself : (kept : List Kept) → IsInOrder kept → AllByRecursion (λ p. kept_at kept p.packet_id p.number ≡ Some p) kept
unfolding IsInOrder
each_itself [] r = tt
each_itself (p ∷ ps) r = (rw (at_itself p) refl, each_later p ps ps r.0 (each_itself ps r.1))

each_map : (P Q R : Kept → Type 0) → ((p : Kept) → P p → Q p → R p) → (ps : List Kept) → AllByRecursion P ps → AllByRecursion Q ps → AllByRecursion R ps
each_map P Q R f [] h k = tt
each_map P Q R f (p ∷ ps) h k = (f p h.0 k.0, each_map P Q R f ps h.1 k.1)

-- ---- what the messages are that begin in a packet

-- of the messages on a packet id, those that begin in this packet and that the packet of this number is a part of
abbrev these : List Heard → ℕ → ℕ → Heard → List Message
these kept id number p = filter (is_part number) (cond (p.packet_id == id) (message_by kept p p.payload) [])

filter_flat : {A B : Type 0} (t : B → Bool) (f : A → List B) (xs : List A) → filter t (flat_map f xs) ≡ flat_map (λ x. filter t (f x)) xs
filter_flat t f [] = refl
filter_flat t f (x ∷ xs) = filter-append t (f x) (flat_map f xs) ∙ ap (λ l. filter t (f x) ++ l) (filter_flat t f xs)

all_these : (kept : List Heard) (id number : ℕ) → messages_with kept id number ≡ flat_map (these kept id number) kept
unfolding messages_with messages_on
all_these kept id number = filter_flat (is_part number) (λ p. cond (p.packet_id == id) (message_by kept p p.payload) []) kept

-- the message of a first part at a number
abbrev pub made_of : ℕ → List ℕ → List (List ℕ) → Message
made_of number bytes rest = record { number = number; count = suc (length rest); bytes = joined (bytes ∷ rest) }

-- none, or the one whose first part the walk back comes to
record IsFound (kept : List Heard) (id most number : ℕ) (p : Heard) : Type 0 where
  bytes : List ℕ
  same_id : p.packet_id ≡ id
  first : first_of kept id most number ≡ Some (p.number, bytes)

message_some : (p : Heard) (bytes : List ℕ) (rest : List (List ℕ)) → message p bytes (Some rest) ≡ made_of p.number bytes rest ∷ []
unfolding message
message_some p bytes rest = refl

message_none : (p : Heard) (bytes : List ℕ) → message p bytes None ≡ []
unfolding message
message_none p bytes = refl

within_count : (d n : ℕ) → nat_lt d (suc n) ≡ true → d ≤ n
within_count d n e = grind (arith, nat_tests)

count_within : (d n : ℕ) → d ≤ n → nat_lt d (suc n) ≡ true
count_within d n e = grind (arith, nat_tests)

itself_at : (kept : List Heard) (id number : ℕ) (p : Heard) → packet_at kept id number ≡ Some p → part_at kept id number ≡ lone_part p.payload
unfolding lone_at
itself_at kept id number p e = rw e refl

none_or_found : (kept : List Heard) (id most number : ℕ) (p : Heard) → number < 2 ^ 32 → p.number < 2 ^ 32 → packet_at kept p.packet_id p.number ≡ Some p
    → ((many : ℕ) (rest : List (List ℕ)) → rest_of_run signal_link kept id many (next_number p.number) ≡ Some rest → length rest ≤ most)
    → (these kept id number p ≡ []) ⊎ IsFound kept id most number p
none_or_found kept id most number p a b there fits = by_id (p.packet_id == id) refl
  where
    by_rest : (bytes : List ℕ) → p.packet_id ≡ id → lone_part p.payload ≡ Some (parts.First, bytes) → (r : Option (List (List ℕ))) → rest_of_run signal_link kept p.packet_id (length kept) (next_number p.number) ≡ r
        → (filter (is_part number) (message p bytes r) ≡ []) ⊎ IsFound kept id most number p
    by_rest bytes i l None e = inl (ap (filter (is_part number)) (message_none p bytes))
    by_rest bytes i l (Some rest) e = decide (nat_lt (ahead_of number p.number) (suc (length rest))) refl
      where
        decide : (t : Bool) → nat_lt (ahead_of number p.number) (suc (length rest)) ≡ t → (filter (is_part number) (message p bytes (Some rest)) ≡ []) ⊎ IsFound kept id most number p
        decide false t = inl (rw (message_some p bytes rest, t) refl)
        decide true t =
            let run : rest_of_run signal_link kept id (length kept) (next_number p.number) ≡ Some rest = rw i at e in
            inr (record {
              bytes = bytes;
              same_id = i;
              first = leads_back kept id most (length kept) number p.number bytes rest b a (itself_at kept id p.number p (subst (λ x. packet_at kept x p.number ≡ Some p) i there) ∙ l) run (within_count (ahead_of number p.number) (length rest) t) (fits (length kept) rest run);
            })

    by_part : (o : Option (Part × List ℕ)) → p.packet_id ≡ id → lone_part p.payload ≡ o → (filter (is_part number) (begun kept p o) ≡ []) ⊎ IsFound kept id most number p
    by_part None i l = inl refl
    by_part (Some (parts.Whole, bytes)) i l = inl refl
    by_part (Some (parts.First, bytes)) i l = by_rest bytes i l (rest_of_run signal_link kept p.packet_id (length kept) (next_number p.number)) refl
    by_part (Some (parts.Middle, bytes)) i l = inl refl
    by_part (Some (parts.Last, bytes)) i l = inl refl

    by_id : (t : Bool) → (p.packet_id == id) ≡ t → (filter (is_part number) (cond t (message_by kept p p.payload) []) ≡ []) ⊎ IsFound kept id most number p
    by_id false t = inl refl
    by_id true t = rw (lone_message kept p p.payload) (by_part (lone_part p.payload) (eqb-true p.packet_id id t) refl)

-- ---- over all kept packets

abbrev NoneOrFound : List Kept → ℕ → ℕ → Kept → Type 0
NoneOrFound kept id number p = (these (map heard kept) id number (heard p) ≡ []) ⊎ IsFound (map heard kept) id (held kept) number (heard p)

heard_number : (p : Kept) → (heard p).number ≡ p.number
unfolding heard
heard_number p = refl

heard_id : (p : Kept) → (heard p).packet_id ≡ p.packet_id
unfolding heard
heard_id p = refl

each_none : (kept : List Kept) (id number : ℕ) → number < 2 ^ 32 → held kept < 2 ^ 32 → IsInOrder kept → AllByRecursion IsKeepable kept → AllByRecursion (NoneOrFound kept id number) kept
each_none kept id number a b order keepable =
    each_map (λ p. kept_at kept p.packet_id p.number ≡ Some p) IsKeepable (NoneOrFound kept id number)
    (λ p there k.
    let n : (heard p).number < 2 ^ 32 = omega (arith, heard_number p, k.number) in
    none_or_found (map heard kept) id (held kept) number (heard p) a n
    (ap₂ (λ x y. packet_at (map heard kept) x y) (heard_id p) (heard_number p) ∙ (heard_at kept p.packet_id p.number ∙ ap (option_map heard) there))
    (λ many rest run. rest_short 2 signal_link (omega arith) signals_within kept id many (next_number (heard p).number) rest (next_below (heard p).number) b run))
    kept (each_itself kept order) keepable

-- where the walk back comes to no first part, there is no message
none_found : (kept : List Kept) (id number : ℕ) → first_of (map heard kept) id (held kept) number ≡ None → (ps : List Kept) → AllByRecursion (NoneOrFound kept id number) ps → flat_map (these (map heard kept) id number) (map heard ps) ≡ []
none_found kept id number e [] h = refl
none_found kept id number e (p ∷ ps) h = go h.0 (none_found kept id number e ps h.1)
  where
    go : NoneOrFound kept id number p → flat_map (these (map heard kept) id number) (map heard ps) ≡ [] → these (map heard kept) id number (heard p) ++ flat_map (these (map heard kept) id number) (map heard ps) ≡ []
    go (inl n) ih = rw (n, ih) refl
    go (inr f) ih = absurd (let x = f.first in cc)

-- packets elsewhere than at the first part begin no such message
elsewhere : (kept : List Kept) (id number f : ℕ) (bytes : List ℕ) → first_of (map heard kept) id (held kept) number ≡ Some (f, bytes) → (p : Kept) → is_at id f p ≡ false → NoneOrFound kept id number p → these (map heard kept) id number (heard p) ≡ []
unfolding is_at
elsewhere kept id number f bytes e p t (inl n) = n
elsewhere kept id number f bytes e p t (inr g) =
    let same : p.number ≡ f = sym (heard_number p) ∙ ap (λ (x : ℕ × List ℕ). x.0) (some_is ((heard p).number, g.bytes) (f, bytes) (sym g.first ∙ e)) in
    let id_is : p.packet_id ≡ id = sym (heard_id p) ∙ g.same_id in
    absurd (let x = rw (eq-eqb p.packet_id id id_is, eq-eqb p.number f same) at t in cc)

other_than : (id f : ℕ) (p q : Kept) → is_at id f p ≡ true → is_before p q ≡ true → is_at id f q ≡ false
unfolding is_at is_before
other_than id f p q t b = grind (arith, nat_tests)

none_after : (kept : List Kept) (id number f : ℕ) (bytes : List ℕ) → first_of (map heard kept) id (held kept) number ≡ Some (f, bytes) → (p : Kept) → is_at id f p ≡ true → (ps : List Kept) → AllByRecursion (λ q. is_before p q ≡ true) ps
    → AllByRecursion (NoneOrFound kept id number) ps → flat_map (these (map heard kept) id number) (map heard ps) ≡ []
none_after kept id number f bytes e p t [] b h = refl
none_after kept id number f bytes e p t (q ∷ ps) b h =
    rw (elsewhere kept id number f bytes e q (other_than id f p q t b.0) h.0) (none_after kept id number f bytes e p t ps b.1 h.1)

abbrev these_of : (Heard → List Message) → Option Kept → List Message
these_of g None = []
these_of g (Some p) = g (heard p)

-- the messages are those that begin in the packet of the first part
one_found : (kept : List Kept) (id number f : ℕ) (bytes : List ℕ) → first_of (map heard kept) id (held kept) number ≡ Some (f, bytes) → (ps : List Kept) → IsInOrder ps → AllByRecursion (NoneOrFound kept id number) ps
    → flat_map (these (map heard kept) id number) (map heard ps) ≡ these_of (these (map heard kept) id number) (kept_at ps id f)
unfolding IsInOrder
one_found kept id number f bytes e [] r h = refl
one_found kept id number f bytes e (p ∷ ps) r h = go (is_at id f p) refl (one_found kept id number f bytes e ps r.1 h.1)
  where
    go : (t : Bool) → is_at id f p ≡ t → flat_map (these (map heard kept) id number) (map heard ps) ≡ these_of (these (map heard kept) id number) (kept_at ps id f)
        → these (map heard kept) id number (heard p) ++ flat_map (these (map heard kept) id number) (map heard ps) ≡ these_of (these (map heard kept) id number) (cond t (Some p) (kept_at ps id f))
    go true t ih = rw (none_after kept id number f bytes e p t ps r.0 h.1) (append-nil (these (map heard kept) id number (heard p)))
    go false t ih = rw (elsewhere kept id number f bytes e p t h.0) ih

-- ---- the message at the first part

-- a first part and a rest as messages: one, or none where there is no rest
abbrev pub told : ℕ → List ℕ → Option (List (List ℕ)) → List Message
told number bytes None = []
told number bytes (Some rest) = made_of number bytes rest ∷ []

kept_part : (kept : List Heard) (number f d : ℕ) (bytes : List ℕ) (p : Heard) → p.number ≡ f → ahead_of number f ≡ d → (r : Option (List (List ℕ))) → ((rest : List (List ℕ)) → r ≡ Some rest → d ≤ length rest) → filter (is_part number) (message p bytes r) ≡ told f bytes r
kept_part kept number f d bytes p n a None h = ap (filter (is_part number)) (message_none p bytes)
kept_part kept number f d bytes p n a (Some rest) h =
    let t : nat_lt (ahead_of number f) (suc (length rest)) ≡ true = rw a (count_within d (length rest) (h rest refl)) in
    rw (message_some p bytes rest, n, t) refl

at_first : (kept : List Heard) (id number f d : ℕ) (bytes : List ℕ) (p : Heard) → Walked kept id number f bytes d → d < 2 ^ 32 → p.packet_id ≡ id → p.number ≡ f → lone_part p.payload ≡ Some (parts.First, bytes)
    → these kept id number p ≡ told f bytes (rest_of_run signal_link kept id (length kept) (next_number f))
at_first kept id number f d bytes p w small i n l =
    let is : message_by kept p p.payload ≡ message p bytes (rest_of_run signal_link kept id (length kept) (next_number f)) =
    lone_message kept p p.payload ∙ (ap (begun kept p) l ∙ ap₂ (λ x y. message p bytes (rest_of_run signal_link kept x (length kept) (next_number y))) i n) in
    rw (eq-eqb p.packet_id id i, is)
    (kept_part kept number f d bytes p n (ahead_on f d number w.below small w.ahead) (rest_of_run signal_link kept id (length kept) (next_number f)) (λ rest e. walked_run kept id (length kept) number f bytes d rest w e))

lone_of : (o : Option Kept) (bytes : List ℕ) → lone_at (option_map heard o) ≡ Some (parts.First, bytes) → (p : Kept) × (o ≡ Some p) × (lone_part (heard p).payload ≡ Some (parts.First, bytes))
unfolding lone_at
lone_of None bytes e = absurd cc
lone_of (Some p) bytes e = (p, refl, e)

-- no message where the walk back comes to no first part
pub no_message : (kept : List Kept) (id number : ℕ) → number < 2 ^ 32 → held kept < 2 ^ 32 → IsInOrder kept → AllByRecursion IsKeepable kept → first_of (map heard kept) id (held kept) number ≡ None → messages_with (map heard kept) id number ≡ []
no_message kept id number a b order keepable e =
    all_these (map heard kept) id number ∙ none_found kept id number e kept (each_none kept id number a b order keepable)

-- the one message, or none, that begins with the first part that the walk back comes to
pub the_message : (kept : List Kept) (id number f : ℕ) (bytes : List ℕ) → number < 2 ^ 32 → held kept < 2 ^ 32 → IsInOrder kept → AllByRecursion IsKeepable kept → first_of (map heard kept) id (held kept) number ≡ Some (f, bytes)
    → messages_with (map heard kept) id number ≡ told f bytes (rest_of_run signal_link (map heard kept) id (length (map heard kept)) (next_number f))
the_message kept id number f bytes a b order keepable e =
    let k : List Heard = map heard kept in
    let w = walked k id (held kept) number f bytes a e in
    let v : Walked k id number f bytes w.0 = w.2 in
    let p = lone_of (kept_at kept id f) bytes (ap lone_at (sym (heard_at kept id f)) ∙ v.here) in
    let s = found_at kept id f p.0 p.1 in
    all_these k id number
    ∙ (one_found kept id number f bytes e kept order (each_none kept id number a b order keepable)
    ∙ (ap (these_of (these k id number)) p.1
    ∙ at_first k id number f w.0 bytes (heard p.0) v (omega (arith, w.1, b)) (heard_id p.0 ∙ s.0) (heard_number p.0 ∙ s.1) p.2))

-- ---- the messages of at most 131,072 bytes

both_tests : {A : Type 0} (s t : A → Bool) (xs : List A) → filter (λ x. s x && t x) xs ≡ filter t (filter s xs)
both_tests s t [] = refl
both_tests s t (x ∷ xs) = go (s x) (t x) refl (both_tests s t xs)
  where
    go : (a b : Bool) → t x ≡ b → filter (λ x. s x && t x) xs ≡ filter t (filter s xs) → cond (a && b) (x ∷ filter (λ x. s x && t x) xs) (filter (λ x. s x && t x) xs) ≡ filter t (cond a (x ∷ filter s xs) (filter s xs))
    go true true e ih = rw e (ap (λ l. x ∷ l) ih)
    go true false e ih = rw e ih
    go false true e ih = ih
    go false false e ih = ih

-- the bytes of the messages that a packet is a part of are those of the short ones among these messages
pub short_messages : (kept : List Heard) (h : Heard) (id number : ℕ) → h.packet_id ≡ id → h.number ≡ number → part_messages kept h ≡ short_bytes (messages_with kept id number)
unfolding part_messages messages_with messages_on is_part_of
short_messages kept h id number i n =
    rw (← i, ← n) (ap (map (λ m. m.bytes)) (both_tests (is_part h.number) is_short (flat_map (λ p. cond (p.packet_id == h.packet_id) (message_by kept p p.payload) []) kept)))

-- ---- the first part and the rest that were found

-- no message where there is no rest
pub no_rest_message : (kept : List Kept) (id number f : ℕ) (bytes : List ℕ) → number < 2 ^ 32 → held kept < 2 ^ 32 → IsInOrder kept → AllByRecursion IsKeepable kept → first_of (map heard kept) id (held kept) number ≡ Some (f, bytes)
    → rest_of_run signal_link (map heard kept) id (held kept) (next_number f) ≡ None → messages_with (map heard kept) id number ≡ []
no_rest_message kept id number f bytes a b order keepable e r =
    the_message kept id number f bytes a b order keepable e ∙ ap (told f bytes) (sym (same_rest 2 signal_link (omega arith) signals_within kept id (next_number f) (next_below f) b) ∙ r)

parts_length : (kept : List Heard) (id n number : ℕ) → length (parts_from kept id n number) ≡ n
unfolding parts_from
parts_length kept id zero number = refl
parts_length kept id (suc n) number = omega (arith, parts_length kept id n (next_number number))

-- the message of a first part and a rest
pub rest_message : (kept : List Kept) (id number f : ℕ) (bytes : List ℕ) (count total : ℕ) → number < 2 ^ 32 → held kept < 2 ^ 32 → IsInOrder kept → AllByRecursion IsKeepable kept → first_of (map heard kept) id (held kept) number ≡ Some (f, bytes)
    → Ends (map heard kept) id (held kept) (next_number f) (Some (count, total)) → messages_with (map heard kept) id number ≡ message_of (record { number = f; left = bytes ∷ parts_from (map heard kept) id count (next_number f) }) ∷ []
rest_message kept id number f bytes count total a b order keepable e r =
    the_message kept id number f bytes a b order keepable e ∙ ap (told f bytes) (sym (same_rest 2 signal_link (omega arith) signals_within kept id (next_number f) (next_below f) b) ∙ r.0)

-- the parts of a message have no more bytes than are kept, with two more for each
pub message_fits : (kept : List Kept) (id number f : ℕ) (bytes : List ℕ) (count total : ℕ) → number < 2 ^ 32 → held kept < 2 ^ 32 → first_of (map heard kept) id (held kept) number ≡ Some (f, bytes)
    → Ends (map heard kept) id (held kept) (next_number f) (Some (count, total)) → 2 + length bytes + (2 * count + total) ≤ held kept
message_fits kept id number f bytes count total a b e r =
    let w = walked (map heard kept) id (held kept) number f bytes a e in
    let v : Walked (map heard kept) id number f bytes w.0 = w.2 in
    let rest : List (List ℕ) = parts_from (map heard kept) id count (next_number f) in
    omega (arith, first_within kept id f bytes v.here, run_fits 2 signal_link (omega arith) signals_within kept id (held kept) f rest v.below b r.0, cost_two rest, parts_length (map heard kept) id count (next_number f), r.1)

-- the parts that are left at first are the first part and the rest
pub left_at_first : (kept : List Heard) (id count number : ℕ) (bytes : List ℕ) → all_parts kept id (count + 1) bytes number ≡ bytes ∷ parts_from kept id count number
left_at_first kept id count number bytes = rw add-one refl
