-- The packets that carry a unit or a table are those of its sending, and their span.
use Rattle.std.proofs.Common.{◌≡◌, ℕ, Bool, true, false, cond, List, [], ◌∷◌, ◌++◌, refl, ap, ap₂, ◌∙◌}
use Rattle.std.specs.List.{AllByRecursion, filter}
use Rattle.std.proofs.lemmas.List.{append-nil}
use Rattle.std.proofs.lemmas.List.Elements.{filter-append}
use Rattle.mmt_cast.proofs.Listing.{each-append, each-map_numbers}
use Rattle.mmt_cast.proofs.Numbering.{before, flat, packet_after, piece, planned-split}
use Rattle.mmt_cast.specs.Casting.{numbered_after, planned, with_number}
use Rattle.mmt_cast.specs.Sending.{Sending, carried, packet_count, packet_of, packets_of, sendings}
use Rattle.mmt_model.specs.declared.casts.Carries.{Carries}
use Rattle.mmt_model.specs.declared.casts.Sent.{Sent}
use Rattle.mmt_model.specs.declared.programmes.Programme.{Programme}

filter-none : {X : Type 0} (p : X → Bool) (xs : List X) → AllByRecursion (λ x. p x ≡ false) xs → filter p xs ≡ []
filter-none p [] e = refl
filter-none p (x ∷ xs) e = ap (λ (t : Bool). cond t (x ∷ filter p xs) (filter p xs)) e.0 ∙ filter-none p xs e.1

filter-all : {X : Type 0} (p : X → Bool) (xs : List X) → AllByRecursion (λ x. p x ≡ true) xs → filter p xs ≡ xs
filter-all p [] e = refl
filter-all p (x ∷ xs) e = ap (λ (t : Bool). cond t (x ∷ filter p xs) (filter p xs)) e.0 ∙ ap (λ l. x ∷ l) (filter-all p xs e.1)

-- what packets carry hangs on no number
each-carried : (test : Carries → Bool) (v : Bool) (e xs : List Sent) → AllByRecursion (λ (q : Sent). test q.carries ≡ v) xs → AllByRecursion (λ (q : Sent). test q.carries ≡ v) (numbered_after e xs)
unfolding numbered_after with_number
each-carried test v e [] h = tt
each-carried test v e (x ∷ xs) h = (h.0, each-carried test v (e ++ x ∷ []) xs h.1)

-- a test of what packets carry goes with one of sendings
abbrev pub Agrees : Programme → (Carries → Bool) → (Sending → Bool) → Type 0
Agrees programme test covers = (y : Sending) (k : ℕ) → test (carried programme y k) ≡ covers y

none-flat : (programme : Programme) (test : Carries → Bool) (covers : Sending → Bool) → Agrees programme test covers → (ys : List Sending) → AllByRecursion (λ y. covers y ≡ false) ys
    → AllByRecursion (λ (q : Sent). test q.carries ≡ false) (flat programme ys)
unfolding packets_of packet_of
none-flat programme test covers agree [] h = tt
none-flat programme test covers agree (y ∷ ys) h =
    each-append (λ (q : Sent). test q.carries ≡ false) (packets_of programme y) (flat programme ys)
    (each-map_numbers (λ (q : Sent). test q.carries ≡ false) (packet_of programme y) 0 (packet_count programme y) (λ k from below. agree y k ∙ h.0))
    (none-flat programme test covers agree ys h.1)

pub own-packets : (programme : Programme) (test : Carries → Bool) (covers : Sending → Bool) → Agrees programme test covers → (a b : List Sending) (x : Sending) → sendings programme ≡ a ++ x ∷ b
    → covers x ≡ true → AllByRecursion (λ y. covers y ≡ false) a → AllByRecursion (λ y. covers y ≡ false) b
    → filter (λ (q : Sent). test q.carries) (planned programme) ≡ piece programme x (before programme a x)
unfolding with_number packet_of
own-packets programme test covers agree a b x e passes na nb =
    let p : Sent → Bool = λ q. test q.carries in
    let c : ℕ = before programme a x in
    let front : List Sent = numbered_after [] (flat programme a) in
    let own : List Sent = piece programme x c in
    let back : List Sent = numbered_after (flat programme a ++ packets_of programme x) (flat programme b) in
    let f = filter-none p front (each-carried test false [] (flat programme a) (none-flat programme test covers agree a na)) in
    let m = filter-all p own (each-map_numbers (λ (q : Sent). test q.carries ≡ true) (packet_after programme x c) 0 (packet_count programme x) (λ k from below. agree x k ∙ passes)) in
    let r = filter-none p back (each-carried test false (flat programme a ++ packets_of programme x) (flat programme b) (none-flat programme test covers agree b nb)) in
    ap (filter p) (planned-split programme a b x e)
    ∙ (filter-append p front (own ++ back)
    ∙ (ap₂ (λ s t. s ++ t) f (filter-append p own back ∙ ap₂ (λ s t. s ++ t) m r)
    ∙ append-nil own))
