-- Where a walk back to a first part comes to, and which packets it passed.
use Rattle.std.proofs.Common.{◌≡◌, ℕ, zero, suc, ◌+◌, ◌-◌, ◌%◌, ◌^◌, ◌<◌, ◌≤◌, List, length, refl, ap, sym, ◌∙◌, Option, Some, None, arith, ⊎_elim}
use Rattle.std.proofs.lemmas.Bool.{cases_lt}
use Rattle.mmt_base.specs.Ticks.{ahead_of}
use Rattle.mmt_model.specs.declared.keys.Part.{Part}
use Rattle.mmt_model.specs.declared.keys.Part.TheVariants as parts
use Rattle.mmt_model.specs.Packets.{Heard}
use Rattle.mmt_model.specs.Units.{Link, packet_at, signal_link, rest_of_run, next_number}
use Rattle.mmt_runs.specs.MessageParts.{lone_at, number_before, first_by, first_before, first_from, first_of}
use Rattle.mmt_runs.proofs.Sums.{Begins, GoesOn, Stops, begins, no_rest, next_below}
use Rattle.mmt_runs.proofs.LoneParts.{link_of, lone_link}
use Rattle.mmt_runs.proofs.WalkSteps.{first_here, first_back, from_first, from_earlier}

-- the part in the packet of this number
abbrev pub part_at : List Heard → ℕ → ℕ → Option (Part × List ℕ)
part_at kept id number = lone_at (packet_at kept id number)

-- it is a middle part
abbrev pub IsMiddle : Option (Part × List ℕ) → Type 0
IsMiddle o = (bytes : List ℕ) × (o ≡ Some (parts.Middle, bytes))

-- it is a last part
abbrev pub IsLast : Option (Part × List ℕ) → Type 0
IsLast o = (bytes : List ℕ) × (o ≡ Some (parts.Last, bytes))

pub some_is : {A : Type 0} (x y : A) → Some x ≡ Some y → x ≡ y
some_is x y e = cc

middle_not_last : parts.Middle ≡ parts.Last → ⊥
middle_not_last e = cc

apart : (o p : Option (Part × List ℕ)) → o ≡ p → IsMiddle p → IsLast o → ⊥
apart o p e m l = middle_not_last (ap (λ (x : Part × List ℕ). x.0) (some_is (parts.Middle, m.0) (parts.Last, l.0) (sym m.1 ∙ (sym e ∙ l.1))))

-- so many numbers on, modulo 2^32
unfoldable pub on : ℕ → ℕ → ℕ
on number i = (number + i) % 2 ^ 32

pub on_none : (number : ℕ) → number < 2 ^ 32 → on number 0 ≡ number
unfolding on
on_none number h = omega arith

pub on_next : (number i : ℕ) → on (next_number number) i ≡ on number (suc i)
unfolding on next_number
on_next number i = omega arith

pub on_before : (number i : ℕ) → number_before (on number (suc i)) ≡ on number i
unfolding on number_before
on_before number i = omega arith

pub on_again : (f d number : ℕ) → number < 2 ^ 32 → on f d ≡ number_before number → on f (suc d) ≡ number
unfolding on number_before
on_again f d number h e = omega arith

pub on_ahead : (f number : ℕ) → f < 2 ^ 32 → number < 2 ^ 32 → on f (ahead_of number f) ≡ number
unfolding on ahead_of
on_ahead f number a b = omega arith

pub ahead_on : (f d number : ℕ) → f < 2 ^ 32 → d < 2 ^ 32 → on f d ≡ number → ahead_of number f ≡ d
unfolding on ahead_of
ahead_on f d number a b e = omega arith

pub before_below : (number : ℕ) → number_before number < 2 ^ 32
unfolding number_before
before_below number = omega arith

-- ---- what a walk back has passed

-- the walk came to a first part, so many numbers back, with middle parts alone after it, up to but for the last of these numbers
pub record Walked (kept : List Heard) (id number f : ℕ) (bytes : List ℕ) (d : ℕ) : Type 0 where
  pub here : part_at kept id f ≡ Some (parts.First, bytes)
  pub below : f < 2 ^ 32
  pub ahead : on f d ≡ number
  pub inside : (i : ℕ) → 0 < i → i < d → IsMiddle (part_at kept id (on f i))

-- the same with the last of these numbers
pub record Passed (kept : List Heard) (id number f : ℕ) (bytes : List ℕ) (d : ℕ) : Type 0 where
  pub here : part_at kept id f ≡ Some (parts.First, bytes)
  pub below : f < 2 ^ 32
  pub ahead : on f d ≡ number
  pub inside : (i : ℕ) → 0 < i → i ≤ d → IsMiddle (part_at kept id (on f i))

abbrev PassedWithin : List Heard → ℕ → ℕ → ℕ → List ℕ → ℕ → Type 0
PassedWithin kept id number f bytes most = (d : ℕ) × (d < most) × Passed kept id number f bytes d

passed : (kept : List Heard) (id most number f : ℕ) (bytes : List ℕ) → number < 2 ^ 32 → first_before kept id most number ≡ Some (f, bytes) → PassedWithin kept id number f bytes most
unfolding first_before
passed kept id zero number f bytes a e = absurd cc
passed kept id (suc most) number f bytes a e = go (part_at kept id number) refl e (λ g. passed kept id most (number_before number) f bytes (before_below number) g)
  where
    go : (o : Option (Part × List ℕ)) → part_at kept id number ≡ o → first_by number o (first_before kept id most (number_before number)) ≡ Some (f, bytes)
        → (first_before kept id most (number_before number) ≡ Some (f, bytes) → PassedWithin kept id (number_before number) f bytes most) → PassedWithin kept id number f bytes (suc most)
    go None is e ih = absurd cc
    go (Some (parts.Whole, b)) is e ih = absurd cc
    go (Some (parts.Last, b)) is e ih = absurd cc
    go (Some (parts.First, b)) is e ih =
        let n : number ≡ f = ap (λ (p : ℕ × List ℕ). p.0) (some_is (number, b) (f, bytes) e) in
        let s : b ≡ bytes = ap (λ (p : ℕ × List ℕ). p.1) (some_is (number, b) (f, bytes) e) in
        let below : f < 2 ^ 32 = omega (arith, a, n) in (
          0,
          omega arith,
          record {
            here = rw (← n, ← s) is;
            below = below;
            ahead = on_none f below ∙ sym n;
            inside = λ i h l. absurd (omega arith);
          },
        )
    go (Some (parts.Middle, b)) is e ih =
        let p = ih e in
        let w : Passed kept id (number_before number) f bytes p.0 = p.2 in
        let s : on f (suc p.0) ≡ number = on_again f p.0 number a w.ahead in (
          suc p.0,
          omega (arith, p.1),
          record {
            here = w.here;
            below = w.below;
            ahead = s;
            inside = λ i h l. ⊎_elim
                (λ (lt : i < suc p.0). w.inside i h (omega arith))
                (λ (ge : suc p.0 ≤ i). let same : i ≡ suc p.0 = omega arith in rw (same, s) (b, is))
                (cases_lt i (suc p.0));
          },
        )

-- a first part is found from so many numbers after it where all between are middle parts
found : (kept : List Heard) (id d f most : ℕ) (bytes : List ℕ) → f < 2 ^ 32 → d < most → part_at kept id f ≡ Some (parts.First, bytes) → ((i : ℕ) → 0 < i → i ≤ d → IsMiddle (part_at kept id (on f i)))
    → first_before kept id most (on f d) ≡ Some (f, bytes)
found kept id zero f most bytes a h here inside = rw (on_none f a) (first_here kept id most f bytes (omega arith) here)
found kept id (suc d) f most bytes a h here inside =
    let m = inside (suc d) (omega arith) (omega arith) in
    let back : first_before kept id most (on f (suc d)) ≡ first_before kept id (most - 1) (number_before (on f (suc d))) = first_back kept id most (on f (suc d)) m.0 (omega arith) m.1 in
    back ∙ (ap (λ n. first_before kept id (most - 1) n) (on_before f d) ∙ found kept id d f (most - 1) bytes a (omega arith) here (λ i h l. inside i h (omega arith)))

-- ---- the packets of a rest of a run

inner_is : (o : Option (Part × List ℕ)) (bytes : List ℕ) → link_of o ≡ Link.Inner bytes → IsMiddle o
inner_is None bytes e = absurd cc
inner_is (Some (parts.Whole, b)) bytes e = absurd cc
inner_is (Some (parts.First, b)) bytes e = absurd cc
inner_is (Some (parts.Middle, b)) bytes e = (b, refl)
inner_is (Some (parts.Last, b)) bytes e = absurd cc

pub end_is : (o : Option (Part × List ℕ)) (bytes : List ℕ) → link_of o ≡ Link.End bytes → IsLast o
end_is None bytes e = absurd cc
end_is (Some (parts.Whole, b)) bytes e = absurd cc
end_is (Some (parts.First, b)) bytes e = absurd cc
end_is (Some (parts.Middle, b)) bytes e = absurd cc
end_is (Some (parts.Last, b)) bytes e = (b, refl)

pub not_empty : (kept : List Heard) (id most number : ℕ) (rest : List (List ℕ)) → rest_of_run signal_link kept id most number ≡ Some rest → 0 < length rest
not_empty kept id zero number rest e = absurd (let n = no_rest signal_link kept id number in cc)
not_empty kept id (suc most) number rest e = go (begins signal_link kept id most number rest e)
  where
    go : Begins signal_link kept id most number rest → 0 < length rest
    go (GoesOn bytes r l f s) = rw s (omega arith)
    go (Stops bytes l s) = rw s (omega arith)

-- all but the last are middle parts
pub middle_at : (kept : List Heard) (id most number i : ℕ) (rest : List (List ℕ)) → number < 2 ^ 32 → rest_of_run signal_link kept id most number ≡ Some rest → suc i < length rest → IsMiddle (part_at kept id (on number i))
middle_at kept id zero number i rest a e h = absurd (let n = no_rest signal_link kept id number in cc)
middle_at kept id (suc most) number zero rest a e h = rw (on_none number a) (go (begins signal_link kept id most number rest e))
  where
    go : Begins signal_link kept id most number rest → IsMiddle (part_at kept id number)
    go (GoesOn bytes r l f s) = inner_is (part_at kept id number) bytes (sym (lone_link (packet_at kept id number)) ∙ l)
    go (Stops bytes l s) = absurd (omega (arith, h, ap length s))
middle_at kept id (suc most) number (suc i) rest a e h = go (begins signal_link kept id most number rest e) (λ r f g. middle_at kept id most (next_number number) i r (next_below number) f g)
  where
    go : Begins signal_link kept id most number rest → ((r : List (List ℕ)) → rest_of_run signal_link kept id most (next_number number) ≡ Some r → suc i < length r → IsMiddle (part_at kept id (on (next_number number) i))) → IsMiddle (part_at kept id (on number (suc i)))
    go (GoesOn bytes r l f s) ih = rw (← on_next number i) (ih r f (omega (arith, h, ap length s)))
    go (Stops bytes l s) ih = absurd (omega (arith, h, ap length s))

-- the last one is a last part
pub last_at : (kept : List Heard) (id most number i : ℕ) (rest : List (List ℕ)) → number < 2 ^ 32 → rest_of_run signal_link kept id most number ≡ Some rest → suc i ≡ length rest → IsLast (part_at kept id (on number i))
last_at kept id zero number i rest a e h = absurd (let n = no_rest signal_link kept id number in cc)
last_at kept id (suc most) number zero rest a e h = rw (on_none number a) (go (begins signal_link kept id most number rest e) (λ r f. not_empty kept id most (next_number number) r f))
  where
    go : Begins signal_link kept id most number rest → ((r : List (List ℕ)) → rest_of_run signal_link kept id most (next_number number) ≡ Some r → 0 < length r) → IsLast (part_at kept id number)
    go (GoesOn bytes r l f s) n = absurd (omega (arith, h, ap length s, n r f))
    go (Stops bytes l s) n = end_is (part_at kept id number) bytes (sym (lone_link (packet_at kept id number)) ∙ l)
last_at kept id (suc most) number (suc i) rest a e h = go (begins signal_link kept id most number rest e) (λ r f g. last_at kept id most (next_number number) i r (next_below number) f g)
  where
    go : Begins signal_link kept id most number rest → ((r : List (List ℕ)) → rest_of_run signal_link kept id most (next_number number) ≡ Some r → suc i ≡ length r → IsLast (part_at kept id (on (next_number number) i))) → IsLast (part_at kept id (on number (suc i)))
    go (GoesOn bytes r l f s) ih = rw (← on_next number i) (ih r f (omega (arith, h, ap length s)))
    go (Stops bytes l s) ih = absurd (omega (arith, h, ap length s))

-- ---- the first part of the message of a packet

abbrev WalkedWithin : List Heard → ℕ → ℕ → ℕ → List ℕ → ℕ → Type 0
WalkedWithin kept id number f bytes most = (d : ℕ) × (d ≤ most) × Walked kept id number f bytes d

walked_back : (kept : List Heard) (id most number f : ℕ) (bytes : List ℕ) → number < 2 ^ 32 → first_before kept id most (number_before number) ≡ Some (f, bytes) → WalkedWithin kept id number f bytes most
walked_back kept id most number f bytes a e =
    let p = passed kept id most (number_before number) f bytes (before_below number) e in
    let w : Passed kept id (number_before number) f bytes p.0 = p.2 in (
      suc p.0,
      omega (arith, p.1),
      record {
        here = w.here;
        below = w.below;
        ahead = on_again f p.0 number a w.ahead;
        inside = λ i h l. w.inside i h (omega arith);
      },
    )

pub walked : (kept : List Heard) (id most number f : ℕ) (bytes : List ℕ) → number < 2 ^ 32 → first_of kept id most number ≡ Some (f, bytes) → WalkedWithin kept id number f bytes most
unfolding first_of
walked kept id most number f bytes a e = go (part_at kept id number) refl e
  where
    go : (o : Option (Part × List ℕ)) → part_at kept id number ≡ o → first_from number o (first_before kept id most (number_before number)) ≡ Some (f, bytes) → WalkedWithin kept id number f bytes most
    go None is e = absurd cc
    go (Some (parts.Whole, b)) is e = absurd cc
    go (Some (parts.First, b)) is e =
        let n : number ≡ f = ap (λ (p : ℕ × List ℕ). p.0) (some_is (number, b) (f, bytes) e) in
        let s : b ≡ bytes = ap (λ (p : ℕ × List ℕ). p.1) (some_is (number, b) (f, bytes) e) in
        let below : f < 2 ^ 32 = omega (arith, a, n) in (
          0,
          omega arith,
          record {
            here = rw (← n, ← s) is;
            below = below;
            ahead = on_none f below ∙ sym n;
            inside = λ i h l. absurd (omega arith);
          },
        )
    go (Some (parts.Middle, b)) is e = walked_back kept id most number f bytes a e
    go (Some (parts.Last, b)) is e = walked_back kept id most number f bytes a e

-- the rest of the run after the first part has as many parts as the walk went numbers back, or more
pub walked_run : (kept : List Heard) (id most number f : ℕ) (bytes : List ℕ) (d : ℕ) (rest : List (List ℕ)) → Walked kept id number f bytes d → rest_of_run signal_link kept id most (next_number f) ≡ Some rest → d ≤ length rest
walked_run kept id most number f bytes d rest w e =
    let n : 0 < length rest = not_empty kept id most (next_number f) rest e in
    ⊎_elim
    (λ (lt : length rest < d).
    let j : ℕ = length rest - 1 in
    let l = last_at kept id most (next_number f) j rest (next_below f) e (omega arith) in
    let m = w.inside (suc j) (omega arith) (omega arith) in
    let same : part_at kept id (on (next_number f) j) ≡ part_at kept id (on f (suc j)) = ap (λ x. part_at kept id x) (on_next f j) in
    absurd (apart (part_at kept id (on (next_number f) j)) (part_at kept id (on f (suc j))) same m l))
    (λ (ge : d ≤ length rest). ge)
    (cases_lt (length rest) d)

-- a packet of a message leads back to its first part
pub leads_back : (kept : List Heard) (id most many number f : ℕ) (bytes : List ℕ) (rest : List (List ℕ)) → f < 2 ^ 32 → number < 2 ^ 32 → part_at kept id f ≡ Some (parts.First, bytes) → rest_of_run signal_link kept id many (next_number f) ≡ Some rest
    → ahead_of number f ≤ length rest → length rest ≤ most → first_of kept id most number ≡ Some (f, bytes)
leads_back kept id most many number f bytes rest a b here run within fits = go (ahead_of number f) (on_ahead f number a b) within
  where
    inside : (e : ℕ) → e < length rest → (i : ℕ) → 0 < i → i ≤ e → IsMiddle (part_at kept id (on f i))
    inside e lt zero h l = absurd (omega arith)
    inside e lt (suc i) h l = rw (← on_next f i) (middle_at kept id many (next_number f) i rest (next_below f) run (omega arith))

    earlier : (e : ℕ) → on f (suc e) ≡ number → e < length rest → first_of kept id most number ≡ first_before kept id most (number_before number)
    earlier e s lt = ⊎_elim
        (λ (less : suc e < length rest). let m = middle_at kept id many (next_number f) e rest (next_below f) run less in from_earlier kept id most number (Some (parts.Middle, m.0)) (ap (λ x. part_at kept id x) (sym (on_next f e ∙ s)) ∙ m.1) (λ r. refl))
        (λ (more : length rest ≤ suc e). let m = last_at kept id many (next_number f) e rest (next_below f) run (omega arith) in from_earlier kept id most number (Some (parts.Last, m.0)) (ap (λ x. part_at kept id x) (sym (on_next f e ∙ s)) ∙ m.1) (λ r. refl))
        (cases_lt (suc e) (length rest))

    go : (d : ℕ) → on f d ≡ number → d ≤ length rest → first_of kept id most number ≡ Some (f, bytes)
    go zero s l = let n : f ≡ number = sym (on_none f a) ∙ s in rw (← n) (from_first kept id most f bytes here)
    go (suc e) s l =
        earlier e s l ∙ (ap (λ n. first_before kept id most n) (ap number_before (sym s) ∙ on_before f e) ∙ found kept id e f most bytes a (omega arith) here (inside e l))
