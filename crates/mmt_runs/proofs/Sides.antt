-- No message is whole whose packets break off before its first part or after its last part.
use Rattle.std.proofs.Common.{◌≡◌, ℕ, zero, suc, ◌-◌, ◌^◌, ◌<◌, List, [], map, length, refl, ap, sym, ◌∙◌, Option, Some, None, arith}
use Rattle.std.specs.List.{AllByRecursion}
use Rattle.mmt_model.specs.declared.keys.Part.{Part}
use Rattle.mmt_model.specs.declared.keys.Part.TheVariants as parts
use Rattle.mmt_model.specs.Packets.{Heard}
use Rattle.mmt_model.specs.Units.{packet_at, signal_link, rest_of_run, next_number}
use Rattle.mmt_pool.specs.Holding.{Kept, held, IsInOrder, IsKeepable}
use Rattle.mmt_runs.specs.Reading.{heard}
use Rattle.mmt_runs.specs.Messages.{messages_with}
use Rattle.mmt_runs.specs.MessageParts.{number_before, first_before, first_from, first_of, back_by, back_from, on_by, on_from, sides_by}
use Rattle.mmt_runs.proofs.Sums.{Begins, GoesOn, Stops, begins, no_rest, next_below}
use Rattle.mmt_runs.proofs.LoneParts.{lone_link}
use Rattle.mmt_runs.proofs.WalkSteps.{first_other, first_back, first_zero, rest_zero, rest_other, rest_broken, from_other, from_earlier}
use Rattle.mmt_runs.proofs.Walked.{part_at, IsLast, Walked, walked, walked_run, on, on_none, on_next, end_is, some_is}
use Rattle.mmt_runs.proofs.Whole.{no_message, no_rest_message}

-- no first part is found from where to look, and it was not reached before
abbrev pub NoFirst : List Heard → ℕ → Option ℕ → Type 0
NoFirst kept id None = ⊥
NoFirst kept id (Some number) = (most : ℕ) → first_before kept id most number ≡ None

-- no last part is found from where to look, and it was not reached before
abbrev pub NoLast : List Heard → ℕ → Option ℕ → Type 0
NoLast kept id None = ⊥
NoLast kept id (Some number) = (most : ℕ) → rest_of_run signal_link kept id most number ≡ None

-- ---- one look

pub back_nowhere : (kept : List Heard) (id : ℕ) → back_from kept id None ≡ Some None
unfolding back_from
back_nowhere kept id = refl

pub back_at : (kept : List Heard) (id number : ℕ) → back_from kept id (Some number) ≡ back_by number (part_at kept id number)
unfolding back_from
back_at kept id number = refl

pub on_nowhere : (kept : List Heard) (id : ℕ) → on_from kept id None ≡ Some None
unfolding on_from
on_nowhere kept id = refl

pub on_at : (kept : List Heard) (id number : ℕ) → on_from kept id (Some number) ≡ on_by number (part_at kept id number)
unfolding on_from
on_at kept id number = refl

none_back : (kept : List Heard) (id number : ℕ) (o : Option (Part × List ℕ)) → part_at kept id number ≡ o → back_by number o ≡ None → NoFirst kept id (Some number)
none_back kept id number None is e = λ most. first_other kept id most number None is (λ r. refl)
none_back kept id number (Some (parts.Whole, bytes)) is e = λ most. first_other kept id most number (Some (parts.Whole, bytes)) is (λ r. refl)
none_back kept id number (Some (parts.First, bytes)) is e = absurd cc
none_back kept id number (Some (parts.Middle, bytes)) is e = absurd cc
none_back kept id number (Some (parts.Last, bytes)) is e = λ most. first_other kept id most number (Some (parts.Last, bytes)) is (λ r. refl)

pub back_none : (kept : List Heard) (id : ℕ) (before : Option ℕ) → back_from kept id before ≡ None → NoFirst kept id before
unfolding back_from
back_none kept id None e = absurd cc
back_none kept id (Some number) e = none_back kept id number (part_at kept id number) refl e

further_back : (kept : List Heard) (id number : ℕ) (bytes : List ℕ) → part_at kept id number ≡ Some (parts.Middle, bytes) → ((most : ℕ) → first_before kept id most (number_before number) ≡ None) → (most : ℕ) → first_before kept id most number ≡ None
further_back kept id number bytes is none zero = first_zero kept id zero number refl
further_back kept id number bytes is none (suc most) = first_back kept id (suc most) number bytes (omega arith) is ∙ none (suc most - 1)

some_back : (kept : List Heard) (id number : ℕ) (next : Option ℕ) (o : Option (Part × List ℕ)) → part_at kept id number ≡ o → back_by number o ≡ Some next → NoFirst kept id next → NoFirst kept id (Some number)
some_back kept id number next None is e none = absurd cc
some_back kept id number next (Some (parts.Whole, bytes)) is e none = absurd cc
some_back kept id number next (Some (parts.First, bytes)) is e none = absurd (rw (← some_is None next e) at none)
some_back kept id number next (Some (parts.Middle, bytes)) is e none = further_back kept id number bytes is (rw (← some_is (Some (number_before number)) next e) at none)
some_back kept id number next (Some (parts.Last, bytes)) is e none = absurd cc

pub back_some : (kept : List Heard) (id : ℕ) (before next : Option ℕ) → back_from kept id before ≡ Some next → NoFirst kept id next → NoFirst kept id before
unfolding back_from
back_some kept id None next e none = rw (← some_is None next e) at none
back_some kept id (Some number) next e none = some_back kept id number next (part_at kept id number) refl e none

none_on : (kept : List Heard) (id number : ℕ) (o : Option (Part × List ℕ)) → part_at kept id number ≡ o → on_by number o ≡ None → NoLast kept id (Some number)
none_on kept id number None is e = λ most. rest_other kept id most number None is refl
none_on kept id number (Some (parts.Whole, bytes)) is e = λ most. rest_other kept id most number (Some (parts.Whole, bytes)) is refl
none_on kept id number (Some (parts.First, bytes)) is e = λ most. rest_other kept id most number (Some (parts.First, bytes)) is refl
none_on kept id number (Some (parts.Middle, bytes)) is e = absurd cc
none_on kept id number (Some (parts.Last, bytes)) is e = absurd cc

pub on_none_left : (kept : List Heard) (id : ℕ) (after : Option ℕ) → on_from kept id after ≡ None → NoLast kept id after
unfolding on_from
on_none_left kept id None e = absurd cc
on_none_left kept id (Some number) e = none_on kept id number (part_at kept id number) refl e

further_on : (kept : List Heard) (id number : ℕ) (bytes : List ℕ) → part_at kept id number ≡ Some (parts.Middle, bytes) → ((most : ℕ) → rest_of_run signal_link kept id most (next_number number) ≡ None) → (most : ℕ) → rest_of_run signal_link kept id most number ≡ None
further_on kept id number bytes is none zero = rest_zero kept id zero number refl
further_on kept id number bytes is none (suc most) = rest_broken kept id (suc most) number bytes (omega arith) is (none (suc most - 1))

some_on : (kept : List Heard) (id number : ℕ) (next : Option ℕ) (o : Option (Part × List ℕ)) → part_at kept id number ≡ o → on_by number o ≡ Some next → NoLast kept id next → NoLast kept id (Some number)
some_on kept id number next None is e none = absurd cc
some_on kept id number next (Some (parts.Whole, bytes)) is e none = absurd cc
some_on kept id number next (Some (parts.First, bytes)) is e none = absurd cc
some_on kept id number next (Some (parts.Middle, bytes)) is e none = further_on kept id number bytes is (rw (← some_is (Some (next_number number)) next e) at none)
some_on kept id number next (Some (parts.Last, bytes)) is e none = absurd (rw (← some_is None next e) at none)

pub on_some : (kept : List Heard) (id : ℕ) (after next : Option ℕ) → on_from kept id after ≡ Some next → NoLast kept id next → NoLast kept id after
unfolding on_from
on_some kept id None next e none = rw (← some_is None next e) at none
on_some kept id (Some number) next e none = some_on kept id number next (part_at kept id number) refl e none

-- ---- a message whose packets break off

next_on : (number i : ℕ) → next_number (on number i) ≡ on number (suc i)
unfolding on next_number
next_on number i = omega arith

on_one : (number : ℕ) → on number 1 ≡ next_number number
unfolding on next_number
on_one number = refl

-- behind each packet of a run but the last the run goes on
run_on : (kept : List Heard) (id most number i : ℕ) (rest : List (List ℕ)) → number < 2 ^ 32 → rest_of_run signal_link kept id most number ≡ Some rest → i < length rest → (IsLast (part_at kept id (on number i)) → ⊥)
    → ((k : ℕ) → rest_of_run signal_link kept id k (on number (suc i)) ≡ None) → ⊥
run_on kept id zero number i rest a e h last none = absurd (let n = no_rest signal_link kept id number in cc)
run_on kept id (suc most) number zero rest a e h last none = go (begins signal_link kept id most number rest e)
  where
    go : Begins signal_link kept id most number rest → ⊥
    go (GoesOn bytes r l f s) = absurd (let n : rest_of_run signal_link kept id most (next_number number) ≡ None = rw (← on_one number) (none most) in cc)
    go (Stops bytes l s) = last (rw (on_none number a) (end_is (part_at kept id number) bytes (sym (lone_link (packet_at kept id number)) ∙ l)))
run_on kept id (suc most) number (suc i) rest a e h last none = go (begins signal_link kept id most number rest e)
    (λ r f g. run_on kept id most (next_number number) i r (next_below number) f g (rw (on_next number i) last) (rw (on_next number (suc i)) none))
  where
    go : Begins signal_link kept id most number rest → ((r : List (List ℕ)) → rest_of_run signal_link kept id most (next_number number) ≡ Some r → i < length r → ⊥) → ⊥
    go (GoesOn bytes r l f s) ih = ih r f (omega (arith, h, ap length s))
    go (Stops bytes l s) ih = absurd (omega (arith, h, ap length s))

-- nor behind a packet that a walk back came from
walk_on : (kept : List Heard) (id most number f d : ℕ) (bytes : List ℕ) (rest : List (List ℕ)) → Walked kept id number f bytes d → rest_of_run signal_link kept id most (next_number f) ≡ Some rest → (IsLast (part_at kept id number) → ⊥)
    → ((k : ℕ) → rest_of_run signal_link kept id k (next_number number) ≡ None) → ⊥
walk_on kept id most number f zero bytes rest w e last none =
    let same : f ≡ number = sym (on_none f w.below) ∙ w.ahead in
    absurd (let n : rest_of_run signal_link kept id most (next_number f) ≡ None = rw same (none most) in cc)
walk_on kept id most number f (suc d) bytes rest w e last none =
    let at : on (next_number f) d ≡ number = on_next f d ∙ w.ahead in
    let behind : on (next_number f) (suc d) ≡ next_number number = sym (next_on (next_number f) d) ∙ ap next_number at in
    run_on kept id most (next_number f) d rest (next_below f) e (omega (arith, walked_run kept id most number f bytes (suc d) rest w e)) (rw at last) (rw behind none)

-- no message where the packets behind a part that is not the last break off
no_last_message : (kept : List Kept) (id number : ℕ) → number < 2 ^ 32 → held kept < 2 ^ 32 → IsInOrder kept → AllByRecursion IsKeepable kept → (IsLast (part_at (map heard kept) id number) → ⊥)
    → ((k : ℕ) → rest_of_run signal_link (map heard kept) id k (next_number number) ≡ None) → messages_with (map heard kept) id number ≡ []
no_last_message kept id number a b order keepable last none = go (first_of (map heard kept) id (held kept) number) refl
  where
    rest_none : (f : ℕ) (bytes : List ℕ) → first_of (map heard kept) id (held kept) number ≡ Some (f, bytes) → (r : Option (List (List ℕ))) → rest_of_run signal_link (map heard kept) id (held kept) (next_number f) ≡ r → messages_with (map heard kept) id number ≡ []
    rest_none f bytes e None s = no_rest_message kept id number f bytes a b order keepable e s
    rest_none f bytes e (Some rest) s =
        let w = walked (map heard kept) id (held kept) number f bytes a e in
        absurd (walk_on (map heard kept) id (held kept) number f w.0 bytes rest w.2 s last none)

    go : (o : Option (ℕ × List ℕ)) → first_of (map heard kept) id (held kept) number ≡ o → messages_with (map heard kept) id number ≡ []
    go None e = no_message kept id number a b order keepable e
    go (Some (f, bytes)) e = rest_none f bytes e (rest_of_run signal_link (map heard kept) id (held kept) (next_number f)) refl

-- what is to be shown of the sides of a part: where either has none, there is no message
pub record Sided (kept : List Kept) (id number : ℕ) (before after : Option ℕ) : Type 0 where
  pub first : NoFirst (map heard kept) id before → messages_with (map heard kept) id number ≡ []
  pub last : NoLast (map heard kept) id after → messages_with (map heard kept) id number ≡ []

none_sided : (kept : List Heard) (id most number : ℕ) (o : Option (Part × List ℕ)) → part_at kept id number ≡ o → sides_by number o ≡ None → first_of kept id most number ≡ None
none_sided kept id most number None is e = from_other kept id most number None is (λ r. refl)
none_sided kept id most number (Some (parts.Whole, bytes)) is e = from_other kept id most number (Some (parts.Whole, bytes)) is (λ r. refl)
none_sided kept id most number (Some (parts.First, bytes)) is e = absurd cc
none_sided kept id most number (Some (parts.Middle, bytes)) is e = absurd cc
none_sided kept id most number (Some (parts.Last, bytes)) is e = absurd cc

-- a packet that is no part has no message in parts
pub no_sides : (kept : List Kept) (id number : ℕ) → number < 2 ^ 32 → held kept < 2 ^ 32 → IsInOrder kept → AllByRecursion IsKeepable kept → sides_by number (part_at (map heard kept) id number) ≡ None → messages_with (map heard kept) id number ≡ []
no_sides kept id number a b order keepable e = no_message kept id number a b order keepable (none_sided (map heard kept) id (held kept) number (part_at (map heard kept) id number) refl e)

first_is_not : parts.First ≡ parts.Last → ⊥
first_is_not e = cc

middle_is_not : parts.Middle ≡ parts.Last → ⊥
middle_is_not e = cc

first_not_last : (bytes : List ℕ) → IsLast (Some (parts.First, bytes)) → ⊥
first_not_last bytes l = first_is_not (ap (λ (x : Part × List ℕ). x.0) (some_is (parts.First, bytes) (parts.Last, l.0) l.1))

middle_not_last : (bytes : List ℕ) → IsLast (Some (parts.Middle, bytes)) → ⊥
middle_not_last bytes l = middle_is_not (ap (λ (x : Part × List ℕ). x.0) (some_is (parts.Middle, bytes) (parts.Last, l.0) l.1))

sides_are : (x y : Option ℕ × Option ℕ) → Some x ≡ Some y → (x.0 ≡ y.0) × (x.1 ≡ y.1)
sides_are x y e =
    let same : x ≡ y = some_is x y e in
    (ap (λ (p : Option ℕ × Option ℕ). p.0) same, ap (λ (p : Option ℕ × Option ℕ). p.1) same)

-- a part has no message where its packets break off on either side
pub part_sided : (kept : List Kept) (id number : ℕ) (before after : Option ℕ) → number < 2 ^ 32 → held kept < 2 ^ 32 → IsInOrder kept → AllByRecursion IsKeepable kept → sides_by number (part_at (map heard kept) id number) ≡ Some (before, after)
    → Sided kept id number before after
part_sided kept id number before after a b order keepable e = go (part_at (map heard kept) id number) refl e
  where
    from_back : (o : Option (Part × List ℕ)) → part_at (map heard kept) id number ≡ o → ((r : Option (ℕ × List ℕ)) → first_from number o r ≡ r) → ((most : ℕ) → first_before (map heard kept) id most (number_before number) ≡ None) → messages_with (map heard kept) id number ≡ []
    from_back o is f none = no_message kept id number a b order keepable (from_earlier (map heard kept) id (held kept) number o is f ∙ none (held kept))

    go : (o : Option (Part × List ℕ)) → part_at (map heard kept) id number ≡ o → sides_by number o ≡ Some (before, after) → Sided kept id number before after
    go None is e = absurd cc
    go (Some (parts.Whole, bytes)) is e = absurd cc
    go (Some (parts.First, bytes)) is e =
        let s = sides_are (None, Some (next_number number)) (before, after) e in
        record {
          first = λ none. absurd (rw (← s.0) at none);
          last = λ none. no_last_message kept id number a b order keepable (rw is (first_not_last bytes)) (rw (← s.1) at none);
        }
    go (Some (parts.Middle, bytes)) is e =
        let s = sides_are (Some (number_before number), Some (next_number number)) (before, after) e in
        record {
          first = λ none. from_back (Some (parts.Middle, bytes)) is (λ r. refl) (rw (← s.0) at none);
          last = λ none. no_last_message kept id number a b order keepable (rw is (middle_not_last bytes)) (rw (← s.1) at none);
        }
    go (Some (parts.Last, bytes)) is e =
        let s = sides_are (Some (number_before number), None) (before, after) e in
        record {
          first = λ none. from_back (Some (parts.Last, bytes)) is (λ r. refl) (rw (← s.0) at none);
          last = λ none. absurd (rw (← s.1) at none);
        }
