-- One step of a walk from packet to packet, back to a first part or on to a last one.
use Rattle.std.proofs.Common.{◌≡◌, ℕ, zero, suc, ◌+◌, ◌-◌, ◌<◌, ◌≤◌, List, ◌∷◌, map, length, refl, ap, sym, ◌∙◌, Option, Some, None, arith}
use Rattle.std.proofs.lemmas.List.{append-nil, length-append}
use Rattle.mmt_model.specs.declared.keys.Part.{Part}
use Rattle.mmt_model.specs.declared.keys.Part.TheVariants as parts
use Rattle.mmt_model.specs.Packets.{Heard}
use Rattle.mmt_model.specs.Units.{Link, packet_at, link_at, signal_link, after_link, rest_of_run, next_number, joined}
use Rattle.mmt_pool.specs.Holding.{Kept}
use Rattle.mmt_runs.specs.Reading.{heard}
use Rattle.mmt_runs.specs.MessageParts.{lone_at, part_bytes, parts_from, all_parts, number_before, first_by, first_before, first_from, first_of, Ends}
use Rattle.mmt_runs.proofs.Sums.{weights, weight_at, within_at, goes_on, stops}
use Rattle.mmt_runs.proofs.LoneParts.{link_of, lone_link, signals_within}

-- ---- back

pub first_zero : (kept : List Heard) (id most number : ℕ) → most ≡ 0 → first_before kept id most number ≡ None
unfolding first_before
first_zero kept id most number e = rw e refl

pub first_other : (kept : List Heard) (id most number : ℕ) (o : Option (Part × List ℕ)) → lone_at (packet_at kept id number) ≡ o → ((r : Option (ℕ × List ℕ)) → first_by number o r ≡ None) → first_before kept id most number ≡ None
unfolding first_before
first_other kept id zero number o e n = refl
first_other kept id (suc most) number o e n = rw e (n (first_before kept id most (number_before number)))

pub first_here : (kept : List Heard) (id most number : ℕ) (bytes : List ℕ) → 0 < most → lone_at (packet_at kept id number) ≡ Some (parts.First, bytes) → first_before kept id most number ≡ Some (number, bytes)
unfolding first_before
first_here kept id zero number bytes h e = absurd (omega arith)
first_here kept id (suc most) number bytes h e = rw e refl

pub first_back : (kept : List Heard) (id most number : ℕ) (bytes : List ℕ) → 0 < most → lone_at (packet_at kept id number) ≡ Some (parts.Middle, bytes) → first_before kept id most number ≡ first_before kept id (most - 1) (number_before number)
unfolding first_before
first_back kept id zero number bytes h e = absurd (omega arith)
first_back kept id (suc most) number bytes h e = rw e (ap (λ k. first_before kept id k (number_before number)) (omega arith))

-- ---- on

by_link : (kept : List Heard) (id number : ℕ) (o : Option (Part × List ℕ)) → lone_at (packet_at kept id number) ≡ o → link_at signal_link (packet_at kept id number) ≡ link_of o
by_link kept id number o e = lone_link (packet_at kept id number) ∙ ap link_of e

pub rest_zero : (kept : List Heard) (id most number : ℕ) → most ≡ 0 → rest_of_run signal_link kept id most number ≡ None
unfolding rest_of_run
rest_zero kept id most number e = rw e refl

pub rest_other : (kept : List Heard) (id most number : ℕ) (o : Option (Part × List ℕ)) → lone_at (packet_at kept id number) ≡ o → link_of o ≡ Link.Break → rest_of_run signal_link kept id most number ≡ None
unfolding rest_of_run after_link
rest_other kept id zero number o e b = refl
rest_other kept id (suc most) number o e b = rw (by_link kept id number o e, b) refl

pub rest_last : (kept : List Heard) (id most number : ℕ) (bytes : List ℕ) → 0 < most → lone_at (packet_at kept id number) ≡ Some (parts.Last, bytes) → Ends kept id most number (Some (1, length bytes))
unfolding parts_from
rest_last kept id zero number bytes h e = absurd (omega arith)
rest_last kept id (suc most) number bytes h e = rw e (stops signal_link kept id most number bytes (by_link kept id number (Some (parts.Last, bytes)) e), ap length (sym (append-nil bytes)))

pub rest_broken : (kept : List Heard) (id most number : ℕ) (bytes : List ℕ) → 0 < most → lone_at (packet_at kept id number) ≡ Some (parts.Middle, bytes) → rest_of_run signal_link kept id (most - 1) (next_number number) ≡ None → rest_of_run signal_link kept id most number ≡ None
unfolding rest_of_run after_link
rest_broken kept id zero number bytes h e r = absurd (omega arith)
rest_broken kept id (suc most) number bytes h e r =
    let s : suc most - 1 ≡ most = omega arith in
    let f : rest_of_run signal_link kept id most (next_number number) ≡ None = rw s at r in
    rw (by_link kept id number (Some (parts.Middle, bytes)) e, f) refl

pub rest_on : (kept : List Heard) (id most number : ℕ) (bytes : List ℕ) (count total : ℕ) → 0 < most → lone_at (packet_at kept id number) ≡ Some (parts.Middle, bytes) → Ends kept id (most - 1) (next_number number) (Some (count, total)) → Ends kept id most number (Some (suc count, length bytes + total))
unfolding parts_from
rest_on kept id zero number bytes count total h e r = absurd (omega arith)
rest_on kept id (suc most) number bytes count total h e r =
    let s : suc most - 1 ≡ most = omega arith in
    let f : rest_of_run signal_link kept id most (next_number number) ≡ Some (parts_from kept id count (next_number number)) = rw s at r.0 in
    rw e (goes_on signal_link kept id most number bytes (parts_from kept id count (next_number number)) (by_link kept id number (Some (parts.Middle, bytes)) e) f, omega (arith, r.1, length-append bytes (joined (parts_from kept id count (next_number number)))))

-- a part counts for its bytes and two more among the bytes that are kept
pub middle_weighs : (kept : List Kept) (id most number : ℕ) (bytes : List ℕ) → 0 < most → lone_at (packet_at (map heard kept) id number) ≡ Some (parts.Middle, bytes)
    → 2 + length bytes + weights (λ h. h.length) (map heard kept) id (most - 1) (next_number number) ≤ weights (λ h. h.length) (map heard kept) id most number
unfolding weights
middle_weighs kept id zero number bytes h e = absurd (omega arith)
middle_weighs kept id (suc most) number bytes h e =
    let s : suc most - 1 ≡ most = omega arith in
    let here : 2 + length bytes ≤ weight_at (λ h. h.length) (packet_at (map heard kept) id number) = rw (by_link (map heard kept) id number (Some (parts.Middle, bytes)) e) at (within_at 2 signal_link signals_within kept id number) in
    rw s (omega (arith, here))

pub last_weighs : (kept : List Kept) (id most number : ℕ) (bytes : List ℕ) → 0 < most → lone_at (packet_at (map heard kept) id number) ≡ Some (parts.Last, bytes)
    → 2 + length bytes ≤ weights (λ h. h.length) (map heard kept) id most number
unfolding weights
last_weighs kept id zero number bytes h e = absurd (omega arith)
last_weighs kept id (suc most) number bytes h e =
    let here : 2 + length bytes ≤ weight_at (λ h. h.length) (packet_at (map heard kept) id number) = rw (by_link (map heard kept) id number (Some (parts.Last, bytes)) e) at (within_at 2 signal_link signals_within kept id number) in
    omega (arith, here)

-- ---- the parts that are left

pub parts_step : (kept : List Heard) (id left : ℕ) (bytes : List ℕ) (number : ℕ) → (left ≡ 0 → ⊥) → all_parts kept id left bytes number ≡ bytes ∷ parts_from kept id (left - 1) number
parts_step kept id zero bytes number n = absurd (n refl)
parts_step kept id (suc left) bytes number n = ap (λ k. bytes ∷ parts_from kept id k number) (omega arith)

pub parts_rest : (kept : List Heard) (id left number : ℕ) (bytes : List ℕ) → bytes ≡ part_bytes (lone_at (packet_at kept id number)) → parts_from kept id left number ≡ all_parts kept id left bytes (next_number number)
unfolding parts_from
parts_rest kept id zero number bytes e = refl
parts_rest kept id (suc left) number bytes e = ap (λ b. b ∷ parts_from kept id left (next_number number)) (sym e)

pub ends_again : (kept : List Heard) (id most number count total count' total' : ℕ) → count ≡ count' → total ≡ total' → Ends kept id most number (Some (count, total)) → Ends kept id most number (Some (count', total'))
ends_again kept id most number count total count' total' c t e = rw (← c, ← t) e

-- the first part of a message, by what the packet that it is asked for is
pub from_other : (kept : List Heard) (id most number : ℕ) (o : Option (Part × List ℕ)) → lone_at (packet_at kept id number) ≡ o → ((r : Option (ℕ × List ℕ)) → first_from number o r ≡ None) → first_of kept id most number ≡ None
unfolding first_of
from_other kept id most number o e n = rw e (n (first_before kept id most (number_before number)))

pub from_first : (kept : List Heard) (id most number : ℕ) (bytes : List ℕ) → lone_at (packet_at kept id number) ≡ Some (parts.First, bytes) → first_of kept id most number ≡ Some (number, bytes)
unfolding first_of
from_first kept id most number bytes e = rw e refl

pub from_earlier : (kept : List Heard) (id most number : ℕ) (o : Option (Part × List ℕ)) → lone_at (packet_at kept id number) ≡ o → ((r : Option (ℕ × List ℕ)) → first_from number o r ≡ r) → first_of kept id most number ≡ first_before kept id most (number_before number)
unfolding first_of
from_earlier kept id most number o e n = rw e (n (first_before kept id most (number_before number)))
