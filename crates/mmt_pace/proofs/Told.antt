-- Packet id and number tell the packets of a programme's cast apart.
use Rattle.std.proofs.Common.{◌≡◌, ◌≤◌, suc, zero, Bool, true, false, cond, List, [], ◌∷◌, ◌++◌, arith, refl, ap, sym}
use Rattle.std.specs.List.{AllByRecursion}
use Rattle.mmt_cast.proofs.Listing.{each-at, each-weaker}
use Rattle.mmt_cast.proofs.Numbering.{count-push, from-earlier}
use Rattle.mmt_cast.specs.Casting.{cast_of, count_of_id, is_sent_before, numbered_after, planned, with_number}
use Rattle.mmt_model.specs.Sorted.{insert_by, sort_by}
use Rattle.mmt_model.specs.Survival.{no_packet}
use Rattle.mmt_model.specs.declared.casts.Sent.{Sent}
use Rattle.mmt_pace.specs.Laws.{AreTold, CastsAreTold}

abbrev pub Differ : Sent → Sent → Type 0
Differ p q = p.packet_id ≡ q.packet_id → p.number ≡ q.number → ⊥

abbrev pub AllDiffer : List Sent → Type 0
AllDiffer [] = Unit {0}
AllDiffer (p ∷ ps) = AllByRecursion (Differ p) ps × AllDiffer ps

pub numbered-differ : (e xs : List Sent) → AllDiffer (numbered_after e xs)
unfolding numbered_after with_number
numbered-differ e [] = tt
numbered-differ e (x ∷ xs) = (
  each-weaker (λ q. count_of_id q.packet_id (e ++ x ∷ []) ≤ q.number) (Differ (with_number x (count_of_id x.packet_id e))) (numbered_after (e ++ x ∷ []) xs)
      (λ q l i n. omega (arith, l, n, count-push x.packet_id x e refl, ap (λ k. count_of_id k (e ++ x ∷ [])) i)) (from-earlier (e ++ x ∷ []) xs),
  numbered-differ (e ++ x ∷ []) xs,
)

each-insert : (P : Sent → Type 0) (before : Sent → Sent → Bool) (x : Sent) (xs : List Sent) → P x → AllByRecursion P xs → AllByRecursion P (insert_by before x xs)
unfolding insert_by
each-insert P before x [] p e = (p, tt)
each-insert P before x (y ∷ ys) p e = go (before y x) (each-insert P before x ys p e.1)
  where
    go : (t : Bool) → AllByRecursion P (insert_by before x ys) → AllByRecursion P (cond t (y ∷ insert_by before x ys) (x ∷ y ∷ ys))
    go true ih = (e.0, ih)
    go false ih = (p, e)

insert-differ : (before : Sent → Sent → Bool) (x : Sent) (xs : List Sent) → AllByRecursion (Differ x) xs → AllDiffer xs → AllDiffer (insert_by before x xs)
unfolding insert_by
insert-differ before x [] d all = (tt, tt)
insert-differ before x (y ∷ ys) d all = go (before y x) (insert-differ before x ys d.1 all.1) (each-insert (Differ y) before x ys (λ i n. d.0 (sym i) (sym n)) all.0)
  where
    go : (t : Bool) → AllDiffer (insert_by before x ys) → AllByRecursion (Differ y) (insert_by before x ys) → AllDiffer (cond t (y ∷ insert_by before x ys) (x ∷ y ∷ ys))
    go true ih own = (own, ih)
    go false ih own = (d, all)

each-sorted : (P : Sent → Type 0) (before : Sent → Sent → Bool) (xs : List Sent) → AllByRecursion P xs → AllByRecursion P (sort_by before xs)
unfolding sort_by
each-sorted P before [] e = tt
each-sorted P before (x ∷ xs) e = each-insert P before x (sort_by before xs) e.0 (each-sorted P before xs e.1)

sort-differ : (before : Sent → Sent → Bool) (xs : List Sent) → AllDiffer xs → AllDiffer (sort_by before xs)
unfolding sort_by
sort-differ before [] all = tt
sort-differ before (x ∷ xs) all = insert-differ before x (sort_by before xs) (each-sorted (Differ x) before xs all.0) (sort-differ before xs all.1)

told-by : (xs : List Sent) → AllDiffer xs → AreTold xs
told-by [] all m n lm ln i e = absurd (omega arith)
told-by (x ∷ xs) all zero zero lm ln i e = refl
told-by (x ∷ xs) all zero (suc n) lm ln i e = absurd (each-at (Differ x) xs n no_packet all.0 (omega arith) i e)
told-by (x ∷ xs) all (suc m) zero lm ln i e = absurd (each-at (Differ x) xs m no_packet all.0 (omega arith) (sym i) (sym e))
told-by (x ∷ xs) all (suc m) (suc n) lm ln i e = ap suc (told-by xs all.1 m n (omega arith) (omega arith) i e)

pub casts-are-told : CastsAreTold
unfolding cast_of planned
casts-are-told programme = told-by (sort_by is_sent_before (planned programme)) (sort-differ is_sent_before (planned programme) (numbered-differ [] _))
