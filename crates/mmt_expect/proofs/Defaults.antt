-- Items of lists.
use Rattle.std.proofs.Common.{◌≡◌, ℕ, ◌<◌, zero, suc, List, [], ◌∷◌, ◌++◌, length, get_or, take, drop, arith, refl, ap, sym, ◌∙◌}
use Rattle.std.proofs.Math.Seq.{take-append_seam}

-- the item at a place of a list, whatever stands for places outside it
pub same-item : {X : Type 0} (xs : List X) (i : ℕ) (d e : X) → i < length xs → get_or xs i d ≡ get_or xs i e
same-item [] i d e l = absurd (omega arith)
same-item (x ∷ xs) zero d e l = refl
same-item (x ∷ xs) (suc i) d e l = same-item xs i d e (omega arith)

-- what was lent whole comes back whole
pub whole-back : (new items : List ℕ) (n : ℕ) → length new ≡ n → length items ≡ n → take n (new ++ drop (length new) items) ≡ new
whole-back new items n e f =
    ap (λ k. take k (new ++ drop (length new) items)) (sym e) ∙ take-append_seam new (drop (length new) items)
