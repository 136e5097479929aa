-- Texts of items appended one by one, and what stood before them.
use Rattle.std.proofs.Common.{◌≡◌, ◌∙◌, sym, ap, ℕ, ◌≤◌, List, ◌∷◌, ◌++◌, length, take, arith, append_assoc}
use Rattle.std.specs.List.{flat_map, All}
use Rattle.std.proofs.lemmas.List.{length-take, take-append-le}
use Rattle.std.proofs.lemmas.List.Concat.{flat_map-cons}
use Rattle.std.proofs.lemmas.List.Elements.{All-tail}

-- the text of the first item that is left was appended
pub one_more : {A : Type 0} (text : A → List ℕ) (now next all : List ℕ) (left : List A) (x : A) (xs : List A) → left ≡ x ∷ xs → next ≡ now ++ text x → now ++ flat_map text left ≡ all → next ++ flat_map text xs ≡ all
one_more text now next all left x xs is more before =
    rw more (append_assoc now (text x) (flat_map text xs) ∙ ap (λ (z : List ℕ). now ++ z) (sym (flat_map-cons text x xs) ∙ ap (flat_map text) (sym is)) ∙ before)

-- what stood there stands there still
pub front_more : (n : ℕ) (old now next more : List ℕ) → n ≡ length old → next ≡ now ++ more → take n now ≡ old → take n next ≡ old
front_more n old now next more len is front =
    let long : n ≤ length now = omega (arith, ap length front, len, length-take n now) in
    ap (take n) is ∙ (take-append-le n now more long ∙ front)

-- what holds of all that are left holds of those after the first
pub others : {A : Type 0} (P : A → Type 0) (left : List A) (x : A) (xs : List A) → left ≡ x ∷ xs → All P left → All P xs
others P left x xs is all = All-tail P x xs (rw is at all)
