-- The parts of a unit or a message joined are its bytes.
use Rattle.std.proofs.Common.{◌≡◌, ℕ, ◌+◌, ◌*◌, ◌≤◌, zero, suc, List, [], ◌∷◌, ◌++◌, map, length, take, drop, arith, refl, ap, sym, ◌∙◌, ⊎_elim}
use Rattle.std.proofs.lemmas.Bool.{cases_eq}
use Rattle.std.proofs.lemmas.Grind.{div_ceil_times}
use Rattle.std.proofs.lemmas.List.{drop-drop, take_all}
use Rattle.mmt_frag.specs.Cuts.{part_bytes, parts}
use Rattle.mmt_model.specs.Carrying.{numbers}
use Rattle.mmt_model.specs.Units.{joined}

pub length-numbers : (j n : ℕ) → length (numbers j n) ≡ n
unfolding numbers
length-numbers j zero = refl
length-numbers j (suc n) = ap suc (length-numbers (j + 1) n)

pub take-add : {X : Type 0} (a b : ℕ) (xs : List X) → take (a + b) xs ≡ take a xs ++ take b (drop a xs)
take-add zero b xs = let z : 0 + b ≡ b = omega arith in ap (λ n. take n xs) z
take-add {X} (suc a) b [] = let s : suc a + b ≡ suc (a + b) = omega arith in ap {B = List X} (λ n. take n []) s ∙ nothing b
  where
    nothing : (b : ℕ) → ◌≡◌ {A = List X} [] (take b [])
    nothing zero = refl
    nothing (suc b) = refl
take-add (suc a) b (x ∷ xs) = let s : suc a + b ≡ suc (a + b) = omega arith in ap (λ n. take n (x ∷ xs)) s ∙ ap (λ l. x ∷ l) (take-add a b xs)

joined-from : (limit : ℕ) (bytes : List ℕ) (j n : ℕ) → joined (map (λ k. part_bytes limit k bytes) (numbers j n)) ≡ take (n * limit) (drop (j * limit) bytes)
unfolding numbers part_bytes
joined-from limit bytes j zero = let z : 0 ≡ 0 * limit = omega arith in ap (λ m. take m (drop (j * limit) bytes)) z
joined-from limit bytes j (suc n) =
    let s : limit + n * limit ≡ suc n * limit = omega arith in
    let t : j * limit + limit ≡ (j + 1) * limit = omega arith in
    ap (λ l. take limit (drop (j * limit) bytes) ++ l) (joined-from limit bytes (j + 1) n ∙ ap (λ m. take (n * limit) (drop m bytes)) (sym t) ∙ ap (take (n * limit)) (sym (drop-drop limit (j * limit) bytes)))
    ∙ (sym (take-add limit (n * limit) (drop (j * limit) bytes)) ∙ ap (λ m. take m (drop (j * limit) bytes)) s)

pub joined-parts : (limit : ℕ) (bytes : List ℕ) (n : ℕ) → length bytes ≤ n * limit → joined (map (λ k. part_bytes limit k bytes) (numbers 0 n)) ≡ bytes
joined-parts limit bytes n l =
    let z : 0 * limit ≡ 0 = omega arith in
    joined-from limit bytes 0 n ∙ (ap (λ m. take (n * limit) (drop m bytes)) z ∙ take_all (n * limit) bytes l)

-- where all is in one part, that is all
pub one-part : (limit : ℕ) (bytes : List ℕ) → length bytes ≤ limit → part_bytes limit 0 bytes ≡ bytes
unfolding part_bytes
one-part limit bytes l = let z : 0 * limit ≡ 0 = omega arith in ap (λ m. take limit (drop m bytes)) z ∙ take_all limit bytes l

pub parts-enough : (l limit : ℕ) → 1 ≤ limit → l ≤ parts l limit * limit
parts-enough l limit some = (div_ceil_times l limit (omega arith)).0

pub parts-some : (l limit : ℕ) → 1 ≤ limit → 1 ≤ l → 1 ≤ parts l limit
parts-some l limit some more =
    ⊎_elim
    (λ (e : parts l limit ≡ 0). (let z = ap (λ n. n * limit) e in absurd (omega (arith, z, more, parts-enough l limit some))))
    (λ (ne : parts l limit ≡ 0 → ⊥). one-from (parts l limit) ne)
    (cases_eq (parts l limit) 0)
  where
    one-from : (n : ℕ) → (n ≡ 0 → ⊥) → 1 ≤ n
    one-from zero ne = absurd (ne refl)
    one-from (suc n) ne = omega arith
