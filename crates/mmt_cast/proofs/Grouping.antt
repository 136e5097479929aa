-- How many units are gathered.
use Rattle.std.proofs.Common.{zero, ◌≡◌, ℕ, ◌+◌, ◌-◌, ◌<◌, ◌≤◌, suc, Bool, true, false, ◌==◌, ◌&&◌, cond, nat_le, List, [], ◌∷◌, map, length, get_or, take, arith, refl, ap, max}
use Rattle.std.specs.List.{prefix_len, sum_by}
use Rattle.std.proofs.lemmas.Bool.{and_parts, eqb-true, leb-true}
use Rattle.std.proofs.lemmas.List.{length-map, length-take, take-map, take-take}
use Rattle.std.proofs.lemmas.List.Sums.{prefix_len-le-length, prefix_len_passes, sum_by-cons}
use Rattle.mmt_frag.specs.Cuts.{fitting, gathered}
use Rattle.mmt_cast.specs.Placing.{PlacedUnit}
use Rattle.mmt_cast.specs.Sending.{candidates, group_size, header_length, is_short, may_join}
use Rattle.mmt_model.specs.declared.programmes.Programme.{Programme}

fitting-le : (header room : ℕ) (lengths : List ℕ) → fitting header room lengths ≤ length lengths
unfolding fitting
fitting-le header room [] = omega arith
fitting-le header room (l ∷ ls) = go (nat_le (2 + header + l) room) (fitting-le header (room - (2 + header + l)) ls)
  where
    go : (t : Bool) → fitting header (room - (2 + header + l)) ls ≤ length ls → cond t (suc (fitting header (room - (2 + header + l)) ls)) 0 ≤ suc (length ls)
    go true ih = omega arith
    go false ih = omega arith

gathered-some : (header limit l : ℕ) (ls : List ℕ) → 1 ≤ gathered header limit (l ∷ ls)
unfolding gathered
gathered-some header limit l ls = omega arith

gathered-le : (header limit l : ℕ) (ls : List ℕ) → gathered header limit (l ∷ ls) ≤ suc (length ls)
unfolding gathered
gathered-le header limit l ls = omega (arith, fitting-le header limit (l ∷ ls))

pub group-some : (programme : Programme) (x : PlacedUnit) (rest : List PlacedUnit) → 1 ≤ group_size programme x rest
unfolding group_size candidates
group-some programme x rest = go (is_short programme x)
  where
    go : (t : Bool) → 1 ≤ cond t (gathered (header_length x) programme.limit (map (λ (y : PlacedUnit). y.value.length) (x ∷ take (prefix_len (may_join programme x) rest) rest))) 1
    go true = gathered-some (header_length x) programme.limit x.value.length (map (λ (y : PlacedUnit). y.value.length) (take (prefix_len (may_join programme x) rest) rest))
    go false = omega arith

pub group-within : (programme : Programme) (x : PlacedUnit) (rest : List PlacedUnit) → group_size programme x rest ≤ suc (prefix_len (may_join programme x) rest)
unfolding group_size candidates
group-within programme x rest = go (is_short programme x)
  where
    go : (t : Bool) → cond t (gathered (header_length x) programme.limit (map (λ (y : PlacedUnit). y.value.length) (x ∷ take (prefix_len (may_join programme x) rest) rest))) 1 ≤ suc (prefix_len (may_join programme x) rest)
    go true =
        omega (
          arith,
          gathered-le (header_length x) programme.limit x.value.length (map (λ (y : PlacedUnit). y.value.length) (take (prefix_len (may_join programme x) rest) rest)),
          length-map (take (prefix_len (may_join programme x) rest) rest) (λ (y : PlacedUnit). y.value.length),
          length-take (prefix_len (may_join programme x) rest) rest,
        )
    go false = omega arith

pub group-le : (programme : Programme) (x : PlacedUnit) (rest : List PlacedUnit) → group_size programme x rest ≤ suc (length rest)
group-le programme x rest = omega (arith, group-within programme x rest, prefix_len-le-length (may_join programme x) rest)

-- a group of several units begins with a short one
pub group-short : (programme : Programme) (x : PlacedUnit) (rest : List PlacedUnit) → 1 < group_size programme x rest → x.value.length ≤ programme.limit
unfolding group_size is_short
group-short programme x rest l = go (nat_le x.value.length programme.limit) refl l
  where
    go : (t : Bool) → nat_le x.value.length programme.limit ≡ t → 1 < cond t (gathered (header_length x) programme.limit (map (λ (y : PlacedUnit). y.value.length) (candidates programme x rest))) 1 → x.value.length ≤ programme.limit
    go true e l = leb-true x.value.length programme.limit e
    go false e l = absurd (omega arith)

-- each further unit of a group is of the same MPU and short
pub group-joins : (programme : Programme) (x : PlacedUnit) (rest : List PlacedUnit) (j : ℕ) (d : PlacedUnit) → suc j < group_size programme x rest
    → ((get_or rest j d).mpu_place ≡ x.mpu_place) × ((get_or rest j d).value.length ≤ programme.limit)
unfolding may_join is_short
group-joins programme x rest j d l =
    let y : PlacedUnit = get_or rest j d in
    let t = prefix_len_passes (may_join programme x) rest j d (omega (arith, l, group-within programme x rest)) in
    let p = and_parts (y.mpu_place == x.mpu_place) ((y.value.at.0 == x.value.at.0) && is_short programme y) t in
    let q = and_parts (y.value.at.0 == x.value.at.0) (is_short programme y) p.1 in
    (eqb-true y.mpu_place x.mpu_place p.0, leb-true y.value.length programme.limit q.1)

-- those that are gathered go into the limit
fits-sum : (header room : ℕ) (ls : List ℕ) → sum_by (λ l. 2 + header + l) (take (fitting header room ls) ls) ≤ room
unfolding fitting
fits-sum header room [] = omega arith
fits-sum header room (l ∷ ls) = go (nat_le (2 + header + l) room) refl (fits-sum header (room - (2 + header + l)) ls)
  where
    go : (t : Bool) → nat_le (2 + header + l) room ≡ t → sum_by (λ k. 2 + header + k) (take (fitting header (room - (2 + header + l)) ls) ls) ≤ room - (2 + header + l)
        → sum_by (λ k. 2 + header + k) (take (cond t (suc (fitting header (room - (2 + header + l)) ls)) 0) (l ∷ ls)) ≤ room
    go true e ih = omega (arith, ih, sum_by-cons (λ k. 2 + header + k) l (take (fitting header (room - (2 + header + l)) ls) ls), leb-true (2 + header + l) room e)
    go false e ih = omega arith

sum-map : {X : Type 0} (f : ℕ → ℕ) (g : X → ℕ) (xs : List X) → sum_by f (map g xs) ≡ sum_by (λ x. f (g x)) xs
sum-map f g [] = refl
sum-map f g (x ∷ xs) = omega (arith, sum_by-cons f (g x) (map g xs), sum_by-cons (λ y. f (g y)) x xs, sum-map f g xs)

gathered-fits : (header limit l : ℕ) (ls : List ℕ) → 1 < gathered header limit (l ∷ ls) → sum_by (λ k. 2 + header + k) (take (gathered header limit (l ∷ ls)) (l ∷ ls)) ≤ limit
unfolding gathered
gathered-fits header limit l ls more =
    let e : max 1 (fitting header limit (l ∷ ls)) ≡ fitting header limit (l ∷ ls) = omega arith in
    omega (arith, fits-sum header limit (l ∷ ls), ap (λ n. sum_by (λ k. 2 + header + k) (take n (l ∷ ls))) e)

front-same : (x : PlacedUnit) (rest : List PlacedUnit) (n m : ℕ) → n ≤ suc m → take n (x ∷ take m rest) ≡ take n (x ∷ rest)
front-same x rest zero m l = refl
front-same x rest (suc n) m l = ap (λ ys. x ∷ ys) (take-take n m rest (omega arith))

pub group-fits : (programme : Programme) (x : PlacedUnit) (rest : List PlacedUnit) → 1 < group_size programme x rest
    → sum_by (λ y. 2 + header_length x + y.value.length) (take (group_size programme x rest) (x ∷ rest)) ≤ programme.limit
unfolding group_size candidates
group-fits programme x rest more = go (is_short programme x) more (group-within programme x rest)
  where
    go : (t : Bool) → 1 < cond t (gathered (header_length x) programme.limit (map (λ (y : PlacedUnit). y.value.length) (x ∷ take (prefix_len (may_join programme x) rest) rest))) 1
        → cond t (gathered (header_length x) programme.limit (map (λ (y : PlacedUnit). y.value.length) (x ∷ take (prefix_len (may_join programme x) rest) rest))) 1 ≤ suc (prefix_len (may_join programme x) rest)
        → sum_by (λ (y : PlacedUnit). 2 + header_length x + y.value.length) (take (cond t (gathered (header_length x) programme.limit (map (λ (y : PlacedUnit). y.value.length) (x ∷ take (prefix_len (may_join programme x) rest) rest))) 1) (x ∷ rest)) ≤ programme.limit
    go true l within =
        let m : ℕ = prefix_len (may_join programme x) rest in
        let some : List PlacedUnit = x ∷ take m rest in
        let lengths : List ℕ = map (λ (y : PlacedUnit). y.value.length) (take m rest) in
        let n : ℕ = gathered (header_length x) programme.limit (x.value.length ∷ lengths) in
        let f = gathered-fits (header_length x) programme.limit x.value.length lengths l in
        let a = ap (sum_by (λ k. 2 + header_length x + k)) (take-map (λ (y : PlacedUnit). y.value.length) n some) in
        let b = sum-map (λ k. 2 + header_length x + k) (λ (y : PlacedUnit). y.value.length) (take n some) in
        let c = ap (sum_by (λ (y : PlacedUnit). 2 + header_length x + y.value.length)) (front-same x rest n m within) in
        omega (arith, f, a, b, c)
    go false l within = absurd (omega arith)
