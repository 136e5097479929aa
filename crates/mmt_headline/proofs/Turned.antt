-- Lists in the order of the stream, and turned; and which places of a delivery are heard.
use Rattle.std.proofs.Common.{◌≡◌, ℕ, ◌%◌, Bool, true, false, ◌||◌, ◌==◌, cond, List, [], ◌∷◌, ◌++◌, map, refl, ap, ◌∙◌}
use Rattle.std.specs.List.{AllByRecursion, list_any}
use Rattle.std.proofs.lemmas.List.{append-nil}
use Rattle.mmt_model.specs.Delivery.{from_heard, newest_first, onto}

-- ---- turning

pub onto-map : {X Y : Type 0} (f : X → Y) (xs older : List X) → map f (onto xs older) ≡ onto (map f xs) (map f older)
unfolding onto
onto-map f [] older = refl
onto-map f (x ∷ xs) older = onto-map f xs (x ∷ older)

pub turned-map : {X Y : Type 0} (f : X → Y) (xs : List X) → map f (newest_first xs) ≡ newest_first (map f xs)
unfolding newest_first
turned-map f xs = onto-map f xs []

onto-onto : {X : Type 0} (xs ys zs : List X) → onto (onto xs ys) zs ≡ onto ys (xs ++ zs)
unfolding onto
onto-onto [] ys zs = refl
onto-onto (x ∷ xs) ys zs = onto-onto xs (x ∷ ys) zs

pub turned-twice : {X : Type 0} (xs : List X) → newest_first (newest_first xs) ≡ xs
unfolding newest_first onto
turned-twice xs = onto-onto xs [] [] ∙ append-nil xs

each-onto : {X : Type 0} (P : X → Type 0) (xs older : List X) → AllByRecursion P xs → AllByRecursion P older → AllByRecursion P (onto xs older)
unfolding onto
each-onto P [] older p q = q
each-onto P (x ∷ xs) older p q = each-onto P xs (x ∷ older) p.1 (p.0, q)

pub each-turned : {X : Type 0} (P : X → Type 0) (xs : List X) → AllByRecursion P xs → AllByRecursion P (newest_first xs)
unfolding newest_first
each-turned P xs p = each-onto P xs [] p tt

-- ---- which places are heard, the newest first

-- the packet at a place has a full header
abbrev pub is_full : ℕ → ℕ → Bool
is_full full_every n = (full_every == 0) || (n % full_every == 0)

abbrev pub any_full : ℕ → List ℕ → Bool
any_full full_every hist = list_any (is_full full_every) hist

-- the places that are heard: those with a full header at them or before
abbrev pub heard_places : ℕ → List ℕ → List ℕ
heard_places full_every [] = []
heard_places full_every (n ∷ older) = cond (any_full full_every (n ∷ older)) (n ∷ heard_places full_every older) []

pub each-heard : (P : ℕ → Type 0) (full_every : ℕ) (hist : List ℕ) → AllByRecursion P hist → AllByRecursion P (heard_places full_every hist)
each-heard P full_every [] p = tt
each-heard P full_every (n ∷ older) p = go (any_full full_every (n ∷ older)) (each-heard P full_every older p.1)
  where
    go : (b : Bool) → AllByRecursion P (heard_places full_every older) → AllByRecursion P (cond b (n ∷ heard_places full_every older) [])
    go true later = (p.0, later)
    go false later = tt

or-true : (a b : Bool) → b ≡ true → (a || b) ≡ true
or-true true b e = refl
or-true false b e = e

goes-on : (full_every : ℕ) (ds older : List ℕ) → any_full full_every older ≡ true → heard_places full_every (onto ds older) ≡ onto ds (heard_places full_every older)
unfolding onto
goes-on full_every [] older e = refl
goes-on full_every (d ∷ ds) older e =
    let here : any_full full_every (d ∷ older) ≡ true = or-true (is_full full_every d) (any_full full_every older) e in
    goes-on full_every ds (d ∷ older) here ∙ ap (λ (b : Bool). onto ds (cond b (d ∷ heard_places full_every older) [])) here

or-is : (a b c : Bool) → a ≡ c → b ≡ false → (a || b) ≡ c
or-is true b true e f = refl
or-is true b false e f = absurd cc
or-is false b c e f = f ∙ e

step : (full_every d : ℕ) (ds older : List ℕ) → any_full full_every older ≡ false → heard_places full_every older ≡ []
    → (any_full full_every (d ∷ older) ≡ false → heard_places full_every (d ∷ older) ≡ [] → heard_places full_every (onto ds (d ∷ older)) ≡ newest_first (from_heard full_every ds))
    → (b : Bool) → is_full full_every d ≡ b → heard_places full_every (onto ds (d ∷ older)) ≡ newest_first (cond b (d ∷ ds) (from_heard full_every ds))
unfolding newest_first onto
step full_every d ds older none empty later true e =
    let here : any_full full_every (d ∷ older) ≡ true = or-is (is_full full_every d) (any_full full_every older) true e none in
    goes-on full_every ds (d ∷ older) here ∙ ap (λ (b : Bool). onto ds (cond b (d ∷ heard_places full_every older) [])) here ∙ ap (λ (ns : List ℕ). onto ds (d ∷ ns)) empty
step full_every d ds older none empty later false e =
    let here : any_full full_every (d ∷ older) ≡ false = or-is (is_full full_every d) (any_full full_every older) false e none in
    later here (ap (λ (b : Bool). cond b (d ∷ heard_places full_every older) []) here)

begins : (full_every : ℕ) (ds older : List ℕ) → any_full full_every older ≡ false → heard_places full_every older ≡ [] → heard_places full_every (onto ds older) ≡ newest_first (from_heard full_every ds)
unfolding onto newest_first from_heard
begins full_every [] older none empty = empty
begins full_every (d ∷ ds) older none empty = step full_every d ds older none empty (begins full_every ds (d ∷ older)) (is_full full_every d) refl

pub heard-turned : (full_every : ℕ) (ds : List ℕ) → heard_places full_every (newest_first ds) ≡ newest_first (from_heard full_every ds)
unfolding newest_first
heard-turned full_every ds = begins full_every ds [] refl refl
