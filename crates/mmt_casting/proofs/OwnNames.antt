-- The names of an asset's MPUs in a table: they stand side by side, and are as many as the MPUs that are named.
use Rattle.std.proofs.Common.{◌≡◌, ℕ, ◌+◌, ◌-◌, ◌*◌, ◌<◌, ◌≤◌, ◌^◌, suc, zero, Bool, true, false, ◌==◌, ◌||◌, cond, inl, inr, ⊎_elim, List, [], ◌∷◌, ◌++◌, map, length, get_or, take, drop, arith, refl, ap, ap₂, sym, ◌∙◌, subst}
use Rattle.std.specs.Int.{div_ceil}
use Rattle.std.specs.List.{AllByRecursion, filter, list_any, sum_by}
use Rattle.std.proofs.lemmas.Bool.{and_from, and_left, and_right, cases_eq, cases_lt, eq-eqb, eqb-true, ne_eqb}
use Rattle.std.proofs.lemmas.List.{at_drop_more, drop_all, drop-drop, get_or_default, length-map, take-append-drop}
use Rattle.std.proofs.lemmas.List.Elements.{All-take, recursion_from_All}
use Rattle.std.proofs.lemmas.List.Folds.{list_any-append}
use Rattle.std.proofs.lemmas.List.Sums.{sum_by-cons}
use Rattle.mmt_cast.proofs.Listing.{IsIn, at-map_from_0, each-append, each-at, each-weaker, in-at, length-map_from}
use Rattle.mmt_cast.proofs.Placed.{each-map_from}
use Rattle.mmt_cast.proofs.Rising.{IsNameIn, Rise, pair, pick, picked}
use Rattle.mmt_cast.specs.Casting.{place_of_mpu}
use Rattle.mmt_cast.specs.Placing.{PlacedMpu, map_from, mpus_of}
use Rattle.mmt_cast.specs.Right.{no_mpu, no_placed_mpu}
use Rattle.mmt_cast.specs.Tables.{asset_length, extended_length, is_named_by, is_same_pair, named_of_asset}
use Rattle.mmt_base.specs.declared.ticks.LongTick.{LongTick}
use Rattle.mmt_casting.proofs.Long.{asset-sums, lengths-next, lengths_from}
use Rattle.mmt_casting.specs.Ends.{AssetFits, NamesFit, ProgrammeFits, SignalFits, extended_of_mpu, own_count, own_extended, part_bytes}
use Rattle.mmt_casting.specs.Places.{asset_at, mpu_in, placed_in}
use Rattle.mmt_frag.proofs.PartsJoined.{take-add}
use Rattle.mmt_model.specs.Right.{AreRising, IsBefore, IsKnown, IsRight, IsRightSignal, no_asset}
use Rattle.mmt_model.specs.declared.programmes.Asset.{Asset}
use Rattle.mmt_model.specs.declared.programmes.Mpu.{Mpu}
use Rattle.mmt_model.specs.declared.programmes.Programme.{Programme}
use Rattle.mmt_model.specs.declared.programmes.Signal.{Signal}
use Rattle.mmt_model.specs.declared.programmes.Signal.TheVariants as signals

-- ---- names that rise

pub rising-drop : (k : ℕ) (ns : List (ℕ × ℕ)) → AreRising ns → AreRising (drop k ns)
rising-drop zero ns r = r
rising-drop (suc k) [] r = tt
rising-drop (suc k) (n ∷ ns) r = rising-drop k ns r.1

rising-take : (k : ℕ) (ns : List (ℕ × ℕ)) → AreRising ns → AreRising (take k ns)
rising-take zero ns r = tt
rising-take (suc k) [] r = tt
rising-take (suc k) (n ∷ ns) r = (All-take (IsBefore n) k ns r.0, rising-take k ns r.1)

pub each-part : {X : Type 0} (P : X → Type 0) (k : ℕ) (xs : List X) → AllByRecursion P xs → AllByRecursion P (drop k xs)
each-part P zero xs e = e
each-part P (suc k) [] e = tt
each-part P (suc k) (x ∷ xs) e = each-part P k xs e.1

-- the names of an asset's MPUs come first, and those of later assets after them
own-all : (a : ℕ) (ns : List (ℕ × ℕ)) → AllByRecursion (λ n. n.0 ≡ a) (take (own_count a ns) ns)
unfolding own_count
own-all a [] = tt
own-all a (n ∷ ns) = go (n.0 == a) refl (own-all a ns)
  where
    go : (t : Bool) → (n.0 == a) ≡ t → AllByRecursion (λ m. m.0 ≡ a) (take (own_count a ns) ns) → AllByRecursion (λ m. m.0 ≡ a) (take (cond t (suc (own_count a ns)) 0) (n ∷ ns))
    go true e ih = (eqb-true n.0 a e, ih)
    go false e ih = tt

own-long : (a : ℕ) (ns : List (ℕ × ℕ)) → length (take (own_count a ns) ns) ≡ own_count a ns
unfolding own_count
own-long a [] = refl
own-long a (n ∷ ns) = go (n.0 == a) (own-long a ns)
  where
    go : (t : Bool) → length (take (own_count a ns) ns) ≡ own_count a ns → length (take (cond t (suc (own_count a ns)) 0) (n ∷ ns)) ≡ cond t (suc (own_count a ns)) 0
    go true ih = ap suc ih
    go false ih = refl

after-head : (a : ℕ) (n : ℕ × ℕ) (m : ℕ × ℕ) → a < n.0 → IsBefore n m → a < m.0
after-head a n m l (inl b) = omega arith
after-head a n m l (inr b) = omega (arith, b.0)

later-all : (a : ℕ) (ns : List (ℕ × ℕ)) → AreRising ns → AllByRecursion (λ n. a ≤ n.0) ns → AllByRecursion (λ n. a < n.0) (drop (own_count a ns) ns)
unfolding own_count
later-all a [] r e = tt
later-all a (n ∷ ns) r e = ⊎_elim
    (λ (same : n.0 ≡ a). subst (λ t. AllByRecursion (λ m. a < m.0) (drop (cond t (suc (own_count a ns)) 0) (n ∷ ns))) (sym (eq-eqb n.0 a same)) (later-all a ns r.1 e.1))
    (λ (ne : n.0 ≡ a → ⊥). (let l : a < n.0 = above ne in
    subst (λ t. AllByRecursion (λ m. a < m.0) (drop (cond t (suc (own_count a ns)) 0) (n ∷ ns))) (sym (ne_eqb n.0 a ne))
    (l, each-weaker (IsBefore n) (λ m. a < m.0) ns (λ m b. after-head a n m l b) (recursion_from_All (IsBefore n) ns r.0))))
    (cases_eq n.0 a)
  where
    above : (n.0 ≡ a → ⊥) → a < n.0
    above ne = ⊎_elim (λ (l : a < n.0). l) (λ (ge : n.0 ≤ a). absurd (ne (omega (arith, e.0)))) (cases_lt a n.0)

-- ---- names of other assets name none

other-pairs : (a b : ℕ) (ns : List (ℕ × ℕ)) → AllByRecursion (λ n. n.0 ≡ a → ⊥) ns → list_any (is_same_pair (a, b)) ns ≡ false
other-pairs a b [] e = refl
other-pairs a b (n ∷ ns) e = ap (λ (t : Bool). t || list_any (is_same_pair (a, b)) ns) (and_left (a == n.0) (b == n.1) (ne_eqb a n.0 (λ s. e.0 (sym s)))) ∙ other-pairs a b ns e.1

same-filter : {X : Type 0} (p q : X → Bool) (xs : List X) → AllByRecursion (λ x. p x ≡ q x) xs → filter p xs ≡ filter q xs
same-filter p q [] e = refl
same-filter p q (x ∷ xs) e = ap₂ (λ (t : Bool) l. cond t (x ∷ l) l) e.0 (same-filter p q xs e.1)

middle : (b : Bool) → (false || (b || false)) ≡ b
middle true = refl
middle false = refl

own-alone : (a : ℕ) (asset : Asset) (before own later : List (ℕ × ℕ)) → AllByRecursion (λ n. n.0 ≡ a → ⊥) before → AllByRecursion (λ n. n.0 ≡ a → ⊥) later
    → filter (is_named_by (before ++ (own ++ later))) (mpus_of a asset) ≡ filter (is_named_by own) (mpus_of a asset)
unfolding mpus_of is_named_by
own-alone a asset before own later eb el =
    same-filter (is_named_by (before ++ (own ++ later))) (is_named_by own) (map_from (placed_in a asset) 0 asset.mpus)
    (each-map_from (λ m. is_named_by (before ++ (own ++ later)) m ≡ is_named_by own m) (placed_in a asset) 0 asset.mpus
    (λ b x l. list_any-append (is_same_pair (a, b)) before (own ++ later)
    ∙ (ap₂ (λ (s t : Bool). s || t) (other-pairs a b before eb) (list_any-append (is_same_pair (a, b)) own later ∙ ap (λ (t : Bool). list_any (is_same_pair (a, b)) own || t) (other-pairs a b later el))
    ∙ middle (list_any (is_same_pair (a, b)) own))))

-- ---- the MPU of a name

block-rises : (a : ℕ) (asset : Asset) (n : ℕ) (mpus : List Mpu) → Rise (map_from (placed_in a asset) n mpus)
unfolding map_from
block-rises a asset n [] = tt
block-rises a asset n (x ∷ xs) = (each-map_from (λ y. IsBefore (a, n) (pair y)) (placed_in a asset) (n + 1) xs (λ i y l. inr (refl, omega arith)), block-rises a asset (n + 1) xs)

own-place : (a b : ℕ) (asset : Asset) (xs : List Mpu) (n : ℕ) → n ≤ b → b < n + length xs → place_of_mpu (map_from (placed_in a asset) n xs) (a, b) ≡ b - n
unfolding map_from place_of_mpu
own-place a b asset [] n low high = absurd (omega arith)
own-place a b asset (x ∷ xs) n low high = ⊎_elim
    (λ (same : n ≡ b). ap (λ (t : Bool). cond t 0 (suc (place_of_mpu (map_from (placed_in a asset) (n + 1) xs) (a, b)))) (and_from (a == a) (n == b) (eq-eqb a a refl) (eq-eqb n b same)) ∙ omega arith)
    (λ (ne : n ≡ b → ⊥).
    ap (λ (t : Bool). cond t 0 (suc (place_of_mpu (map_from (placed_in a asset) (n + 1) xs) (a, b)))) (and_right (a == a) (n == b) (ne_eqb n b ne))
    ∙ (ap suc (own-place a b asset xs (n + 1) (next ne) (omega arith)) ∙ later (next ne)))
    (cases_eq n b)
  where
    next : (n ≡ b → ⊥) → n + 1 ≤ b
    next ne = ⊎_elim (λ (l : n < b). omega arith) (λ (ge : b ≤ n). absurd (ne (omega arith))) (cases_lt n b)

    later : n + 1 ≤ b → suc (b - (n + 1)) ≡ b - n
    later l = omega arith

pick-own : (a : ℕ) (asset : Asset) (name : ℕ × ℕ) → name.0 ≡ a → name.1 < length asset.mpus → pick (mpus_of a asset) name ≡ placed_in a asset name.1 (mpu_in asset name.1)
unfolding mpus_of
pick-own a asset name e l =
    let block : List PlacedMpu = map_from (placed_in a asset) 0 asset.mpus in
    let z : name.1 - 0 ≡ name.1 = omega arith in
    ap (λ x. get_or block (place_of_mpu block (x, name.1)) no_placed_mpu) e
    ∙ (ap (λ i. get_or block i no_placed_mpu) (own-place a name.1 asset asset.mpus 0 (omega arith) (omega arith) ∙ z)
    ∙ at-map_from_0 (placed_in a asset) asset.mpus name.1 no_mpu no_placed_mpu l)

-- names of an asset's MPUs that are there
abbrev pub AreThere : ℕ → Asset → ℕ × ℕ → Type 0
AreThere a asset n = n.0 ≡ a → n.1 < length asset.mpus

names-in : (a : ℕ) (asset : Asset) (ns : List (ℕ × ℕ)) → AllByRecursion (λ n. n.0 ≡ a) ns → AllByRecursion (AreThere a asset) ns → AllByRecursion (IsNameIn (mpus_of a asset)) ns
unfolding mpus_of
names-in a asset [] own there = tt
names-in a asset (n ∷ ns) own there =
    let l : n.1 < length asset.mpus = there.0 own.0 in
    let block : List PlacedMpu = map_from (placed_in a asset) 0 asset.mpus in (
      record {
        mpu = placed_in a asset n.1 (mpu_in asset n.1);
        here = subst (λ m. IsIn m block) (at-map_from_0 (placed_in a asset) asset.mpus n.1 no_mpu no_placed_mpu l) (in-at block n.1 no_placed_mpu (omega (arith, l, length-map_from (placed_in a asset) 0 asset.mpus)));
        same = ap (λ x. (x, n.1)) (sym own.0);
      },
      names-in a asset ns own.1 there.1,
    )

each-front : {X : Type 0} (P : X → Type 0) (k : ℕ) (xs : List X) → AllByRecursion P xs → AllByRecursion P (take k xs)
each-front P zero xs e = tt
each-front P (suc k) [] e = tt
each-front P (suc k) (x ∷ xs) e = (e.0, each-front P k xs e.1)

own-sum : (a : ℕ) (asset : Asset) (ns : List (ℕ × ℕ)) → AllByRecursion (AreThere a asset) ns → sum_by extended_length (map (pick (mpus_of a asset)) (take (own_count a ns) ns)) ≡ own_extended asset a ns
unfolding own_count own_extended extended_length
own-sum a asset [] there = refl
own-sum a asset (n ∷ ns) there = ⊎_elim
    (λ (same : n.0 ≡ a).
    ap (λ t. sum_by extended_length (map (pick (mpus_of a asset)) (take (cond t (suc (own_count a ns)) 0) (n ∷ ns)))) (eq-eqb n.0 a same)
    ∙ (sum_by-cons extended_length (pick (mpus_of a asset) n) (map (pick (mpus_of a asset)) (take (own_count a ns) ns))
    ∙ (ap₂ (λ (x : PlacedMpu) s. extended_length x + s) (pick-own a asset n same (there.0 same)) (own-sum a asset ns there.1)
    ∙ sym (ap (λ t. cond t (extended_of_mpu (mpu_in asset n.1) + own_extended asset a ns) 0) (eq-eqb n.0 a same)))))
    (λ (ne : n.0 ≡ a → ⊥).
    ap (λ t. sum_by extended_length (map (pick (mpus_of a asset)) (take (cond t (suc (own_count a ns)) 0) (n ∷ ns)))) (ne_eqb n.0 a ne)
    ∙ sym (ap (λ t. cond t (extended_of_mpu (mpu_in asset n.1) + own_extended asset a ns) 0) (ne_eqb n.0 a ne)))
    (cases_eq n.0 a)

-- ---- the MPUs of an asset that are named

-- the names from a place on are of an asset's MPUs and of later ones, and those before it of earlier ones
pub record AreOwn (a : ℕ) (first : ℕ) (names : List (ℕ × ℕ)) : Type 0 where
  pub before : AllByRecursion (λ n. n.0 < a) (take first names)
  pub from : AllByRecursion (λ n. a ≤ n.0) (drop first names)

pub named-own : (a : ℕ) (asset : Asset) (first : ℕ) (names : List (ℕ × ℕ)) → AreRising names → AllByRecursion (AreThere a asset) names → AreOwn a first names
    → named_of_asset names a asset ≡ map (pick (mpus_of a asset)) (take (own_count a (drop first names)) (drop first names))
unfolding named_of_asset mpus_of
named-own a asset first names rising there own =
    let rest : List (ℕ × ℕ) = drop first names in
    let k : ℕ = own_count a rest in
    let r : AreRising rest = rising-drop first names rising in
    ap (λ ns. filter (is_named_by ns) (mpus_of a asset)) (sym (ap (λ l. take first names ++ l) (take-append-drop k rest) ∙ take-append-drop first names))
    ∙ (own-alone a asset (take first names) (take k rest) (drop k rest)
    (each-weaker (λ n. n.0 < a) (λ n. n.0 ≡ a → ⊥) (take first names) (λ n l e. omega arith) own.before)
    (each-weaker (λ n. a < n.0) (λ n. n.0 ≡ a → ⊥) (drop k rest) (λ n l e. omega arith) (later-all a rest r own.from))
    ∙ picked (mpus_of a asset) (take k rest) (block-rises a asset 0 asset.mpus) (rising-take k rest r) (names-in a asset (take k rest) (own-all a rest) (each-front (AreThere a asset) k rest (each-part (AreThere a asset) first names there))))

pub count-own : (a : ℕ) (asset : Asset) (first : ℕ) (names : List (ℕ × ℕ)) → AreRising names → AllByRecursion (AreThere a asset) names → AreOwn a first names → length (named_of_asset names a asset) ≡ own_count a (drop first names)
count-own a asset first names rising there own =
    let rest : List (ℕ × ℕ) = drop first names in
    ap length (named-own a asset first names rising there own) ∙ (length-map (take (own_count a rest) rest) (pick (mpus_of a asset)) ∙ own-long a rest)

pub sum-own : (a : ℕ) (asset : Asset) (first : ℕ) (names : List (ℕ × ℕ)) → AreRising names → AllByRecursion (AreThere a asset) names → AreOwn a first names → sum_by extended_length (named_of_asset names a asset) ≡ own_extended asset a (drop first names)
sum-own a asset first names rising there own =
    ap (sum_by extended_length) (named-own a asset first names rising there own) ∙ own-sum a asset (drop first names) (each-part (AreThere a asset) first names there)

pub next-own : (a first : ℕ) (names : List (ℕ × ℕ)) → AreRising names → AreOwn a first names → AreOwn (a + 1) (first + own_count a (drop first names)) names
next-own a first names rising own =
    let rest : List (ℕ × ℕ) = drop first names in
    let k : ℕ = own_count a rest in
    record {
      before = subst (AllByRecursion (λ n. n.0 < a + 1)) (sym (take-add first k names))
          (each-append (λ n. n.0 < a + 1) (take first names) (take k rest) (each-weaker (λ n. n.0 < a) (λ n. n.0 < a + 1) (take first names) (λ n l. omega arith) own.before) (each-weaker (λ n. n.0 ≡ a) (λ n. n.0 < a + 1) (take k rest) (λ n e. omega arith) (own-all a rest)));
      from = subst (AllByRecursion (λ n. a + 1 ≤ n.0)) (drop-drop k first names) (each-weaker (λ n. a < n.0) (λ n. a + 1 ≤ n.0) (drop k rest) (λ n l. omega arith) (later-all a rest (rising-drop first names rising) own.from));
    }

filter-short : {X : Type 0} (p : X → Bool) (xs : List X) → length (filter p xs) ≤ length xs
filter-short p [] = omega arith
filter-short {X} p (x ∷ xs) = go (p x) (filter-short p xs)
  where
    go : (t : Bool) → length (filter p xs) ≤ length xs → length (cond t (x ∷ filter p xs) (filter p xs)) ≤ suc (length xs)
    go true ih = omega arith
    go false ih = omega arith

pub named-few : (names : List (ℕ × ℕ)) (a : ℕ) (asset : Asset) → length (named_of_asset names a asset) ≤ length asset.mpus
unfolding named_of_asset mpus_of
named-few names a asset = omega (arith, filter-short (is_named_by names) (map_from (placed_in a asset) 0 asset.mpus), length-map_from (placed_in a asset) 0 asset.mpus)

-- ---- walking over names

pub own-here : (a i : ℕ) (ns : List (ℕ × ℕ)) (d : ℕ × ℕ) → i < length ns → (get_or ns i d).0 ≡ a → own_count a (drop i ns) ≡ suc (own_count a (drop (i + 1) ns))
unfolding own_count
own-here a i ns d l e = at_drop_more (own_count a) ns i d l ∙ ap (λ t. cond t (suc (own_count a (drop (i + 1) ns))) 0) (eq-eqb (get_or ns i d).0 a e)

pub own-over : (a i : ℕ) (ns : List (ℕ × ℕ)) (d : ℕ × ℕ) → i < length ns → ((get_or ns i d).0 ≡ a → ⊥) → own_count a (drop i ns) ≡ 0
unfolding own_count
own-over a i ns d l ne = at_drop_more (own_count a) ns i d l ∙ ap (λ t. cond t (suc (own_count a (drop (i + 1) ns))) 0) (ne_eqb (get_or ns i d).0 a ne)

pub own-end : (a i : ℕ) (ns : List (ℕ × ℕ)) → length ns ≤ i → own_count a (drop i ns) ≡ 0
unfolding own_count
own-end a i ns l = ap (own_count a) (drop_all i ns l)

pub bytes-here : (a i : ℕ) (asset : Asset) (ns : List (ℕ × ℕ)) (d : ℕ × ℕ) → i < length ns → (get_or ns i d).0 ≡ a → own_extended asset a (drop i ns) ≡ extended_of_mpu (mpu_in asset (get_or ns i d).1) + own_extended asset a (drop (i + 1) ns)
unfolding own_extended
bytes-here a i asset ns d l e =
    at_drop_more (own_extended asset a) ns i d l ∙ ap (λ t. cond t (extended_of_mpu (mpu_in asset (get_or ns i d).1) + own_extended asset a (drop (i + 1) ns)) 0) (eq-eqb (get_or ns i d).0 a e)

pub bytes-over : (a i : ℕ) (asset : Asset) (ns : List (ℕ × ℕ)) (d : ℕ × ℕ) → i < length ns → ((get_or ns i d).0 ≡ a → ⊥) → own_extended asset a (drop i ns) ≡ 0
unfolding own_extended
bytes-over a i asset ns d l ne =
    at_drop_more (own_extended asset a) ns i d l ∙ ap (λ t. cond t (extended_of_mpu (mpu_in asset (get_or ns i d).1) + own_extended asset a (drop (i + 1) ns)) 0) (ne_eqb (get_or ns i d).0 a ne)

pub bytes-end : (a i : ℕ) (asset : Asset) (ns : List (ℕ × ℕ)) → length ns ≤ i → own_extended asset a (drop i ns) ≡ 0
unfolding own_extended
bytes-end a i asset ns l = ap (own_extended asset a) (drop_all i ns l)

pub part-is : (programme : Programme) (a named extended n : ℕ) (names : List (ℕ × ℕ)) (asset : Asset) → asset ≡ asset_at programme a → own_count a names ≡ named → own_extended (asset_at programme a) a names ≡ extended
    → n ≡ 17 + length asset.id + (3 * div_ceil named 21 + 12 * named + extended) → n ≡ part_bytes programme a names
part-is programme a named extended n names asset ea ec es e =
    e
    ∙ (ap (λ (x : Asset). 17 + length x.id + (3 * div_ceil named 21 + 12 * named + extended)) ea
    ∙ ap₂ (λ c s. 17 + length (asset_at programme a).id + (3 * div_ceil c 21 + 12 * c + s)) (sym ec) (sym es))

pub asset-read : (programme : Programme) (assets : List Asset) (a : ℕ) (x : Asset) → assets ≡ programme.assets → a < length programme.assets → x ≡ get_or assets a x → x ≡ asset_at programme a
asset-read programme assets a x e l is = is ∙ (ap (λ xs. get_or xs a x) e ∙ get_or_default programme.assets a x no_asset l)

pub mpu-read : (asset here : Asset) (mpus : List Mpu) (b : ℕ) (m : Mpu) → here ≡ asset → mpus ≡ here.mpus → b < length asset.mpus → m ≡ get_or mpus b m → m ≡ mpu_in asset b
mpu-read asset here mpus b m e em l is = is ∙ (ap (λ xs. get_or xs b m) (em ∙ ap (λ (x : Asset). x.mpus) e) ∙ get_or_default asset.mpus b m no_mpu l)

-- the names of a table are of MPUs that are there
pub names-there : (programme : Programme) (names : List (ℕ × ℕ)) (a : ℕ) → NamesFit programme names → AllByRecursion (AreThere a (asset_at programme a)) names
names-there programme names a fit =
    each-weaker (IsKnown programme.assets) (AreThere a (asset_at programme a)) names (λ n k e. subst (λ x. n.1 < length (get_or programme.assets x no_asset).mpus) e k.1) fit.1

pub name-there : (programme : Programme) (names : List (ℕ × ℕ)) (a i : ℕ) (d : ℕ × ℕ) → NamesFit programme names → i < length names → (get_or names i d).0 ≡ a → (get_or names i d).1 < length (asset_at programme a).mpus
name-there programme names a i d fit l e = each-at (AreThere a (asset_at programme a)) names i d (names-there programme names a fit) l e

pub few-own : (programme : Programme) (names : List (ℕ × ℕ)) (a first : ℕ) → ProgrammeFits programme → NamesFit programme names → a < length programme.assets → AreOwn a first names → own_count a (drop first names) < 2 ^ 32
few-own programme names a first fits fit l own =
    let x : Asset = asset_at programme a in
    let f : AssetFits x = each-at AssetFits programme.assets a no_asset fits.each l in
    omega (arith, f.mpus, named-few names a x, count-own a x first names fit.0 (names-there programme names a fit) own)

pub part-of-length : (programme : Programme) (names : List (ℕ × ℕ)) (a first : ℕ) → NamesFit programme names → AreOwn a first names → part_bytes programme a (drop first names) ≡ asset_length names a (asset_at programme a)
part-of-length programme names a first fit own =
    let x : Asset = asset_at programme a in
    let ns : List (ℕ × ℕ) = drop first names in
    asset-sums names a x (length x.id) (div_ceil (own_count a ns) 21) (own_count a ns) (own_extended x a ns) refl (count-own a x first names fit.0 (names-there programme names a fit) own)
    (sum-own a x first names fit.0 (names-there programme names a fit) own) refl

pub parts-next : (programme : Programme) (names : List (ℕ × ℕ)) (a first n : ℕ) → NamesFit programme names → a < length programme.assets → AreOwn a first names → n ≡ part_bytes programme a (drop first names)
    → lengths_from names a programme.assets ≡ n + lengths_from names (a + 1) programme.assets
parts-next programme names a first n fit l own e =
    let x : Asset = asset_at programme a in
    lengths-next names a programme.assets x l (get_or_default programme.assets a no_asset x l) ∙ ap (λ k. k + lengths_from names (a + 1) programme.assets) (sym (e ∙ part-of-length programme names a first fit own))

-- the names of the first asset
pub first-own : (names : List (ℕ × ℕ)) → AreOwn 0 0 names
first-own names = record { before = tt; from = every names }
  where
    every : (ns : List (ℕ × ℕ)) → AllByRecursion (λ n. 0 ≤ n.0) ns
    every [] = tt
    every (n ∷ ns) = (omega arith, every ns)

-- the names of the messages of a right programme
pub signal-fits : (programme : Programme) → IsRight programme → (s : ℕ) (xs : List Signal) (x : Signal) → xs ≡ programme.signals → s < length xs → x ≡ get_or xs s x → SignalFits programme x
signal-fits programme right s xs x e l is =
    subst (SignalFits programme) (sym (is ∙ ap (λ ys. get_or ys s x) e)) (fit (get_or programme.signals s x) (right.signals s x (omega (arith, l, ap (λ (ys : List Signal). length ys) e))))
  where
    fit : (y : Signal) → IsRightSignal right.start programme.assets y → SignalFits programme y
    fit (signals.Parameters at) r = tt
    fit (signals.Table at names) r = (r.2, recursion_from_All (IsKnown programme.assets) names r.1)

-- the names of a table are those of its message
pub names-fit : (programme : Programme) (x : Signal) (at : LongTick) (names listed : List (ℕ × ℕ)) → x ≡ signals.Table at names → listed ≡ names → SignalFits programme x → NamesFit programme listed
names-fit programme x at names listed e same fit = subst (NamesFit programme) (sym same) (subst (SignalFits programme) e fit)
