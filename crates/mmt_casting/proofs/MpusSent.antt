-- The MPUs that are sent, each by its units and the copies that name it.
use Rattle.std.proofs.Common.{◌≡◌, ℕ, ◌+◌, ◌<◌, ◌≤◌, suc, zero, min, max, Bool, true, false, ◌==◌, cond, List, [], ◌∷◌, ◌++◌, map, length, get_or, take, drop, arith, refl, ap, ap₂, sym, ◌∙◌, Option, None}
use Rattle.std.specs.List.{AllByRecursion, filter, fold}
use Rattle.std.proofs.lemmas.Bool.{eq-eqb, ne_eqb}
use Rattle.std.proofs.lemmas.List.{append-nil, at_drop_more, length-drop, length-map, length-take, map-append, take_more}
use Rattle.std.proofs.lemmas.List.Elements.{filter-append}
use Rattle.mmt_base.specs.Ticks.{due_of}
use Rattle.mmt_base.specs.declared.ticks.LongTick.{LongTick}
use Rattle.mmt_cast.proofs.Listing.{length-map_from, same-map_numbers}
use Rattle.mmt_cast.proofs.Placed.{each-flat_map_from, each-map_from}
use Rattle.mmt_cast.proofs.Reading.{length-units}
use Rattle.mmt_cast.specs.Casting.{cast_of, copies_as_sent, due_of_placed, least, long_tick, mpu_as_sent, unit_as_sent}
use Rattle.mmt_cast.specs.Placing.{PlacedMpu, PlacedUnit, all_mpus, all_units, entry_of_mpu, flat_map_from, map_from, units_of}
use Rattle.mmt_cast.specs.Right.{mpu_at, no_placed_mpu}
use Rattle.mmt_casting.proofs.Adding.{by-places}
use Rattle.mmt_casting.proofs.Spots.{mpu-here, mpus-over, spot-fits}
use Rattle.mmt_casting.specs.MpusOf.{due_tick}
use Rattle.mmt_casting.specs.Named.{AreNamed}
use Rattle.mmt_casting.specs.Places.{IsSpot, asset_at, mpus_from, placed_at, unit_in, units_from}
use Rattle.mmt_casting.specs.Timed.{times_of}
use Rattle.mmt_casting.specs.declared.places.Spot.{Spot}
use Rattle.mmt_model.specs.Carrying.{named_from_of, numbers}
use Rattle.mmt_model.specs.Entries.{last_due}
use Rattle.mmt_model.specs.Right.{IsRight}
use Rattle.mmt_model.specs.declared.casts.SentMpu.{SentMpu}
use Rattle.mmt_model.specs.declared.casts.SentUnit.{SentUnit}
use Rattle.mmt_model.specs.declared.programmes.Programme.{Programme}
use Rattle.mmt_times.specs.Times.{in_range}

-- ---- the least of several numbers

least-last : (n : ℕ) (ns : List ℕ) (x : ℕ) → least ((n ∷ ns) ++ x ∷ []) ≡ min (least (n ∷ ns)) x
unfolding least
least-last n [] x = refl
least-last n (m ∷ ms) x = omega (arith, least-last m ms x)

least-push : (ns : List ℕ) (x : ℕ) → 1 ≤ length ns → least (ns ++ x ∷ []) ≡ min (least ns) x
least-push [] x l = absurd (omega arith)
least-push (n ∷ ns) x l = least-last n ns x

pub least-first : (units : List SentUnit) (first : ℕ) (d : SentUnit) → first < length units → (get_or units first d).due.0 ≡ least (map due_tick (take 1 (drop first units)))
unfolding least
least-first units first d l = sym (at_drop_more (λ xs. least (map due_tick (take 1 xs))) units first d l)

get-drop : {X : Type 0} (xs : List X) (k i : ℕ) (d : X) → get_or (drop k xs) i d ≡ get_or xs (k + i) d
get-drop xs zero i d = let z : i ≡ 0 + i = omega arith in ap (λ j. get_or xs j d) z
get-drop [] (suc k) i d = refl
get-drop (x ∷ xs) (suc k) i d = let s : suc (k + i) ≡ suc k + i = omega arith in get-drop xs k i d ∙ ap (λ j. get_or (x ∷ xs) j d) s

pub least-more : (units : List SentUnit) (first i : ℕ) (d : SentUnit) (due more : LongTick) → 1 ≤ i → first + i < length units → due.0 ≡ least (map due_tick (take i (drop first units))) → more.0 ≡ min due.0 (get_or units (first + i) d).due.0
    → more.0 ≡ least (map due_tick (take (i + 1) (drop first units)))
least-more units first i d due more some l ed em =
    let seg : List SentUnit = drop first units in
    let li : i < length seg = omega (arith, l, length-drop first units) in
    em
    ∙ (ap₂ min ed (ap (λ (x : SentUnit). x.due.0) (sym (get-drop units first i d)))
    ∙ sym (ap (λ xs. least (map due_tick xs)) (take_more seg i d li)
    ∙ (ap least (map-append due_tick (take i seg) (get_or seg i d ∷ []))
    ∙ least-push (map due_tick (take i seg)) (get_or seg i d).due.0 (omega (arith, some, li, length-map (take i seg) due_tick, length-take i seg)))))

-- ---- the units of an MPU

filter-none : {X : Type 0} (p : X → Bool) (xs : List X) → AllByRecursion (λ x. p x ≡ false) xs → filter p xs ≡ []
filter-none p [] e = refl
filter-none p (x ∷ xs) e = ap (λ (t : Bool). cond t (x ∷ filter p xs) (filter p xs)) e.0 ∙ filter-none p xs e.1

filter-all : {X : Type 0} (p : X → Bool) (xs : List X) → AllByRecursion (λ x. p x ≡ true) xs → filter p xs ≡ xs
filter-all p [] e = refl
filter-all p (x ∷ xs) e = ap (λ (t : Bool). cond t (x ∷ filter p xs) (filter p xs)) e.0 ∙ ap (λ l. x ∷ l) (filter-all p xs e.1)

own-units : (k n : ℕ) (x : PlacedMpu) → n ≡ k → filter (λ y. y.mpu_place == k) (units_of n x) ≡ units_of k x
unfolding units_of
own-units k n x e =
    filter-all (λ y. y.mpu_place == k) (map_from (unit_in n x) 0 x.value.units) (each-map_from (λ y. (y.mpu_place == k) ≡ true) (unit_in n x) 0 x.value.units (λ i y l. eq-eqb n k e))
    ∙ ap (λ m. map_from (unit_in m x) 0 x.value.units) e

other-units : (k n : ℕ) (x : PlacedMpu) → (n ≡ k → ⊥) → filter (λ y. y.mpu_place == k) (units_of n x) ≡ []
unfolding units_of
other-units k n x ne = filter-none (λ y. y.mpu_place == k) (map_from (unit_in n x) 0 x.value.units) (each-map_from (λ y. (y.mpu_place == k) ≡ false) (unit_in n x) 0 x.value.units (λ i y l. ne_eqb n k ne))

later-units : (k n : ℕ) (xs : List PlacedMpu) → k < n → filter (λ y. y.mpu_place == k) (flat_map_from units_of n xs) ≡ []
unfolding units_of
later-units k n xs l =
    filter-none (λ y. y.mpu_place == k) (flat_map_from units_of n xs)
    (each-flat_map_from (λ y. (y.mpu_place == k) ≡ false) units_of n xs no_placed_mpu
    (λ j lj. each-map_from (λ y. (y.mpu_place == k) ≡ false) (unit_in (n + j) (get_or xs j no_placed_mpu)) 0 (get_or xs j no_placed_mpu).value.units (λ i y li. ne_eqb (n + j) k (λ e. omega arith))))

filter-own : (k : ℕ) (xs : List PlacedMpu) (n j : ℕ) (d : PlacedMpu) → k ≡ n + j → j < length xs → filter (λ y. y.mpu_place == k) (flat_map_from units_of n xs) ≡ units_of k (get_or xs j d)
unfolding flat_map_from
filter-own k [] n j d e l = absurd (omega arith)
filter-own k (x ∷ xs) n zero d e l =
    filter-append (λ (y : PlacedUnit). y.mpu_place == k) (units_of n x) (flat_map_from units_of (n + 1) xs)
    ∙ (ap₂ (λ a b. a ++ b) (own-units k n x (omega arith)) (later-units k (n + 1) xs (omega arith)) ∙ append-nil (units_of k x))
filter-own k (x ∷ xs) n (suc j) d e l =
    filter-append (λ (y : PlacedUnit). y.mpu_place == k) (units_of n x) (flat_map_from units_of (n + 1) xs)
    ∙ ap₂ (λ (a b : List PlacedUnit). a ++ b) (other-units k n x (λ same. omega arith)) (filter-own k xs (n + 1) j d (omega arith) (omega arith))

units-of-mpu : (programme : Programme) (m : ℕ) → m < length (all_mpus programme) → filter (λ y. y.mpu_place == m) (all_units programme) ≡ units_of m (mpu_at programme m)
unfolding all_units mpu_at
units-of-mpu programme m l = filter-own m (all_mpus programme) 0 m no_placed_mpu (omega arith) l

-- the same units as they are sent
dues : (programme : Programme) (xs : List PlacedUnit) (n : ℕ) → map due_tick (map_from (unit_as_sent programme) n xs) ≡ map due_of_placed xs
unfolding map_from unit_as_sent
dues programme [] n = refl
dues programme (x ∷ xs) n = ap (λ l. due_of_placed x ∷ l) (dues programme xs (n + 1))

map-front : {X Y : Type 0} (f : X → Y) (n : ℕ) (xs : List X) → map f (take n xs) ≡ take n (map f xs)
map-front f zero xs = refl
map-front f (suc n) [] = refl
map-front f (suc n) (x ∷ xs) = ap (λ l. f x ∷ l) (map-front f n xs)

map-part : {X Y : Type 0} (f : X → Y) (n k : ℕ) (xs : List X) → map f (take n (drop k xs)) ≡ take n (drop k (map f xs))
map-part f n zero xs = map-front f n xs
map-part f n (suc k) [] = map-front f n []
map-part f n (suc k) (x ∷ xs) = map-part f n k xs

front-whole : {X : Type 0} (n : ℕ) (xs ys : List X) → length xs ≡ n → take n (xs ++ ys) ≡ xs
front-whole zero [] ys e = refl
front-whole (suc n) [] ys e = absurd (omega arith)
front-whole zero (x ∷ xs) ys e = absurd (omega arith)
front-whole (suc n) (x ∷ xs) ys e = ap (λ l. x ∷ l) (front-whole n xs ys (omega arith))

block : (programme : Programme) (s : Spot) (n : ℕ) → IsSpot programme s → s.unit ≡ 0 → n ≡ length (placed_at programme s).value.units → take n (drop s.unit_place (all_units programme)) ≡ units_of s.mpu_place (placed_at programme s)
unfolding units_from units_of
block programme s n is z en =
    let placed : PlacedMpu = placed_at programme s in
    let later : List PlacedUnit = flat_map_from units_of (s.mpu_place + 1) (mpus_from programme s.asset (s.mpu + 1)) in
    ap (take n) (is.left ∙ ap (λ c. map_from (unit_in s.mpu_place placed) c (drop c placed.value.units) ++ later) z)
    ∙ front-whole n (map_from (unit_in s.mpu_place placed) 0 placed.value.units) later (length-map_from (unit_in s.mpu_place placed) 0 placed.value.units ∙ sym en)

least-is : (programme : Programme) (s : Spot) (n : ℕ) (units : List SentUnit) → IsSpot programme s → s.asset < length programme.assets → s.unit ≡ 0 → n ≡ length (placed_at programme s).value.units → units ≡ (cast_of programme).units
    → least (map due_tick (take n (drop s.unit_place units))) ≡ least (map due_of_placed (filter (λ y. y.mpu_place == s.mpu_place) (all_units programme)))
unfolding cast_of
least-is programme s n units is l z en eu =
    let here = mpu-here programme s is l in
    ap least
    (ap (λ us. map due_tick (take n (drop s.unit_place us))) eu
    ∙ (map-part due_tick n s.unit_place (map_from (unit_as_sent programme) 0 (all_units programme))
    ∙ (ap (λ ds. take n (drop s.unit_place ds)) (dues programme (all_units programme) 0)
    ∙ (sym (map-part due_of_placed n s.unit_place (all_units programme))
    ∙ ap (map due_of_placed) (block programme s n is z en ∙ (ap (units_of s.mpu_place) (sym here.1) ∙ sym (units-of-mpu programme s.mpu_place here.0)))))))

-- ---- an MPU

-- an MPU that is sent, by its parts
abbrev pub made_mpu : ℕ → ℕ → ℕ → ℕ → Option LongTick → SentMpu
made_mpu asset mpu least last named = record { asset = asset; mpu = mpu; least = record { 0 = least }; last = record { 0 = last }; named_from = named }

last-is : (programme : Programme) (s : Spot) (t last : ℕ) → t ≡ fold max (placed_at programme s).value.time.0 (in_range (times_of (placed_at programme s).value (asset_at programme s.asset).timescale)) → last ≡ due_of t
    → last ≡ last_due (entry_of_mpu (placed_at programme s))
unfolding last_due entry_of_mpu
last-is programme s t last et el = el ∙ ap due_of et

pub mpu-made : (programme : Programme) (s : Spot) (n t : ℕ) (units : List SentUnit) (named : List (Option LongTick)) (least' last : LongTick) → IsSpot programme s → s.asset < length programme.assets → s.unit ≡ 0 → n ≡ length (placed_at programme s).value.units
    → units ≡ (cast_of programme).units → AreNamed (length (all_mpus programme)) (copies_as_sent programme) named
    → least'.0 ≡ least (map due_tick (take n (drop s.unit_place units)))
    → t ≡ fold max (placed_at programme s).value.time.0 (in_range (times_of (placed_at programme s).value (asset_at programme s.asset).timescale)) → last.0 ≡ due_of t
    → made_mpu s.asset s.mpu least'.0 last.0 (get_or named s.mpu_place None) ≡ mpu_as_sent programme s.mpu_place (mpu_at programme s.mpu_place)
unfolding mpu_as_sent
mpu-made programme s n t units named least' last is l z en eu are el et ed =
    let here = mpu-here programme s is l in
    ap₂ (λ a b. made_mpu s.asset s.mpu a b (get_or named s.mpu_place None)) (el ∙ least-is programme s n units is l z en eu) (last-is programme s t last.0 et ed)
    ∙ (ap (λ o. made_mpu s.asset s.mpu (least (map due_of_placed (filter (λ y. y.mpu_place == s.mpu_place) (all_units programme)))) (last_due (entry_of_mpu (placed_at programme s))) o) (are.each s.mpu_place here.0)
    ∙ ap (λ (x : PlacedMpu). made_mpu x.asset x.mpu (least (map due_of_placed (filter (λ y. y.mpu_place == s.mpu_place) (all_units programme)))) (last_due (entry_of_mpu x)) (long_tick (named_from_of s.mpu_place (copies_as_sent programme)))) (sym here.1))

pub units-within : (programme : Programme) → IsRight programme → (s : Spot) (n : ℕ) (units : List SentUnit) → IsSpot programme s → s.asset < length programme.assets → s.unit ≡ 0 → n ≡ length (placed_at programme s).value.units → units ≡ (cast_of programme).units → s.unit_place + n ≤ length units
units-within programme right s n units is l z en eu = omega (arith, (spot-fits programme right s is l).room, z, en, ap length eu, length-units programme)

-- ---- all MPUs

abbrev pub mpu_sent_at : Programme → ℕ → SentMpu
mpu_sent_at programme m = mpu_as_sent programme m (mpu_at programme m)

pub mpus-done : (programme : Programme) (s : Spot) (mpus : List SentMpu) → IsSpot programme s → length programme.assets ≤ s.asset → s.mpu_place ≤ length (all_mpus programme) → mpus ≡ map (mpu_sent_at programme) (numbers 0 s.mpu_place) → mpus ≡ (cast_of programme).mpus
unfolding cast_of mpu_at
mpus-done programme s mpus is ge within e =
    let n : ℕ = length (all_mpus programme) in
    let en : s.mpu_place ≡ n = omega (arith, within, ap length (mpus-over programme s is ge), length-drop s.mpu_place (all_mpus programme)) in
    e
    ∙ (ap (λ k. map (mpu_sent_at programme) (numbers 0 k)) en
    ∙ sym (by-places (mpu_as_sent programme) (all_mpus programme) 0 no_placed_mpu
    ∙ same-map_numbers (λ i. mpu_as_sent programme (0 + i) (get_or (all_mpus programme) i no_placed_mpu)) (λ i. mpu_as_sent programme i (get_or (all_mpus programme) i no_placed_mpu)) 0 n
    (λ k lo hi. (let z : 0 + k ≡ k = omega arith in ap (λ i. mpu_as_sent programme i (get_or (all_mpus programme) k no_placed_mpu)) z))))
