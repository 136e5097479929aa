-- How many units a unit begins a group of, by those of its MPU.
use Rattle.std.proofs.Common.{◌≡◌, ℕ, ◌+◌, ◌-◌, ◌<◌, ◌≤◌, suc, max, Bool, true, false, ◌==◌, ◌&&◌, nat_le, nat_lt, cond, List, [], ◌∷◌, ◌++◌, map, length, get_or, take, drop, arith, refl, ap, ap₂, sym, ◌∙◌}
use Rattle.std.specs.List.{sum_by, take_while}
use Rattle.std.proofs.lemmas.Bool.{and_left, and_parts, eq-eqb, leb-true, ltb-true, ne_eqb}
use Rattle.std.proofs.lemmas.List.{at_drop_more, drop_all}
use Rattle.std.proofs.lemmas.List.Sums.{sum_by-cons, take_while-cons}
use Rattle.mmt_cast.specs.Placing.{PlacedMpu, PlacedUnit, flat_map_from, map_from, units_of}
use Rattle.mmt_cast.specs.Sending.{Sending, candidates, group_size, header_length, is_short, may_join, sending_of_units}
use Rattle.mmt_casting.specs.Places.{bytes_of, fits, goes_in, room_left, size_of, unit_in}
use Rattle.mmt_frag.specs.Cuts.{fitting, gathered}
use Rattle.mmt_model.specs.declared.programmes.Programme.{Programme}
use Rattle.mmt_model.specs.declared.programmes.Unit.{Unit as PlannedUnit}

-- ---- walking over units

pub fits-yes : (h l at room i : ℕ) (ys : List PlannedUnit) (d : PlannedUnit) → i < length ys → true ≡ goes_in h l at room (get_or ys i d)
    → fits h l at room (drop i ys) ≡ suc (fits h l at (room - (2 + h + (get_or ys i d).length)) (drop (i + 1) ys))
unfolding fits
fits-yes h l at room i ys d lt t =
    at_drop_more (fits h l at room) ys i d lt
    ∙ ap (λ b. cond b (suc (fits h l at (room - (2 + h + (get_or ys i d).length)) (drop (i + 1) ys))) 0) (sym t)

pub fits-no : (h l at room i : ℕ) (ys : List PlannedUnit) (d : PlannedUnit) → i < length ys → false ≡ goes_in h l at room (get_or ys i d) → fits h l at room (drop i ys) ≡ 0
unfolding fits
fits-no h l at room i ys d lt t =
    at_drop_more (fits h l at room) ys i d lt
    ∙ ap (λ b. cond b (suc (fits h l at (room - (2 + h + (get_or ys i d).length)) (drop (i + 1) ys))) 0) (sym t)

pub fits-end : (h l at room i : ℕ) (ys : List PlannedUnit) → length ys ≤ i → fits h l at room (drop i ys) ≡ 0
unfolding fits
fits-end h l at room i ys le = ap (fits h l at room) (drop_all i ys le)

pub room-yes : (h l at room i : ℕ) (ys : List PlannedUnit) (d : PlannedUnit) → i < length ys → true ≡ goes_in h l at room (get_or ys i d)
    → room_left h l at room (drop i ys) ≡ room_left h l at (room - (2 + h + (get_or ys i d).length)) (drop (i + 1) ys)
unfolding room_left
room-yes h l at room i ys d lt t =
    at_drop_more (room_left h l at room) ys i d lt
    ∙ ap (λ b. cond b (room_left h l at (room - (2 + h + (get_or ys i d).length)) (drop (i + 1) ys)) room) (sym t)

pub room-no : (h l at room i : ℕ) (ys : List PlannedUnit) (d : PlannedUnit) → i < length ys → false ≡ goes_in h l at room (get_or ys i d) → room_left h l at room (drop i ys) ≡ room
unfolding room_left
room-no h l at room i ys d lt t =
    at_drop_more (room_left h l at room) ys i d lt
    ∙ ap (λ b. cond b (room_left h l at (room - (2 + h + (get_or ys i d).length)) (drop (i + 1) ys)) room) (sym t)

pub room-end : (h l at room i : ℕ) (ys : List PlannedUnit) → length ys ≤ i → room_left h l at room (drop i ys) ≡ room
unfolding room_left
room-end h l at room i ys le = ap (room_left h l at room) (drop_all i ys le)

-- what goes in has room
pub has-room : (h l at room : ℕ) (y : PlannedUnit) → true ≡ goes_in h l at room y → 2 + h + y.length ≤ room
has-room h l at room y t =
    let p = and_parts (y.at.0 == at) (nat_le y.length l && nat_le (2 + h + y.length) room) (sym t) in
    let q = and_parts (nat_le y.length l) (nat_le (2 + h + y.length) room) p.1 in
    leb-true (2 + h + y.length) room q.1

-- ---- the group of a unit by the definition of sending

-- units of which the first is of another MPU
abbrev pub IsNew : ℕ → List PlacedUnit → Type 0
IsNew m [] = Unit {0}
IsNew m (z ∷ zs) = z.mpu_place ≡ m → ⊥

pub new-later : (m n : ℕ) (xs : List PlacedMpu) → m < n → IsNew m (flat_map_from units_of n xs)
unfolding flat_map_from units_of map_from
new-later m n [] l = tt
new-later m n (x ∷ xs) l = go x.value.units (new-later m (n + 1) xs (omega arith))
  where
    go : (us : List PlannedUnit) → IsNew m (flat_map_from units_of (n + 1) xs) → IsNew m (map_from (unit_in n x) 0 us ++ flat_map_from units_of (n + 1) xs)
    go [] later = later
    go (u ∷ us) later = λ e. omega arith

none-joins : (programme : Programme) (x : PlacedUnit) (later : List PlacedUnit) → IsNew x.mpu_place later → take_while (may_join programme x) later ≡ []
unfolding may_join
none-joins programme x [] new = refl
none-joins programme x (z ∷ zs) new =
    take_while-cons (may_join programme x) z zs
    ∙ ap (λ b. cond b (z ∷ take_while (may_join programme x) zs) []) (and_left (z.mpu_place == x.mpu_place) ((z.value.at.0 == x.value.at.0) && is_short programme z) (ne_eqb z.mpu_place x.mpu_place new))

fitting-is : (programme : Programme) (x : PlacedUnit) (placed : PlacedMpu) (h k room : ℕ) (ys : List PlannedUnit) (later : List PlacedUnit) → IsNew x.mpu_place later
    → fitting h room (map (λ (y : PlacedUnit). y.value.length) (take_while (may_join programme x) (map_from (unit_in x.mpu_place placed) k ys ++ later))) ≡ fits h programme.limit x.value.at.0 room ys
unfolding map_from fitting fits may_join is_short
fitting-is programme x placed h k room [] later new = ap (λ l. fitting h room (map (λ (y : PlacedUnit). y.value.length) l)) (none-joins programme x later new)
fitting-is programme x placed h k room (y ∷ ys) later new =
    let z : PlacedUnit = unit_in x.mpu_place placed k y in
    let rest : List PlacedUnit = map_from (unit_in x.mpu_place placed) (k + 1) ys ++ later in
    let tw : List PlacedUnit = take_while (may_join programme x) rest in
    ap (λ l. fitting h room (map (λ (w : PlacedUnit). w.value.length) l))
    (take_while-cons (may_join programme x) z rest ∙ ap (λ b. cond (b && ((y.at.0 == x.value.at.0) && nat_le y.length programme.limit)) (z ∷ tw) []) (eq-eqb x.mpu_place x.mpu_place refl))
    ∙ go tw (y.at.0 == x.value.at.0) (nat_le y.length programme.limit) (fitting-is programme x placed h (k + 1) (room - (2 + h + y.length)) ys later new)
  where
    go : (tw : List PlacedUnit) (b c : Bool) → fitting h (room - (2 + h + y.length)) (map (λ (w : PlacedUnit). w.value.length) tw) ≡ fits h programme.limit x.value.at.0 (room - (2 + h + y.length)) ys
        → fitting h room (map (λ (w : PlacedUnit). w.value.length) (cond (b && c) (unit_in x.mpu_place placed k y ∷ tw) []))
        ≡ cond (b && (c && nat_le (2 + h + y.length) room)) (suc (fits h programme.limit x.value.at.0 (room - (2 + h + y.length)) ys)) 0
    go tw true true ih = ap (λ n. cond (nat_le (2 + h + y.length) room) (suc n) 0) ih
    go tw true false ih = refl
    go tw false true ih = refl
    go tw false false ih = refl

-- the bytes of the header of an MPU's units
abbrev pub header_of : PlacedMpu → ℕ
header_of placed = cond placed.in_asset.timed 14 4

pub size-is : (programme : Programme) (m c : ℕ) (placed : PlacedMpu) (x : PlannedUnit) (ys : List PlannedUnit) (later : List PlacedUnit) → IsNew m later
    → group_size programme (unit_in m placed c x) (map_from (unit_in m placed) (c + 1) ys ++ later) ≡ size_of (header_of placed) programme.limit (x ∷ ys)
unfolding group_size candidates is_short gathered fitting size_of fits header_length
size-is programme m c placed x ys later new =
    let h : ℕ = header_of placed in
    let rest : List PlacedUnit = map_from (unit_in m placed) (c + 1) ys ++ later in
    go (nat_le x.length programme.limit)
    (fitting-is programme (unit_in m placed c x) placed h (c + 1) (programme.limit - (2 + h + x.length)) ys later new)
  where
    go : (t : Bool)
        → fitting (header_of placed) (programme.limit - (2 + header_of placed + x.length)) (map (λ (w : PlacedUnit). w.value.length) (take_while (may_join programme (unit_in m placed c x)) (map_from (unit_in m placed) (c + 1) ys ++ later)))
        ≡ fits (header_of placed) programme.limit x.at.0 (programme.limit - (2 + header_of placed + x.length)) ys
        → cond t (max 1 (cond (nat_le (2 + header_of placed + x.length) programme.limit) (suc (fitting (header_of placed) (programme.limit - (2 + header_of placed + x.length)) (map (λ (w : PlacedUnit). w.value.length) (take_while (may_join programme (unit_in m placed c x)) (map_from (unit_in m placed) (c + 1) ys ++ later))))) 0)) 1
        ≡ cond t (max 1 (cond ((x.at.0 == x.at.0) && (t && nat_le (2 + header_of placed + x.length) programme.limit)) (suc (fits (header_of placed) programme.limit x.at.0 (programme.limit - (2 + header_of placed + x.length)) ys)) 0)) 1
    go true ih =
        ap₂ (λ n (b : Bool). max 1 (cond (b && nat_le (2 + header_of placed + x.length) programme.limit) (suc n) 0)) ih (sym (eq-eqb x.at.0 x.at.0 refl))
    go false ih = refl

sum-fits : (l at room m k : ℕ) (placed : PlacedMpu) (zs : List PlannedUnit) (later : List PlacedUnit)
    → room_left (header_of placed) l at room zs + sum_by (λ y. 2 + header_length y + y.value.length) (take (fits (header_of placed) l at room zs) (map_from (unit_in m placed) k zs ++ later)) ≡ room
unfolding room_left fits map_from header_length
sum-fits l at room m k placed [] later = omega arith
sum-fits l at room m k placed (z ∷ zs) later =
    go (goes_in (header_of placed) l at room z) refl (sum-fits l at (room - (2 + header_of placed + z.length)) m (k + 1) placed zs later)
  where
    go : (t : Bool) → goes_in (header_of placed) l at room z ≡ t
        → room_left (header_of placed) l at (room - (2 + header_of placed + z.length)) zs
        + sum_by (λ (y : PlacedUnit). 2 + header_length y + y.value.length) (take (fits (header_of placed) l at (room - (2 + header_of placed + z.length)) zs) (map_from (unit_in m placed) (k + 1) zs ++ later)) ≡ room - (2 + header_of placed + z.length)
        → cond t (room_left (header_of placed) l at (room - (2 + header_of placed + z.length)) zs) room
        + sum_by (λ (y : PlacedUnit). 2 + header_length y + y.value.length) (take (cond t (suc (fits (header_of placed) l at (room - (2 + header_of placed + z.length)) zs)) 0) (unit_in m placed k z ∷ (map_from (unit_in m placed) (k + 1) zs ++ later))) ≡ room
    go true e ih =
        omega (arith, ih, has-room (header_of placed) l at room z (sym e), sum_by-cons (λ (y : PlacedUnit). 2 + header_length y + y.value.length) (unit_in m placed k z) (take (fits (header_of placed) l at (room - (2 + header_of placed + z.length)) zs) (map_from (unit_in m placed) (k + 1) zs ++ later)))
    go false e ih = omega arith

pub sending-is : (programme : Programme) (u size bytes m c : ℕ) (placed : PlacedMpu) (x : PlannedUnit) (ys : List PlannedUnit) (later : List PlacedUnit)
    → size ≡ size_of (header_of placed) programme.limit (x ∷ ys) → bytes ≡ bytes_of (header_of placed) programme.limit (x ∷ ys)
    → sending_of_units u size (unit_in m placed c x) (map_from (unit_in m placed) (c + 1) ys ++ later) ≡ cond (nat_lt 1 size) (Sending.Group u size (unit_in m placed c x) bytes) (Sending.Alone u (unit_in m placed c x))
unfolding sending_of_units size_of bytes_of map_from
sending-is programme u size bytes m c placed x ys later es eb = go (nat_lt 1 size) refl
  where
    sum : (t : Bool) → 1 < size → size ≡ cond t (max 1 (fits (header_of placed) programme.limit x.at.0 programme.limit (x ∷ ys))) 1
        → bytes ≡ cond t (programme.limit - room_left (header_of placed) programme.limit x.at.0 programme.limit (x ∷ ys)) 0
        → sum_by (λ (y : PlacedUnit). 2 + header_length y + y.value.length) (take size (unit_in m placed c x ∷ (map_from (unit_in m placed) (c + 1) ys ++ later))) ≡ bytes
    sum true more es eb =
        let n : size ≡ fits (header_of placed) programme.limit x.at.0 programme.limit (x ∷ ys) = omega (arith, es, more) in
        ap (λ k. sum_by (λ (y : PlacedUnit). 2 + header_length y + y.value.length) (take k (unit_in m placed c x ∷ (map_from (unit_in m placed) (c + 1) ys ++ later)))) n
        ∙ omega (arith, eb, sum-fits programme.limit x.at.0 programme.limit m c placed (x ∷ ys) later)
    sum false more es eb = absurd (omega arith)

    go : (t : Bool) → nat_lt 1 size ≡ t
        → cond t (Sending.Group u size (unit_in m placed c x) (sum_by (λ (y : PlacedUnit). 2 + header_length y + y.value.length) (take size (unit_in m placed c x ∷ (map_from (unit_in m placed) (c + 1) ys ++ later))))) (Sending.Alone u (unit_in m placed c x))
        ≡ cond t (Sending.Group u size (unit_in m placed c x) bytes) (Sending.Alone u (unit_in m placed c x))
    go true e = ap (Sending.Group u size (unit_in m placed c x)) (sum (nat_le x.length programme.limit) (ltb-true 1 size e) es eb)
    go false e = refl
