-- The payloads of units can be written, and how long they are.
use Rattle.mmt_headline.proofs.Sound.{CanBeSent, UnitIsSound}
use Rattle.std.proofs.Common.{◌≡◌, ℕ, ◌+◌, ◌*◌, ◌<◌, ◌≤◌, ◌^◌, Bool, true, false, cond, fold, min, List, [], ◌∷◌, map, length, drop, arith, refl, sym, ap, ap₂, subst, ◌∙◌}
use Rattle.std.specs.List.{All, AllByRecursion, sum_by}
use Rattle.std.proofs.lemmas.List.{length-drop, length-take}
use Rattle.std.proofs.lemmas.List.Elements.{All-nil, All-cons}
use Rattle.std.proofs.lemmas.List.Sums.{sum_by-cons}
use Rattle.mmt_frag.specs.Cuts.{part_bytes, part_length}
use Rattle.mmt_cast.specs.Placing.{PlacedMpu, PlacedUnit, all_units}
use Rattle.mmt_cast.specs.Right.{contents_of, unit_at, unit_bytes}
use Rattle.mmt_cast.specs.Sending.{header_length}
use Rattle.mmt_cast.proofs.Listing.{each-numbers}
use Rattle.mmt_cast.proofs.Rightness.{IsGroup}
use Rattle.mmt_cast.proofs.SentIn.{one-mpu}
use Rattle.mmt_model.specs.Carrying.{numbers}
use Rattle.mmt_model.specs.Packets.{DataUnit}
use Rattle.mmt_model.specs.declared.keys.Part.{Part}
use Rattle.mmt_model.specs.declared.programmes.Programme.{Programme}
use Rattle.mmt_mpu.specs.Spelling.{HeadFits, UnitValue, head_length}
use Rattle.mmt_mpu.specs.Writing.{CanWrite, total_length, unit_length}
use Rattle.mmt_sent.specs.Payloads.{as_unit}
use Rattle.mmt_sent.specs.Stream.{contents_sent}
use Rattle.mmt_model.specs.declared.keys.Part.TheVariants as parts

-- the bytes of a unit among several
abbrev pub own_size : PlacedUnit → ℕ
own_size y = 2 + header_length y + y.value.length

-- N units from one on
abbrev pub units_from : Programme → ℕ → ℕ → List PlacedUnit
units_from programme f c = map (unit_at programme) (numbers f c)

-- ---- lengths

pub unit-long : (files : ℕ → List ℕ) (x : PlacedUnit) → UnitIsSound files x → length (unit_bytes files x) ≡ x.value.length
unfolding unit_bytes
unit-long files x s =
    omega (arith, length-take x.value.length (drop x.value.from (files x.in_mpu.in_asset.file)), length-drop x.value.from (files x.in_mpu.in_asset.file), s.there)

pub part-long : (limit k : ℕ) (bytes : List ℕ) → length (part_bytes limit k bytes) ≡ part_length (length bytes) limit k
unfolding part_bytes part_length
part-long limit k bytes = length-take limit (drop (k * limit) bytes) ∙ ap (λ (n : ℕ). min limit n) (length-drop (k * limit) bytes)

pub header-same : (x : PlacedUnit) → header_length x ≡ head_length x.in_mpu.in_asset.timed
unfolding header_length
header-same x = go x.in_mpu.in_asset.timed
  where
    go : (t : Bool) → cond t 14 4 ≡ head_length t
    go true = refl
    go false = refl

pub head-small : (timed : Bool) → head_length timed ≤ 14
head-small true = omega arith
head-small false = omega arith

pub sound-at : (programme : Programme) (files : ℕ → List ℕ) → CanBeSent programme files → (u : ℕ) → u < length (all_units programme) → UnitIsSound files (unit_at programme u)
sound-at programme files can u l = can.units u l

-- ---- one unit or a part of one

pub one-can : (timed : Bool) (part : Part) (counter mpu : ℕ) (d : DataUnit) → HeadFits timed (as_unit d).head → counter < 2 ^ 8 → mpu < 2 ^ 32 → length d.bytes ≤ 60000
    → CanWrite (record { timed = timed; part = part; aggregated = false; counter = counter; mpu = mpu }) (as_unit d ∷ [])
one-can timed part counter mpu d fits c m l =
    record { counter = c; mpu = m; part = tt; heads = All-cons (λ (u : UnitValue). HeadFits timed u.head) (as_unit d) [] fits (All-nil (λ (u : UnitValue). HeadFits timed u.head)); full = refl; len = omega (arith, head-small timed, l) }

-- ---- several units

-- the bytes of a data unit among several
abbrev pub size_of : Bool → DataUnit → ℕ
size_of timed d = 2 + head_length timed + length d.bytes

several-long : (timed : Bool) (n : ℕ) (ds : List DataUnit) → fold (λ n u. n + unit_length true timed u) n (map as_unit ds) ≡ n + sum_by (size_of timed) ds
several-long timed n [] = omega arith
several-long timed n (d ∷ ds) =
    let sum : sum_by (size_of timed) (d ∷ ds) ≡ size_of timed d + sum_by (size_of timed) ds = sum_by-cons (size_of timed) d ds in
    let same : n + size_of timed d + sum_by (size_of timed) ds ≡ n + sum_by (size_of timed) (d ∷ ds) = omega arith in
    several-long timed (n + size_of timed d) ds ∙ same

pub group-long : (timed : Bool) (mpu : ℕ) (ds : List DataUnit) → total_length (record { timed = timed; part = parts.Whole; aggregated = true; counter = 0; mpu = mpu }) (map as_unit ds) ≡ 8 + sum_by (size_of timed) ds
group-long timed mpu ds = several-long timed 8 ds

all-heads : (timed : Bool) (ds : List DataUnit) → AllByRecursion (λ d. HeadFits timed (as_unit d).head) ds → All (λ u. HeadFits timed u.head) (map as_unit ds)
all-heads timed [] h = All-nil (λ (u : UnitValue). HeadFits timed u.head)
all-heads timed (d ∷ ds) h = All-cons (λ (u : UnitValue). HeadFits timed u.head) (as_unit d) (map as_unit ds) h.0 (all-heads timed ds h.1)

pub group-can : (timed : Bool) (mpu : ℕ) (ds : List DataUnit) → AllByRecursion (λ d. HeadFits timed (as_unit d).head) ds → mpu < 2 ^ 32 → sum_by (size_of timed) ds ≤ 60000
    → CanWrite (record { timed = timed; part = parts.Whole; aggregated = true; counter = 0; mpu = mpu }) (map as_unit ds)
group-can timed mpu ds heads m l = record { counter = omega arith; mpu = m; part = refl; heads = all-heads timed ds heads; full = tt; len = omega (arith, group-long timed mpu ds, l) }

-- ---- the units of a programme

pub head-fits : (programme : Programme) (files : ℕ → List ℕ) (u : ℕ) → UnitIsSound files (unit_at programme u) → HeadFits ((contents_sent programme files).timed u) (as_unit ((contents_sent programme files).data_unit u)).head
unfolding contents_of
head-fits programme files u s = s.head

pub data-long : (programme : Programme) (files : ℕ → List ℕ) (u : ℕ) → UnitIsSound files (unit_at programme u) → length ((contents_sent programme files).data_unit u).bytes ≡ (unit_at programme u).value.length
unfolding contents_of
data-long programme files u s = unit-long files (unit_at programme u) s

pub timed-is : (programme : Programme) (files : ℕ → List ℕ) (u : ℕ) → (contents_sent programme files).timed u ≡ (unit_at programme u).in_mpu.in_asset.timed
unfolding contents_of
timed-is programme files u = refl

-- ---- a group

sum-map : {X Y : Type 0} (g : Y → ℕ) (f : X → Y) (xs : List X) → sum_by g (map f xs) ≡ sum_by (λ x. g (f x)) xs
sum-map g f [] = refl
sum-map {X} {Y} g f (x ∷ xs) = sum_by-cons g (f x) (map f xs) ∙ ap (λ (n : ℕ). g (f x) + n) (sum-map g f xs) ∙ sym (sum_by-cons (λ (y : X). g (f y)) x xs)

same-sum : {X : Type 0} (g h : X → ℕ) (xs : List X) → AllByRecursion (λ x. g x ≡ h x) xs → sum_by g xs ≡ sum_by h xs
same-sum g h [] e = refl
same-sum g h (x ∷ xs) e = sum_by-cons g x xs ∙ ap₂ (λ (a b : ℕ). a + b) e.0 (same-sum g h xs e.1) ∙ sym (sum_by-cons h x xs)

each-made : {X Y : Type 0} (P : Y → Type 0) (f : X → Y) (xs : List X) → AllByRecursion (λ x. P (f x)) xs → AllByRecursion P (map f xs)
each-made P f [] h = tt
each-made P f (x ∷ xs) h = (h.0, each-made P f xs h.1)

-- the units of a group are of the first's MPU
pub one-group : (programme : Programme) (f c : ℕ) (x : PlacedUnit) → 1 < c → f + c ≤ length (all_units programme) → unit_at programme f ≡ x → IsGroup programme f c x → (u : ℕ) → f ≤ u → u < f + c
    → (unit_at programme u).in_mpu ≡ (unit_at programme f).in_mpu
one-group programme f c x more within is group u from below =
    let lu : u < length (all_units programme) = omega (arith, within, below) in
    let lf : f < length (all_units programme) = omega (arith, within, more) in
    let first : (unit_at programme f).mpu_place ≡ x.mpu_place = ap (λ (z : PlacedUnit). z.mpu_place) is in
    one-mpu programme u f lu lf ((group u from below).0 ∙ sym first)

header-of : PlacedMpu → ℕ
header-of m = cond m.in_asset.timed 14 4

header-by : (x : PlacedUnit) → header_length x ≡ header-of x.in_mpu
unfolding header_length header-of
header-by x = refl

-- its data units have the bytes of its units
pub group-data : (programme : Programme) (files : ℕ → List ℕ) (f c : ℕ) (x : PlacedUnit) → CanBeSent programme files → 1 < c → f + c ≤ length (all_units programme) → unit_at programme f ≡ x → IsGroup programme f c x
    → sum_by (size_of ((contents_sent programme files).timed f)) (map (contents_sent programme files).data_unit (numbers f c)) ≡ sum_by own_size (units_from programme f c)
group-data programme files f c x can more within is group =
    let timed : Bool = (contents_sent programme files).timed f in
    let data_of : ℕ → DataUnit = (contents_sent programme files).data_unit in
    let same : AllByRecursion (λ u. size_of timed (data_of u) ≡ own_size (unit_at programme u)) (numbers f c) =
    each-numbers (λ u. size_of timed (data_of u) ≡ own_size (unit_at programme u)) f c (λ u from below. (
    let lu : u < length (all_units programme) = omega (arith, within, below) in
    let long : length (data_of u).bytes ≡ (unit_at programme u).value.length = data-long programme files u (sound-at programme files can u lu) in
    let mpu : (unit_at programme u).in_mpu ≡ (unit_at programme f).in_mpu = one-group programme f c x more within is group u from below in
    let head : head_length timed ≡ header_length (unit_at programme u) =
    ap head_length (timed-is programme files f ∙ sym (ap (λ (m : PlacedMpu). m.in_asset.timed) mpu)) ∙ sym (header-same (unit_at programme u)) in
    ap₂ (λ (h l : ℕ). 2 + h + l) head long)) in
    sum-map (size_of timed) data_of (numbers f c) ∙ same-sum (λ u. size_of timed (data_of u)) (λ u. own_size (unit_at programme u)) (numbers f c) same ∙ sym (sum-map own_size (unit_at programme) (numbers f c))

-- with the header of the first, or each with its own
pub group-sizes : (programme : Programme) (f c : ℕ) (x : PlacedUnit) → 1 < c → f + c ≤ length (all_units programme) → unit_at programme f ≡ x → IsGroup programme f c x
    → sum_by own_size (units_from programme f c) ≡ sum_by (λ y. 2 + header_length x + y.value.length) (units_from programme f c)
group-sizes programme f c x more within is group =
    let same : AllByRecursion (λ u. own_size (unit_at programme u) ≡ 2 + header_length x + (unit_at programme u).value.length) (numbers f c) =
    each-numbers (λ u. own_size (unit_at programme u) ≡ 2 + header_length x + (unit_at programme u).value.length) f c (λ u from below. (
    let mpu : (unit_at programme u).in_mpu ≡ x.in_mpu = one-group programme f c x more within is group u from below ∙ ap (λ (y : PlacedUnit). y.in_mpu) is in
    let head : header_length (unit_at programme u) ≡ header_length x = header-by (unit_at programme u) ∙ ap header-of mpu ∙ sym (header-by x) in
    ap (λ (h : ℕ). 2 + h + (unit_at programme u).value.length) head)) in
    sum-map own_size (unit_at programme) (numbers f c) ∙ same-sum (λ u. own_size (unit_at programme u)) (λ u. 2 + header_length x + (unit_at programme u).value.length) (numbers f c) same
    ∙ sym (sum-map (λ (y : PlacedUnit). 2 + header_length x + y.value.length) (unit_at programme) (numbers f c))

-- their headers fit
pub group-heads : (programme : Programme) (files : ℕ → List ℕ) (f c : ℕ) (x : PlacedUnit) → CanBeSent programme files → 1 < c → f + c ≤ length (all_units programme) → unit_at programme f ≡ x → IsGroup programme f c x
    → AllByRecursion (λ d. HeadFits ((contents_sent programme files).timed f) (as_unit d).head) (map (contents_sent programme files).data_unit (numbers f c))
group-heads programme files f c x can more within is group =
    let timed : ℕ → Bool = (contents_sent programme files).timed in
    let data_of : ℕ → DataUnit = (contents_sent programme files).data_unit in
    each-made (λ (d : DataUnit). HeadFits (timed f) (as_unit d).head) data_of (numbers f c)
    (each-numbers (λ u. HeadFits (timed f) (as_unit (data_of u)).head) f c (λ u from below. (
    let lu : u < length (all_units programme) = omega (arith, within, below) in
    let mpu : (unit_at programme u).in_mpu ≡ (unit_at programme f).in_mpu = one-group programme f c x more within is group u from below in
    let same : timed u ≡ timed f = timed-is programme files u ∙ ap (λ (m : PlacedMpu). m.in_asset.timed) mpu ∙ sym (timed-is programme files f) in
    subst (λ (t : Bool). HeadFits t (as_unit (data_of u)).head) same (head-fits programme files u (sound-at programme files can u lu)))))
