-- What each packet of the cast of a right programme carries is there, and goes into a packet.
use Rattle.std.proofs.Common.{◌≡◌, ℕ, ◌+◌, ◌*◌, ◌<◌, ◌≤◌, Bool, true, false, ◌==◌, cond, List, [], ◌∷◌, map, length, get_or, arith, refl, sym, ap, ap₂, subst, ◌∙◌}
use Rattle.std.proofs.lemmas.Bool.{eqb-true}
use Rattle.std.proofs.lemmas.Grind.{div_ceil_times}
use Rattle.std.proofs.Math.Nat.{mul-le-mul_right}
use Rattle.std.proofs.lemmas.List.{get_or_default}
use Rattle.std.proofs.lemmas.List.Sums.{sum_by-cons}
use Rattle.std.specs.List.{AllByRecursion, sum_by}
use Rattle.mmt_cast.specs.Casting.{cast_of, with_number}
use Rattle.mmt_cast.specs.Placing.{PlacedMpu, PlacedUnit, all_units}
use Rattle.mmt_cast.specs.Right.{signal_at, unit_at}
use Rattle.mmt_cast.specs.Sending.{Sending, carried, header_length, packet_count, packet_of}
use Rattle.mmt_cast.proofs.Found.{each-sent}
use Rattle.mmt_cast.proofs.Listing.{each-at, each-numbers}
use Rattle.mmt_cast.proofs.Rightness.{IsGroup as IsGroupOf, IsRightSending}
use Rattle.mmt_cast.proofs.SentIn.{one-mpu, right-sending}
use Rattle.mmt_frag.specs.Cuts.{parts}
use Rattle.mmt_frag.proofs.PartsJoined.{parts-enough}
use Rattle.mmt_model.specs.Carrying.{numbers}
use Rattle.mmt_model.specs.Right.{IsRight}
use Rattle.mmt_model.specs.Survival.{no_packet}
use Rattle.mmt_model.specs.declared.casts.Carries.TheVariants as carries
use Rattle.mmt_model.specs.declared.casts.Cast.{Cast}
use Rattle.mmt_model.specs.declared.casts.Sent.{Sent}
use Rattle.mmt_model.specs.declared.programmes.Programme.{Programme}
use Rattle.mmt_pace.proofs.Alike.{each-alike}
use Rattle.mmt_pace.specs.Recast.{IsItsCast}
use Rattle.mmt_sent.specs.Messages.{is_table}
use Rattle.mmt_send.specs.Carried.{IsCarried, own_size}

-- ---- parts

part-begins : (size limit k : ℕ) → 1 ≤ limit → k < parts size limit → k * limit < size
part-begins size limit k some below =
    let next : k + 1 ≤ parts size limit = omega arith in
    let m = mul-le-mul_right limit next in
    omega (arith, m, (div_ceil_times size limit (omega arith)).1)

one-part : (size limit : ℕ) → 1 ≤ limit → (parts size limit == 1) ≡ true → size ≤ limit
one-part size limit some one =
    let is : parts size limit ≡ 1 = eqb-true (parts size limit) 1 one in
    let all : size ≤ 1 * limit = subst (λ (n : ℕ). size ≤ n * limit) is (parts-enough size limit some) in
    omega arith

-- ---- groups

sum-map : {X Y : Type 0} (g : Y → ℕ) (f : X → Y) (xs : List X) → sum_by g (map f xs) ≡ sum_by (λ x. g (f x)) xs
sum-map g f [] = refl
sum-map {X} {Y} g f (x ∷ xs) = sum_by-cons g (f x) (map f xs) ∙ ap (λ (n : ℕ). g (f x) + n) (sum-map g f xs) ∙ sym (sum_by-cons (λ (y : X). g (f y)) x xs)

same-sum : {X : Type 0} (g h : X → ℕ) (xs : List X) → AllByRecursion (λ x. g x ≡ h x) xs → sum_by g xs ≡ sum_by h xs
same-sum g h [] e = refl
same-sum g h (x ∷ xs) e = sum_by-cons g x xs ∙ ap₂ (λ (a b : ℕ). a + b) e.0 (same-sum g h xs e.1) ∙ sym (sum_by-cons h x xs)

header-of : PlacedMpu → ℕ
header-of m = cond m.in_asset.timed 14 4

header-by : (x : PlacedUnit) → header_length x ≡ header-of x.in_mpu
unfolding header_length header-of
header-by x = refl

-- the units of a group are of the first's MPU
one-group : (programme : Programme) (f c : ℕ) (x : PlacedUnit) → 1 < c → f + c ≤ length (all_units programme) → unit_at programme f ≡ x → IsGroupOf programme f c x → (u : ℕ) → f ≤ u → u < f + c
    → (unit_at programme u).in_mpu ≡ (unit_at programme f).in_mpu
one-group programme f c x more within is group u from below =
    let lu : u < length (all_units programme) = omega (arith, within, below) in
    let lf : f < length (all_units programme) = omega (arith, within, more) in
    let first : (unit_at programme f).mpu_place ≡ x.mpu_place = ap (λ (z : PlacedUnit). z.mpu_place) is in
    one-mpu programme u f lu lf ((group u from below).0 ∙ sym first)

group-sizes : (programme : Programme) (f c : ℕ) (x : PlacedUnit) → 1 < c → f + c ≤ length (all_units programme) → unit_at programme f ≡ x → IsGroupOf programme f c x
    → sum_by own_size (map (unit_at programme) (numbers f c)) ≡ sum_by (λ y. 2 + header_length x + y.value.length) (map (unit_at programme) (numbers f c))
group-sizes programme f c x more within is group =
    let same : AllByRecursion (λ u. own_size (unit_at programme u) ≡ 2 + header_length x + (unit_at programme u).value.length) (numbers f c) =
    each-numbers (λ u. own_size (unit_at programme u) ≡ 2 + header_length x + (unit_at programme u).value.length) f c (λ u from below. (
    let mpu : (unit_at programme u).in_mpu ≡ x.in_mpu = one-group programme f c x more within is group u from below ∙ ap (λ (y : PlacedUnit). y.in_mpu) is in
    let head : header_length (unit_at programme u) ≡ header_length x = header-by (unit_at programme u) ∙ ap header-of mpu ∙ sym (header-by x) in
    ap (λ (h : ℕ). 2 + h + (unit_at programme u).value.length) head)) in
    sum-map own_size (unit_at programme) (numbers f c) ∙ same-sum (λ u. own_size (unit_at programme u)) (λ u. 2 + header_length x + (unit_at programme u).value.length) (numbers f c) same
    ∙ sym (sum-map (λ (y : PlacedUnit). 2 + header_length x + y.value.length) (unit_at programme) (numbers f c))

-- ---- each sending

table-goes : (programme : Programme) (s k bytes : ℕ) → s < length programme.signals → is_table (signal_at programme s) ≡ true → IsCarried programme (cond (parts bytes programme.limit == 1) (carries.Table s) (carries.TablePart s k))
table-goes programme s k bytes l t = go (parts bytes programme.limit == 1)
  where
    go : (b : Bool) → IsCarried programme (cond b (carries.Table s) (carries.TablePart s k))
    go true = l
    go false = (l, t)

unit-goes : (programme : Programme) (u k : ℕ) → 1 ≤ programme.limit → u < length (all_units programme) → k < parts (unit_at programme u).value.length programme.limit
    → IsCarried programme (cond (parts (unit_at programme u).value.length programme.limit == 1) (carries.Whole u) (carries.Fragment u k))
unit-goes programme u k some l below = go (parts (unit_at programme u).value.length programme.limit == 1) refl
  where
    go : (b : Bool) → (parts (unit_at programme u).value.length programme.limit == 1) ≡ b → IsCarried programme (cond b (carries.Whole u) (carries.Fragment u k))
    go true one = (l, one-part (unit_at programme u).value.length programme.limit some one)
    go false more = (l, part-begins (unit_at programme u).value.length programme.limit k some below)

goes : (programme : Programme) → 64 ≤ programme.limit → (x : Sending) (k : ℕ) → IsRightSending programme x → k < packet_count programme x → IsCarried programme (carried programme x k)
unfolding carried packet_count
goes programme limit (Sending.Parameters s at) k is l = is.0
goes programme limit (Sending.Table s at bytes) k is l = table-goes programme s k bytes is.0 (ap is_table is.2)
goes programme limit (Sending.Alone u x) k is l =
    subst (λ (y : PlacedUnit). k < parts y.value.length programme.limit → IsCarried programme (cond (parts y.value.length programme.limit == 1) (carries.Whole u) (carries.Fragment u k))) is.1 (λ below. unit-goes programme u k (omega arith) is.0 below) l
goes programme limit (Sending.Group f c x bytes) k is l =
    record { some = omega (arith, is.0); known = is.1; one_mpu = one-group programme f c x is.0 is.1 is.2 is.3; short = omega (arith, group-sizes programme f c x is.0 is.1 is.2 is.3, is.5) }

each-packet : (programme : Programme) → IsRight programme → AllByRecursion (λ (p : Sent). IsCarried programme p.carries) (cast_of programme).packets
unfolding with_number packet_of
each-packet programme right = each-sent programme (λ (p : Sent). IsCarried programme p.carries) (λ a b x k e below. goes programme right.limit_low x k (right-sending programme a b x e) below)

pub each-carried : (programme : Programme) (cast : Cast) (slice : List Sent) (n : ℕ) (d : Sent) → IsRight programme → IsItsCast programme cast → slice ≡ cast.packets → n < length slice → IsCarried programme (get_or slice n d).carries
each-carried programme cast slice n d right is e l =
    subst (λ (xs : List Sent). n < length xs → IsCarried programme (get_or xs n d).carries) (sym e)
    (λ below. each-at (λ (p : Sent). IsCarried programme p.carries) cast.packets n d (each-alike programme cast is (λ (p : Sent). IsCarried programme p.carries) (λ tick p h. h) (each-packet programme right)) below) l

pub at-slice : (cast : Cast) (slice : List Sent) (n : ℕ) (d : Sent) → slice ≡ cast.packets → n < length slice → get_or slice n d ≡ get_or cast.packets n no_packet
at-slice cast slice n d e l = get_or_default slice n d no_packet l ∙ ap (λ (xs : List Sent). get_or xs n no_packet) e
