-- When an MPU is first named.
use Rattle.std.proofs.Common.{◌≡◌, ℕ, ◌<◌, ◌≤◌, zero, suc, Bool, true, false, cond, ◌&&◌, nat_lt, min, List, [], ◌∷◌, length, map, get_or, arith, refl, ap, sym, ◌∙◌, ⊎_elim}
use Rattle.std.specs.List.{list_any}
use Rattle.std.proofs.lemmas.Bool.{and_parts, and_from, ltb-true, lt-ltb, or_cases, or_left, or_right}
use Rattle.mmt_delivery.proofs.Tests.{same_tests}
use Rattle.mmt_expect.proofs.Lasts.{either, last-or}
use Rattle.mmt_expect.specs.Named.{least_named}
use Rattle.mmt_expect.specs.Reaches.{never}
use Rattle.mmt_model.specs.Carrying.{no_table_copy}
use Rattle.mmt_model.specs.Counts.{member}
use Rattle.mmt_model.specs.declared.casts.TableCopy.{TableCopy}

pub named-more : (copies : List TableCopy) (signals : List ℕ) (m i : ℕ)
    → least_named copies signals m (suc i) ≡ cond (member m (get_or copies i no_table_copy).names) (min (least_named copies signals m i) (get_or signals (get_or copies i no_table_copy).signal 0)) (least_named copies signals m i)
unfolding least_named
named-more copies signals m i = refl

pub named-none : (copies : List TableCopy) (signals : List ℕ) (m : ℕ) → least_named copies signals m 0 ≡ never
unfolding least_named
named-none copies signals m = refl

named-at : (copies : List TableCopy) (signals : List ℕ) (m c i : ℕ) → c < i → member m (get_or copies c no_table_copy).names ≡ true → least_named copies signals m i ≤ get_or signals (get_or copies c no_table_copy).signal 0
named-at copies signals m c zero l t = absurd (omega arith)
named-at copies signals m c (suc i) l t =
    ⊎_elim
    (λ (same : c ≡ i).
    let here : member m (get_or copies i no_table_copy).names ≡ true = ap (λ k. member m (get_or copies k no_table_copy).names) (sym same) ∙ t in
    let e : least_named copies signals m (suc i) ≡ min (least_named copies signals m i) (get_or signals (get_or copies i no_table_copy).signal 0) =
    named-more copies signals m i ∙ ap (λ b. cond b (min (least_named copies signals m i) (get_or signals (get_or copies i no_table_copy).signal 0)) (least_named copies signals m i)) here in
    let r : get_or signals (get_or copies c no_table_copy).signal 0 ≡ get_or signals (get_or copies i no_table_copy).signal 0 = ap (λ k. get_or signals (get_or copies k no_table_copy).signal 0) same in
    omega (arith, e, r))
    (λ (less : c < i).
    let h = named-at copies signals m c i less t in
    let g = falls (member m (get_or copies i no_table_copy).names) (least_named copies signals m i) (get_or signals (get_or copies i no_table_copy).signal 0) in
    omega (arith, h, g, named-more copies signals m i))
    (last-or c i l)
  where
    falls : (b : Bool) (x y : ℕ) → cond b (min x y) x ≤ x
    falls true x y = omega arith
    falls false x y = omega arith

-- a table copy that names an MPU before a tick
record IsNamedBy (copies : List TableCopy) (signals : List ℕ) (m due i : ℕ) : Type 0 where
  at : ℕ
  there : at < i
  names : member m (get_or copies at no_table_copy).names ≡ true
  before : get_or signals (get_or copies at no_table_copy).signal 0 < due

later : (copies : List TableCopy) (signals : List ℕ) (m due i : ℕ) → IsNamedBy copies signals m due i → IsNamedBy copies signals m due (suc i)
later copies signals m due i r = record { at = r.at; there = omega (arith, r.there); names = r.names; before = r.before }

-- with a copy more
step : (copies : List TableCopy) (signals : List ℕ) (m due i : ℕ) (b : Bool) → member m (get_or copies i no_table_copy).names ≡ b → (least_named copies signals m i < due → IsNamedBy copies signals m due i)
    → cond b (min (least_named copies signals m i) (get_or signals (get_or copies i no_table_copy).signal 0)) (least_named copies signals m i) < due → IsNamedBy copies signals m due (suc i)
step copies signals m due i true e ih h =
    ⊎_elim
    (λ (a : least_named copies signals m i < due). later copies signals m due i (ih a))
    (λ (s : get_or signals (get_or copies i no_table_copy).signal 0 < due). record { at = i; there = omega arith; names = e; before = s })
    (either (least_named copies signals m i) (get_or signals (get_or copies i no_table_copy).signal 0) due h)
step copies signals m due i false e ih h = later copies signals m due i (ih h)

named-by : (copies : List TableCopy) (signals : List ℕ) (m due i : ℕ) → due ≤ never → least_named copies signals m i < due → IsNamedBy copies signals m due i
named-by copies signals m due zero small less = absurd (omega (arith, named-none copies signals m, less, small))
named-by copies signals m due (suc i) small less =
    step copies signals m due i (member m (get_or copies i no_table_copy).names) refl (λ h. named-by copies signals m due i small h)
    (let e = named-more copies signals m i in omega (arith, e, less))

any-from : {X Y : Type 0} (p : Y → Bool) (f : X → Y) (xs : List X) (i : ℕ) (d : X) → i < length xs → p (f (get_or xs i d)) ≡ true → list_any p (map f xs) ≡ true
any-from p f [] i d l t = absurd (omega arith)
any-from p f (x ∷ xs) zero d l t = or_left (p (f x)) (list_any p (map f xs)) t
any-from p f (x ∷ xs) (suc i) d l t = or_right (p (f x)) (list_any p (map f xs)) (any-from p f xs i d (omega arith) t)

any-at : {X Y : Type 0} (p : Y → Bool) (f : X → Y) (xs : List X) (d : X) → list_any p (map f xs) ≡ true → (i : ℕ) × (i < length xs) × (p (f (get_or xs i d)) ≡ true)
any-at p f [] d t = absurd cc
any-at p f (x ∷ xs) d t =
    ⊎_elim
    (λ (h : p (f x) ≡ true). (0, omega arith, h))
    (λ (h : list_any p (map f xs) ≡ true). let r = any-at p f xs d h in (suc r.0, omega (arith, r.1), r.2))
    (or_cases (p (f x)) (list_any p (map f xs)) t)

-- an MPU is named before a tick where a copy that names it has its reach before it
pub named-is : {Y : Type 0} (f : TableCopy → Y) (counts : Y → Bool) (names : Y → List ℕ) (copies : List TableCopy) (signals : List ℕ) (m due : ℕ) → due ≤ never → ((c : TableCopy) → names (f c) ≡ c.names)
    → ((c : ℕ) → c < length copies → counts (f (get_or copies c no_table_copy)) ≡ nat_lt (get_or signals (get_or copies c no_table_copy).signal 0) due)
    → list_any (λ y. member m (names y) && counts y) (map f copies) ≡ nat_lt (least_named copies signals m (length copies)) due
named-is f counts names copies signals m due small same each =
    same_tests (list_any (λ y. member m (names y) && counts y) (map f copies)) (nat_lt (least_named copies signals m (length copies)) due)
    (λ h.
    let r = any-at (λ y. member m (names y) && counts y) f copies no_table_copy h in
    let p = and_parts (member m (names (f (get_or copies r.0 no_table_copy)))) (counts (f (get_or copies r.0 no_table_copy))) r.2 in
    let a = ltb-true (get_or signals (get_or copies r.0 no_table_copy).signal 0) due (sym (each r.0 r.1) ∙ p.1) in
    let b = named-at copies signals m r.0 (length copies) r.1 (sym (ap (member m) (same (get_or copies r.0 no_table_copy))) ∙ p.0) in
    lt-ltb (least_named copies signals m (length copies)) due (omega (arith, a, b)))
    (λ h.
    let r = named-by copies signals m due (length copies) small (ltb-true (least_named copies signals m (length copies)) due h) in
    any-from (λ y. member m (names y) && counts y) f copies r.at no_table_copy r.there
    (and_from (member m (names (f (get_or copies r.at no_table_copy)))) (counts (f (get_or copies r.at no_table_copy)))
    (ap (member m) (same (get_or copies r.at no_table_copy)) ∙ r.names)
    (each r.at r.there ∙ lt-ltb (get_or signals (get_or copies r.at no_table_copy).signal 0) due r.before)))
