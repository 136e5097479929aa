-- Units, table copies and MPUs with the ticks of their packets, one after the other.
use Rattle.std.proofs.Common.{◌≡◌, ℕ, ◌+◌, ◌<◌, suc, zero, List, [], ◌∷◌, ◌++◌, map, length, get_or, arith, refl, ap, ap₂, sym, ◌∙◌, Option, None}
use Rattle.mmt_base.specs.declared.ticks.LongTick.{LongTick}
use Rattle.mmt_cast.specs.Casting.{greatest, has_table, has_unit, least, long_tick}
use Rattle.mmt_cast.specs.Placing.{map_from}
use Rattle.mmt_casting.proofs.Adding.{added-more, by-places}
use Rattle.mmt_casting.specs.Named.{AreNamed}
use Rattle.mmt_model.specs.Carrying.{named_from_of, no_sent_mpu, no_sent_unit, no_table_copy, numbers}
use Rattle.mmt_model.specs.declared.casts.Sent.{Sent}
use Rattle.mmt_model.specs.declared.casts.SentMpu.{SentMpu}
use Rattle.mmt_model.specs.declared.casts.SentUnit.{SentUnit}
use Rattle.mmt_model.specs.declared.casts.TableCopy.{TableCopy}
use Rattle.mmt_pace.specs.Recast.{copy_in_packets, mpu_named_by, ticks_with, unit_in_packets}
use Rattle.mmt_pace.specs.Spanned.{AreCopySpans, AreSpans, first_in, last_in, span_of_ticks}
use Rattle.mmt_pace.specs.declared.spans.Span.{Span}

-- ---- lists made place by place

-- the items that a function makes of the places below n
abbrev pub made_to : {X : Type 0} → (ℕ → X) → ℕ → List X
made_to f n = map f (numbers 0 n)

pub none-yet : {X : Type 0} (f : ℕ → X) (items : List X) → items ≡ [] → items ≡ made_to f 0
unfolding numbers
none-yet f items e = e

pub one-more : {X : Type 0} (f : ℕ → X) (n : ℕ) (items items' : List X) (x : X) → items ≡ made_to f n → items' ≡ items ++ x ∷ [] → x ≡ f n → items' ≡ made_to f (n + 1)
one-more f n items items' x e push ex = let z : n ≡ 0 + n = omega arith in added-more f 0 n [] items items' x e push (ex ∙ ap f z)

same-map : {X Y : Type 0} (f : ℕ → X → Y) (d : X) (xs : List X) (k j : ℕ) → map (λ i. f (0 + i) (get_or xs i d)) (numbers j k) ≡ map (λ i. f i (get_or xs i d)) (numbers j k)
unfolding numbers
same-map f d xs zero j = refl
same-map f d xs (suc k) j = let z : 0 + j ≡ j = omega arith in ap₂ (λ y ys. y ∷ ys) (ap (λ i. f i (get_or xs j d)) z) (same-map f d xs k (j + 1))

pub all-there : {X Y : Type 0} (f : ℕ → X → Y) (d : X) (xs : List X) (n : ℕ) (items : List Y) → n ≡ length xs → items ≡ made_to (λ i. f i (get_or xs i d)) n → items ≡ map_from f 0 xs
all-there {X} {Y} f d xs n items en e = e ∙ (ap (made_to (λ i. f i (get_or xs i d))) en ∙ sym (by-places f xs 0 d ∙ same-map f d xs (length xs) 0))

get-any : {X : Type 0} (xs : List X) (k : ℕ) (d e : X) → k < length xs → get_or xs k d ≡ get_or xs k e
get-any [] k d e l = absurd (omega arith)
get-any (x ∷ xs) zero d e l = refl
get-any (x ∷ xs) (suc k) d e l = get-any xs k d e (omega arith)

-- ---- spans

first-is : (ts : List ℕ) → first_in (span_of_ticks ts) ≡ least ts
unfolding least
first-is [] = refl
first-is (t ∷ ts) = refl

last-is : (ts : List ℕ) → last_in (span_of_ticks ts) ≡ greatest ts
unfolding greatest
last-is [] = refl
last-is (t ∷ ts) = refl

tick-is : (a : LongTick) (n : ℕ) → a.0 ≡ n → a ≡ record { 0 = n }
tick-is a n e = ap (λ (x : ℕ). let t : LongTick = record { 0 = x } in t) e

pub unit-made : (packets : List Sent) (units : List SentUnit) (n : ℕ) (e : SentUnit) (spans : List (Option Span)) (d : Option Span) (first last : LongTick) → n < length units → length spans ≡ length units → AreSpans (length units) has_unit packets spans
    → first.0 ≡ first_in (get_or spans n d) → last.0 ≡ last_in (get_or spans n d)
    → (let u = get_or units n e in record { asset = u.asset; mpu = u.mpu; unit = u.unit; key = u.key; time = u.time; due = u.due; first = first; last = last; first_number = u.first_number; count = u.count }) ≡ unit_in_packets packets n (get_or units n no_sent_unit)
unfolding unit_in_packets
unit-made packets units n e spans d first last l same are ef el =
    let u : SentUnit = get_or units n e in
    let at : get_or spans n d ≡ span_of_ticks (ticks_with (has_unit n) packets) = get-any spans n d None (omega (arith, l, same)) ∙ are.each n l in
    let f : first ≡ record { 0 = least (ticks_with (has_unit n) packets) } = tick-is first (least (ticks_with (has_unit n) packets)) (ef ∙ (ap first_in at ∙ first-is (ticks_with (has_unit n) packets))) in
    let g : last ≡ record { 0 = greatest (ticks_with (has_unit n) packets) } = tick-is last (greatest (ticks_with (has_unit n) packets)) (el ∙ (ap last_in at ∙ last-is (ticks_with (has_unit n) packets))) in
    ap₂ (λ (a b : LongTick). let s : SentUnit = record { asset = u.asset; mpu = u.mpu; unit = u.unit; key = u.key; time = u.time; due = u.due; first = a; last = b; first_number = u.first_number; count = u.count } in s) f g
    ∙ ap (unit_in_packets packets n) (get-any units n e no_sent_unit l)

pub copy-made : (packets : List Sent) (copies : List TableCopy) (n : ℕ) (c : TableCopy) (names : List ℕ) (spans : List (Option Span)) (d : Option Span) (first last : LongTick) → n < length copies → length spans ≡ length copies → AreCopySpans copies packets spans
    → first.0 ≡ first_in (get_or spans n d) → last.0 ≡ last_in (get_or spans n d) → c ≡ get_or copies n c → names ≡ c.names
    → record { signal = c.signal; names = names; first = first; last = last; first_number = c.first_number; count = c.count } ≡ copy_in_packets packets (get_or copies n no_table_copy)
unfolding copy_in_packets
copy-made packets copies n c names spans d first last l same are ef el is en =
    let v : c ≡ get_or copies n no_table_copy = is ∙ get-any copies n c no_table_copy l in
    let ts : List ℕ = ticks_with (has_table c.signal) packets in
    let at : get_or spans n d ≡ span_of_ticks ts = get-any spans n d None (omega (arith, l, same)) ∙ (are.each n l ∙ ap (λ (y : TableCopy). span_of_ticks (ticks_with (has_table y.signal) packets)) (sym v)) in
    let f : first ≡ record { 0 = least ts } = tick-is first (least ts) (ef ∙ (ap first_in at ∙ first-is ts)) in
    let g : last ≡ record { 0 = greatest ts } = tick-is last (greatest ts) (el ∙ (ap last_in at ∙ last-is ts)) in
    ap (λ (ns : List ℕ). let y : TableCopy = record { signal = c.signal; names = ns; first = first; last = last; first_number = c.first_number; count = c.count } in y) en
    ∙ (ap₂ (λ (a b : LongTick). let y : TableCopy = record { signal = c.signal; names = c.names; first = a; last = b; first_number = c.first_number; count = c.count } in y) f g
    ∙ ap (copy_in_packets packets) v)

pub mpu-made : (copies : List TableCopy) (mpus : List SentMpu) (n : ℕ) (e : SentMpu) (named : List (Option LongTick)) (d : Option LongTick) → n < length mpus → length named ≡ length mpus → AreNamed (length mpus) copies named
    → (let m = get_or mpus n e in record { asset = m.asset; mpu = m.mpu; least = m.least; last = m.last; named_from = get_or named n d }) ≡ mpu_named_by copies n (get_or mpus n no_sent_mpu)
unfolding mpu_named_by
mpu-made copies mpus n e named d l same are =
    let m : SentMpu = get_or mpus n e in
    let at : get_or named n d ≡ long_tick (named_from_of n copies) = get-any named n d None (omega (arith, l, same)) ∙ are.each n l in
    ap (λ (o : Option LongTick). let y : SentMpu = record { asset = m.asset; mpu = m.mpu; least = m.least; last = m.last; named_from = o } in y) at
    ∙ ap (mpu_named_by copies n) (get-any mpus n e no_sent_mpu l)

-- ---- copies as a plain map

pub map-is : {X Y : Type 0} (f : X → Y) (n : ℕ) (xs : List X) → map_from (λ i x. f x) n xs ≡ map f xs
unfolding map_from
map-is f n [] = refl
map-is f n (x ∷ xs) = ap (λ l. f x ∷ l) (map-is f (n + 1) xs)
