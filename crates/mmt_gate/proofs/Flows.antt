-- Headers without repeats, and the place of one among them.
use Rattle.std.proofs.Common.{◌≡◌, ℕ, zero, suc, ◌+◌, ◌<◌, Bool, true, false, cond, ◌&&◌, ◌||◌, eqb, ltb, List, [], ◌∷◌, ◌++◌, length, take, Option, Some, None, refl, sym, ap, ap₂, subst, ◌∙◌, arith, eq-eqb}
use Rattle.std.specs.Prelude.{⊤, map, count_by, not}
use Rattle.std.specs.List.{list_any, position, position_or_len}
use Rattle.std.proofs.lemmas.Bool.{eqb-true, lt-ltb}
use Rattle.mmt_ip.specs.declared.packet.Ip6Header.{Ip6Header}
use Rattle.mmt_gate.specs.Flows.{same, distinct}

-- ---- headers that agree are equal

and_first : (a b : Bool) → (a && b) ≡ true → a ≡ true
and_first true b e = refl
and_first false b e = absurd cc

and_second : (a b : Bool) → (a && b) ≡ true → b ≡ true
and_second true b e = e
and_second false b e = absurd cc

same_fields : (a b c d e f g a' b' c' d' e' f' g' : ℕ) → (eqb a a' && (eqb b b' && (eqb c c' && (eqb d d' && (eqb e e' && (eqb f f' && eqb g g')))))) ≡ true
    → (a ≡ a') × (b ≡ b') × (c ≡ c') × (d ≡ d') × (e ≡ e') × (f ≡ f') × (g ≡ g')
same_fields a b c d e f g a' b' c' d' e' f' g' is =
    let r1 = and_second _ _ is in
    let r2 = and_second _ _ r1 in
    let r3 = and_second _ _ r2 in
    let r4 = and_second _ _ r3 in
    let r5 = and_second _ _ r4 in
    let r6 = and_second _ _ r5 in (
      eqb-true a a' (and_first _ _ is),
      eqb-true b b' (and_first _ _ r1),
      eqb-true c c' (and_first _ _ r2),
      eqb-true d d' (and_first _ _ r3),
      eqb-true e e' (and_first _ _ r4),
      eqb-true f f' (and_first _ _ r5),
      eqb-true g g' r6,
    )

pub same_is : (h k : Ip6Header) → same h k ≡ true → h ≡ k
unfolding same
same_is h k e =
    let f = same_fields h.traffic_class h.flow_label h.hop_limit h.source h.destination h.source_port h.destination_port k.traffic_class k.flow_label k.hop_limit k.source k.destination k.source_port k.destination_port e in
    let a = f.0 in
    let b = f.1 in
    let c = f.2 in
    let d = f.3 in
    let g = f.4 in
    let i = f.5 in
    let j = f.6 in
    λ n. record { traffic_class = a n; flow_label = b n; hop_limit = c n; source = d n; destination = g n; source_port = i n; destination_port = j n }

pub same_self : (h : Ip6Header) → same h h ≡ true
unfolding same
same_self h = rw (eq-eqb h.traffic_class h.traffic_class refl, eq-eqb h.flow_label h.flow_label refl, eq-eqb h.hop_limit h.hop_limit refl, eq-eqb h.source h.source refl, eq-eqb h.destination h.destination refl, eq-eqb h.source_port h.source_port refl, eq-eqb h.destination_port h.destination_port refl) refl

pub same_flips : (h k : Ip6Header) → same h k ≡ false → same k h ≡ false
same_flips h k e = by (same k h) refl
  where
    by : (b : Bool) → same k h ≡ b → b ≡ false
    by false s = refl
    by true s = absurd (let bad : same h k ≡ true = subst (λ (x : Ip6Header). same x k ≡ true) (same_is k h s) (same_self k) in cc)

-- ---- the first place that passes a test

abbrev pub next_place : Option ℕ → Option ℕ
next_place None = None
next_place (Some n) = Some (n + 1)

abbrev pub place : {X : Type 0} → (X → Bool) → List X → Option ℕ
place p [] = None
place p (x ∷ xs) = cond (p x) (Some 0) (next_place (place p xs))

one_more : (a n : ℕ) → cond (ltb (1 + a) (suc n)) (Some (1 + a)) None ≡ next_place (cond (ltb a n) (Some a) None)
one_more a n = by (ltb a n) (ltb (1 + a) (suc n)) refl refl
  where
    by : (b c : Bool) → ltb a n ≡ b → ltb (1 + a) (suc n) ≡ c → cond c (Some (1 + a)) None ≡ next_place (cond b (Some a) None)
    by true true e f = ap Some (omega arith)
    by false false e f = refl
    by true false e f = absurd (grind (arith, e, f))
    by false true e f = absurd (grind (arith, e, f))

first_step : (b : Bool) (a n : ℕ) → cond (ltb (cond (not b) (1 + a) 0) (suc n)) (Some (cond (not b) (1 + a) 0)) None ≡ cond b (Some 0) (next_place (cond (ltb a n) (Some a) None))
first_step true a n = rw (lt-ltb 0 (suc n) (omega arith)) refl
first_step false a n = one_more a n

pub position_is : {X : Type 0} (p : X → Bool) (xs : List X) → position p xs ≡ place p xs
position_is p [] = refl
position_is p (x ∷ xs) = first_step (p x) (position_or_len p xs) (length xs) ∙ ap (λ (o : Option ℕ). cond (p x) (Some 0) (next_place o)) (position_is p xs)

pub place_map : {X Y : Type 0} (f : X → Y) (p : X → Bool) (q : Y → Bool) → ((x : X) → q (f x) ≡ p x) → (xs : List X) → place q (map f xs) ≡ place p xs
place_map f p q agree [] = refl
place_map f p q agree (x ∷ xs) = ap₂ (λ (b : Bool) (o : Option ℕ). cond b (Some 0) (next_place o)) (agree x) (place_map f p q agree xs)

pub some_is : (a b : ℕ) → Some a ≡ Some b → a ≡ b
some_is a b e = cc

-- what a first place says
pub placed : {X : Type 0} (p : X → Bool) (xs : List X) (i : ℕ) → place p xs ≡ Some i → (i < length xs) × (list_any p xs ≡ true)
placed p [] i e = absurd cc
placed {X} p (x ∷ xs) i e = by (p x) (place p xs) (λ j is. placed p xs j is) refl e
  where
    by : (b : Bool) (o : Option ℕ) → ((j : ℕ) → o ≡ Some j → (j < length xs) × (list_any p xs ≡ true)) → p x ≡ b → cond b (Some 0) (next_place o) ≡ Some i → (i < length (x ∷ xs)) × (list_any p (x ∷ xs) ≡ true)
    by true o later t s = (omega (arith, some_is 0 i s), rw t refl)
    by false (Some j) later t s = let r = later j refl in (omega (arith, some_is (j + 1) i s, r.0), rw t r.1)
    by false None later t s = absurd cc

pub unplaced : {X : Type 0} (p : X → Bool) (xs : List X) → place p xs ≡ None → list_any p xs ≡ false
unplaced p [] e = refl
unplaced {X} p (x ∷ xs) e = by (p x) (place p xs) (λ is. unplaced p xs is) e
  where
    by : (b : Bool) (o : Option ℕ) → (o ≡ None → list_any p xs ≡ false) → cond b (Some 0) (next_place o) ≡ None → (b || list_any p xs) ≡ false
    by true o later s = absurd cc
    by false (Some j) later s = absurd cc
    by false None later s = later refl

pub place_last : {X : Type 0} (p : X → Bool) (xs : List X) (y : X) → list_any p xs ≡ false → p y ≡ true → place p (xs ++ y ∷ []) ≡ Some (length xs)
place_last p [] y none is = rw is refl
place_last {X} p (x ∷ xs) y none is = by (p x) (λ n. place_last p xs y n is) none
  where
    by : (b : Bool) → (list_any p xs ≡ false → place p (xs ++ y ∷ []) ≡ Some (length xs)) → (b || list_any p xs) ≡ false → cond b (Some 0) (next_place (place p (xs ++ y ∷ []))) ≡ Some (length (x ∷ xs))
    by true later s = absurd cc
    by false later s = ap next_place (later s) ∙ ap Some (omega arith)

-- ---- one that passes among the first ones

pub any_take : {X : Type 0} (p : X → Bool) (n : ℕ) (xs : List X) → list_any p (take n xs) ≡ true → list_any p xs ≡ true
any_take p zero xs e = absurd cc
any_take p (suc n) [] e = e
any_take {X} p (suc n) (x ∷ xs) e = by (p x) (λ s. any_take p n xs s) e
  where
    by : (b : Bool) → (list_any p (take n xs) ≡ true → list_any p xs ≡ true) → (b || list_any p (take n xs)) ≡ true → (b || list_any p xs) ≡ true
    by true later s = refl
    by false later s = later s

or_none : (b : Bool) → (b || false) ≡ false → b ≡ false
or_none true s = absurd cc
or_none false s = refl

pub any_push : {X : Type 0} (p : X → Bool) (xs : List X) (y : X) → list_any p (xs ++ y ∷ []) ≡ false → (list_any p xs ≡ false) × (p y ≡ false)
any_push p [] y e = (refl, or_none (p y) e)
any_push {X} p (x ∷ xs) y e = by (p x) (λ s. any_push p xs y s) e
  where
    by : (b : Bool) → (list_any p (xs ++ y ∷ []) ≡ false → (list_any p xs ≡ false) × (p y ≡ false)) → (b || list_any p (xs ++ y ∷ [])) ≡ false → ((b || list_any p xs) ≡ false) × (p y ≡ false)
    by true later s = absurd cc
    by false later s = later s

pub none_push : {X : Type 0} (p : X → Bool) (xs : List X) (y : X) → list_any p xs ≡ false → p y ≡ false → list_any p (xs ++ y ∷ []) ≡ false
none_push p [] y none is = rw is refl
none_push {X} p (x ∷ xs) y none is = by (p x) (λ s. none_push p xs y s is) none
  where
    by : (b : Bool) → (list_any p xs ≡ false → list_any p (xs ++ y ∷ []) ≡ false) → (b || list_any p xs) ≡ false → (b || list_any p (xs ++ y ∷ [])) ≡ false
    by true later s = absurd cc
    by false later s = later s

-- ---- headers without repeats

pub distinct_old : (h : Ip6Header) (hs : List Ip6Header) → list_any (same h) (distinct hs) ≡ true → distinct (h ∷ hs) ≡ distinct hs
unfolding distinct
distinct_old h hs e = rw e refl

pub distinct_new : (h : Ip6Header) (hs : List Ip6Header) → list_any (same h) (distinct hs) ≡ false → distinct (h ∷ hs) ≡ distinct hs ++ h ∷ []
unfolding distinct
distinct_new h hs e = rw e refl

abbrev pub NoRepeats : List Ip6Header → Type 0
NoRepeats [] = ⊤
NoRepeats (h ∷ hs) = (list_any (same h) hs ≡ false) × NoRepeats hs

repeats_push : (hs : List Ip6Header) (h : Ip6Header) → NoRepeats hs → list_any (same h) hs ≡ false → NoRepeats (hs ++ h ∷ [])
repeats_push [] h n none = (refl, tt)
repeats_push (k ∷ hs) h n none = by (same h k) (λ s. repeats_push hs h n.1 s) refl none
  where
    by : (b : Bool) → (list_any (same h) hs ≡ false → NoRepeats (hs ++ h ∷ [])) → same h k ≡ b → (b || list_any (same h) hs) ≡ false → NoRepeats ((k ∷ hs) ++ h ∷ [])
    by true later t s = absurd cc
    by false later t s = (none_push (same k) hs h n.0 (same_flips h k t), later s)

pub no_repeats : (hs : List Ip6Header) → NoRepeats (distinct hs)
unfolding distinct
no_repeats [] = tt
no_repeats (h ∷ hs) = by (list_any (same h) (distinct hs)) (no_repeats hs) refl
  where
    by : (b : Bool) → NoRepeats (distinct hs) → list_any (same h) (distinct hs) ≡ b → NoRepeats (cond b (distinct hs) (distinct hs ++ h ∷ []))
    by true later e = later
    by false later e = repeats_push (distinct hs) h later e

none_take : {X : Type 0} (p : X → Bool) (n : ℕ) (xs : List X) → list_any p xs ≡ false → list_any p (take n xs) ≡ false
none_take {X} p n xs e = by (list_any p (take n xs)) refl
  where
    by : (b : Bool) → list_any p (take n xs) ≡ b → b ≡ false
    by true t = absurd (let bad : list_any p xs ≡ true = any_take p n xs t in cc)
    by false t = refl

pub repeats_take : (n : ℕ) (hs : List Ip6Header) → NoRepeats hs → NoRepeats (take n hs)
repeats_take zero hs r = tt
repeats_take (suc n) [] r = tt
repeats_take (suc n) (h ∷ hs) r = (none_take (same h) n hs r.0, repeats_take n hs r.1)

apart : (h k : Ip6Header) (hs : List Ip6Header) → list_any (same k) (distinct hs) ≡ true → list_any (same h) (distinct hs) ≡ false → same h k ≡ false
apart h k hs old none = of (same h k) refl
  where
    of : (b : Bool) → same h k ≡ b → b ≡ false
    of true t = absurd (let bad : list_any (same h) (distinct hs) ≡ true = subst (λ (x : Ip6Header). list_any (same x) (distinct hs) ≡ true) (sym (same_is h k t)) old in cc)
    of false t = refl

counted : (h k : Ip6Header) (hs : List Ip6Header) → same h k ≡ false → count_by (same h) hs ≡ 0 → count_by (same h) (k ∷ hs) ≡ 0
counted h k hs differs none = rw (differs, none) refl

-- a header that is none of the distinct ones was not seen
pub unseen : (h : Ip6Header) (hs : List Ip6Header) → list_any (same h) (distinct hs) ≡ false → count_by (same h) hs ≡ 0
unfolding distinct
unseen h [] e = refl
unseen h (k ∷ hs) e = by (list_any (same k) (distinct hs)) (λ s. unseen h hs s) refl e
  where
    by : (b : Bool) → (list_any (same h) (distinct hs) ≡ false → count_by (same h) hs ≡ 0) → list_any (same k) (distinct hs) ≡ b → list_any (same h) (cond b (distinct hs) (distinct hs ++ k ∷ [])) ≡ false
        → count_by (same h) (k ∷ hs) ≡ 0
    by true later t s = counted h k hs (apart h k hs t s) (later s)
    by false later t s = let r = any_push (same h) (distinct hs) k s in counted h k hs r.1 (later r.0)
