-- The squeezers of headers, and what one more packet does to them.
use Rattle.std.proofs.Common.{◌≡◌, ℕ, zero, suc, ◌+◌, ◌-◌, ◌<◌, ◌≤◌, Bool, true, false, cond, ◌||◌, List, [], ◌∷◌, ◌++◌, length, take, set, get_or, Option, Some, None, refl, sym, ap, ap₂, subst, ◌∙◌, arith}
use Rattle.std.specs.Prelude.{count_by}
use Rattle.std.specs.List.{list_any}
use Rattle.std.proofs.lemmas.List.{length-take, length-append, take-append-le}
use Rattle.mmt_ip.specs.declared.packet.Ip6Header.{Ip6Header}
use Rattle.mmt_ctx.specs.Squeezing.{Squeezing as Squeezer}
use Rattle.mmt_gate.specs.Flows.{Options, same, distinct, with_context}
use Rattle.mmt_gate.specs.Keeping.{squeezer_after, squeezers_after}
use Rattle.mmt_gate.proofs.Flows.{same_is, same_flips, next_place, place, placed, unplaced, any_take, distinct_old, distinct_new, NoRepeats, no_repeats, repeats_take, unseen}

pub length_squeezers : (o : Options) (hs : List Ip6Header) (context : ℕ) (known : List Ip6Header) → length (squeezers_after o hs context known) ≡ length known
length_squeezers o hs context [] = refl
length_squeezers o hs context (h ∷ known) = ap (λ n. suc n) (length_squeezers o hs (context + 1) known)

-- one more header is one more squeezer
pub squeezers_last : (o : Options) (hs : List Ip6Header) (context : ℕ) (known : List Ip6Header) (h : Ip6Header)
    → squeezers_after o hs context (known ++ h ∷ []) ≡ squeezers_after o hs context known ++ squeezer_after o hs (context + length known) h ∷ []
squeezers_last o hs context [] h = ap (λ n. squeezer_after o hs n h ∷ []) (omega arith)
squeezers_last o hs context (k ∷ known) h =
    ap (λ (s : List Squeezer). squeezer_after o hs context k ∷ s) (squeezers_last o hs (context + 1) known h
    ∙ ap (λ n. squeezers_after o hs (context + 1) known ++ squeezer_after o hs n h ∷ []) (omega arith))

-- a packet of another header changes no squeezer
same_count : (o : Options) (hs : List Ip6Header) (context : ℕ) (h k : Ip6Header) → same h k ≡ false → squeezer_after o (h ∷ hs) context k ≡ squeezer_after o hs context k
same_count o hs context h k differs = rw (same_flips h k differs) refl

pub squeezers_other : (o : Options) (hs : List Ip6Header) (context : ℕ) (known : List Ip6Header) (h : Ip6Header) → list_any (same h) known ≡ false
    → squeezers_after o (h ∷ hs) context known ≡ squeezers_after o hs context known
squeezers_other o hs context [] h none = refl
squeezers_other o hs context (k ∷ known) h none = by (same h k) (λ s. squeezers_other o hs (context + 1) known h s) refl none
  where
    by : (b : Bool) → (list_any (same h) known ≡ false → squeezers_after o (h ∷ hs) (context + 1) known ≡ squeezers_after o hs (context + 1) known) → same h k ≡ b → (b || list_any (same h) known) ≡ false
        → squeezers_after o (h ∷ hs) context (k ∷ known) ≡ squeezers_after o hs context (k ∷ known)
    by true later t s = absurd cc
    by false later t s = ap₂ (λ (x : Squeezer) (xs : List Squeezer). x ∷ xs) (same_count o hs context h k t) (later s)

-- the squeezer at the place of a header
pub squeezer_there : (o : Options) (hs : List Ip6Header) (context : ℕ) (known : List Ip6Header) (h : Ip6Header) (i : ℕ) (d : Squeezer) → place (same h) known ≡ Some i
    → get_or (squeezers_after o hs context known) i d ≡ squeezer_after o hs (context + i) h
squeezer_there o hs context [] h i d at = absurd cc
squeezer_there o hs context (k ∷ known) h i d at = by (same h k) (place (same h) known) (λ j s. squeezer_there o hs (context + 1) known h j d s) refl at
  where
    first : (i : ℕ) → same h k ≡ true → 0 ≡ i → get_or (squeezers_after o hs context (k ∷ known)) i d ≡ squeezer_after o hs (context + i) h
    first zero t z = rw (sym (same_is h k t)) (ap (λ n. squeezer_after o hs n h) (omega arith))
    first (suc i) t z = absurd (omega (arith, z))

    next : (i j : ℕ) → j + 1 ≡ i → get_or (squeezers_after o hs (context + 1) known) j d ≡ squeezer_after o hs (context + 1 + j) h → get_or (squeezers_after o hs context (k ∷ known)) i d ≡ squeezer_after o hs (context + i) h
    next zero j z later = absurd (omega (arith, z))
    next (suc i) j z later =
        let is : j ≡ i = omega (arith, z) in
        subst (λ n. get_or (squeezers_after o hs (context + 1) known) n d ≡ squeezer_after o hs (context + suc i) h) is (later ∙ ap (λ n. squeezer_after o hs n h) (omega (arith, z)))

    some_is : (a b : ℕ) → Some a ≡ Some b → a ≡ b
    some_is a b e = cc

    by : (b : Bool) (p : Option ℕ) → ((j : ℕ) → p ≡ Some j → get_or (squeezers_after o hs (context + 1) known) j d ≡ squeezer_after o hs (context + 1 + j) h) → same h k ≡ b → cond b (Some 0) (next_place p) ≡ Some i
        → get_or (squeezers_after o hs context (k ∷ known)) i d ≡ squeezer_after o hs (context + i) h
    by true p later t s = first i t (some_is 0 i s)
    by false (Some j) later t s = next i j (some_is (j + 1) i s) (later j refl)
    by false None later t s = absurd cc

-- a packet of a header changes its own squeezer alone
pub squeezers_next : (o : Options) (hs : List Ip6Header) (context : ℕ) (known : List Ip6Header) (h : Ip6Header) (i : ℕ) → NoRepeats known → place (same h) known ≡ Some i
    → set (squeezers_after o hs context known) i (squeezer_after o (h ∷ hs) (context + i) h) ≡ squeezers_after o (h ∷ hs) context known
squeezers_next o hs context [] h i n at = absurd cc
squeezers_next o hs context (k ∷ known) h i n at = by (same h k) (place (same h) known) (λ j s. squeezers_next o hs (context + 1) known h j n.1 s) refl at
  where
    first : (i : ℕ) → same h k ≡ true → 0 ≡ i → set (squeezers_after o hs context (k ∷ known)) i (squeezer_after o (h ∷ hs) (context + i) h) ≡ squeezers_after o (h ∷ hs) context (k ∷ known)
    first zero t z =
        let is : h ≡ k = same_is h k t in
        let none : list_any (same h) known ≡ false = subst (λ (x : Ip6Header). list_any (same x) known ≡ false) (sym is) n.0 in
        ap₂ (λ (x : Squeezer) (xs : List Squeezer). x ∷ xs) (ap₂ (λ (c : ℕ) (x : Ip6Header). squeezer_after o (h ∷ hs) c x) (omega arith) is) (sym (squeezers_other o hs (context + 1) known h none))
    first (suc i) t z = absurd (omega (arith, z))

    next : (i j : ℕ) → same h k ≡ false → j + 1 ≡ i → set (squeezers_after o hs (context + 1) known) j (squeezer_after o (h ∷ hs) (context + 1 + j) h) ≡ squeezers_after o (h ∷ hs) (context + 1) known
        → set (squeezers_after o hs context (k ∷ known)) i (squeezer_after o (h ∷ hs) (context + i) h) ≡ squeezers_after o (h ∷ hs) context (k ∷ known)
    next zero j t z later = absurd (omega (arith, z))
    next (suc i) j t z later =
        let is : j ≡ i = omega (arith, z) in
        let there : context + 1 + j ≡ context + suc i = omega (arith, z) in
        ap₂ (λ (x : Squeezer) (xs : List Squeezer). x ∷ xs) (sym (same_count o hs context h k t))
        (subst (λ (m : ℕ). set (squeezers_after o hs (context + 1) known) m (squeezer_after o (h ∷ hs) (context + suc i) h) ≡ squeezers_after o (h ∷ hs) (context + 1) known) is
        (subst (λ (m : ℕ). set (squeezers_after o hs (context + 1) known) j (squeezer_after o (h ∷ hs) m h) ≡ squeezers_after o (h ∷ hs) (context + 1) known) there later))

    some_is : (a b : ℕ) → Some a ≡ Some b → a ≡ b
    some_is a b e = cc

    by : (b : Bool) (p : Option ℕ) → ((j : ℕ) → p ≡ Some j → set (squeezers_after o hs (context + 1) known) j (squeezer_after o (h ∷ hs) (context + 1 + j) h) ≡ squeezers_after o (h ∷ hs) (context + 1) known)
        → same h k ≡ b → cond b (Some 0) (next_place p) ≡ Some i
        → set (squeezers_after o hs context (k ∷ known)) i (squeezer_after o (h ∷ hs) (context + i) h) ≡ squeezers_after o (h ∷ hs) context (k ∷ known)
    by true p later t s = first i t (some_is 0 i s)
    by false (Some j) later t s = next i j t (some_is (j + 1) i s) (later j refl)
    by false None later t s = absurd cc

-- ---- the headers that have a context, where one more is seen

-- it has one
pub known_old : (o : Options) (hs : List Ip6Header) (h : Ip6Header) (i : ℕ) → place (same h) (with_context o hs) ≡ Some i → with_context o (h ∷ hs) ≡ with_context o hs
known_old o hs h i at =
    let p = placed (same h) (with_context o hs) i at in
    ap (λ (ds : List Ip6Header). take (4096 - o.context) ds) (distinct_old h hs (any_take (same h) (4096 - o.context) (distinct hs) p.1))

all_taken : (n : ℕ) (ds : List Ip6Header) → length (take n ds) < n → take n ds ≡ ds
all_taken zero ds lt = absurd (omega (arith, lt))
all_taken (suc n) [] lt = refl
all_taken (suc n) (d ∷ ds) lt = ap (λ (x : List Ip6Header). d ∷ x) (all_taken n ds (omega (arith, lt)))

take_long : (n : ℕ) (ds : List Ip6Header) → length ds ≤ n → take n ds ≡ ds
take_long zero [] le = refl
take_long zero (d ∷ ds) le = absurd (omega (arith, le))
take_long (suc n) [] le = refl
take_long (suc n) (d ∷ ds) le = ap (λ (x : List Ip6Header). d ∷ x) (take_long n ds (omega (arith, le)))

-- it gets the next one, of which N are left
pub known_new : (o : Options) (hs : List Ip6Header) (h : Ip6Header) → place (same h) (with_context o hs) ≡ None → length (with_context o hs) < 4096 - o.context
    → (with_context o (h ∷ hs) ≡ with_context o hs ++ h ∷ []) × (count_by (same h) hs ≡ 0)
known_new o hs h none lt =
    let all : with_context o hs ≡ distinct hs = all_taken (4096 - o.context) (distinct hs) lt in
    let absent : list_any (same h) (distinct hs) ≡ false = subst (λ (ds : List Ip6Header). list_any (same h) ds ≡ false) all (unplaced (same h) (with_context o hs) none) in (
      ap (λ (ds : List Ip6Header). take (4096 - o.context) ds) (distinct_new h hs absent)
          ∙ (take_long (4096 - o.context) (distinct hs ++ h ∷ []) (omega (arith, length-append (distinct hs) (h ∷ []), ap (λ (ds : List Ip6Header). length ds) all, lt)) ∙ ap (λ (ds : List Ip6Header). ds ++ h ∷ []) (sym all)),
      unseen h hs absent,
    )

-- no context is left for it
pub known_full : (o : Options) (hs : List Ip6Header) (h : Ip6Header) → place (same h) (with_context o hs) ≡ None → 4096 - o.context ≤ length (with_context o hs) → with_context o (h ∷ hs) ≡ with_context o hs
known_full o hs h none le = by (list_any (same h) (distinct hs)) refl
  where
    by : (b : Bool) → list_any (same h) (distinct hs) ≡ b → with_context o (h ∷ hs) ≡ with_context o hs
    by true e = ap (λ (ds : List Ip6Header). take (4096 - o.context) ds) (distinct_old h hs e)
    by false e =
        ap (λ (ds : List Ip6Header). take (4096 - o.context) ds) (distinct_new h hs e)
        ∙ take-append-le (4096 - o.context) (distinct hs) (h ∷ []) (omega (arith, length-take (4096 - o.context) (distinct hs), le))

pub none_known_twice : (o : Options) (hs : List Ip6Header) → NoRepeats (with_context o hs)
none_known_twice o hs = repeats_take (4096 - o.context) (distinct hs) (no_repeats hs)
