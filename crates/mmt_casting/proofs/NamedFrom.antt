-- From when MPUs are named, copy by copy from the last to the first.
use Rattle.std.proofs.Common.{◌≡◌, ℕ, ◌+◌, ◌-◌, ◌<◌, ◌≤◌, suc, zero, min, Bool, true, false, ◌==◌, ◌||◌, cond, List, [], ◌∷◌, ◌++◌, length, get_or, take, drop, replicate, arith, refl, ap, ap₂, sym, ◌∙◌, subst, Option, Some, None}
use Rattle.std.specs.List.{AllByRecursion, list_any}
use Rattle.std.proofs.lemmas.Bool.{eq-eqb, ne_eqb}
use Rattle.std.proofs.lemmas.List.{append-nil, at_drop_more, drop_all, length-replicate, take_all, take_more}
use Rattle.std.proofs.lemmas.List.Folds.{list_any-append}
use Rattle.mmt_base.specs.declared.ticks.LongTick.{LongTick}
use Rattle.mmt_cast.proofs.Listing.{each-at}
use Rattle.mmt_cast.specs.Casting.{long_tick}
use Rattle.mmt_casting.specs.Named.{AreNamed, NamesPlaces, named_with}
use Rattle.mmt_model.specs.Carrying.{least_with, named_from_of, tick_of}
use Rattle.mmt_model.specs.Counts.{member}
use Rattle.mmt_model.specs.declared.casts.TableCopy.{TableCopy}

pub none-member : (m : ℕ) (names : List ℕ) → member m (take 0 names) ≡ false
unfolding member
none-member m names = refl

member-more : (m : ℕ) (names : List ℕ) (j d : ℕ) → j < length names → member m (take (j + 1) names) ≡ (member m (take j names) || (get_or names j d == m))
unfolding member
member-more m names j d l = ap (list_any (λ k. k == m)) (take_more names j d l) ∙ (list_any-append (λ k. k == m) (take j names) (get_or names j d ∷ []) ∙ or-last (list_any (λ k. k == m) (take j names)) (get_or names j d == m))
  where
    or-last : (a b : Bool) → (a || (b || false)) ≡ (a || b)
    or-last true b = refl
    or-last false true = refl
    or-last false false = refl

pub all-members : (m : ℕ) (names : List ℕ) (j : ℕ) → length names ≤ j → member m (take j names) ≡ member m names
all-members m names j l = ap (member m) (take_all j names l)

-- an MPU that is named, once more or for the first time
again : (t : Bool) (last : LongTick) (before : Option LongTick) → Some (record { 0 = least_with last.0 (tick_of (named_with t last before)) }) ≡ named_with true last before
again true last None = let e : min last.0 last.0 ≡ last.0 = omega arith in ap (λ n. Some (record { 0 = n })) e
again true last (Some b) = let e : min last.0 (min last.0 b.0) ≡ min last.0 b.0 = omega arith in ap (λ n. Some (record { 0 = n })) e
again false last before = refl

pub named-here : (m : ℕ) (names : List ℕ) (j d : ℕ) (last tick : LongTick) (before now : Option LongTick) → j < length names → get_or names j d ≡ m → now ≡ named_with (member m (take j names)) last before → tick.0 ≡ least_with last.0 (tick_of now)
    → Some tick ≡ named_with (member m (take (j + 1) names)) last before
named-here m names j d last tick before now l here e et =
    let yes' : member m (take (j + 1) names) ≡ true = member-more m names j d l ∙ (ap (λ b. member m (take j names) || b) (eq-eqb (get_or names j d) m here) ∙ or-true (member m (take j names))) in
    ap (λ n. Some (record { 0 = n })) (et ∙ ap (λ o. least_with last.0 (tick_of o)) e) ∙ (again (member m (take j names)) last before ∙ ap (λ b. named_with b last before) (sym yes'))
  where
    or-true : (a : Bool) → (a || true) ≡ true
    or-true true = refl
    or-true false = refl

pub named-there : (m : ℕ) (names : List ℕ) (j d : ℕ) (last : LongTick) (before now : Option LongTick) → j < length names → (get_or names j d ≡ m → ⊥) → now ≡ named_with (member m (take j names)) last before → now ≡ named_with (member m (take (j + 1) names)) last before
named-there m names j d last before now l ne e =
    e ∙ ap (λ b. named_with b last before) (sym (member-more m names j d l ∙ (ap (λ b. member m (take j names) || b) (ne_eqb (get_or names j d) m ne) ∙ or-false (member m (take j names)))))
  where
    or-false : (a : Bool) → (a || false) ≡ a
    or-false true = refl
    or-false false = refl

-- ---- all copies

tick-again : (o : Option ℕ) → tick_of (long_tick o) ≡ o
tick-again None = refl
tick-again (Some t) = refl

copy-more : (m : ℕ) (c : TableCopy) (cs : List TableCopy) → named_with (member m c.names) c.last (long_tick (named_from_of m cs)) ≡ long_tick (named_from_of m (c ∷ cs))
unfolding named_from_of
copy-more m c cs = go (member m c.names)
  where
    go : (t : Bool) → named_with t c.last (long_tick (named_from_of m cs)) ≡ long_tick (cond t (Some (least_with c.last.0 (named_from_of m cs))) (named_from_of m cs))
    go true = ap (λ o. Some (record { 0 = least_with c.last.0 o })) (tick-again (named_from_of m cs))
    go false = refl

replicate-at : (n m : ℕ) (d : Option LongTick) → get_or (replicate n d) m d ≡ d
replicate-at zero m d = refl
replicate-at (suc n) zero d = refl
replicate-at (suc n) (suc m) d = replicate-at n m d

pub none-named : (mpus count : ℕ) (copies : List TableCopy) (named : List (Option LongTick)) → count ≡ length copies → named ≡ replicate mpus None → AreNamed mpus (drop (count - 0) copies) named
unfolding named_from_of
none-named mpus count copies named ec e =
    record {
      long = ap length e ∙ length-replicate mpus None;
      each = λ m l. ap (λ xs. get_or xs m None) e ∙ (replicate-at mpus m None ∙ ap (λ cs. long_tick (named_from_of m cs)) (sym (drop_all (count - 0) copies (omega arith))));
    }

pub named-more : (mpus count i : ℕ) (copies : List TableCopy) (c : TableCopy) (named named' : List (Option LongTick)) → count ≡ length copies → i < count → c ≡ get_or copies (count - 1 - i) c → length named' ≡ length named
    → AreNamed mpus (drop (count - i) copies) named
    → ((m : ℕ) → m < length named → get_or named' m None ≡ named_with (member m c.names) c.last (get_or named m None)) → AreNamed mpus (drop (count - (i + 1)) copies) named'
named-more mpus count i copies c named named' ec l is long before step =
    let k : ℕ = count - 1 - i in
    let a : count - (i + 1) ≡ k = omega arith in
    let b : k + 1 ≡ count - i = omega arith in
    record {
      long = long ∙ before.long;
      each = λ m lm.
          step m (omega (arith, lm, before.long))
          ∙ (ap (named_with (member m c.names) c.last) (before.each m lm)
          ∙ (copy-more m c (drop (count - i) copies)
          ∙ (ap₂ (λ (x : TableCopy) n. long_tick (named_from_of m (x ∷ drop n copies))) is (sym b)
          ∙ (sym (at_drop_more (λ cs. long_tick (named_from_of m cs)) copies k c (omega arith))
          ∙ ap (λ n. long_tick (named_from_of m (drop n copies))) (sym a)))));
    }

pub all-named : (mpus count i : ℕ) (copies : List TableCopy) (named : List (Option LongTick)) → count ≡ length copies → count ≤ i → AreNamed mpus (drop (count - i) copies) named → AreNamed mpus copies named
all-named mpus count i copies named ec l are = let z : count - i ≡ 0 = omega arith in subst (λ n. AreNamed mpus (drop n copies) named) z are

-- a slice that was written back whole
pub written-back : (n : ℕ) (xs ys : List (Option LongTick)) → n ≡ length ys → length xs ≡ length ys → take n (xs ++ drop (length xs) ys) ≡ xs
written-back n xs ys en e = ap (λ r. take n (xs ++ r)) (drop_all (length xs) ys (omega arith)) ∙ (ap (take n) (append-nil xs) ∙ take_all n xs (omega arith))

-- the places of a copy lie within
pub places-in : (mpus i : ℕ) (copies : List TableCopy) (c : TableCopy) (named : List (Option LongTick)) (names : List ℕ) → AllByRecursion (NamesPlaces mpus) copies → i < length copies → c ≡ get_or copies i c → length named ≡ mpus → names ≡ c.names → AllByRecursion (λ p. p < length named) names
places-in mpus i copies c named names all l is long same =
    let here : NamesPlaces mpus (get_or copies i c) = each-at (NamesPlaces mpus) copies i c all l in
    let own : AllByRecursion (λ p. p < mpus) c.names = subst (NamesPlaces mpus) (sym is) here in
    subst (λ ns. AllByRecursion (λ p. p < length named) ns) (sym same) (subst (λ n. AllByRecursion (λ p. p < n) c.names) (sym long) own)
