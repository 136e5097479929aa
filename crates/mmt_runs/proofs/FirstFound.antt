-- The best of several units is the first of those that are looked for, in their order.
use Rattle.std.proofs.Common.{◌≡◌, ℕ, Bool, true, false, ◌&&◌, cond, List, [], ◌∷◌, map, refl, ap, sym, ◌∙◌, filter, Option, Some, None, ◌⊎◌, inl, inr, ⊎_elim, subst}
use Rattle.std.proofs.lemmas.Bool.{and_parts}
use Rattle.mmt_base.specs.Ticks.{low, is_passed, due_of}
use Rattle.mmt_model.specs.Sorted.{insert_by, sort_by}
use Rattle.mmt_model.specs.Handing.{Presentation, is_presented_before, order_numbers, precedes, named_units, due_units}
use Rattle.mmt_model.specs.Units.{units_of}
use Rattle.mmt_model.proofs.Preceding.{before-one_way}
use Rattle.mmt_times.specs.Known.{Known}
use Rattle.mmt_pool.specs.Holding.{Kept, IsInOrder}
use Rattle.mmt_runs.specs.declared.order.UnitOrder.{UnitOrder}
use Rattle.mmt_runs.specs.Reading.{heard}
use Rattle.mmt_runs.specs.Order.{stands_after}
use Rattle.mmt_runs.specs.Leading.{first, rest_after}
use Rattle.mmt_runs.specs.Choosing.{is_sought, better, best}
use Rattle.mmt_runs.specs.Seeking.{Among}
use Rattle.mmt_runs.proofs.Rising.{Each, Rising}
use Rattle.mmt_runs.proofs.Sorted.{Apart, due_first, either, through, named_rising, due_rising}

pub record Least (p : Presentation → Bool) (S : Presentation → Type 0) (m : Presentation) : Type 0 where
  pub inside : S m
  pub passing : p m ≡ true
  pub least : (d : Presentation) → S d → p d ≡ true → is_presented_before d m ≡ false

abbrev pub Found : (Presentation → Bool) → (Presentation → Type 0) → Option Presentation → Type 0
Found p S None = (d : Presentation) → S d → p d ≡ false
Found p S (Some m) = Least p S m

pub false_of : (b : Bool) → (b ≡ true → ⊥) → b ≡ false
false_of true h = absurd (h refl)
false_of false h = refl

both : (b : Bool) → b ≡ true → b ≡ false → ⊥
both true t f = cc
both false t f = cc

one_way : (d e : Presentation) → is_presented_before d e ≡ true → is_presented_before e d ≡ false
unfolding is_presented_before
one_way d e a = false_of (precedes (order_numbers e) (order_numbers d)) (λ b. before-one_way (order_numbers d) (order_numbers e) a b)

pub itself : (d : Presentation) → is_presented_before d d ≡ false
unfolding is_presented_before
itself d = false_of (precedes (order_numbers d) (order_numbers d)) (λ b. before-one_way (order_numbers d) (order_numbers d) b b)

itself_by : (x d : Presentation) → x ≡ d → is_presented_before d x ≡ false
itself_by x d e = subst (λ y. is_presented_before y x ≡ false) e (itself x)

found_map : (p : Presentation → Bool) (S T : Presentation → Type 0) (o : Option Presentation) → ((d : Presentation) → S d → T d) → ((d : Presentation) → T d → S d) → Found p S o → Found p T o
found_map p S T None f g h = λ d t. h d (g d t)
found_map p S T (Some m) f g h = record { inside = f m h.inside; passing = h.passing; least = λ d t pd. h.least d (g d t) pd }

better_none : (p : Presentation → Bool) (S : Presentation → Type 0) (x : Presentation) (b : Bool) → p x ≡ b → Found p S None → Found p (λ d. S d ⊎ (x ≡ d)) (cond b (Some x) None)
better_none p S x true e f = record {
  inside = inr refl;
  passing = e;
  least = λ d s pd. ⊎_elim (λ (sd : S d). absurd (both (p d) pd (f d sd))) (λ (xd : x ≡ d). itself_by x d xd) s;
}
better_none p S x false e f = λ d s. ⊎_elim (λ (sd : S d). f d sd) (λ (xd : x ≡ d). subst (λ y. p y ≡ false) xd e) s

better_some : (p : Presentation → Bool) (S : Presentation → Type 0) (m x : Presentation) (b c : Bool) → p x ≡ b → is_presented_before x m ≡ c → Least p S m → Found p (λ d. S d ⊎ (x ≡ d)) (cond (b && c) (Some x) (Some m))
better_some p S m x true true e g f = record {
  inside = inr refl;
  passing = e;
  least = λ d s pd. ⊎_elim (λ (sd : S d). false_of (is_presented_before d x) (λ t. both (is_presented_before d m) (through d x m t g) (f.least d sd pd))) (λ (xd : x ≡ d). itself_by x d xd) s;
}
better_some p S m x true false e g f = record {
  inside = inl f.inside;
  passing = f.passing;
  least = λ d s pd. ⊎_elim (λ (sd : S d). f.least d sd pd) (λ (xd : x ≡ d). subst (λ y. is_presented_before y m ≡ false) xd g) s;
}
better_some p S m x false c e g f = record {
  inside = inl f.inside;
  passing = f.passing;
  least = λ d s pd. ⊎_elim (λ (sd : S d). f.least d sd pd) (λ (xd : x ≡ d). absurd (both (p d) pd (subst (λ y. p y ≡ false) xd e))) s;
}

better_found : (p : Presentation → Bool) (S : Presentation → Type 0) (o : Option Presentation) (x : Presentation) → Found p S o → Found p (λ d. S d ⊎ (x ≡ d)) (better p o x)
unfolding better
better_found p S None x f = better_none p S x (p x) refl f
better_found p S (Some m) x f = better_some p S m x (p x) (is_presented_before x m) refl refl f

pub best_found : (p : Presentation → Bool) (S : Presentation → Type 0) (o : Option Presentation) (ds : List Presentation) → Found p S o → Found p (λ d. S d ⊎ Among d ds) (best p o ds)
unfolding best
best_found p S o [] f = found_map p S (λ d. S d ⊎ Among d []) o (λ d s. inl s) (λ d t. ⊎_elim (λ (s : S d). s) (λ (n : ⊥). absurd n) t) f
best_found p S o (x ∷ xs) f =
    found_map p (λ d. (S d ⊎ (x ≡ d)) ⊎ Among d xs) (λ d. S d ⊎ Among d (x ∷ xs)) (best p (better p o x) xs)
    (λ d s. ⊎_elim (λ (a : S d ⊎ (x ≡ d)). ⊎_elim (λ (b : S d). inl b) (λ (b : x ≡ d). inr (inl b)) a) (λ (a : Among d xs). inr (inr a)) s)
    (λ d t. ⊎_elim (λ (a : S d). inl (inl a)) (λ (a : (x ≡ d) ⊎ Among d xs). ⊎_elim (λ (b : x ≡ d). inl (inr b)) (λ (b : Among d xs). inr b) a) t)
    (best_found p (λ d. S d ⊎ (x ≡ d)) (better p o x) xs (better_found p S o x f))

each_among : (P : Presentation → Type 0) (ds : List Presentation) (d : Presentation) → Each P ds → Among d ds → P d
each_among P [] d h a = absurd a
each_among P (x ∷ ds) d h a = ⊎_elim (λ (e : x ≡ d). subst P e h.0) (λ (b : Among d ds). each_among P ds d h.1 b) a

first_more : (a : Presentation → Bool) (x : Presentation) (xs : List Presentation) (o : Option Presentation) → a x ≡ false → Found a (λ d. Among d xs) o → Found a (λ d. Among d (x ∷ xs)) o
first_more a x xs None e f = λ d s. ⊎_elim (λ (xd : x ≡ d). subst (λ y. a y ≡ false) xd e) (λ (s : Among d xs). f d s) s
first_more a x xs (Some m) e f = record { inside = inr f.inside; passing = f.passing; least = λ d s ad. ⊎_elim (λ (xd : x ≡ d). absurd (both (a d) ad (subst (λ y. a y ≡ false) xd e))) (λ (s : Among d xs). f.least d s ad) s }

first_found : (a : Presentation → Bool) (xs : List Presentation) → Rising is_presented_before xs → Found a (λ d. Among d xs) (first (filter a xs))
first_found a [] r = λ d s. absurd s
first_found a (x ∷ xs) r = go (a x) refl (first_found a xs r.1)
  where
    go : (b : Bool) → a x ≡ b → Found a (λ d. Among d xs) (first (filter a xs)) → Found a (λ d. Among d (x ∷ xs)) (first (cond b (x ∷ filter a xs) (filter a xs)))
    go true e f = record { inside = inl refl; passing = e; least = λ d s ad. ⊎_elim (λ (xd : x ≡ d). itself_by x d xd) (λ (s : Among d xs). one_way x d (each_among (λ y. is_presented_before x y ≡ true) xs d r.0 s)) s }
    go false e f = first_more a x xs (first (filter a xs)) e f

to_insert : (d x : Presentation) (ds : List Presentation) → Among d (x ∷ ds) → Among d (insert_by is_presented_before x ds)
unfolding insert_by
to_insert d x [] a = a
to_insert d x (y ∷ ds) a = go (is_presented_before y x) (λ b. to_insert d x ds b)
  where
    go : (b : Bool) → (Among d (x ∷ ds) → Among d (insert_by is_presented_before x ds)) → Among d (cond b (y ∷ insert_by is_presented_before x ds) (x ∷ y ∷ ds))
    go true ih = ⊎_elim (λ (e : x ≡ d). inr (ih (inl e))) (λ (b : (y ≡ d) ⊎ Among d ds). ⊎_elim (λ (e : y ≡ d). inl e) (λ (c : Among d ds). inr (ih (inr c))) b) a
    go false ih = a

from_insert : (d x : Presentation) (ds : List Presentation) → Among d (insert_by is_presented_before x ds) → Among d (x ∷ ds)
unfolding insert_by
from_insert d x [] a = a
from_insert d x (y ∷ ds) a = go (is_presented_before y x) (λ b. from_insert d x ds b) a
  where
    go : (b : Bool) → (Among d (insert_by is_presented_before x ds) → Among d (x ∷ ds)) → Among d (cond b (y ∷ insert_by is_presented_before x ds) (x ∷ y ∷ ds)) → Among d (x ∷ y ∷ ds)
    go true ih a = ⊎_elim (λ (e : y ≡ d). inr (inl e)) (λ (b : Among d (insert_by is_presented_before x ds)). ⊎_elim (λ (e : x ≡ d). inl e) (λ (c : Among d ds). inr (inr c)) (ih b)) a
    go false ih a = a

to_sort : (d : Presentation) (ds : List Presentation) → Among d ds → Among d (sort_by is_presented_before ds)
unfolding sort_by
to_sort d [] a = a
to_sort d (x ∷ ds) a = to_insert d x (sort_by is_presented_before ds) (⊎_elim (λ (e : x ≡ d). inl e) (λ (b : Among d ds). inr (to_sort d ds b)) a)

from_sort : (d : Presentation) (ds : List Presentation) → Among d (sort_by is_presented_before ds) → Among d ds
unfolding sort_by
from_sort d [] a = a
from_sort d (x ∷ ds) a = ⊎_elim (λ (e : x ≡ d). inl e) (λ (b : Among d (sort_by is_presented_before ds)). inr (from_sort d ds b)) (from_insert d x (sort_by is_presented_before ds) a)

to_filter : (d : Presentation) (q : Presentation → Bool) (ds : List Presentation) → Among d ds → q d ≡ true → Among d (filter q ds)
to_filter d q [] a e = a
to_filter d q (x ∷ ds) a e = go (q x) refl (λ b. to_filter d q ds b e) a
  where
    go : (b : Bool) → q x ≡ b → (Among d ds → Among d (filter q ds)) → Among d (x ∷ ds) → Among d (cond b (x ∷ filter q ds) (filter q ds))
    go true f ih a = ⊎_elim (λ (s : x ≡ d). inl s) (λ (b : Among d ds). inr (ih b)) a
    go false f ih a = ⊎_elim (λ (s : x ≡ d). absurd (both (q d) e (subst (λ y. q y ≡ false) s f))) (λ (b : Among d ds). ih b) a

from_filter : (d : Presentation) (q : Presentation → Bool) (ds : List Presentation) → Among d (filter q ds) → Among d ds × (q d ≡ true)
from_filter d q [] a = absurd a
from_filter d q (x ∷ ds) a = go (q x) refl (λ b. from_filter d q ds b) a
  where
    go : (b : Bool) → q x ≡ b → (Among d (filter q ds) → Among d ds × (q d ≡ true)) → Among d (cond b (x ∷ filter q ds) (filter q ds)) → Among d (x ∷ ds) × (q d ≡ true)
    go true f ih a = ⊎_elim (λ (s : x ≡ d). (inl s, subst (λ y. q y ≡ true) s f)) (λ (b : Among d (filter q ds)). let r = ih b in (inr r.0, r.1)) a
    go false f ih a = let r = ih a in (inr r.0, r.1)

and_true : (a b : Bool) → a ≡ true → b ≡ true → (a && b) ≡ true
and_true true true e f = refl
and_true true false e f = cc
and_true false b e f = absurd cc

and_false : (a b : Bool) → (a ≡ true → b ≡ false) → (a && b) ≡ false
and_false true b f = f refl
and_false false b f = refl

sorted_found : (q a : Presentation → Bool) (ds : List Presentation) (o : Option Presentation) → Found a (λ d. Among d (sort_by is_presented_before (filter q ds))) o → Found (λ d. q d && a d) (λ d. Among d ds) o
sorted_found q a ds None f = λ d s. and_false (q d) (a d) (λ e. f d (to_sort d (filter q ds) (to_filter d q ds s e)))
sorted_found q a ds (Some m) f =
    let i = from_filter m q ds (from_sort m (filter q ds) f.inside) in
    record {
      inside = i.0;
      passing = and_true (q m) (a m) i.1 f.passing;
      least = λ d s e. let h = and_parts (q d) (a d) e in f.least d (to_sort d (filter q ds) (to_filter d q ds s h.0)) h.1;
    }

apart_of : (ds : List Presentation) (m n : Presentation) → Rising due_first ds → Among m ds → Among n ds → (m ≡ n) ⊎ Apart m n
apart_of [] m n r a b = absurd a
apart_of (x ∷ ds) m n r a b =
    ⊎_elim
    (λ (e : x ≡ m). ⊎_elim (λ (f : x ≡ n). inl (sym e ∙ f)) (λ (f : Among n ds). inr (subst (λ y. Apart y n) e (either x n (each_among (λ y. due_first x y ≡ true) ds n r.0 f)))) b)
    (λ (e : Among m ds). ⊎_elim (λ (f : x ≡ n). inr (subst (λ y. Apart m y) f (⊎_elim (λ (l : is_presented_before x m ≡ true). inr l) (λ (l : is_presented_before m x ≡ true). inl l) (either x m (each_among (λ y. due_first x y ≡ true) ds m r.0 e))))) (λ (f : Among n ds). apart_of ds m n r.1 e f) b)
    a

only_one : (p : Presentation → Bool) (ds : List Presentation) (o r : Option Presentation) → Rising due_first ds → Found p (λ d. Among d ds) o → Found p (λ d. Among d ds) r → o ≡ r
only_one p ds None None rise f g = refl
only_one p ds None (Some n) rise f g = absurd (both (p n) g.passing (f n g.inside))
only_one p ds (Some m) None rise f g = absurd (both (p m) f.passing (g m f.inside))
only_one p ds (Some m) (Some n) rise f g =
    ⊎_elim (λ (e : m ≡ n). ap (λ x. Some x) e)
    (λ (a : Apart m n). absurd (⊎_elim (λ (l : is_presented_before m n ≡ true). both (is_presented_before m n) l (g.least m f.inside f.passing)) (λ (l : is_presented_before n m ≡ true). both (is_presented_before n m) l (f.least n g.inside g.passing)) a))
    (apart_of ds m n rise f.inside g.inside)

-- the least of all that are looked for is the first of those in their order
pub found_first : (known : Known) (kept : List Kept) (after : Option UnitOrder) (from to : ℕ) (o : Option Presentation) → IsInOrder kept
    → Found (is_sought after from to) (λ d. Among d (named_units known.sample_base known.entries (units_of (map heard kept)))) o
    → o ≡ first (rest_after after (due_units known.sample_base known.entries (units_of (map heard kept)) from to))
unfolding is_sought
found_first known kept after from to o order f =
    let ds : List Presentation = named_units known.sample_base known.entries (units_of (map heard kept)) in
    let q : Presentation → Bool = λ d. is_passed (low (due_of d.time)) from to in
    let r : Rising is_presented_before (sort_by is_presented_before (filter q ds)) = due_rising known kept from to order in
    only_one (λ d. q d && stands_after after d) ds o (first (filter (stands_after after) (sort_by is_presented_before (filter q ds)))) (named_rising known kept order) f
    (sorted_found q (stands_after after) ds (first (filter (stands_after after) (sort_by is_presented_before (filter q ds)))) (first_found (stands_after after) (sort_by is_presented_before (filter q ds)) r))
