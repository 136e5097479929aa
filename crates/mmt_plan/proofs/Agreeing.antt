-- A programme whose objects agree with each other is right.
use Rattle.std.proofs.Common.{◌≡◌, ℕ, ◌+◌, ◌<◌, Bool, true, false, true≢false, ◌||◌, nat_eq, cond, List, [], ◌∷◌, ◌++◌, length, map, slice_get, Option, Some, None, Result, Ok, Err, refl, sym, subst, ◌∙◌}
use Rattle.std.proofs.lemmas.Bool.{and_parts, eq-eqb, ltb-true}
use Rattle.std.proofs.lemmas.List.Elements.{All-cons, All-nil, All-weaker, All-from_recursion}
use Rattle.std.proofs.lemmas.List.Folds.{list_any-append}
use Rattle.std.proofs.lemmas.Option.{get_or_from_slice_get, slice_get_within}
use Rattle.std.specs.List.{All, AllByRecursion, list_all, list_any}
use Rattle.mmt_model.specs.Right.{AreDifferent, IsKnown, IsRight, IsRightAsset, IsRightSignal, no_asset}
use Rattle.mmt_model.specs.declared.programmes.Asset.{Asset}
use Rattle.mmt_model.specs.declared.programmes.Programme.{Programme}
use Rattle.mmt_model.specs.declared.programmes.Signal.{Signal}
use Rattle.mmt_model.specs.declared.programmes.Signal.TheVariants as signals
use Rattle.mmt_plan.specs.Alone.{IsAlone, IsAssetAlone, IsFew, IsSignalAlone}
use Rattle.mmt_plan.specs.Reading.{◌>>=◌}
use Rattle.mmt_plan.specs.Twice.{first_twice}
use Rattle.mmt_plan.specs.Wholes.{are_ids_once, are_named, are_numbers_once, each_checked, has_mpu, is_named, unless_at}
use Rattle.mmt_plan.specs.declared.ends.Refusal.{Refusal}

-- ---- numbers none of which stood before differ

none_first : (earlier : List ℕ) (n x : ℕ) (xs : List ℕ) → first_twice earlier n (x ∷ xs) ≡ None → (list_any (nat_eq x) earlier ≡ false) × (first_twice (earlier ++ x ∷ []) (n + 1) xs ≡ None)
unfolding first_twice
none_first earlier n x xs e = go (list_any (nat_eq x) earlier) e
  where
    go : (t : Bool) → cond t (Some n) (first_twice (earlier ++ x ∷ []) (n + 1) xs) ≡ None → (t ≡ false) × (first_twice (earlier ++ x ∷ []) (n + 1) xs ≡ None)
    go true e = absurd cc
    go false e = (refl, e)

neither : (a b : Bool) → (a || (b || false)) ≡ false → (a ≡ false) × (b ≡ false)
neither true b e = absurd (true≢false e)
neither false true e = absurd (true≢false e)
neither false false e = (refl, refl)

split : (earlier : List ℕ) (x m : ℕ) → list_any (nat_eq m) (earlier ++ x ∷ []) ≡ false → (list_any (nat_eq m) earlier ≡ false) × (m ≡ x → ⊥)
split earlier x m e =
    let both = neither (list_any (nat_eq m) earlier) (nat_eq m x) (sym (list_any-append (nat_eq m) earlier (x ∷ [])) ∙ e) in
    (both.0, λ same. true≢false (sym (eq-eqb m x same) ∙ both.1))

apart : (earlier : List ℕ) (n : ℕ) (xs : List ℕ) → first_twice earlier n xs ≡ None → All (λ m. list_any (nat_eq m) earlier ≡ false) xs × AreDifferent xs
apart earlier n [] e = (All-nil (λ m. list_any (nat_eq m) earlier ≡ false), tt)
apart earlier n (x ∷ xs) e =
    let first = none_first earlier n x xs e in
    let later = apart (earlier ++ x ∷ []) (n + 1) xs first.1 in
    let old : ℕ → Type 0 = λ m. list_any (nat_eq m) (earlier ++ x ∷ []) ≡ false in (
      All-cons (λ m. list_any (nat_eq m) earlier ≡ false) x xs first.0 (All-weaker old (λ m. list_any (nat_eq m) earlier ≡ false) (λ m h. (split earlier x m h).0) xs later.0),
      (All-weaker old (λ m. m ≡ x → ⊥) (λ m h. (split earlier x m h).1) xs later.0, later.1),
    )

once : (refusal : ℕ → Refusal) (o : Option ℕ) → unless_at refusal o ≡ Ok tt → o ≡ None
once refusal None e = refl
once refusal (Some n) e = absurd cc

ids_differ : (assets : List Asset) → are_ids_once assets ≡ Ok tt → AreDifferent (map (λ (a : Asset). a.packet_id) assets)
unfolding are_ids_once
ids_differ assets e = (apart [] 0 (map (λ (a : Asset). a.packet_id) assets) (once _ (first_twice [] 0 (map (λ (a : Asset). a.packet_id) assets)) e)).1

numbers_differ : (n : ℕ) (a : Asset) → are_numbers_once n a ≡ Ok tt → AreDifferent (map (λ m. m.number) a.mpus)
unfolding are_numbers_once
numbers_differ n a e = (apart [] 0 (map (λ m. m.number) a.mpus) (once _ (first_twice [] 0 (map (λ m. m.number) a.mpus)) e)).1

-- ---- MPUs that are named are there

is_there : (assets : List Asset) (name : ℕ × ℕ) → is_named assets name ≡ true → IsKnown assets name
is_there assets name e = go (slice_get assets name.0) refl e
  where
    go : (o : Option Asset) → slice_get assets name.0 ≡ o → has_mpu name.1 o ≡ true → IsKnown assets name
    go None s e = absurd (true≢false (sym e))
    go (Some a) s e =
        (slice_get_within assets name.0 a s, subst (λ (x : Asset). name.1 < length x.mpus) (sym (get_or_from_slice_get assets name.0 a no_asset s)) (ltb-true name.1 (length a.mpus) e))

all_there : (assets : List Asset) (names : List (ℕ × ℕ)) → list_all (is_named assets) names ≡ true → All (IsKnown assets) names
all_there assets [] e = All-nil (IsKnown assets)
all_there assets (x ∷ xs) e = let both = and_parts (is_named assets x) (list_all (is_named assets) xs) e in All-cons (IsKnown assets) x xs (is_there assets x both.0) (all_there assets xs both.1)

abbrev passes : Result (Unit {0}) Refusal
passes = Ok tt

was : (t : Bool) (e : Refusal) → cond t passes (Err e) ≡ passes → t ≡ true
was true e h = refl
was false e h = absurd cc

named : (start : ℕ) (assets : List Asset) (n : ℕ) (s : Signal) → are_named assets n s ≡ Ok tt → IsSignalAlone start s → IsRightSignal start assets s
unfolding are_named
named start assets n (signals.Parameters at) e a = a
named start assets n (signals.Table at names) e a = (a.0, all_there assets names (was (list_all (is_named assets) names) _ e), a.1)

-- ---- objects that pass

each_passed : {A : Type 0} (check : ℕ → A → Result (Unit {0}) Refusal) (P : A → Type 0) → ((n : ℕ) (x : A) → check n x ≡ Ok tt → P x) → (n : ℕ) (xs : List A) → each_checked check n xs ≡ Ok tt → AllByRecursion P xs
unfolding each_checked
each_passed check P h n [] e = tt
each_passed {A} check P h n (x ∷ xs) e = go (check n x) refl (each_passed check P h (n + 1) xs) e
  where
    go : (r : Result (Unit {0}) Refusal) → check n x ≡ r → (each_checked check (n + 1) xs ≡ Ok tt → AllByRecursion P xs) → (r >>= λ _. each_checked check (n + 1) xs) ≡ Ok tt → P x × AllByRecursion P xs
    go (Ok u) s ih e = (h n x s, ih e)
    go (Err r) s ih e = absurd cc

all_passed : {A : Type 0} (check : ℕ → A → Result (Unit {0}) Refusal) (P Q : A → Type 0) → ((n : ℕ) (x : A) → check n x ≡ Ok tt → P x → Q x) → (xs : List A) → each_checked check 0 xs ≡ Ok tt → All P xs → All Q xs
all_passed check P Q h xs e all = λ k d lt. All-from_recursion (λ x. P x → Q x) xs (each_passed check (λ x. P x → Q x) h 0 xs e) k d lt (all k d lt)

pub right : (p : Programme) → IsAlone p → IsFew p → are_ids_once p.assets ≡ Ok tt → each_checked are_numbers_once 0 p.assets ≡ Ok tt → each_checked (are_named p.assets) 0 p.signals ≡ Ok tt → IsRight p
right p alone few ids numbers known =
    alone.right (all_passed (are_named p.assets) (IsSignalAlone alone.start) (IsRightSignal alone.start p.assets) (λ n s e a. named alone.start p.assets n s e a) p.signals known alone.signals)
    (all_passed are_numbers_once (IsAssetAlone alone.start (length p.files)) (IsRightAsset alone.start (length p.files)) (λ n a e h. h.right (numbers_differ n a e)) p.assets numbers alone.assets)
    (ids_differ p.assets ids) few
