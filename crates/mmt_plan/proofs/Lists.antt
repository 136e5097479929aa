-- An array that is read item by item.
use Rattle.std.proofs.Common.{◌≡◌, ℕ, ◌+◌, ◌<◌, ◌≤◌, List, [], ◌∷◌, ◌++◌, length, get_or, drop, Result, Ok, Err, refl, sym, ap, ◌∙◌, append_assoc, append-nil, add-one, drop-cons}
use Rattle.std.proofs.lemmas.List.{drop_all}
use Rattle.serde_json.specs.Data.{Data, Items, no_items, item}
use Rattle.serde_json.specs.View.{view, items_view}
use Rattle.serde_json.specs.declared.value.Value.{Value}
use Rattle.mmt_plan.specs.Reading.{◌>>=◌, ok_map, each, IsAnswer}
use Rattle.mmt_plan.specs.declared.ends.PlanEnd.{PlanEnd}
use Rattle.mmt_plan.specs.declared.ends.PlanEnd.TheVariants.{Refused, ReadFault, OutOfMemory}
use Rattle.mmt_plan.specs.declared.ends.Refusal.{Refusal}

-- the item at a place stands before those that are left after it
pub left : (vs : List Value) (n : ℕ) (v : Value) → n < length vs → v ≡ get_or vs n v → items_view (drop n vs) ≡ item (view v) (items_view (drop (n + 1) vs))
left vs n v lt is = rw (add-one, drop-cons vs n v lt, ← is)

pub nothing_left : (vs : List Value) (n : ℕ) → length vs ≤ n → items_view (drop n vs) ≡ no_items
nothing_left vs n h = rw (drop_all n vs h)

-- N items are read, and these are what they are
pub record HasRead {A : Type 0} (read : ℕ → Data → Result A Refusal) (vs : List Value) (done : List A) (n : ℕ) : Type 0 where
  pub is : each read 0 (items_view vs) ≡ ok_map (λ xs. done ++ xs) (each read n (items_view (drop n vs)))

module _ {A : Type 0} (read : ℕ → Data → Result A Refusal) (vs : List Value) where
  empty_front : (r : Result (List A) Refusal) → r ≡ ok_map (λ xs. [] ++ xs) r
  empty_front (Ok x) = refl
  empty_front (Err e) = refl

  pub begins : HasRead read vs [] 0
  begins = record { is = empty_front (each read 0 (items_view vs)) }

  first_of : (n : ℕ) (d : Data) (ds : Items) → each read n (item d ds) ≡ (read n d >>= λ x. each read (n + 1) ds >>= λ xs. Ok (x ∷ xs))
  unfolding each
  first_of n d ds = refl

  none_of : (n : ℕ) → each read n no_items ≡ Ok []
  unfolding each
  none_of n = refl

  moved : (done : List A) (x : A) (r : Result (List A) Refusal) → ok_map (λ xs. done ++ xs) (r >>= λ xs. Ok (x ∷ xs)) ≡ ok_map (λ xs. (done ++ x ∷ []) ++ xs) r
  moved done x (Ok xs) = ap Ok (sym (append_assoc done (x ∷ []) xs))
  moved done x (Err e) = refl

  pub goes_on : (done : List A) (n : ℕ) (v : Value) (x : A) → HasRead read vs done n → n < length vs → v ≡ get_or vs n v → read n (view v) ≡ Ok x → HasRead read vs (done ++ x ∷ []) (n + 1)
  goes_on done n v x h lt is e = record {
    is = h.is ∙ ap (λ ds. ok_map (λ xs. done ++ xs) (each read n ds)) (left vs n v lt is)
        ∙ ap (ok_map (λ xs. done ++ xs)) (first_of n (view v) (items_view (drop (n + 1) vs)) ∙ ap (λ r. r >>= λ y. each read (n + 1) (items_view (drop (n + 1) vs)) >>= λ xs. Ok (y ∷ xs)) e)
        ∙ moved done x (each read (n + 1) (items_view (drop (n + 1) vs)));
  }

  pub stops : (done : List A) (n : ℕ) (v : Value) (e : Refusal) → HasRead read vs done n → n < length vs → v ≡ get_or vs n v → read n (view v) ≡ Err e → each read 0 (items_view vs) ≡ Err e
  stops done n v e h lt is w =
      h.is ∙ ap (λ ds. ok_map (λ xs. done ++ xs) (each read n ds)) (left vs n v lt is)
      ∙ ap (ok_map (λ xs. done ++ xs)) (first_of n (view v) (items_view (drop (n + 1) vs)) ∙ ap (λ r. r >>= λ y. each read (n + 1) (items_view (drop (n + 1) vs)) >>= λ xs. Ok (y ∷ xs)) w)

  pub stops_so : (done : List A) (n : ℕ) (v : Value) (e : PlanEnd) → HasRead read vs done n → n < length vs → v ≡ get_or vs n v → IsAnswer (read n (view v)) (Err e) → IsAnswer (each read 0 (items_view vs)) (Err e)
  stops_so done n v (Refused reason place) h lt is w = stops done n v (record { reason = reason; place = place }) h lt is w
  stops_so done n v ReadFault h lt is w = w
  stops_so done n v OutOfMemory h lt is w = w

  pub ends : (done : List A) (n : ℕ) → HasRead read vs done n → length vs ≤ n → each read 0 (items_view vs) ≡ Ok done
  ends done n h le = h.is ∙ ap (λ ds. ok_map (λ xs. done ++ xs) (each read n ds)) (nothing_left vs n le) ∙ ap (ok_map (λ xs. done ++ xs)) (none_of n) ∙ ap Ok (append-nil done)
