-- An array that is read item by item, where a state goes from one to the next.
use Rattle.std.proofs.Common.{◌≡◌, ℕ, ◌+◌, ◌<◌, ◌≤◌, List, [], ◌∷◌, ◌++◌, length, get_or, drop, Result, Ok, Err, refl, sym, ap, ◌∙◌, append_assoc, append-nil}
use Rattle.serde_json.specs.Data.{Data, Items, no_items, item}
use Rattle.serde_json.specs.View.{view, items_view}
use Rattle.serde_json.specs.declared.value.Value.{Value}
use Rattle.mmt_plan.specs.Reading.{◌>>=◌, ok_map, each_with, IsAnswer}
use Rattle.mmt_plan.specs.declared.ends.PlanEnd.{PlanEnd}
use Rattle.mmt_plan.specs.declared.ends.PlanEnd.TheVariants.{Refused, ReadFault, OutOfMemory}
use Rattle.mmt_plan.specs.declared.ends.Refusal.{Refusal}
use Rattle.mmt_plan.proofs.Lists.{left, nothing_left}

-- a list with items before it, beside a state
abbrev pub front : {S A : Type 0} → List A → List A × S → List A × S
front done p = (done ++ p.0, p.1)

abbrev pub with_first : {S A : Type 0} → A → List A × S → Result (List A × S) Refusal
with_first x p = Ok (x ∷ p.0, p.1)

-- N items are read, these are what they are, and this is the state after them
pub record HasReadTo {S A : Type 0} (read : S → ℕ → Data → Result (A × S) Refusal) (first : S) (vs : List Value) (done : List A) (state : S) (n : ℕ) : Type 0 where
  pub is : each_with read first 0 (items_view vs) ≡ ok_map (front done) (each_with read state n (items_view (drop n vs)))

module _ {S A : Type 0} (read : S → ℕ → Data → Result (A × S) Refusal) (first : S) (vs : List Value) where
  abbrev rest : S → ℕ → Result (List A × S) Refusal
  rest state n = each_with read state n (items_view (drop n vs))

  abbrev then_rest : ℕ → A × S → Result (List A × S) Refusal
  then_rest n x = rest x.1 (n + 1) >>= with_first x.0

  empty_front : (r : Result (List A × S) Refusal) → r ≡ ok_map (front []) r
  empty_front (Ok x) = refl
  empty_front (Err e) = refl

  pub begins : HasReadTo read first vs [] first 0
  begins = record { is = empty_front (each_with read first 0 (items_view vs)) }

  first_of : (state : S) (n : ℕ) (d : Data) (ds : Items) → each_with read state n (item d ds) ≡ (read state n d >>= λ (x : A × S). each_with read x.1 (n + 1) ds >>= with_first x.0)
  unfolding each_with
  first_of state n d ds = refl

  none_of : (state : S) (n : ℕ) → each_with read state n no_items ≡ Ok ([], state)
  unfolding each_with
  none_of state n = refl

  moved : (done : List A) (x : A) (r : Result (List A × S) Refusal) → ok_map (front done) (r >>= with_first x) ≡ ok_map (front (done ++ x ∷ [])) r
  moved done x (Ok xs) = ap (λ l. Ok (l, xs.1)) (sym (append_assoc done (x ∷ []) xs.0))
  moved done x (Err e) = refl

  stepped : (done : List A) (state : S) (n : ℕ) (v : Value) → HasReadTo read first vs done state n → n < length vs → v ≡ get_or vs n v
      → each_with read first 0 (items_view vs) ≡ ok_map (front done) (read state n (view v) >>= then_rest n)
  stepped done state n v h lt is =
      h.is ∙ ap (λ ds. ok_map (front done) (each_with read state n ds)) (left vs n v lt is) ∙ ap (ok_map (front done)) (first_of state n (view v) (items_view (drop (n + 1) vs)))

  pub goes_on : (done : List A) (state : S) (n : ℕ) (v : Value) (x : A) (next : S) → HasReadTo read first vs done state n → n < length vs → v ≡ get_or vs n v → read state n (view v) ≡ Ok (x, next)
      → HasReadTo read first vs (done ++ x ∷ []) next (n + 1)
  goes_on done state n v x next h lt is e = record {
    is = stepped done state n v h lt is ∙ ap (λ r. ok_map (front done) (r >>= then_rest n)) e ∙ moved done x (rest next (n + 1));
  }

  pub stops_so : (done : List A) (state : S) (n : ℕ) (v : Value) (e : PlanEnd) → HasReadTo read first vs done state n → n < length vs → v ≡ get_or vs n v → IsAnswer (read state n (view v)) (Err e) → IsAnswer (each_with read first 0 (items_view vs)) (Err e)
  stops_so done state n v (Refused reason place) h lt is w =
      stepped done state n v h lt is ∙ ap (λ r. ok_map (front done) (r >>= then_rest n)) w
  stops_so done state n v ReadFault h lt is w = w
  stops_so done state n v OutOfMemory h lt is w = w

  pub ends : (done : List A) (state : S) (n : ℕ) → HasReadTo read first vs done state n → length vs ≤ n → each_with read first 0 (items_view vs) ≡ Ok (done, state)
  ends done state n h le =
      h.is ∙ ap (λ ds. ok_map (front done) (each_with read state n ds)) (nothing_left vs n le) ∙ ap (ok_map (front done)) (none_of state n) ∙ ap (λ l. Ok (l, state)) (append-nil done)
