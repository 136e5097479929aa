-- So many items, one after the other.
use Rattle.std.proofs.Common.{◌≡◌, ℕ, zero, suc, ◌+◌, ◌-◌, List, [], ◌∷◌, ◌++◌, length, Option, Some, None, Result, Ok, Err, refl, sym, ap, subst, ◌∙◌, arith, append_assoc}
use Rattle.std.specs.List.{flat_map}
use Rattle.std.proofs.lemmas.List.{length-append}
use Rattle.std.proofs.lemmas.List.Concat.{flat_map-cons}
use Rattle.mmt_base.specs.declared.refused.Refused.{Refused}
use Rattle.std.specs.List.{All}
use Rattle.std.proofs.lemmas.List.Elements.{All-nil, All-cons, All-head, All-tail}
use Rattle.mmt_fields.specs.Items.{unless_stopped, ItemsFit, items_of}
use Rattle.mmt_fields.proofs.Codec.{IsBytes, IsBytes-rest, Field, Format}
use Rattle.mmt_fields.proofs.Items.{Reader, Shortens, items_format}
use Rattle.mmt_lists.specs.Counted.{Counted, then_more, counted, counted_of}

-- ---- one item after the other, as a loop and an iterator go

pub counted_none : {A W : Type 0} (one : Reader A W) (at : ℕ) (bytes : List ℕ) → counted zero one at bytes ≡ record { items = []; stop = None; rest = bytes }
unfolding counted
counted_none one at bytes = refl

pub counted_step : {A W : Type 0} (one : Reader A W) (n at : ℕ) (bytes : List ℕ) (x : A × List ℕ) → one at bytes ≡ Ok x
    → counted (suc n) one at bytes ≡ then_more bytes (Ok x) (λ y. counted n one (at + (length bytes - length y.1)) y.1)
unfolding counted
counted_step one n at bytes x e = rw e refl

pub counted_err : {A W : Type 0} (one : Reader A W) (n at : ℕ) (bytes : List ℕ) (d : Refused W) → one at bytes ≡ Err d
    → counted (suc n) one at bytes ≡ record { items = []; stop = Some d; rest = bytes }
unfolding counted
counted_err one n at bytes d e = rw e refl

-- ---- the list is a field

abbrev Found : {A W : Type 0} → (A → List ℕ) → (ℕ → A → Type 0) → ℕ → ℕ → List ℕ → Counted A W → Type 0
Found spell F n at bytes w = (bytes ≡ flat_map spell w.items ++ w.rest) × (length w.items ≡ n) × ItemsFit spell F at w.items

found_after : {A W : Type 0} (one : Reader A W) (spell : A → List ℕ) (F : ℕ → A → Type 0) → ((at : ℕ) → Field (one at) spell (F at))
    → (n at : ℕ) (bytes : List ℕ) (r : Result (A × List ℕ) (Refused W)) (f : A × List ℕ → Counted A W) → IsBytes bytes → one at bytes ≡ r
    → ((x : A × List ℕ) → r ≡ Ok x → IsBytes x.1 → (f x).stop ≡ None → Found spell F n (at + (length bytes - length x.1)) x.1 (f x))
    → (then_more bytes r f).stop ≡ None → Found spell F (suc n) at bytes (then_more bytes r f)
found_after one spell F fields n at bytes (Ok x) f are e later stop =
    let here = fields at in
    let h = here.takes bytes x.0 x.1 are e in
    let l = later x refl (IsBytes-rest (spell x.0) x.1 (subst IsBytes h.0 are)) stop in
    let long : length bytes ≡ length (spell x.0) + length x.1 = ap length h.0 ∙ length-append (spell x.0) x.1 in
    let place : at + (length bytes - length x.1) ≡ at + length (spell x.0) = omega arith in
    let joined : spell x.0 ++ (flat_map spell (f x).items ++ (f x).rest) ≡ flat_map spell (x.0 ∷ (f x).items) ++ (f x).rest =
    sym (append_assoc (spell x.0) (flat_map spell (f x).items) (f x).rest) ∙ ap (λ (b : List ℕ). b ++ (f x).rest) (sym (flat_map-cons spell x.0 (f x).items)) in
    (h.0 ∙ ap (λ (rest : List ℕ). spell x.0 ++ rest) l.0 ∙ joined, ap suc l.1, (h.1, subst (λ (p : ℕ). ItemsFit spell F p (f x).items) place l.2))
found_after one spell F fields n at bytes (Err d) f are e later stop = absurd cc

found : {A W : Type 0} (one : Reader A W) (spell : A → List ℕ) (F : ℕ → A → Type 0) → ((at : ℕ) → Field (one at) spell (F at))
    → (n at : ℕ) (bytes : List ℕ) → IsBytes bytes → (counted n one at bytes).stop ≡ None → Found spell F n at bytes (counted n one at bytes)
unfolding counted
found one spell F fields zero at bytes are stop = (refl, refl, tt)
found one spell F fields (suc n) at bytes are stop =
    found_after one spell F fields n at bytes (one at bytes) (λ x. counted n one (at + (length bytes - length x.1)) x.1) are refl
    (λ x e rest_are stop. found one spell F fields n (at + (length bytes - length x.1)) x.1 rest_are stop) stop

again : {A W : Type 0} (one : Reader A W) (spell : A → List ℕ) (F : ℕ → A → Type 0) → ((at : ℕ) → Field (one at) spell (F at))
    → (at : ℕ) (xs : List A) (rest : List ℕ) → ItemsFit spell F at xs → counted (length xs) one at (flat_map spell xs ++ rest) ≡ record { items = xs; stop = None; rest = rest }
again one spell F fields at [] rest fits = counted_none one at rest
again {A} {W} one spell F fields at (x ∷ xs) rest fits =
    let after = flat_map spell xs ++ rest in
    let here = fields at in
    let bytes : flat_map spell (x ∷ xs) ++ rest ≡ spell x ++ after = ap (λ (b : List ℕ). b ++ rest) (flat_map-cons spell x xs) ∙ append_assoc (spell x) (flat_map spell xs) rest in
    let first = counted_step one (length xs) at (spell x ++ after) (x, after) (here.again x after fits.0) in
    let place : at + (length (spell x ++ after) - length after) ≡ at + length (spell x) = omega (arith, length-append (spell x) after) in
    let later = again one spell F fields (at + length (spell x)) xs rest fits.1 in
    ap (counted (suc (length xs)) one at) bytes ∙ first ∙ ap (λ (w : Counted A W). then_more (spell x ++ after) (Ok (x, after)) (λ _. w)) (rw place later)

unless_none : {A W : Type 0} (o : Option (Refused W)) (x y : A) → unless_stopped o x ≡ Ok y → (o ≡ None) × (x ≡ y)
unless_none None x y e = (refl, cc)
unless_none (Some d) x y e = absurd cc

-- a list of so many items is a field
pub counted_field : {A W : Type 0} (one : Reader A W) (spell : A → List ℕ) (F : ℕ → A → Type 0) → ((at : ℕ) → Field (one at) spell (F at))
    → (n at : ℕ) → Field (counted_of n one at) (flat_map spell) (λ xs. (length xs ≡ n) × ItemsFit spell F at xs)
unfolding counted_of
counted_field {A} {W} one spell F fields n at = record {
  takes = λ bytes xs rest are e.
      let c = counted n one at bytes in
      let u = unless_none c.stop (c.items, c.rest) (xs, rest) e in
      let f = found one spell F fields n at bytes are u.0 in
      subst (λ (p : List A × List ℕ). (bytes ≡ flat_map spell p.0 ++ p.1) × ((length p.0 ≡ n) × ItemsFit spell F at p.0)) u.1 (f.0, (f.1, f.2));
  again = λ xs rest fits. rw (← fits.0, again one spell F fields at xs rest fits.1) refl;
}

-- ---- where what an item needs does not depend on its place

all_fit : {A : Type 0} (spell : A → List ℕ) (P : A → Type 0) (at : ℕ) (xs : List A) → All P xs → ItemsFit spell (λ _. P) at xs
all_fit spell P at [] all = tt
all_fit spell P at (x ∷ xs) all = (All-head P x xs all, all_fit spell P (at + length (spell x)) xs (All-tail P x xs all))

fit_all : {A : Type 0} (spell : A → List ℕ) (P : A → Type 0) (at : ℕ) (xs : List A) → ItemsFit spell (λ _. P) at xs → All P xs
fit_all spell P at [] fits = All-nil P
fit_all spell P at (x ∷ xs) fits = All-cons P x xs fits.0 (fit_all spell P (at + length (spell x)) xs fits.1)

-- so many items, each of which fits
pub counted_all : {A W : Type 0} (one : Reader A W) (spell : A → List ℕ) (P : A → Type 0) → ((at : ℕ) → Field (one at) spell P)
    → (n at : ℕ) → Field (counted_of n one at) (flat_map spell) (λ xs. (length xs ≡ n) × All P xs)
counted_all one spell P fields n at =
    let here = counted_field one spell (λ _. P) fields n at in
    record {
      takes = λ bytes xs rest are e. let h = here.takes bytes xs rest are e in (h.0, (h.1.0, fit_all spell P at xs h.1.1));
      again = λ xs rest fits. here.again xs rest (fits.0, all_fit spell P at xs fits.1);
    }

-- items up to the end, each of which fits
pub items_all : {A W : Type 0} (one : Reader A W) (spell : A → List ℕ) (P : A → Type 0) → Shortens one → ((at : ℕ) → Field (one at) spell P)
    → (at : ℕ) → Format (All P) (items_of one at) (flat_map spell)
items_all one spell P short fields at =
    let here = items_format one spell (λ _. P) short fields at in
    record {
      takes = λ bytes xs are known e. let h = here.takes bytes xs are known e in (h.0, tt, fit_all spell P at xs h.2);
      again = λ xs c fits. here.again xs tt (all_fit spell P at xs fits);
    }

-- ---- where there was no refusal, there are so many items

length_after : {A W : Type 0} (n : ℕ) (bytes : List ℕ) (r : Result (A × List ℕ) (Refused W)) (f : A × List ℕ → Counted A W)
    → ((x : A × List ℕ) → (f x).stop ≡ None → length (f x).items ≡ n)
    → (then_more bytes r f).stop ≡ None → length (then_more bytes r f).items ≡ suc n
length_after n bytes (Ok x) f later stop = ap suc (later x stop)
length_after n bytes (Err d) f later stop = absurd cc

pub length_counted : {A W : Type 0} (one : Reader A W) (n at : ℕ) (bytes : List ℕ) → (counted n one at bytes).stop ≡ None → length (counted n one at bytes).items ≡ n
unfolding counted
length_counted one zero at bytes stop = refl
length_counted one (suc n) at bytes stop = length_after n bytes (one at bytes) (λ x. counted n one (at + (length bytes - length x.1)) x.1) (λ x none. length_counted one n (at + (length bytes - length x.1)) x.1 none) stop
