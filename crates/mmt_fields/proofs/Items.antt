-- Items one after the other up to the end are a format, where one item is a field that takes a byte or more.
use Rattle.std.proofs.Common.{◌≡◌, ℕ, zero, suc, ◌+◌, ◌-◌, ◌<◌, ◌≤◌, List, [], ◌∷◌, ◌++◌, length, Option, Some, None, Result, Ok, Err, refl, sym, ap, subst, ◌∙◌, arith}
use Rattle.std.specs.List.{flat_map}
use Rattle.std.proofs.lemmas.List.{length-append}
use Rattle.std.proofs.lemmas.List.Concat.{flat_map-cons}
use Rattle.mmt_base.specs.declared.refused.Refused.{Refused}
use Rattle.mmt_fields.specs.Items.{Walk, go_on, walk, all_items, unless_stopped, items_of, ItemsFit}
use Rattle.mmt_fields.proofs.Codec.{IsBytes, IsBytes-rest, Field, Format, Always}

-- a reader of one item at a place
abbrev pub Reader : Type 0 → Type 0 → Type 0
Reader A W = ℕ → List ℕ → Result (A × List ℕ) (Refused W)

-- the reader takes a byte or more
abbrev pub Shortens : {A W : Type 0} → Reader A W → Type 0
Shortens {A} {W} one = (at : ℕ) (bytes : List ℕ) (x : A × List ℕ) → one at bytes ≡ Ok x → length x.1 < length bytes

same_after : {A W : Type 0} (r : Result (A × List ℕ) (Refused W)) (f g : A × List ℕ → Walk A W) → ((x : A × List ℕ) → r ≡ Ok x → f x ≡ g x) → go_on r f ≡ go_on r g
same_after {A} {W} (Ok x) f g same = ap (λ (w : Walk A W). go_on (Ok x) (λ _. w)) (same x refl)
same_after (Err d) f g same = refl

-- a walk with more turns than there are bytes is the walk with as many
pub fuel : {A W : Type 0} (one : Reader A W) → Shortens one → (n m at : ℕ) (bytes : List ℕ) → length bytes ≤ n → length bytes ≤ m → walk n one at bytes ≡ walk m one at bytes
unfolding walk
fuel one short zero zero at bytes p q = refl
fuel one short zero (suc m) at [] p q = refl
fuel one short zero (suc m) at (b ∷ bytes) p q = absurd (omega arith)
fuel one short (suc n) zero at [] p q = refl
fuel one short (suc n) zero at (b ∷ bytes) p q = absurd (omega arith)
fuel one short (suc n) (suc m) at [] p q = refl
fuel one short (suc n) (suc m) at (b ∷ bytes) p q =
    same_after (one at (b ∷ bytes)) (λ x. walk n one (at + (length (b ∷ bytes) - length x.1)) x.1) (λ x. walk m one (at + (length (b ∷ bytes) - length x.1)) x.1) (λ x e.
    let less = short at (b ∷ bytes) x e in
    fuel one short n m (at + (length (b ∷ bytes) - length x.1)) x.1 (omega arith) (omega arith))

-- a walk where an item was read
pub step : {A W : Type 0} (one : Reader A W) → Shortens one → (at : ℕ) (bytes : List ℕ) (x : A × List ℕ) → one at bytes ≡ Ok x
    → all_items one at bytes ≡ go_on (Ok x) (λ y. all_items one (at + (length bytes - length y.1)) y.1)
unfolding walk
step one short at [] x e = absurd (let less = short at [] x e in omega arith)
step {A} {W} one short at (b ∷ bytes) x e =
    let less = short at (b ∷ bytes) x e in
    rw e (ap (λ (w : Walk A W). go_on (Ok x) (λ _. w)) (fuel one short (length bytes) (length x.1) (at + (length (b ∷ bytes) - length x.1)) x.1 (omega arith) (omega arith)))

-- a walk where an item was refused
pub stopped : {A W : Type 0} (one : Reader A W) (at : ℕ) (bytes : List ℕ) (d : Refused W) → 0 < length bytes → one at bytes ≡ Err d → all_items one at bytes ≡ record { items = []; stop = Some d }
unfolding walk
stopped one at [] d some e = absurd (omega arith)
stopped one at (b ∷ bytes) d some e = rw e refl

-- a walk at the end
pub ended : {A W : Type 0} (one : Reader A W) (at : ℕ) → all_items one at [] ≡ record { items = []; stop = None }
unfolding walk
ended one at = refl

-- the bytes are the items of the walk, and each fits
abbrev Found : {A W : Type 0} → (A → List ℕ) → (ℕ → A → Type 0) → ℕ → List ℕ → Walk A W → Type 0
Found spell F at bytes w = (bytes ≡ flat_map spell w.items) × ItemsFit spell F at w.items

found_after : {A W : Type 0} (one : Reader A W) (spell : A → List ℕ) (F : ℕ → A → Type 0) → ((at : ℕ) → Field (one at) spell (F at))
    → (at : ℕ) (bytes : List ℕ) (r : Result (A × List ℕ) (Refused W)) (f : A × List ℕ → Walk A W) → IsBytes bytes → one at bytes ≡ r
    → ((x : A × List ℕ) → r ≡ Ok x → IsBytes x.1 → (f x).stop ≡ None → Found spell F (at + (length bytes - length x.1)) x.1 (f x))
    → (go_on r f).stop ≡ None → Found spell F at bytes (go_on r f)
found_after one spell F fields at bytes (Ok x) f are e later stop =
    let here = fields at in
    let h = here.takes bytes x.0 x.1 are e in
    let l = later x refl (IsBytes-rest (spell x.0) x.1 (subst IsBytes h.0 are)) stop in
    let long : length bytes ≡ length (spell x.0) + length x.1 = ap length h.0 ∙ length-append (spell x.0) x.1 in
    let place : at + (length bytes - length x.1) ≡ at + length (spell x.0) = omega arith in
    (h.0 ∙ ap (λ (rest : List ℕ). spell x.0 ++ rest) l.0 ∙ sym (flat_map-cons spell x.0 (f x).items), (h.1, subst (λ (p : ℕ). ItemsFit spell F p (f x).items) place l.1))
found_after one spell F fields at bytes (Err d) f are e later stop = absurd cc

found : {A W : Type 0} (one : Reader A W) (spell : A → List ℕ) (F : ℕ → A → Type 0) → Shortens one → ((at : ℕ) → Field (one at) spell (F at))
    → (n at : ℕ) (bytes : List ℕ) → length bytes ≤ n → IsBytes bytes → (walk n one at bytes).stop ≡ None → Found spell F at bytes (walk n one at bytes)
unfolding walk
found one spell F short fields zero at [] le are stop = (refl, tt)
found one spell F short fields zero at (b ∷ bytes) le are stop = absurd (omega arith)
found one spell F short fields (suc n) at [] le are stop = (refl, tt)
found one spell F short fields (suc n) at (b ∷ bytes) le are stop =
    found_after one spell F fields at (b ∷ bytes) (one at (b ∷ bytes)) (λ x. walk n one (at + (length (b ∷ bytes) - length x.1)) x.1) are refl
    (λ x e rest_are stop.
    let less = short at (b ∷ bytes) x e in
    found one spell F short fields n (at + (length (b ∷ bytes) - length x.1)) x.1 (omega arith) rest_are stop) stop

all_again : {A W : Type 0} (one : Reader A W) (spell : A → List ℕ) (F : ℕ → A → Type 0) → Shortens one → ((at : ℕ) → Field (one at) spell (F at))
    → (at : ℕ) (xs : List A) → ItemsFit spell F at xs → all_items one at (flat_map spell xs) ≡ record { items = xs; stop = None }
all_again one spell F short fields at [] fits = ended one at
all_again {A} {W} one spell F short fields at (x ∷ xs) fits =
    let rest = flat_map spell xs in
    let here = fields at in
    let first = step one short at (spell x ++ rest) (x, rest) (here.again x rest fits.0) in
    let place : at + (length (spell x ++ rest) - length rest) ≡ at + length (spell x) = omega (arith, length-append (spell x) rest) in
    let later = all_again one spell F short fields (at + length (spell x)) xs fits.1 in
    ap (all_items one at) (flat_map-cons spell x xs) ∙ first ∙ ap (λ (w : Walk A W). go_on (Ok (x, rest)) (λ _. w)) (rw place later)

unless_none : {A W : Type 0} (o : Option (Refused W)) (x y : A) → unless_stopped o x ≡ Ok y → (o ≡ None) × (x ≡ y)
unless_none None x y e = (refl, cc)
unless_none (Some d) x y e = absurd cc

-- items up to the end are a format
pub items_format : {A W : Type 0} (one : Reader A W) (spell : A → List ℕ) (F : ℕ → A → Type 0) → Shortens one → ((at : ℕ) → Field (one at) spell (F at))
    → (at : ℕ) → Format (ItemsFit spell F at) (items_of one at) (flat_map spell)
unfolding items_of
items_format {A} {W} one spell F short fields at = record {
  takes = λ bytes xs are known e.
      let u = unless_none (all_items one at bytes).stop (all_items one at bytes).items xs e in
      let f = found one spell F short fields (length bytes) at bytes (omega arith) are u.0 in
      subst (λ (ys : List A). (bytes ≡ flat_map spell ys) × Always ys × ItemsFit spell F at ys) u.1 (f.0, tt, f.1);
  again = λ xs c fits. rw (all_again one spell F short fields at xs fits) refl;
}
