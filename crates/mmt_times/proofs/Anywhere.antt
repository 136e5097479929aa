-- Lists read by a reader that does not ask at which place it is.
use Rattle.std.proofs.Common.{◌≡◌, ℕ, zero, suc, ◌+◌, ◌-◌, ◌<◌, List, [], ◌∷◌, length, Result, Ok, Err, refl, ap, ◌∙◌}
use Rattle.mmt_base.specs.declared.refused.Refused.{Refused}
use Rattle.mmt_fields.specs.Items.{Walk, go_on, walk, all_items}
use Rattle.mmt_fields.proofs.Items.{Reader, Shortens}
use Rattle.mmt_lists.specs.Counted.{Counted, then_more, counted}
use Rattle.mmt_lists.proofs.CountedSteps.{first_item}
use Rattle.mmt_lists.proofs.ItemSteps.{items_step, stop_step}

-- a reader that gives the same at each place
abbrev pub IsAnywhere : {A W : Type 0} → Reader A W → Type 0
IsAnywhere one = (p q : ℕ) (bytes : List ℕ) → one p bytes ≡ one q bytes

then_same : {A W : Type 0} (bytes : List ℕ) (r : Result (A × List ℕ) (Refused W)) (f g : A × List ℕ → Counted A W) → ((x : A × List ℕ) → f x ≡ g x) → then_more bytes r f ≡ then_more bytes r g
then_same {A} {W} bytes (Ok x) f g same = ap (λ (w : Counted A W). then_more bytes (Ok x) (λ _. w)) (same x)
then_same bytes (Err e) f g same = refl

pub counted_anywhere : {A W : Type 0} (one : Reader A W) → IsAnywhere one → (n p q : ℕ) (bytes : List ℕ) → counted n one p bytes ≡ counted n one q bytes
unfolding counted
counted_anywhere one any zero p q bytes = refl
counted_anywhere {A} {W} one any (suc n) p q bytes =
    ap (λ (r : Result (A × List ℕ) (Refused W)). then_more bytes r (λ x. counted n one (p + (length bytes - length x.1)) x.1)) (any p q bytes)
    ∙ then_same bytes (one q bytes) (λ x. counted n one (p + (length bytes - length x.1)) x.1) (λ x. counted n one (q + (length bytes - length x.1)) x.1)
    (λ x. counted_anywhere one any n (p + (length bytes - length x.1)) (q + (length bytes - length x.1)) x.1)

pub first_anywhere : {A W : Type 0} (one : Reader A W) → IsAnywhere one → (n at : ℕ) (bytes : List ℕ) (x : A × List ℕ) → 0 < n → one at bytes ≡ Ok x
    → (counted n one at bytes).items ≡ x.0 ∷ (counted (n - 1) one at x.1).items
first_anywhere {A} {W} one any n at bytes x some e =
    first_item one n at bytes x some e ∙ ap (λ (w : Counted A W). x.0 ∷ w.items) (counted_anywhere one any (n - 1) (at + (length bytes - length x.1)) at x.1)

go_same : {A W : Type 0} (r : Result (A × List ℕ) (Refused W)) (f g : A × List ℕ → Walk A W) → ((x : A × List ℕ) → f x ≡ g x) → go_on r f ≡ go_on r g
go_same {A} {W} (Ok x) f g same = ap (λ (w : Walk A W). go_on (Ok x) (λ _. w)) (same x)
go_same (Err e) f g same = refl

pub walk_anywhere : {A W : Type 0} (one : Reader A W) → IsAnywhere one → (n p q : ℕ) (bytes : List ℕ) → walk n one p bytes ≡ walk n one q bytes
unfolding walk
walk_anywhere one any zero p q bytes = refl
walk_anywhere one any (suc n) p q [] = refl
walk_anywhere {A} {W} one any (suc n) p q (b ∷ bytes) =
    ap (λ (r : Result (A × List ℕ) (Refused W)). go_on r (λ x. walk n one (p + (length (b ∷ bytes) - length x.1)) x.1)) (any p q (b ∷ bytes))
    ∙ go_same (one q (b ∷ bytes)) (λ x. walk n one (p + (length (b ∷ bytes) - length x.1)) x.1) (λ x. walk n one (q + (length (b ∷ bytes) - length x.1)) x.1)
    (λ x. walk_anywhere one any n (p + (length (b ∷ bytes) - length x.1)) (q + (length (b ∷ bytes) - length x.1)) x.1)

pub items_anywhere : {A W : Type 0} (one : Reader A W) → IsAnywhere one → Shortens one → (at : ℕ) (bytes : List ℕ) (x : A × List ℕ) → one at bytes ≡ Ok x
    → (all_items one at bytes).items ≡ x.0 ∷ (all_items one at x.1).items
items_anywhere {A} {W} one any short at bytes x e =
    items_step one short at bytes x e ∙ ap (λ (w : Walk A W). x.0 ∷ w.items) (walk_anywhere one any (length x.1) (at + (length bytes - length x.1)) at x.1)

pub stop_anywhere : {A W : Type 0} (one : Reader A W) → IsAnywhere one → Shortens one → (at : ℕ) (bytes : List ℕ) (x : A × List ℕ) → one at bytes ≡ Ok x
    → (all_items one at bytes).stop ≡ (all_items one at x.1).stop
stop_anywhere {A} {W} one any short at bytes x e =
    stop_step one short at bytes x e ∙ ap (λ (w : Walk A W). w.stop) (walk_anywhere one any (length x.1) (at + (length bytes - length x.1)) at x.1)
