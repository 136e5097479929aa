-- Where an option with a number should stand and doesn't, after some words that a command begins with.
use Rattle.std.proofs.Common.{◌≡◌, inl, inr, ℕ, ◌+◌, ◌≤◌, List, [], ◌∷◌, ◌++◌, length, ap, sym, subst, ◌∙◌, append_assoc, decimal}
use Rattle.std.proofs.lemmas.List.{length-append}
use Rattle.mmt_command.specs.Words.{BeginsCommand, IsWrongAt}
use Rattle.mmt_command.specs.Numbers.{NoOption}
use Rattle.mmt_command.specs.Commands.{IsCommand}
use Rattle.mmt_command.proofs.Wrong.{wrong_after}

-- the word after the option's name is a number in its range
abbrev pub IsNumber : ℕ → ℕ → List ℕ → Type 0
IsNumber low high word = (n : ℕ) × (low ≤ n) × (n ≤ high) × (word ≡ decimal n)

-- every command that begins with these words goes on with the option, and neither they nor they with its name are a command
pub record GoesOn (front : List (List ℕ)) (name : List ℕ) (low high : ℕ) : Type 0 where
  pub begins : BeginsCommand IsCommand (front ++ name ∷ [])
  pub not_yet : IsCommand front → ⊥
  pub half : IsCommand (front ++ name ∷ []) → ⊥
  pub named : (word : List ℕ) (tail : List (List ℕ)) → IsCommand (front ++ word ∷ tail) → word ≡ name
  pub valued : (word : List ℕ) (tail : List (List ℕ)) → IsCommand (front ++ name ∷ word ∷ tail) → IsNumber low high word

pub no_option : (front : List (List ℕ)) (name : List ℕ) (low high at : ℕ) (words : List (List ℕ)) (index : ℕ) → GoesOn front name low high → length front ≡ at
    → NoOption name low high at words index → IsWrongAt IsCommand (front ++ words) index
no_option front name low high at words index on l (inl (is_at, other)) =
    subst (λ i. IsWrongAt IsCommand (front ++ words) i) (l ∙ sym is_at)
    (wrong_after IsCommand front words (name ∷ on.begins.0, subst IsCommand (append_assoc front (name ∷ []) on.begins.0) on.begins.1) (λ e c. on.not_yet c)
    (λ w more tail e c. other more (e ∙ ap (λ x. x ∷ more) (on.named w tail c))))
no_option front name low high at words index on l (inr (is_at, rest, is, other)) =
    let next : length (front ++ name ∷ []) ≡ index = length-append front (name ∷ []) ∙ (ap (λ n. n + 1) l ∙ sym is_at) in
    let place : (front ++ name ∷ []) ++ rest ≡ front ++ words = append_assoc front (name ∷ []) rest ∙ ap (λ x. front ++ x) (sym is) in
    subst (λ i. IsWrongAt IsCommand (front ++ words) i) next (subst (λ x. IsWrongAt IsCommand x (length (front ++ name ∷ []))) place
    (wrong_after IsCommand (front ++ name ∷ []) rest on.begins (λ e c. on.half c)
    (λ w more tail e c.
    let v = on.valued w tail (subst IsCommand (append_assoc front (name ∷ []) (w ∷ tail)) c) in other v.0 more v.1 v.2 (e ∙ ap (λ x. x ∷ more) v.3))))
