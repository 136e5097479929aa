-- A list of words is wrong at one place, for any set of commands.
use Rattle.std.proofs.Common.{◌≡◌, inl, inr, ℕ, suc, ◌+◌, ◌<◌, ◌≤◌, List, [], ◌∷◌, ◌++◌, length, take, drop, refl, ap, sym, subst, ◌∙◌, arith, append_assoc}
use Rattle.std.proofs.lemmas.Bool.{cases_order}
use Rattle.std.proofs.lemmas.List.{take-take, take-append-drop}
use Rattle.mmt_command.specs.Words.{BeginsCommand, IsWrongAt}

module _ (commands : List (List ℕ) → Type 0) where
  begins_before : (words : List (List ℕ)) (i j : ℕ) → i ≤ j → BeginsCommand commands (take j words) → BeginsCommand commands (take i words)
  begins_before words i j le (more, command) =
      let split : take i words ++ drop i (take j words) ≡ take j words = rw (take-take i j words le) at (take-append-drop i (take j words)) in
      (drop i (take j words) ++ more, subst commands (ap (λ x. x ++ more) (sym split) ∙ append_assoc (take i words) (drop i (take j words)) more) command)

  not_before : (words : List (List ℕ)) (i j : ℕ) → IsWrongAt commands words i → IsWrongAt commands words j → i < j → ⊥
  not_before words i j a b lt = elim a.ends [
    | inl all ↦ elim b.ends [ inl end ↦ omega arith | inr (below, stops) ↦ omega arith ]
    | inr (below, stops) ↦ stops (begins_before words (i + 1) j (omega arith) b.begins)
  ]

  pub wrong_once : (words : List (List ℕ)) (i j : ℕ) → IsWrongAt commands words i → IsWrongAt commands words j → i ≡ j
  wrong_once words i j a b = elim (cases_order i j) [
    | inl same ↦ same
    | inr (inl lt) ↦ absurd (not_before words i j a b lt)
    | inr (inr gt) ↦ absurd (not_before words j i b a gt)
  ]

-- no command goes on at the first word, where some command goes on at all
wrong_first : (commands : List (List ℕ) → Type 0) (words : List (List ℕ)) → BeginsCommand commands [] → (words ≡ [] → commands [] → ⊥)
    → ((word : List ℕ) (more tail : List (List ℕ)) → words ≡ word ∷ more → commands (word ∷ tail) → ⊥) → IsWrongAt commands words 0
wrong_first commands [] begins none other = record {
  none = none refl;
  begins = begins;
  ends = inl refl;
}
wrong_first commands (word ∷ words) begins none other = record {
  none = other word words words refl;
  begins = begins;
  ends = inr (omega arith, λ b. other word words b.0 refl b.1);
}

next : (n : ℕ) → suc (n + 1) ≡ suc n + 1
next n = omega arith

-- the words are wrong at one place more with a word before them
wrong_later : (commands : List (List ℕ) → Type 0) (word : List ℕ) (words : List (List ℕ)) (index : ℕ) → IsWrongAt (λ w. commands (word ∷ w)) words index → IsWrongAt commands (word ∷ words) (suc index)
wrong_later commands word words index wrong = record {
  none = wrong.none;
  begins = wrong.begins;
  ends = elim wrong.ends [
    | inl all ↦ inl (omega (arith, all))
    | inr (below, stops) ↦ inr (omega arith, subst (λ n. BeginsCommand commands (take n (word ∷ words)) → ⊥) (next index) stops)
  ];
}

-- the words are wrong after a front with which some command begins, where no command has the next word there, or there is none and the front is no command
pub wrong_after : (commands : List (List ℕ) → Type 0) (front words : List (List ℕ)) → BeginsCommand commands front → (words ≡ [] → commands front → ⊥)
    → ((word : List ℕ) (more tail : List (List ℕ)) → words ≡ word ∷ more → commands (front ++ word ∷ tail) → ⊥) → IsWrongAt commands (front ++ words) (length front)
wrong_after commands [] words begins none other = wrong_first commands words begins none other
wrong_after commands (w ∷ front) words begins none other = wrong_later commands w (front ++ words) (length front) (wrong_after (λ x. commands (w ∷ x)) front words begins none other)
