-- Where words that begin with `make` are no command, by their places.
use Rattle.std.proofs.Common.{◌≡◌, ◌≢◌, ℕ, ◌≤◌, List, [], ◌∷◌, length, drop, refl, ap, sym, subst, ◌∙◌, arith, decimal}
use Rattle.std.specs.Prelude.{codes}
use Rattle.std.proofs.lemmas.Fmt.{decimal_injective}
use Rattle.mmt_command.specs.Words.{IsWrongAt}
use Rattle.mmt_command.specs.Commands.{Asks, IsCommand, make_words}
use Rattle.mmt_command.specs.declared.words.Command.TheVariants as command
use Rattle.mmt_command.proofs.Names.{asked_make}
use Rattle.mmt_command.proofs.Places.{word_of}
use Rattle.mmt_command.proofs.Wrong.{wrong_after}

whole_make : (seed : ℕ) → seed ≤ 65535 → IsCommand (make_words seed)
whole_make seed high = (command.Make seed, (refl, omega arith))

no_seed_after : (words : List (List ℕ)) → ((n : ℕ) (more : List (List ℕ)) → 0 ≤ n → n ≤ 65535 → words ≢ decimal n ∷ more) → IsWrongAt IsCommand (codes "make" ∷ words) 1
no_seed_after words other =
    wrong_after IsCommand (codes "make" ∷ []) words (_, whole_make 0 (omega arith)) (λ e c. let p = asked_make [] c in omega (arith, ap length p.1.0))
    (λ w more tail e c. let p = asked_make (w ∷ tail) c in other p.0 more (omega arith) (omega (arith, p.1.1)) (e ∙ ap (λ x. x ∷ more) (word_of 1 _ _ p.1.0)))

pub no_seed : (words : List (List ℕ)) → words ≡ codes "make" ∷ drop 1 words → ((n : ℕ) (more : List (List ℕ)) → 0 ≤ n → n ≤ 65535 → drop 1 words ≢ decimal n ∷ more) → IsWrongAt IsCommand words 1
no_seed words e other = subst (λ x. IsWrongAt IsCommand x 1) (sym e) (no_seed_after (drop 1 words) other)

nothing_left : (words : List (List ℕ)) → length words ≡ 0 → words ≡ []
nothing_left [] l = refl
nothing_left (a ∷ more) l = absurd (omega arith)

seeded : (words : List (List ℕ)) (seed : ℕ) → words ≡ codes "make" ∷ drop 1 words → drop 1 words ≡ decimal seed ∷ drop 2 words → words ≡ codes "make" ∷ decimal seed ∷ drop 2 words
seeded words seed e n = e ∙ ap (λ x. codes "make" ∷ x) n

pub make_given : (words : List (List ℕ)) (seed : ℕ) → words ≡ codes "make" ∷ drop 1 words → drop 1 words ≡ decimal seed ∷ drop 2 words → seed ≤ 65535 → length words ≡ 2 → Asks (command.Make seed) words
make_given words seed e n high l =
    let s = seeded words seed e n in (s ∙ ap (λ x. codes "make" ∷ decimal seed ∷ x) (nothing_left (drop 2 words) (omega (arith, l, ap length s))), omega arith)

pub make_long : (words : List (List ℕ)) (seed : ℕ) → words ≡ codes "make" ∷ drop 1 words → drop 1 words ≡ decimal seed ∷ drop 2 words → seed ≤ 65535 → (length words ≡ 2 → ⊥) → IsWrongAt IsCommand words 2
make_long words seed e n high l =
    let s = seeded words seed e n in
    subst (λ x. IsWrongAt IsCommand x 2) (sym s)
    (wrong_after IsCommand (make_words seed) (drop 2 words) ([], whole_make seed high) (λ none c. l (ap length (s ∙ ap (λ x. codes "make" ∷ decimal seed ∷ x) none)))
    (λ w more tail e c. let p = asked_make (decimal seed ∷ w ∷ tail) c in omega (arith, ap length p.1.0)))

pub make_once : (a b : ℕ) (words : List (List ℕ)) → Asks (command.Make a) words → Asks (command.Make b) words → a ≡ b
make_once a b words x y = decimal_injective a b (omega (arith, x.1)) (omega (arith, y.1)) (word_of 1 _ _ (sym x.0 ∙ y.0))
