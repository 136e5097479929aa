-- Where words that no command begins with, and more words after `list`, are no command.
use Rattle.std.proofs.Common.{◌≡◌, ℕ, List, [], ◌∷◌, length, drop, refl, ap, sym, subst, ◌∙◌, arith}
use Rattle.std.specs.Prelude.{codes}
use Rattle.mmt_command.specs.Words.{IsWrongAt}
use Rattle.mmt_command.specs.Commands.{IsCommand}
use Rattle.mmt_command.specs.declared.words.Command.{Command}
use Rattle.mmt_command.specs.declared.words.Command.TheVariants as command
use Rattle.mmt_command.proofs.Names.{name_of, begins, asked_list}
use Rattle.mmt_command.proofs.Places.{word_of}
use Rattle.mmt_command.proofs.Wrong.{wrong_after}

-- no words begin with this one
abbrev pub NotFirst : List (List ℕ) → List ℕ → Type 0
NotFirst words name = (rest : List (List ℕ)) → words ≡ name ∷ rest → ⊥

nothing_is : IsCommand [] → ⊥
nothing_is c = omega (arith, ap length (begins c.0 [] c.1).1)

pub no_first : (words : List (List ℕ)) → ((c : Command) → NotFirst words (name_of c)) → IsWrongAt IsCommand words 0
no_first words other =
    wrong_after IsCommand [] words (codes "list" ∷ [], (command.List, refl)) (λ e c. nothing_is c)
    (λ w more tail e c. let b = begins c.0 (w ∷ tail) c.1 in other c.0 more (e ∙ ap (λ x. x ∷ more) (word_of 0 _ _ b.1)))

-- words that begin with none of these names begin no command
pub none_first : (words : List (List ℕ)) → NotFirst words (codes "list") → NotFirst words (codes "peak") → NotFirst words (codes "take") → NotFirst words (codes "mux") → NotFirst words (codes "trial") → NotFirst words (codes "make")
    → NotFirst words (codes "expand") → NotFirst words (codes "squeeze") → NotFirst words (codes "pace") → (c : Command) → NotFirst words (name_of c)
none_first words l p t m tr ma x s pa command.List = l
none_first words l p t m tr ma x s pa (command.Peak choice r) = p
none_first words l p t m tr ma x s pa (command.Take o) = t
none_first words l p t m tr ma x s pa command.Mux = m
none_first words l p t m tr ma x s pa command.Trial = tr
none_first words l p t m tr ma x s pa (command.Make seed) = ma
none_first words l p t m tr ma x s pa command.Expand = x
none_first words l p t m tr ma x s pa (command.Squeeze context every) = s
none_first words l p t m tr ma x s pa (command.Pace step) = pa

-- more words after `list`
after_list : (words : List (List ℕ)) → (words ≡ [] → ⊥) → IsWrongAt IsCommand (codes "list" ∷ words) 1
after_list words some = wrong_after IsCommand (codes "list" ∷ []) words ([], (command.List, refl)) (λ e c. some e) (λ w more tail e c. (let is = asked_list (w ∷ tail) c in omega (arith, ap length is)))

pub list_wrong : (words : List (List ℕ)) → words ≡ codes "list" ∷ drop 1 words → (length words ≡ 1 → ⊥) → IsWrongAt IsCommand words 1
list_wrong words e l = subst (λ x. IsWrongAt IsCommand x 1) (sym e) (after_list (drop 1 words) (λ n. l (ap length (e ∙ ap (λ x. codes "list" ∷ x) n))))

-- a list of one word
pub alone : (word : List ℕ) (words : List (List ℕ)) → words ≡ word ∷ drop 1 words → length words ≡ 1 → words ≡ word ∷ []
alone word [] e l = absurd (omega arith)
alone word (a ∷ []) e l = e
alone word (a ∷ b ∷ more) e l = absurd (omega arith)
