-- Where words that begin with `mux` and `trial` are no command, by their places.
use Rattle.std.proofs.Common.{◌≡◌, ℕ, ◌<◌, ◌≤◌, List, [], ◌∷◌, length, drop, refl, ap, sym, subst, arith}
use Rattle.std.specs.Prelude.{codes}
use Rattle.mmt_command.specs.Words.{IsWrongAt}
use Rattle.mmt_command.specs.Commands.{Asks, IsCommand}
use Rattle.mmt_command.specs.declared.words.Command.TheVariants as command
use Rattle.mmt_command.proofs.Names.{asked_mux, asked_trial}
use Rattle.mmt_command.proofs.Wrong.{wrong_after}

-- ---- `mux`

mux_alone : IsWrongAt IsCommand (codes "mux" ∷ []) 1
mux_alone = wrong_after IsCommand (codes "mux" ∷ []) [] ([] ∷ [], (command.Mux, ([], refl))) (λ e c. (let is = asked_mux [] c in omega (arith, ap length is.1))) (λ w more tail e c. omega (arith, ap length e))

after_mux : (name : List ℕ) (words : List (List ℕ)) → (words ≡ [] → ⊥) → IsWrongAt IsCommand (codes "mux" ∷ name ∷ words) 2
after_mux name words some =
    wrong_after IsCommand (codes "mux" ∷ name ∷ []) words ([], (command.Mux, (name, refl))) (λ e c. some e) (λ w more tail e c. (let is = asked_mux (name ∷ w ∷ tail) c in omega (arith, ap length is.1)))

-- two words that begin with it are `mux`, and others are wrong after the first or the second
pub mux_given : (words : List (List ℕ)) → words ≡ codes "mux" ∷ drop 1 words → length words ≡ 2 → Asks command.Mux words
mux_given [] e l = absurd (omega arith)
mux_given (a ∷ []) e l = absurd (omega arith)
mux_given (a ∷ b ∷ []) e l = (b, e)
mux_given (a ∷ b ∷ c ∷ more) e l = absurd (omega arith)

pub mux_wrong_one : (words : List (List ℕ)) → words ≡ codes "mux" ∷ drop 1 words → length words < 2 → IsWrongAt IsCommand words 1
mux_wrong_one [] e l = absurd (omega (arith, ap length e))
mux_wrong_one (a ∷ []) e l = subst (λ x. IsWrongAt IsCommand x 1) (sym e) mux_alone
mux_wrong_one (a ∷ b ∷ more) e l = absurd (omega arith)

pub mux_wrong_two : (words : List (List ℕ)) → words ≡ codes "mux" ∷ drop 1 words → 3 ≤ length words → IsWrongAt IsCommand words 2
mux_wrong_two [] e l = absurd (omega arith)
mux_wrong_two (a ∷ []) e l = absurd (omega arith)
mux_wrong_two (a ∷ b ∷ []) e l = absurd (omega arith)
mux_wrong_two (a ∷ b ∷ c ∷ more) e l = subst (λ x. IsWrongAt IsCommand x 2) (sym e) (after_mux b (c ∷ more) (λ n. omega (arith, ap length n)))

-- ---- `trial`

trial_alone : IsWrongAt IsCommand (codes "trial" ∷ []) 1
trial_alone = wrong_after IsCommand (codes "trial" ∷ []) [] ([] ∷ [] ∷ [], (command.Trial, ([], [], refl))) (λ e c. (let is = asked_trial [] c in omega (arith, ap length is.2))) (λ w more tail e c. omega (arith, ap length e))

trial_half : (plan : List ℕ) → IsWrongAt IsCommand (codes "trial" ∷ plan ∷ []) 2
trial_half plan = wrong_after IsCommand (codes "trial" ∷ plan ∷ []) [] ([] ∷ [], (command.Trial, (plan, [], refl))) (λ e c. (let is = asked_trial (plan ∷ []) c in omega (arith, ap length is.2))) (λ w more tail e c. omega (arith, ap length e))

after_trial : (plan list : List ℕ) (words : List (List ℕ)) → (words ≡ [] → ⊥) → IsWrongAt IsCommand (codes "trial" ∷ plan ∷ list ∷ words) 3
after_trial plan list words some =
    wrong_after IsCommand (codes "trial" ∷ plan ∷ list ∷ []) words ([], (command.Trial, (plan, list, refl))) (λ e c. some e)
    (λ w more tail e c. (let is = asked_trial (plan ∷ list ∷ w ∷ tail) c in omega (arith, ap length is.2)))

-- three words that begin with it are `trial`, fewer are wrong at their end, and more after the third
pub trial_given : (words : List (List ℕ)) → words ≡ codes "trial" ∷ drop 1 words → length words ≡ 3 → Asks command.Trial words
trial_given [] e l = absurd (omega arith)
trial_given (a ∷ []) e l = absurd (omega arith)
trial_given (a ∷ b ∷ []) e l = absurd (omega arith)
trial_given (a ∷ b ∷ c ∷ []) e l = (b, c, e)
trial_given (a ∷ b ∷ c ∷ d ∷ more) e l = absurd (omega arith)

pub trial_short : (words : List (List ℕ)) → words ≡ codes "trial" ∷ drop 1 words → length words < 3 → IsWrongAt IsCommand words (length words)
trial_short [] e l = absurd (omega (arith, ap length e))
trial_short (a ∷ []) e l = subst (λ x. IsWrongAt IsCommand x 1) (sym e) trial_alone
trial_short (a ∷ b ∷ []) e l = subst (λ x. IsWrongAt IsCommand x 2) (sym e) (trial_half b)
trial_short (a ∷ b ∷ c ∷ more) e l = absurd (omega arith)

pub trial_long : (words : List (List ℕ)) → words ≡ codes "trial" ∷ drop 1 words → 4 ≤ length words → IsWrongAt IsCommand words 3
trial_long [] e l = absurd (omega arith)
trial_long (a ∷ []) e l = absurd (omega arith)
trial_long (a ∷ b ∷ []) e l = absurd (omega arith)
trial_long (a ∷ b ∷ c ∷ []) e l = absurd (omega arith)
trial_long (a ∷ b ∷ c ∷ d ∷ more) e l = subst (λ x. IsWrongAt IsCommand x 3) (sym e) (after_trial b c (d ∷ more) (λ n. omega (arith, ap length n)))
