-- A command's first word says which command it is.
use Rattle.std.proofs.Common.{◌≡◌, ℕ, ◌+◌, ◌*◌, List, [], ◌∷◌, get_or, refl, ap, sym, subst, ◌∙◌, arith}
use Rattle.std.specs.Prelude.{codes}
use Rattle.mmt_model.specs.declared.programmes.FlowChoice.{FlowChoice}
use Rattle.mmt_model.specs.declared.programmes.Params.{Params}
use Rattle.mmt_command.specs.Commands.{Asks, IsCommand}
use Rattle.mmt_command.specs.declared.take_words.TakeOptions.{TakeOptions}
use Rattle.mmt_command.specs.declared.words.Command.{Command}
use Rattle.mmt_command.specs.declared.words.Command.TheVariants as command

-- the first word of a command
abbrev pub name_of : Command → List ℕ
name_of command.List = codes "list"
name_of (command.Peak choice r) = codes "peak"
name_of (command.Take o) = codes "take"
name_of command.Mux = codes "mux"
name_of command.Trial = codes "trial"
name_of (command.Make seed) = codes "make"
name_of command.Expand = codes "expand"
name_of (command.Squeeze context every) = codes "squeeze"
name_of (command.Pace step) = codes "pace"

pub begins : (c : Command) (words : List (List ℕ)) → Asks c words → (rest : List (List ℕ)) × (words ≡ name_of c ∷ rest)
begins command.List words is = (_, is)
begins (command.Peak choice r) words is = (_, is.0)
begins (command.Take o) words is = (_, is.spelled)
begins command.Mux words is = (_, is.1)
begins command.Trial words is = (_, is.2)
begins (command.Make seed) words is = (_, is.0)
begins command.Expand words is = (_, is)
begins (command.Squeeze context every) words is = (_, is.0)
begins (command.Pace step) words is = (_, is.1)

-- a number by which the first two letters of these words differ
abbrev key : List ℕ → ℕ
key word = get_or word 0 0 * 256 + get_or word 1 0

-- ---- the command of each number

only_list : (c : Command) → key (name_of c) ≡ 27753 → c ≡ command.List
only_list command.List e = refl
only_list (command.Peak choice r) e = absurd (omega (arith, e))
only_list (command.Take o) e = absurd (omega (arith, e))
only_list command.Mux e = absurd (omega (arith, e))
only_list command.Trial e = absurd (omega (arith, e))
only_list (command.Make seed) e = absurd (omega (arith, e))
only_list command.Expand e = absurd (omega (arith, e))
only_list (command.Squeeze context every) e = absurd (omega (arith, e))
only_list (command.Pace step) e = absurd (omega (arith, e))

only_peak : (c : Command) → key (name_of c) ≡ 28773 → (choice : FlowChoice) × (r : Params) × (c ≡ command.Peak choice r)
only_peak command.List e = absurd (omega (arith, e))
only_peak (command.Peak choice r) e = (choice, r, refl)
only_peak (command.Take o) e = absurd (omega (arith, e))
only_peak command.Mux e = absurd (omega (arith, e))
only_peak command.Trial e = absurd (omega (arith, e))
only_peak (command.Make seed) e = absurd (omega (arith, e))
only_peak command.Expand e = absurd (omega (arith, e))
only_peak (command.Squeeze context every) e = absurd (omega (arith, e))
only_peak (command.Pace step) e = absurd (omega (arith, e))

only_take : (c : Command) → key (name_of c) ≡ 29793 → (o : TakeOptions) × (c ≡ command.Take o)
only_take command.List e = absurd (omega (arith, e))
only_take (command.Peak choice r) e = absurd (omega (arith, e))
only_take (command.Take o) e = (o, refl)
only_take command.Mux e = absurd (omega (arith, e))
only_take command.Trial e = absurd (omega (arith, e))
only_take (command.Make seed) e = absurd (omega (arith, e))
only_take command.Expand e = absurd (omega (arith, e))
only_take (command.Squeeze context every) e = absurd (omega (arith, e))
only_take (command.Pace step) e = absurd (omega (arith, e))

only_mux : (c : Command) → key (name_of c) ≡ 28021 → c ≡ command.Mux
only_mux command.List e = absurd (omega (arith, e))
only_mux (command.Peak choice r) e = absurd (omega (arith, e))
only_mux (command.Take o) e = absurd (omega (arith, e))
only_mux command.Mux e = refl
only_mux command.Trial e = absurd (omega (arith, e))
only_mux (command.Make seed) e = absurd (omega (arith, e))
only_mux command.Expand e = absurd (omega (arith, e))
only_mux (command.Squeeze context every) e = absurd (omega (arith, e))
only_mux (command.Pace step) e = absurd (omega (arith, e))

only_trial : (c : Command) → key (name_of c) ≡ 29810 → c ≡ command.Trial
only_trial command.List e = absurd (omega (arith, e))
only_trial (command.Peak choice r) e = absurd (omega (arith, e))
only_trial (command.Take o) e = absurd (omega (arith, e))
only_trial command.Mux e = absurd (omega (arith, e))
only_trial command.Trial e = refl
only_trial (command.Make seed) e = absurd (omega (arith, e))
only_trial command.Expand e = absurd (omega (arith, e))
only_trial (command.Squeeze context every) e = absurd (omega (arith, e))
only_trial (command.Pace step) e = absurd (omega (arith, e))

only_make : (c : Command) → key (name_of c) ≡ 28001 → (seed : ℕ) × (c ≡ command.Make seed)
only_make command.List e = absurd (omega (arith, e))
only_make (command.Peak choice r) e = absurd (omega (arith, e))
only_make (command.Take o) e = absurd (omega (arith, e))
only_make command.Mux e = absurd (omega (arith, e))
only_make command.Trial e = absurd (omega (arith, e))
only_make (command.Make seed) e = (seed, refl)
only_make command.Expand e = absurd (omega (arith, e))
only_make (command.Squeeze context every) e = absurd (omega (arith, e))
only_make (command.Pace step) e = absurd (omega (arith, e))

only_expand : (c : Command) → key (name_of c) ≡ 25976 → c ≡ command.Expand
only_expand command.List e = absurd (omega (arith, e))
only_expand (command.Peak choice r) e = absurd (omega (arith, e))
only_expand (command.Take o) e = absurd (omega (arith, e))
only_expand command.Mux e = absurd (omega (arith, e))
only_expand command.Trial e = absurd (omega (arith, e))
only_expand (command.Make seed) e = absurd (omega (arith, e))
only_expand command.Expand e = refl
only_expand (command.Squeeze context every) e = absurd (omega (arith, e))
only_expand (command.Pace step) e = absurd (omega (arith, e))

only_squeeze : (c : Command) → key (name_of c) ≡ 29553 → (context : ℕ) × (every : ℕ) × (c ≡ command.Squeeze context every)
only_squeeze command.List e = absurd (omega (arith, e))
only_squeeze (command.Peak choice r) e = absurd (omega (arith, e))
only_squeeze (command.Take o) e = absurd (omega (arith, e))
only_squeeze command.Mux e = absurd (omega (arith, e))
only_squeeze command.Trial e = absurd (omega (arith, e))
only_squeeze (command.Make seed) e = absurd (omega (arith, e))
only_squeeze command.Expand e = absurd (omega (arith, e))
only_squeeze (command.Squeeze context every) e = (context, every, refl)
only_squeeze (command.Pace step) e = absurd (omega (arith, e))

only_pace : (c : Command) → key (name_of c) ≡ 28769 → (step : ℕ) × (c ≡ command.Pace step)
only_pace command.List e = absurd (omega (arith, e))
only_pace (command.Peak choice r) e = absurd (omega (arith, e))
only_pace (command.Take o) e = absurd (omega (arith, e))
only_pace command.Mux e = absurd (omega (arith, e))
only_pace command.Trial e = absurd (omega (arith, e))
only_pace (command.Make seed) e = absurd (omega (arith, e))
only_pace command.Expand e = absurd (omega (arith, e))
only_pace (command.Squeeze context every) e = absurd (omega (arith, e))
only_pace (command.Pace step) e = (step, refl)

-- ---- words that begin with a name are those of its command, if they are a command

named : (name : List ℕ) (words : List (List ℕ)) (c : IsCommand (name ∷ words)) → key (name_of c.0) ≡ key name
named name words c = ap (λ x. key (get_or x 0 [])) (sym (begins c.0 (name ∷ words) c.1).1)

same_name : (a b : Command) (words : List (List ℕ)) → Asks a words → Asks b words → key (name_of b) ≡ key (name_of a)
same_name a b words x y = ap (λ l. key (get_or l 0 [])) (sym (begins b words y).1 ∙ (begins a words x).1)

pub asked_list : (words : List (List ℕ)) → IsCommand (codes "list" ∷ words) → Asks command.List (codes "list" ∷ words)
asked_list words c = subst (λ k. Asks k (codes "list" ∷ words)) (only_list c.0 (named (codes "list") words c)) c.1

pub asked_peak : (words : List (List ℕ)) → IsCommand (codes "peak" ∷ words) → (choice : FlowChoice) × (r : Params) × Asks (command.Peak choice r) (codes "peak" ∷ words)
asked_peak words c = let o = only_peak c.0 (named (codes "peak") words c) in (o.0, o.1, subst (λ k. Asks k (codes "peak" ∷ words)) o.2 c.1)

pub asked_take : (words : List (List ℕ)) → IsCommand (codes "take" ∷ words) → (o : TakeOptions) × Asks (command.Take o) (codes "take" ∷ words)
asked_take words c = let o = only_take c.0 (named (codes "take") words c) in (o.0, subst (λ k. Asks k (codes "take" ∷ words)) o.1 c.1)

pub asked_mux : (words : List (List ℕ)) → IsCommand (codes "mux" ∷ words) → Asks command.Mux (codes "mux" ∷ words)
asked_mux words c = subst (λ k. Asks k (codes "mux" ∷ words)) (only_mux c.0 (named (codes "mux") words c)) c.1

pub asked_trial : (words : List (List ℕ)) → IsCommand (codes "trial" ∷ words) → Asks command.Trial (codes "trial" ∷ words)
asked_trial words c = subst (λ k. Asks k (codes "trial" ∷ words)) (only_trial c.0 (named (codes "trial") words c)) c.1

pub asked_make : (words : List (List ℕ)) → IsCommand (codes "make" ∷ words) → (seed : ℕ) × Asks (command.Make seed) (codes "make" ∷ words)
asked_make words c = let o = only_make c.0 (named (codes "make") words c) in (o.0, subst (λ k. Asks k (codes "make" ∷ words)) o.1 c.1)

pub asked_expand : (words : List (List ℕ)) → IsCommand (codes "expand" ∷ words) → Asks command.Expand (codes "expand" ∷ words)
asked_expand words c = subst (λ k. Asks k (codes "expand" ∷ words)) (only_expand c.0 (named (codes "expand") words c)) c.1

pub asked_squeeze : (words : List (List ℕ)) → IsCommand (codes "squeeze" ∷ words) → (context : ℕ) × (every : ℕ) × Asks (command.Squeeze context every) (codes "squeeze" ∷ words)
asked_squeeze words c = let o = only_squeeze c.0 (named (codes "squeeze") words c) in (o.0, o.1, subst (λ k. Asks k (codes "squeeze" ∷ words)) o.2 c.1)

pub asked_pace : (words : List (List ℕ)) → IsCommand (codes "pace" ∷ words) → (step : ℕ) × Asks (command.Pace step) (codes "pace" ∷ words)
asked_pace words c = let o = only_pace c.0 (named (codes "pace") words c) in (o.0, subst (λ k. Asks k (codes "pace" ∷ words)) o.1 c.1)

pub other_list : (b : Command) (words : List (List ℕ)) → Asks command.List words → Asks b words → b ≡ command.List
other_list b words x y = only_list b (same_name command.List b words x y)

pub other_peak : (choice : FlowChoice) (r : Params) (b : Command) (words : List (List ℕ)) → Asks (command.Peak choice r) words → Asks b words → (choice' : FlowChoice) × (r' : Params) × (b ≡ command.Peak choice' r')
other_peak choice r b words x y = only_peak b (same_name (command.Peak choice r) b words x y)

pub other_take : (o : TakeOptions) (b : Command) (words : List (List ℕ)) → Asks (command.Take o) words → Asks b words → (o' : TakeOptions) × (b ≡ command.Take o')
other_take o b words x y = only_take b (same_name (command.Take o) b words x y)

pub other_mux : (b : Command) (words : List (List ℕ)) → Asks command.Mux words → Asks b words → b ≡ command.Mux
other_mux b words x y = only_mux b (same_name command.Mux b words x y)

pub other_trial : (b : Command) (words : List (List ℕ)) → Asks command.Trial words → Asks b words → b ≡ command.Trial
other_trial b words x y = only_trial b (same_name command.Trial b words x y)

pub other_make : (seed : ℕ) (b : Command) (words : List (List ℕ)) → Asks (command.Make seed) words → Asks b words → (seed' : ℕ) × (b ≡ command.Make seed')
other_make seed b words x y = only_make b (same_name (command.Make seed) b words x y)

pub other_expand : (b : Command) (words : List (List ℕ)) → Asks command.Expand words → Asks b words → b ≡ command.Expand
other_expand b words x y = only_expand b (same_name command.Expand b words x y)

pub other_squeeze : (context every : ℕ) (b : Command) (words : List (List ℕ)) → Asks (command.Squeeze context every) words → Asks b words → (context' : ℕ) × (every' : ℕ) × (b ≡ command.Squeeze context' every')
other_squeeze context every b words x y = only_squeeze b (same_name (command.Squeeze context every) b words x y)

pub other_pace : (step : ℕ) (b : Command) (words : List (List ℕ)) → Asks (command.Pace step) words → Asks b words → (step' : ℕ) × (b ≡ command.Pace step')
other_pace step b words x y = only_pace b (same_name (command.Pace step) b words x y)
