-- Where words that begin with `expand` and `squeeze` are no command, by their places.
use Rattle.std.proofs.Common.{◌≡◌, ℕ, ◌≤◌, List, [], ◌∷◌, length, drop, refl, ap, sym, subst, ◌∙◌, arith, decimal}
use Rattle.std.specs.Prelude.{codes}
use Rattle.std.proofs.lemmas.Fmt.{decimal_injective}
use Rattle.mmt_command.specs.Words.{IsWrongAt}
use Rattle.mmt_command.specs.Numbers.{NoOption}
use Rattle.mmt_command.specs.Commands.{Asks, IsCommand, HasGateRange, squeeze_words}
use Rattle.mmt_command.specs.declared.words.Command.TheVariants as command
use Rattle.mmt_command.proofs.Names.{asked_expand, asked_squeeze}
use Rattle.mmt_command.proofs.OptionPlaces.{GoesOn, no_option}
use Rattle.mmt_command.proofs.Places.{word_of}
use Rattle.mmt_command.proofs.Wrong.{wrong_after}

-- ---- `expand`

after_expand : (words : List (List ℕ)) → (words ≡ [] → ⊥) → IsWrongAt IsCommand (codes "expand" ∷ words) 1
after_expand words some = wrong_after IsCommand (codes "expand" ∷ []) words ([], (command.Expand, refl)) (λ e c. some e) (λ w more tail e c. (let is = asked_expand (w ∷ tail) c in omega (arith, ap length is)))

pub expand_wrong : (words : List (List ℕ)) → words ≡ codes "expand" ∷ drop 1 words → (length words ≡ 1 → ⊥) → IsWrongAt IsCommand words 1
expand_wrong words e l = subst (λ x. IsWrongAt IsCommand x 1) (sym e) (after_expand (drop 1 words) (λ n. l (ap length (e ∙ ap (λ x. codes "expand" ∷ x) n))))

-- ---- `squeeze`

whole : (context every : ℕ) → HasGateRange context every → IsCommand (squeeze_words context every)
whole context every range = (command.Squeeze context every, (refl, range))

ranged : (context every : ℕ) → context ≤ 4095 → 1 ≤ every → every ≤ 65535 → HasGateRange context every
ranged context every c low high = record { short = omega arith; low = low; high = omega arith }

context_next : GoesOn (codes "squeeze" ∷ []) (codes "--context") 0 4095
context_next = record {
  begins = (_, whole 0 1 (ranged 0 1 (omega arith) (omega arith) (omega arith)));
  not_yet = λ c. let p = asked_squeeze [] c in omega (arith, ap length p.2.0);
  half = λ c. let p = asked_squeeze (codes "--context" ∷ []) c in omega (arith, ap length p.2.0);
  named = λ w tail c. let p = asked_squeeze (w ∷ tail) c in word_of 1 _ _ p.2.0;
  valued = λ w tail c. let p = asked_squeeze (codes "--context" ∷ w ∷ tail) c in let r = p.2.1.short in (p.0, omega arith, omega arith, word_of 2 _ _ p.2.0);
}

every_next : (context : ℕ) → context ≤ 4095 → GoesOn (codes "squeeze" ∷ codes "--context" ∷ decimal context ∷ []) (codes "--full-every") 1 65535
every_next context high = record {
  begins = (_, whole context 1 (ranged context 1 high (omega arith) (omega arith)));
  not_yet = λ c. let p = asked_squeeze (codes "--context" ∷ decimal context ∷ []) c in omega (arith, ap length p.2.0);
  half = λ c. let p = asked_squeeze (codes "--context" ∷ decimal context ∷ codes "--full-every" ∷ []) c in omega (arith, ap length p.2.0);
  named = λ w tail c. let p = asked_squeeze (codes "--context" ∷ decimal context ∷ w ∷ tail) c in word_of 3 _ _ p.2.0;
  valued = λ w tail c. let p = asked_squeeze (codes "--context" ∷ decimal context ∷ codes "--full-every" ∷ w ∷ tail) c in let r = p.2.1.high in (p.1, p.2.1.low, omega arith, word_of 4 _ _ p.2.0);
}

pub no_context : (words : List (List ℕ)) (index : ℕ) → words ≡ codes "squeeze" ∷ drop 1 words → NoOption (codes "--context") 0 4095 1 (drop 1 words) index → IsWrongAt IsCommand words index
no_context words index e missing = subst (λ x. IsWrongAt IsCommand x index) (sym e) (no_option (codes "squeeze" ∷ []) (codes "--context") 0 4095 1 (drop 1 words) index context_next refl missing)

with_context : (words : List (List ℕ)) (context : ℕ) → words ≡ codes "squeeze" ∷ drop 1 words → drop 1 words ≡ codes "--context" ∷ decimal context ∷ drop 3 words → words ≡ codes "squeeze" ∷ codes "--context" ∷ decimal context ∷ drop 3 words
with_context words context e n = e ∙ ap (λ x. codes "squeeze" ∷ x) n

pub no_every : (words : List (List ℕ)) (context index : ℕ) → words ≡ codes "squeeze" ∷ drop 1 words → drop 1 words ≡ codes "--context" ∷ decimal context ∷ drop 3 words → context ≤ 4095
    → NoOption (codes "--full-every") 1 65535 3 (drop 3 words) index → IsWrongAt IsCommand words index
no_every words context index e n high missing =
    subst (λ x. IsWrongAt IsCommand x index) (sym (with_context words context e n))
    (no_option (codes "squeeze" ∷ codes "--context" ∷ decimal context ∷ []) (codes "--full-every") 1 65535 3 (drop 3 words) index (every_next context high) refl missing)

with_every : (words : List (List ℕ)) (context every : ℕ) → words ≡ codes "squeeze" ∷ drop 1 words → drop 1 words ≡ codes "--context" ∷ decimal context ∷ drop 3 words
    → drop 3 words ≡ codes "--full-every" ∷ decimal every ∷ drop 5 words → words ≡ codes "squeeze" ∷ codes "--context" ∷ decimal context ∷ codes "--full-every" ∷ decimal every ∷ drop 5 words
with_every words context every e n m = with_context words context e n ∙ ap (λ x. codes "squeeze" ∷ codes "--context" ∷ decimal context ∷ x) m

nothing_left : (words : List (List ℕ)) → length words ≡ 0 → words ≡ []
nothing_left [] l = refl
nothing_left (a ∷ more) l = absurd (omega arith)

-- the words have these two options
pub record HasOptions (words : List (List ℕ)) (context every : ℕ) : Type 0 where
  pub name : words ≡ codes "squeeze" ∷ drop 1 words
  pub first : drop 1 words ≡ codes "--context" ∷ decimal context ∷ drop 3 words
  pub second : drop 3 words ≡ codes "--full-every" ∷ decimal every ∷ drop 5 words
  pub context_high : context ≤ 4095
  pub every_low : 1 ≤ every
  pub every_high : every ≤ 65535

spelled : (words : List (List ℕ)) (context every : ℕ) → HasOptions words context every → words ≡ codes "squeeze" ∷ codes "--context" ∷ decimal context ∷ codes "--full-every" ∷ decimal every ∷ drop 5 words
spelled words context every has = with_every words context every has.name has.first has.second

range_of : (words : List (List ℕ)) (context every : ℕ) → HasOptions words context every → HasGateRange context every
range_of words context every has = ranged context every has.context_high has.every_low has.every_high

pub squeeze_given : (words : List (List ℕ)) (context every : ℕ) → HasOptions words context every → length words ≡ 5 → Asks (command.Squeeze context every) words
squeeze_given words context every has l =
    let s = spelled words context every has in
    (s ∙ ap (λ x. codes "squeeze" ∷ codes "--context" ∷ decimal context ∷ codes "--full-every" ∷ decimal every ∷ x) (nothing_left (drop 5 words) (omega (arith, l, ap length s))), range_of words context every has)

pub squeeze_long : (words : List (List ℕ)) (context every : ℕ) → HasOptions words context every → (length words ≡ 5 → ⊥) → IsWrongAt IsCommand words 5
squeeze_long words context every has l =
    let s = spelled words context every has in
    subst (λ x. IsWrongAt IsCommand x 5) (sym s)
    (wrong_after IsCommand (squeeze_words context every) (drop 5 words) ([], whole context every (range_of words context every has))
    (λ none c. l (ap length (s ∙ ap (λ x. codes "squeeze" ∷ codes "--context" ∷ decimal context ∷ codes "--full-every" ∷ decimal every ∷ x) none)))
    (λ w more tail e c. let p = asked_squeeze (codes "--context" ∷ decimal context ∷ codes "--full-every" ∷ decimal every ∷ w ∷ tail) c in omega (arith, ap length p.2.0)))

pub squeeze_once : (c e d f : ℕ) (words : List (List ℕ)) → Asks (command.Squeeze c e) words → Asks (command.Squeeze d f) words → command.Squeeze c e ≡ command.Squeeze d f
squeeze_once c e d f words x y =
    let r = x.1 in let s = y.1 in
    let same : squeeze_words c e ≡ squeeze_words d f = sym x.0 ∙ y.0 in
    let rc = r.short in let re = r.high in let sc = s.short in let se = s.high in
    ap (λ k. command.Squeeze k e) (decimal_injective c d (omega arith) (omega arith) (word_of 2 _ _ same))
    ∙ ap (λ k. command.Squeeze d k) (decimal_injective e f (omega arith) (omega arith) (word_of 4 _ _ same))
