-- The words of the options of `take` have one list of options.
use Rattle.std.proofs.Common.{◌≡◌, ◌≢◌, inl, inr, ℕ, ◌<◌, List, [], ◌∷◌, ◌++◌, length, get_or, drop, refl, ap, sym, subst, ◌∙◌, arith}
use Rattle.std.specs.Prelude.{codes}
use Rattle.std.specs.List.{All, Contains, flat_map}
use Rattle.std.proofs.lemmas.Bool.{cases_order}
use Rattle.std.proofs.lemmas.Fmt.{decimal_injective}
use Rattle.std.proofs.lemmas.List.{append-nil, length-append, get_or_at, get_or_append_left, get_or_default}
use Rattle.std.proofs.lemmas.List.Concat.{flat_map-append}
use Rattle.std.proofs.lemmas.List.Elements.{All-head, All-tail, All-contains, Contains-append_right, Contains-get_or}
use Rattle.std.proofs.lemmas.List.Quantifiers.{all_pairs_push}
use Rattle.mmt_model.specs.declared.programmes.Flow.{Flow}
use Rattle.mmt_command.specs.TakeWords.{TakeOption, bound, chosen, sample_base, timescale, assume, option_name, option_value, option_words, take_words, HasOptionRange, AreDifferent}
use Rattle.mmt_command.proofs.Colons.{assumed_once}
use Rattle.mmt_command.proofs.FlowTexts.{flow_text_once}

-- an option is of the kind that its name tells
pub named_bound : (o : TakeOption) → option_name o ≡ codes "--bound" → (n : ℕ) × (o ≡ bound n)
named_bound (bound n) e = (n, refl)
named_bound (chosen f) e = absurd (omega (arith, ap (λ x. get_or x 2 0) e))
named_bound (sample_base b) e = absurd (omega (arith, ap (λ x. get_or x 2 0) e))
named_bound (timescale t) e = absurd (omega (arith, ap (λ x. get_or x 2 0) e))
named_bound (assume w d) e = absurd (omega (arith, ap (λ x. get_or x 2 0) e))

pub named_chosen : (o : TakeOption) → option_name o ≡ codes "--flow" → (f : Flow) × (o ≡ chosen f)
named_chosen (bound n) e = absurd (omega (arith, ap (λ x. get_or x 2 0) e))
named_chosen (chosen f) e = (f, refl)
named_chosen (sample_base b) e = absurd (omega (arith, ap (λ x. get_or x 2 0) e))
named_chosen (timescale t) e = absurd (omega (arith, ap (λ x. get_or x 2 0) e))
named_chosen (assume w d) e = absurd (omega (arith, ap (λ x. get_or x 2 0) e))

pub named_sample_base : (o : TakeOption) → option_name o ≡ codes "--sample-base" → (b : ℕ) × (o ≡ sample_base b)
named_sample_base (bound n) e = absurd (omega (arith, ap (λ x. get_or x 2 0) e))
named_sample_base (chosen f) e = absurd (omega (arith, ap (λ x. get_or x 2 0) e))
named_sample_base (sample_base b) e = (b, refl)
named_sample_base (timescale t) e = absurd (omega (arith, ap (λ x. get_or x 2 0) e))
named_sample_base (assume w d) e = absurd (omega (arith, ap (λ x. get_or x 2 0) e))

pub named_timescale : (o : TakeOption) → option_name o ≡ codes "--timescale" → (t : ℕ) × (o ≡ timescale t)
named_timescale (bound n) e = absurd (omega (arith, ap (λ x. get_or x 2 0) e))
named_timescale (chosen f) e = absurd (omega (arith, ap (λ x. get_or x 2 0) e))
named_timescale (sample_base b) e = absurd (omega (arith, ap (λ x. get_or x 2 0) e))
named_timescale (timescale t) e = (t, refl)
named_timescale (assume w d) e = absurd (omega (arith, ap (λ x. get_or x 2 0) e))

pub named_assume : (o : TakeOption) → option_name o ≡ codes "--assume" → (p : ℕ × ℕ) × (o ≡ assume p.0 p.1)
named_assume (bound n) e = absurd (omega (arith, ap (λ x. get_or x 2 0) e))
named_assume (chosen f) e = absurd (omega (arith, ap (λ x. get_or x 2 0) e))
named_assume (sample_base b) e = absurd (omega (arith, ap (λ x. get_or x 2 0) e))
named_assume (timescale t) e = absurd (omega (arith, ap (λ x. get_or x 2 0) e))
named_assume (assume w d) e = ((w, d), refl)

-- the option of a name and a value is one
option_once : (p q : TakeOption) → HasOptionRange p → HasOptionRange q → option_name p ≡ option_name q → option_value p ≡ option_value q → p ≡ q
option_once (bound n) q x y e v =
    let r = named_bound q (sym e) in
    let z : HasOptionRange (bound r.0) = subst (λ o. HasOptionRange o) r.1 y in
    ap (λ k. bound k) (decimal_injective n r.0 (omega arith) (omega arith) (v ∙ ap (λ o. option_value o) r.1)) ∙ sym r.1
option_once (chosen f) q x y e v =
    let r = named_chosen q (sym e) in
    let z : HasOptionRange (chosen r.0) = subst (λ o. HasOptionRange o) r.1 y in
    ap (λ k. chosen k) (flow_text_once f r.0 x z (v ∙ ap (λ o. option_value o) r.1)) ∙ sym r.1
option_once (sample_base b) q x y e v =
    let r = named_sample_base q (sym e) in
    let z : HasOptionRange (sample_base r.0) = subst (λ o. HasOptionRange o) r.1 y in
    ap (λ k. sample_base k) (decimal_injective b r.0 (omega arith) (omega arith) (v ∙ ap (λ o. option_value o) r.1)) ∙ sym r.1
option_once (timescale t) q x y e v =
    let r = named_timescale q (sym e) in
    let z : HasOptionRange (timescale r.0) = subst (λ o. HasOptionRange o) r.1 y in
    ap (λ k. timescale k) (decimal_injective t r.0 (omega arith) (omega arith) (v ∙ ap (λ o. option_value o) r.1)) ∙ sym r.1
option_once (assume w d) q x y e v =
    let r = named_assume q (sym e) in
    let z : HasOptionRange (assume r.0.0 r.0.1) = subst (λ o. HasOptionRange o) r.1 y in
    let s = assumed_once w d r.0.0 r.0.1 x z (v ∙ ap (λ o. option_value o) r.1) in
    ap (λ k. assume k d) s.0 ∙ (ap (λ k. assume r.0.0 k) s.1 ∙ sym r.1)

-- options whose words begin with those of other options begin with these options
pub rest_of : (os ps : List TakeOption) (rest : List (List ℕ)) → All HasOptionRange os → All HasOptionRange ps → flat_map option_words os ++ rest ≡ flat_map option_words ps
    → (qs : List TakeOption) × (ps ≡ os ++ qs) × (flat_map option_words qs ≡ rest)
rest_of [] ps rest x y e = (ps, refl, sym e)
rest_of (o ∷ os) [] rest x y e = absurd (omega (arith, ap length e))
rest_of (o ∷ os) (p ∷ ps) rest x y e =
    let same : o ≡ p = option_once o p (All-head HasOptionRange o os x) (All-head HasOptionRange p ps y) (ap (λ l. get_or l 0 []) e) (ap (λ l. get_or l 1 []) e) in
    let r = rest_of os ps rest (All-tail HasOptionRange o os x) (All-tail HasOptionRange p ps y) (ap (λ l. drop 2 l) e) in
    (r.0, ap (λ k. k ∷ ps) (sym same) ∙ ap (λ l. o ∷ l) r.1, r.2)

no_words : (qs : List TakeOption) → flat_map option_words qs ≡ [] → qs ≡ []
no_words [] e = refl
no_words (q ∷ qs) e = absurd (omega (arith, ap length e))

-- the words have one list of options
pub options_once : (os ps : List TakeOption) → All HasOptionRange os → All HasOptionRange ps → take_words os ≡ take_words ps → os ≡ ps
options_once os ps x y e =
    let r = rest_of os ps [] x y (append-nil (flat_map option_words os) ∙ ap (λ l. drop 1 l) e) in
    sym (r.1 ∙ (ap (λ l. os ++ l) (no_words r.0 r.2) ∙ append-nil os))

-- one option more
pub words_more : (os : List TakeOption) (o : TakeOption) → take_words (os ++ o ∷ []) ≡ take_words os ++ option_words o
words_more os o = ap (λ l. codes "take" ∷ l) (flat_map-append option_words os (o ∷ []))

-- a list of options with a further one, whose words are these
pub record GoesOn (os : List TakeOption) (word : List ℕ) (tail : List (List ℕ)) : Type 0 where
  pub option : TakeOption
  pub options : List TakeOption
  pub different : AreDifferent (os ++ option ∷ options)
  pub range : HasOptionRange option
  pub name : word ≡ option_name option
  pub value : tail ≡ option_value option ∷ flat_map option_words options

pub goes_from : (os ps qs : List TakeOption) (w : List ℕ) (tail : List (List ℕ)) → All HasOptionRange ps → AreDifferent ps → ps ≡ os ++ qs → flat_map option_words qs ≡ w ∷ tail → GoesOn os w tail
goes_from os ps [] w tail x d e f = absurd (omega (arith, ap length f))
goes_from os ps (q ∷ qs) w tail x d e f = record {
  option = q;
  options = qs;
  different = subst (λ l. AreDifferent l) e d;
  range = All-contains HasOptionRange (os ++ q ∷ qs) q (subst (λ l. All HasOptionRange l) e x) (Contains-append_right os (q ∷ qs) q (0, omega arith, refl));
  name = sym (ap (λ l. get_or l 0 []) f);
  value = sym (ap (λ l. drop 1 l) f);
}

-- options with different names
pub different_more : (os : List TakeOption) (o : TakeOption) → AreDifferent os → ((p : TakeOption) → Contains os p → option_name p ≢ option_name o) → AreDifferent (os ++ o ∷ [])
different_more os o d none = all_pairs_push (λ p q. option_name p ≢ option_name q) os o d (λ k e lt. none (get_or os k e) (Contains-get_or os k e lt))

pub not_again : (os qs : List TakeOption) (p q : TakeOption) → AreDifferent (os ++ q ∷ qs) → Contains os p → option_name p ≡ option_name q → ⊥
not_again os qs p q d (i, lt, is) e =
    let below : i < length os = lt in
    d i (length os) p below (omega (arith, length-append os (q ∷ qs)))
    (ap (λ o. option_name o) (get_or_append_left os (q ∷ qs) p i lt ∙ is) ∙ (e ∙ sym (ap (λ o. option_name o) (get_or_at os q qs p (length os) refl))))

pub one_of_a_name : (os : List TakeOption) (p q : TakeOption) → AreDifferent os → Contains os p → Contains os q → option_name p ≡ option_name q → p ≡ q
one_of_a_name os p q d (i, x, e) (j, y, f) n = elim (cases_order i j) [
  | inl same ↦ sym e ∙ (ap (λ k. get_or os k p) same ∙ (get_or_default os j p q y ∙ f))
  | inr (inl lt) ↦ absurd (d i j p lt y (ap (λ o. option_name o) e ∙ (n ∙ sym (ap (λ o. option_name o) (get_or_default os j p q y ∙ f)))))
  | inr (inr gt) ↦ absurd (d j i q gt x (ap (λ o. option_name o) f ∙ (sym n ∙ sym (ap (λ o. option_name o) (get_or_default os i q p x ∙ e)))))
]
