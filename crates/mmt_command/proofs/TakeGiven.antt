-- The values that options of `take` give.
use Rattle.std.proofs.Common.{◌≡◌, inl, inr, ℕ, ◌+◌, List, [], ◌∷◌, ◌++◌, Option, Some, None, true, false, length, drop, refl, ap, sym, subst, ◌∙◌, arith, append_assoc}
use Rattle.std.specs.Option.{unwrap_or, is_some}
use Rattle.std.specs.List.{Contains}
use Rattle.std.proofs.lemmas.Option.{none-some}
use Rattle.std.proofs.lemmas.List.{length-append}
use Rattle.std.proofs.lemmas.List.Elements.{All-push, Contains-append_left, Contains-push, Contains-push_cases}
use Rattle.mmt_model.specs.declared.programmes.Flow.{Flow}
use Rattle.mmt_model.specs.declared.programmes.FlowChoice.TheVariants as flow
use Rattle.mmt_command.specs.TakeWords.{TakeOption, bound, chosen, sample_base, timescale, assume, option_name, option_value, option_words, take_words, HasOptionRange, AreDifferent, Gives, AsksTake}
use Rattle.mmt_command.specs.Reading.{HasGiven, HasRead, given_count, choice_of, taken}
use Rattle.mmt_command.specs.declared.options.Given.{Given}
use Rattle.mmt_command.specs.declared.take_words.TakeOptions.{TakeOptions}
use Rattle.mmt_command.proofs.OptionWords.{named_bound, named_chosen, named_sample_base, named_timescale, named_assume, options_once, words_more, different_more, one_of_a_name}

-- whether there is a value
pub true_some : {A : Type 0} (given : Option A) → is_some given ≡ true → given ≡ None → ⊥
true_some None h e = cc
true_some (Some a) h e = cc

pub false_none : {A : Type 0} (given : Option A) → is_some given ≡ false → given ≡ None
false_none None h = refl
false_none (Some a) h = cc

-- one option more
gives_new : {A : Type 0} (kind : A → TakeOption) (os : List TakeOption) (a : A) → Gives kind (λ x. Some x) (os ++ kind a ∷ []) None (Some a)
gives_new kind os a = inl (a, Contains-push os (kind a), refl)

gives_other : {A : Type 0} (kind : A → TakeOption) (os : List TakeOption) (o : TakeOption) (given : Option A) → ((a : A) → o ≡ kind a → ⊥) → Gives kind (λ x. Some x) os None given → Gives kind (λ x. Some x) (os ++ o ∷ []) None given
gives_other kind os o given other (inl (a, has, is)) = inl (a, Contains-append_left os (o ∷ []) (kind a) has, is)
gives_other kind os o given other (inr (none, is)) = inr (λ a has. elim (Contains-push_cases os o (kind a) has) [ inl h ↦ none a h | inr e ↦ other a e ], is)

-- what the value tells of the options
none_given : {A : Type 0} (kind : A → TakeOption) (os : List TakeOption) (given : Option A) → Gives kind (λ x. Some x) os None given → given ≡ None → (a : A) → Contains os (kind a) → ⊥
none_given kind os given (inl (a, has, is)) e = λ b h. none-some a (sym e ∙ is)
none_given kind os given (inr (none, is)) e = none

pub some_given : {A : Type 0} (kind : A → TakeOption) (os : List TakeOption) (given : Option A) → Gives kind (λ x. Some x) os None given → (given ≡ None → ⊥) → (a : A) × Contains os (kind a)
some_given kind os given (inl (a, has, is)) e = (a, has)
some_given kind os given (inr (none, is)) e = absurd (e is)

-- the value with a default
gives_value : {A B : Type 0} (kind : A → TakeOption) (value_of : A → B) (os : List TakeOption) (default : B) (given : Option A) (value : B) → Gives kind (λ x. Some x) os None given
    → (given ≡ None → value ≡ default) → ((a : A) → given ≡ Some a → value ≡ value_of a) → Gives kind value_of os default value
gives_value kind value_of os default given value (inl (a, has, is)) none some = inl (a, has, some a is)
gives_value kind value_of os default given value (inr (n, is)) none some = inr (n, none is)

-- the options give one value
gives_once : {A B : Type 0} (kind : A → TakeOption) (value_of : A → B) (os : List TakeOption) (default u v : B) → AreDifferent os → ((a b : A) → kind a ≡ kind b → a ≡ b) → ((a b : A) → option_name (kind a) ≡ option_name (kind b))
    → Gives kind value_of os default u → Gives kind value_of os default v → u ≡ v
gives_once kind value_of os default u v d same names (inl (a, h, e)) (inl (b, k, f)) = e ∙ (ap value_of (same a b (one_of_a_name os (kind a) (kind b) d h k (names a b))) ∙ sym f)
gives_once kind value_of os default u v d same names (inl (a, h, e)) (inr (n, f)) = absurd (n a h)
gives_once kind value_of os default u v d same names (inr (n, e)) (inl (b, k, f)) = absurd (n b k)
gives_once kind value_of os default u v d same names (inr (n, e)) (inr (m, f)) = e ∙ sym f

-- no option has been given
pub nothing_given : (given : Given) → given.bound ≡ None → given.flow ≡ None → given.sample_base ≡ None → given.timescale ≡ None → given.assumed ≡ None → HasGiven given []
nothing_given given b f s t a = record {
  different = λ i j d lt below. absurd (omega arith);
  ranges = λ k d below. absurd (omega arith);
  bound = inr (λ n h. omega (arith, h.1), b);
  flow = inr (λ n h. omega (arith, h.1), f);
  sample_base = inr (λ n h. omega (arith, h.1), s);
  timescale = inr (λ n h. omega (arith, h.1), t);
  assumed = inr (λ n h. omega (arith, h.1), a);
}

pub bound_more : (given : Given) (os : List TakeOption) (n : ℕ) → HasGiven given os → given.bound ≡ None → HasOptionRange (bound n) → HasGiven (record given { bound = Some n }) (os ++ bound n ∷ [])
bound_more given os n h none range = record {
  different = different_more os (bound n) h.different (λ x has e. let r = named_bound x e in none_given bound os given.bound h.bound none r.0 (subst (λ o. Contains os o) r.1 has));
  ranges = All-push HasOptionRange os (bound n) h.ranges range;
  bound = gives_new bound os n;
  flow = gives_other chosen os (bound n) given.flow (λ x e. cc) h.flow;
  sample_base = gives_other sample_base os (bound n) given.sample_base (λ x e. cc) h.sample_base;
  timescale = gives_other timescale os (bound n) given.timescale (λ x e. cc) h.timescale;
  assumed = gives_other {A = ℕ × ℕ} (λ p. assume p.0 p.1) os (bound n) given.assumed (λ x e. cc) h.assumed;
}

pub flow_more : (given : Given) (os : List TakeOption) (f : Flow) → HasGiven given os → given.flow ≡ None → HasOptionRange (chosen f) → HasGiven (record given { flow = Some f }) (os ++ chosen f ∷ [])
flow_more given os f h none range = record {
  different = different_more os (chosen f) h.different (λ x has e. let r = named_chosen x e in none_given chosen os given.flow h.flow none r.0 (subst (λ o. Contains os o) r.1 has));
  ranges = All-push HasOptionRange os (chosen f) h.ranges range;
  bound = gives_other bound os (chosen f) given.bound (λ x e. cc) h.bound;
  flow = gives_new chosen os f;
  sample_base = gives_other sample_base os (chosen f) given.sample_base (λ x e. cc) h.sample_base;
  timescale = gives_other timescale os (chosen f) given.timescale (λ x e. cc) h.timescale;
  assumed = gives_other {A = ℕ × ℕ} (λ p. assume p.0 p.1) os (chosen f) given.assumed (λ x e. cc) h.assumed;
}

pub sample_base_more : (given : Given) (os : List TakeOption) (b : ℕ) → HasGiven given os → given.sample_base ≡ None → HasOptionRange (sample_base b) → HasGiven (record given { sample_base = Some b }) (os ++ sample_base b ∷ [])
sample_base_more given os b h none range = record {
  different = different_more os (sample_base b) h.different (λ x has e. let r = named_sample_base x e in none_given sample_base os given.sample_base h.sample_base none r.0 (subst (λ o. Contains os o) r.1 has));
  ranges = All-push HasOptionRange os (sample_base b) h.ranges range;
  bound = gives_other bound os (sample_base b) given.bound (λ x e. cc) h.bound;
  flow = gives_other chosen os (sample_base b) given.flow (λ x e. cc) h.flow;
  sample_base = gives_new sample_base os b;
  timescale = gives_other timescale os (sample_base b) given.timescale (λ x e. cc) h.timescale;
  assumed = gives_other {A = ℕ × ℕ} (λ p. assume p.0 p.1) os (sample_base b) given.assumed (λ x e. cc) h.assumed;
}

pub timescale_more : (given : Given) (os : List TakeOption) (t : ℕ) → HasGiven given os → given.timescale ≡ None → HasOptionRange (timescale t) → HasGiven (record given { timescale = Some t }) (os ++ timescale t ∷ [])
timescale_more given os t h none range = record {
  different = different_more os (timescale t) h.different (λ x has e. let r = named_timescale x e in none_given timescale os given.timescale h.timescale none r.0 (subst (λ o. Contains os o) r.1 has));
  ranges = All-push HasOptionRange os (timescale t) h.ranges range;
  bound = gives_other bound os (timescale t) given.bound (λ x e. cc) h.bound;
  flow = gives_other chosen os (timescale t) given.flow (λ x e. cc) h.flow;
  sample_base = gives_other sample_base os (timescale t) given.sample_base (λ x e. cc) h.sample_base;
  timescale = gives_new timescale os t;
  assumed = gives_other {A = ℕ × ℕ} (λ p. assume p.0 p.1) os (timescale t) given.assumed (λ x e. cc) h.assumed;
}

pub assumed_more : (given : Given) (os : List TakeOption) (w d : ℕ) → HasGiven given os → given.assumed ≡ None → HasOptionRange (assume w d) → HasGiven (record given { assumed = Some (w, d) }) (os ++ assume w d ∷ [])
assumed_more given os w d h none range = record {
  different = different_more os (assume w d) h.different (λ x has e. let r = named_assume x e in none_given {A = ℕ × ℕ} (λ p. assume p.0 p.1) os given.assumed h.assumed none r.0 (subst (λ o. Contains os o) r.1 has));
  ranges = All-push HasOptionRange os (assume w d) h.ranges range;
  bound = gives_other bound os (assume w d) given.bound (λ x e. cc) h.bound;
  flow = gives_other chosen os (assume w d) given.flow (λ x e. cc) h.flow;
  sample_base = gives_other sample_base os (assume w d) given.sample_base (λ x e. cc) h.sample_base;
  timescale = gives_other timescale os (assume w d) given.timescale (λ x e. cc) h.timescale;
  assumed = gives_new {A = ℕ × ℕ} (λ p. assume p.0 p.1) os (w, d);
}

pub asked : (given : Given) (os : List TakeOption) (words : List (List ℕ)) → HasGiven given os → words ≡ take_words os → AsksTake (taken given) words
asked given os words h is = record {
  options = os;
  spelled = is;
  different = h.different;
  ranges = h.ranges;
  given_bound = gives_value bound (λ n. n) os 67108864 given.bound _ h.bound (λ e. ap (λ g. unwrap_or g 67108864) e) (λ a e. ap (λ g. unwrap_or g 67108864) e);
  given_flow = gives_value chosen (λ f. flow.One f) os flow.Any given.flow _ h.flow (λ e. ap choice_of e) (λ a e. ap choice_of e);
  given_base = gives_value sample_base (λ n. n) os 1 given.sample_base _ h.sample_base (λ e. ap (λ g. unwrap_or g 1) e) (λ a e. ap (λ g. unwrap_or g 1) e);
  given_timescale = gives_value timescale (λ n. n) os 90000 given.timescale _ h.timescale (λ e. ap (λ g. unwrap_or g 90000) e) (λ a e. ap (λ g. unwrap_or g 90000) e);
  given_assumed = h.assumed;
}

pub same_options : (a b : TakeOptions) → a.bound ≡ b.bound → a.flow ≡ b.flow → a.sample_base ≡ b.sample_base → a.timescale ≡ b.timescale → a.assumed ≡ b.assumed → a ≡ b
same_options a b p q r s t =
    ap (λ x. record a { bound = x }) p ∙ (ap (λ x. record b { flow = x; sample_base = a.sample_base; timescale = a.timescale; assumed = a.assumed }) q
    ∙ (ap (λ x. record b { sample_base = x; timescale = a.timescale; assumed = a.assumed }) r ∙ (ap (λ x. record b { timescale = x; assumed = a.assumed }) s ∙ ap (λ x. record b { assumed = x }) t)))

-- the words ask for one set of options
pub take_once : (a b : TakeOptions) (words : List (List ℕ)) → AsksTake a words → AsksTake b words → a ≡ b
take_once a b words x y =
    let e : y.options ≡ x.options = options_once y.options x.options y.ranges x.ranges (sym y.spelled ∙ x.spelled) in
    same_options a b
    (gives_once bound (λ n. n) x.options 67108864 a.bound b.bound x.different (λ m n e. cc) (λ m n. refl) x.given_bound (subst (λ l. Gives bound (λ n. n) l 67108864 b.bound) e y.given_bound))
    (gives_once chosen (λ f. flow.One f) x.options flow.Any a.flow b.flow x.different (λ m n e. cc) (λ m n. refl) x.given_flow (subst (λ l. Gives chosen (λ f. flow.One f) l flow.Any b.flow) e y.given_flow))
    (gives_once sample_base (λ n. n) x.options 1 a.sample_base b.sample_base x.different (λ m n e. cc) (λ m n. refl) x.given_base (subst (λ l. Gives sample_base (λ n. n) l 1 b.sample_base) e y.given_base))
    (gives_once timescale (λ n. n) x.options 90000 a.timescale b.timescale x.different (λ m n e. cc) (λ m n. refl) x.given_timescale (subst (λ l. Gives timescale (λ n. n) l 90000 b.timescale) e y.given_timescale))
    (gives_once {A = ℕ × ℕ} (λ p. assume p.0 p.1) (λ p. Some p) x.options None a.assumed b.assumed x.different same_pair (λ m n. refl) x.given_assumed
    (subst (λ l. Gives {A = ℕ × ℕ} (λ p. assume p.0 p.1) (λ p. Some p) l None b.assumed) e y.given_assumed))
  where
    same_pair : (p q : ℕ × ℕ) → assume p.0 p.1 ≡ assume q.0 q.1 → p ≡ q
    same_pair (a, b) (c, d) e = let f : a ≡ c = cc in let g : b ≡ d = cc in ap (λ k. (k, b)) f ∙ ap (λ k. (c, k)) g

-- the words are read as far as one option more
pub read_more : (given more : Given) (words : List (List ℕ)) (at : ℕ) (o : TakeOption) (r : HasRead given words at) → HasGiven more (r.options ++ o ∷ []) → given_count more ≡ given_count given + 1
    → drop at words ≡ option_name o ∷ drop (at + 1) words → drop (at + 1) words ≡ option_value o ∷ drop (at + 1 + 1) words → HasRead more words (at + 2)
read_more given more words at o r g count name value = let next : at + 1 + 1 ≡ at + 2 = omega arith in
    let is : drop at words ≡ option_name o ∷ option_value o ∷ drop (at + 2) words = name ∙ ap (λ l. option_name o ∷ l) (value ∙ ap (λ k. option_value o ∷ drop k words) next) in record {
      options = r.options ++ o ∷ [];
      values = g;
      spelled = r.spelled ∙ (ap (λ l. take_words r.options ++ l) is ∙ (sym (append_assoc (take_words r.options) (option_words o) (drop (at + 2) words)) ∙ ap (λ l. l ++ drop (at + 2) words) (sym (words_more r.options o))));
      place = let p = r.place in omega (arith, ap length (words_more r.options o), length-append (take_words r.options) (option_words o));
      counted = let c = r.counted in omega arith;
    }
