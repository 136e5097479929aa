-- The words of `take`: its options in any order, each at most once.
use Rattle.std.specs.Prelude.{◌≡◌, ◌≢◌, ◌⊎◌, ℕ, ◌<◌, ◌≤◌, ◌^◌, List, [], ◌∷◌, ◌++◌, Some, None, codes, decimal}
use Rattle.std.specs.List.{All, AllPairs, Contains, flat_map}
use Rattle.mmt_model.specs.declared.programmes.Flow.{Flow}
use Rattle.mmt_model.specs.declared.programmes.FlowChoice.TheVariants as flow
use Rattle.mmt_command.specs.Flows.{flow_text, HasFlowRange}
use Rattle.mmt_command.specs.declared.take_words.TakeOptions.{TakeOptions}

-- an option of `take`: the greatest buffer in bytes, the flow that is heard, the number of the first sample of an MPU, the units in a second, or the window and the delay in ticks (this project's rule)
pub data TakeOption : Type 0 where
  bound : ℕ → TakeOption
  chosen : Flow → TakeOption
  sample_base : ℕ → TakeOption
  timescale : ℕ → TakeOption
  assume : (window delay : ℕ) → TakeOption

-- the window, a colon and the delay, in decimal digits (this project's rule)
abbrev pub assumed_text : ℕ → ℕ → List ℕ
assumed_text window delay = decimal window ++ (58 ∷ decimal delay)

-- the delay is at least 1 tick, and the window is above it and at most 2^24 ticks (this project's rule)
abbrev pub HasAssumedRange : ℕ → ℕ → Type 0
HasAssumedRange window delay = (1 ≤ delay) × (delay < window) × (window ≤ 2 ^ 24)

-- the word that names the option (this project's rule)
abbrev pub option_name : TakeOption → List ℕ
option_name (bound n) = codes "--bound"
option_name (chosen f) = codes "--flow"
option_name (sample_base b) = codes "--sample-base"
option_name (timescale t) = codes "--timescale"
option_name (assume w d) = codes "--assume"

-- the word after the option's name (this project's rule)
abbrev pub option_value : TakeOption → List ℕ
option_value (bound n) = decimal n
option_value (chosen f) = flow_text f
option_value (sample_base b) = decimal b
option_value (timescale t) = decimal t
option_value (assume w d) = assumed_text w d

-- the option's value is in its range: 1 to 2^30 bytes, a flow, 0 or 1, 1 to 2^32 - 1 units, or a window above the delay (this project's rule)
abbrev pub HasOptionRange : TakeOption → Type 0
HasOptionRange (bound n) = (1 ≤ n) × (n ≤ 2 ^ 30)
HasOptionRange (chosen f) = HasFlowRange f
HasOptionRange (sample_base b) = b ≤ 1
HasOptionRange (timescale t) = (1 ≤ t) × (t < 2 ^ 32)
HasOptionRange (assume w d) = HasAssumedRange w d

-- the name and the value (this project's rule)
abbrev pub option_words : TakeOption → List (List ℕ)
option_words o = option_name o ∷ option_value o ∷ []

-- the words of `take` with these options (this project's rule)
abbrev pub take_words : List TakeOption → List (List ℕ)
take_words options = codes "take" ∷ flat_map option_words options

-- the options have different names, so that each stands at most once (this project's rule)
abbrev pub AreDifferent : List TakeOption → Type 0
AreDifferent options = AllPairs (λ p q. option_name p ≢ option_name q) options

-- the value is that of an option of this kind, and where there is none the default (this project's rule)
abbrev pub Gives : {A B : Type 0} → (A → TakeOption) → (A → B) → List TakeOption → B → B → Type 0
Gives {A} {B} kind value_of options default value = ((a : A) × Contains options (kind a) × (value ≡ value_of a)) ⊎ (((a : A) → Contains options (kind a) → ⊥) × (value ≡ default))

-- the words are `take` with options, each at most once, and these are their values, or the defaults: 2^26 bytes, any flow, samples numbered from 1, 90,000 units in a second, and no window and delay (this project's rule)
pub record AsksTake (take : TakeOptions) (words : List (List ℕ)) : Type 0 where
  pub options : List TakeOption
  pub spelled : words ≡ take_words options
  pub different : AreDifferent options
  pub ranges : All HasOptionRange options
  pub given_bound : Gives bound (λ n. n) options (2 ^ 26) take.bound
  pub given_flow : Gives chosen (λ f. flow.One f) options flow.Any take.flow
  pub given_base : Gives sample_base (λ b. b) options 1 take.sample_base
  pub given_timescale : Gives timescale (λ t. t) options 90000 take.timescale
  pub given_assumed : Gives {A = ℕ × ℕ} (λ p. assume p.0 p.1) (λ p. Some p) options None take.assumed
