-- How far the words of `take` are read.
use Rattle.std.specs.Prelude.{◌≡◌, ℕ, ◌+◌, ◌*◌, ◌^◌, List, ◌++◌, Option, Some, None, length, drop}
use Rattle.std.specs.Option.{unwrap_or}
use Rattle.std.specs.List.{All}
use Rattle.mmt_model.specs.declared.programmes.Flow.{Flow}
use Rattle.mmt_model.specs.declared.programmes.FlowChoice.{FlowChoice}
use Rattle.mmt_model.specs.declared.programmes.FlowChoice.TheVariants as flow
use Rattle.mmt_command.specs.TakeWords.{TakeOption, bound, chosen, sample_base, timescale, assume, take_words, HasOptionRange, AreDifferent, Gives}
use Rattle.mmt_command.specs.declared.options.Given.{Given}
use Rattle.mmt_command.specs.declared.take_words.TakeOptions.{TakeOptions}

-- the values are those of these options, each of which stands at most once (this project's rule)
pub record HasGiven (given : Given) (options : List TakeOption) : Type 0 where
  pub different : AreDifferent options
  pub ranges : All HasOptionRange options
  pub bound : Gives bound (λ n. Some n) options None given.bound
  pub flow : Gives chosen (λ f. Some f) options None given.flow
  pub sample_base : Gives sample_base (λ b. Some b) options None given.sample_base
  pub timescale : Gives timescale (λ t. Some t) options None given.timescale
  pub assumed : Gives {A = ℕ × ℕ} (λ p. assume p.0 p.1) (λ p. Some p) options None given.assumed

-- 1 where there is a value (this project's rule)
abbrev pub one_if : {A : Type 0} → Option A → ℕ
one_if None = 0
one_if (Some a) = 1

-- how many options have been given (this project's rule)
abbrev pub given_count : Given → ℕ
given_count given = one_if given.bound + one_if given.flow + one_if given.sample_base + one_if given.timescale + one_if given.assumed

-- the words before a place are `take` with options that give these values (this project's rule)
pub record HasRead (given : Given) (words : List (List ℕ)) (at : ℕ) : Type 0 where
  pub options : List TakeOption
  pub values : HasGiven given options
  pub spelled : words ≡ take_words options ++ drop at words
  pub place : at ≡ length (take_words options)
  pub counted : at ≡ 1 + 2 * given_count given

-- the flow alone where one is given, otherwise any (this project's rule)
abbrev pub choice_of : Option Flow → FlowChoice
choice_of None = flow.Any
choice_of (Some f) = flow.One f

-- the values, and the defaults where there are none (this project's rule)
abbrev pub taken : Given → TakeOptions
taken given = record { bound = unwrap_or given.bound (2 ^ 26); flow = choice_of given.flow; sample_base = unwrap_or given.sample_base 1; timescale = unwrap_or given.timescale 90000; assumed = given.assumed }
