-- The ranges of the options of `take`.
use Rattle.std.proofs.Common.{◌≤◌, ◌^◌, ℕ, inl, inr, subst, sym, arith}
use Rattle.std.specs.Prelude.{List}
use Rattle.std.specs.List.{Contains}
use Rattle.std.proofs.lemmas.List.Elements.{All-contains}
use Rattle.mmt_command.specs.declared.take_words.TakeOptions.{TakeOptions}
use Rattle.mmt_command.specs.TakeWords.{TakeOption, HasOptionRange, AsksTake, Gives}
use Rattle.mmt_command.specs.TakeWords.TakeOption.{bound, sample_base, timescale}

-- what holds of each option of a kind and of the default holds of the value
given_as : (P : ℕ → Type 0) (kind : ℕ → TakeOption) (options : List TakeOption) (default n : ℕ) → Gives kind (λ t. t) options default n
    → ((a : ℕ) → Contains options (kind a) → P a) → P default → P n
given_as P kind options default n (inl (a, there, is)) each other = subst P (sym is) (each a there)
given_as P kind options default n (inr (none, is)) each other = subst P (sym is) other

-- the timescale that the words give is not zero
pub has_timescale : (take : TakeOptions) (words : List (List ℕ)) → AsksTake take words → 1 ≤ take.timescale
has_timescale take words asks = given_as (λ n. 1 ≤ n) timescale asks.options 90000 take.timescale asks.given_timescale (λ a there. (All-contains HasOptionRange asks.options (timescale a) asks.ranges there).0) (omega arith)

-- the first sample's number is 0 or 1
pub has_base : (take : TakeOptions) (words : List (List ℕ)) → AsksTake take words → take.sample_base ≤ 1
has_base take words asks = given_as (λ n. n ≤ 1) sample_base asks.options 1 take.sample_base asks.given_base (λ a there. All-contains HasOptionRange asks.options (sample_base a) asks.ranges there) (omega arith)

-- the bound is at most 2^30 bytes
pub has_bound : (take : TakeOptions) (words : List (List ℕ)) → AsksTake take words → take.bound ≤ 2 ^ 30
has_bound take words asks = given_as (λ n. n ≤ 2 ^ 30) bound asks.options (2 ^ 26) take.bound asks.given_bound (λ a there. (All-contains HasOptionRange asks.options (bound a) asks.ranges there).1) (omega arith)
