-- What `take` gives back, from what it does.
use Rattle.std.proofs.Common.{◌≡◌, ◌⊎◌, ◌≤◌, inl, inr, ℕ, List, refl, ap, sym, subst, ◌∙◌}
use Rattle.std.specs.Prelude.{length}
use Rattle.mmt_command.specs.Commands.{Asks, IsCommand}
use Rattle.mmt_command.specs.Words.{IsWrongAt}
use Rattle.mmt_command.specs.declared.take_words.TakeOptions.{TakeOptions}
use Rattle.mmt_command.specs.declared.words.Command.TheVariants as command
use Rattle.mmt_command.proofs.AskedOnce.{asks_once}
use Rattle.mmt_model.specs.declared.programmes.FlowChoice.{FlowChoice}
use Rattle.mmt_model.specs.declared.programmes.Params.{Params}
use Rattle.mmt_stream.specs.Streaming.{Does}
use Rattle.mmt_stream.specs.declared.end.StreamEnd.{StreamEnd}
use Rattle.mmt_stream.specs.declared.end.StreamEnd.TheVariants as end
use Rattle.mmt_take.specs.Taking.{taking}
use Rattle.mmt_tune.specs.declared.config.Config.{Config}
use Rattle.mmt_headline.specs.GivesBack.{TakeGivesBack}
use Rattle.mmt_cli.specs.GivingBack.{GivesBack}
use Rattle.mmt_cli.specs.Moments.{Moment}
use Rattle.mmt_cli.specs.Statuses.{status_of}
use Rattle.mmt_cli.specs.Takes.{Takes, config_of}
use Rattle.mmt_cli.specs.declared.status.Status.{Status}
use Rattle.mmt_cli.specs.declared.status.Status.TheVariants as status

-- ---- which end of a stream a status is that of

pub done_end : (e : StreamEnd) → status_of e ≡ status.Done → e ≡ end.Done
done_end end.Done is = refl
done_end end.ReadFault is = absurd cc
done_end end.WriteFault is = absurd cc
done_end (end.Broken kind place) is = absurd cc
done_end end.OutOfMemory is = absurd cc
done_end end.TooLong is = absurd cc

pub status_done : (e : StreamEnd) → (e ≡ end.Done) ⊎ (e ≡ end.OutOfMemory) → (status_of e ≡ status.Done) ⊎ (status_of e ≡ status.OutOfMemory)
status_done e (inl is) = inl (ap status_of is)
status_done e (inr is) = inr (ap status_of is)

-- ---- what `take` gives back

pub given_back : TakeGivesBack → (config : Config) (limit : ℕ) (outcome : Status) (old new : Moment) → Takes config limit outcome old new → GivesBack config limit outcome old new
given_back law config limit outcome old new takes programme cast files delivery reached is =
    let g = law config programme cast files delivery reached limit takes.end old.history new.history new.left old.reads new.reads old.writes new.writes
    (subst (λ (l : List ℕ). Does (taking config) limit takes.end old.history new.history l new.left old.reads new.reads old.writes new.writes) is takes.does) in
    record {
      events = g.0;
      history = g.1;
      notes = g.2.notes;
      quiet = g.2.quiet;
      written = λ e. g.2.written (done_end takes.end (sym takes.told ∙ e));
      noted = λ e. g.2.noted (done_end takes.end (sym takes.told ∙ e));
      writing = g.2.writing;
      noting = g.2.noting;
      done = λ short none. subst (λ (s : Status). (s ≡ status.Done) ⊎ (s ≡ status.OutOfMemory)) (sym takes.told)
          (status_done takes.end (g.3 (subst (λ (l : List ℕ). length l ≤ limit) is short) none.0 none.1));
    }

-- ---- the words of another command are not those of `take`

module _ (options : TakeOptions) (words : List (List ℕ)) (limit : ℕ) (outcome : Status) (old new : Moment) where
  pub no_list : Asks command.List words → Asks (command.Take options) words → GivesBack (config_of options) limit outcome old new
  no_list list take = let e : command.List ≡ command.Take options = asks_once command.List (command.Take options) words list take in absurd cc

  pub no_peak : (flow : FlowChoice) (params : Params) → Asks (command.Peak flow params) words → Asks (command.Take options) words → GivesBack (config_of options) limit outcome old new
  no_peak flow params peak take = let e : command.Peak flow params ≡ command.Take options = asks_once (command.Peak flow params) (command.Take options) words peak take in absurd cc

  pub no_expand : Asks command.Expand words → Asks (command.Take options) words → GivesBack (config_of options) limit outcome old new
  no_expand expand take = let e : command.Expand ≡ command.Take options = asks_once command.Expand (command.Take options) words expand take in absurd cc

  pub no_squeeze : (context every : ℕ) → Asks (command.Squeeze context every) words → Asks (command.Take options) words → GivesBack (config_of options) limit outcome old new
  no_squeeze context every squeeze take = let e : command.Squeeze context every ≡ command.Take options = asks_once (command.Squeeze context every) (command.Take options) words squeeze take in absurd cc

  pub no_pace : (step : ℕ) → Asks (command.Pace step) words → Asks (command.Take options) words → GivesBack (config_of options) limit outcome old new
  no_pace step pace take = let e : command.Pace step ≡ command.Take options = asks_once (command.Pace step) (command.Take options) words pace take in absurd cc

  pub no_command : (index : ℕ) → IsWrongAt IsCommand words index → Asks (command.Take options) words → GivesBack (config_of options) limit outcome old new
  no_command index wrong take = absurd (wrong.none (command.Take options, take))
