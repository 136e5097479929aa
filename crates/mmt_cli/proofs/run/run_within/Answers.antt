use Rattle.std.proofs.Common.{◌≡◌, ◌≤◌, ◌∙◌, ◌^◌, ℕ, List, drop, length, ap, subst, sym, arith}
use Rattle.mmt_tune.specs.declared.config.Config.{Config}
use Rattle.mmt_command.specs.Commands.{Asks, IsCommand}
use Rattle.mmt_cli.specs.Moments.{Moment, moment, Faults, faults}
use Rattle.mmt_cli.specs.Promise.{Promises, HasCauses}
use Rattle.mmt_command.specs.Words.{texts}
use Rattle.mmt_cli.specs.declared.status.Status.TheVariants as status
use Rattle.mmt_command.specs.declared.words.Command.TheVariants as command
use Rattle.mmt_command.proofs.AskedOnce.{asks_once}
use Rattle.mmt_command.proofs.PaceWords.{pace_once}
use Rattle.mmt_command.proofs.Places.{word_at, word_of}
use Rattle.mmt_command.proofs.TakeGiven.{take_once}
use Rattle.std.proofs.lemmas.List.{length-map}
use Rattle.std.specs.Prelude.{string_bytes}
use Rattle.mmt_command.proofs.Wrong.{wrong_once}
use Rattle.mmt_cli.specs.GivingBack.{GivesBack}
use Rattle.mmt_cli.specs.Pacing.{Paces}
use Rattle.mmt_cli.specs.Takes.{Takes, config_of}
use Rattle.mmt_command.specs.declared.take_words.TakeOptions.{TakeOptions}
use Rattle.mmt_cli.proofs.GivenBack.{given_back, no_command, no_expand, no_list, no_pace, no_peak, no_squeeze}
use Rattle.mmt_cli.proofs.Taken.{has_timescale, has_base, has_bound}
use Rattle.mmt_cli.proofs.run.run_within.Goals as goal

pub returns-in-Ok-List-clause-promise : goal.returns-in-Ok-List-clause-promise
returns-in-Ok-List-clause-promise g c = λ told asked asks.
    let old : Moment = moment (g.P.Port.history c.args.port.now) (g.P.Port.left c.args.port.now) (g.P.Port.read_faults c.args.port.now) (g.P.Port.write_faults c.args.port.now) in
    let new : Moment = moment (g.P.Port.history c.list_within.new.port) (g.P.Port.left c.list_within.new.port) (g.P.Port.read_faults c.list_within.new.port) (g.P.Port.write_faults c.list_within.new.port) in
    let list : Asks command.List (texts c.args.words.now) = subst (λ k. Asks k (texts c.args.words.now)) c.in-Ok-List.field-0-is c.in-Ok-List.ensures.command in
    subst (λ k. Promises k c.args.limit c.list_within.result old new) (asks_once command.List asked (texts c.args.words.now) list asks) (c.list_within.ensures.lists told)

pub returns-in-Ok-List-clause-causes : goal.returns-in-Ok-List-clause-causes
returns-in-Ok-List-clause-causes g c = λ asked asks.
    let old : Faults = faults (g.P.Port.read_faults c.args.port.now) (g.P.Port.write_faults c.args.port.now) (g.H.Shelf.faults c.args.shelf.now) in
    let new : Faults = faults (g.P.Port.read_faults c.list_within.new.port) (g.P.Port.write_faults c.list_within.new.port) (g.H.Shelf.faults c.args.shelf.now) in
    let list : Asks command.List (texts c.args.words.now) = subst (λ k. Asks k (texts c.args.words.now)) c.in-Ok-List.field-0-is c.in-Ok-List.ensures.command in
    subst (λ k. HasCauses k c.list_within.result old new) (asks_once command.List asked (texts c.args.words.now) list asks)
    (c.list_within.ensures.read_fault, c.list_within.ensures.write_fault)

pub returns-in-Ok-List-clause-gives_back : goal.returns-in-Ok-List-clause-gives_back
returns-in-Ok-List-clause-gives_back g c = λ told options asks.
    let old : Moment = moment (g.P.Port.history c.args.port.now) (g.P.Port.left c.args.port.now) (g.P.Port.read_faults c.args.port.now) (g.P.Port.write_faults c.args.port.now) in
    let new : Moment = moment (g.P.Port.history c.list_within.new.port) (g.P.Port.left c.list_within.new.port) (g.P.Port.read_faults c.list_within.new.port) (g.P.Port.write_faults c.list_within.new.port) in
    let list : Asks command.List (texts c.args.words.now) = subst (λ k. Asks k (texts c.args.words.now)) c.in-Ok-List.field-0-is c.in-Ok-List.ensures.command in
    no_list options (texts c.args.words.now) c.args.limit c.list_within.result old new list asks

pub returns-in-Ok-Peak-clause-promise : goal.returns-in-Ok-Peak-clause-promise
returns-in-Ok-Peak-clause-promise g c = λ told asked asks.
    let old : Moment = moment (g.P.Port.history c.args.port.now) (g.P.Port.left c.args.port.now) (g.P.Port.read_faults c.args.port.now) (g.P.Port.write_faults c.args.port.now) in
    let new : Moment = moment (g.P.Port.history c.peak_within.new.port) (g.P.Port.left c.peak_within.new.port) (g.P.Port.read_faults c.peak_within.new.port) (g.P.Port.write_faults c.peak_within.new.port) in
    let peak : Asks (command.Peak c.in-Ok-Peak.flow c.in-Ok-Peak.params) (texts c.args.words.now) = subst (λ k. Asks k (texts c.args.words.now)) c.in-Ok-Peak.field-0-is c.in-Ok-Peak.ensures.command in
    subst (λ k. Promises k c.args.limit c.peak_within.result old new) (asks_once (command.Peak c.in-Ok-Peak.flow c.in-Ok-Peak.params) asked (texts c.args.words.now) peak asks) (c.peak_within.ensures.peaks told)

pub returns-in-Ok-Peak-clause-causes : goal.returns-in-Ok-Peak-clause-causes
returns-in-Ok-Peak-clause-causes g c = λ asked asks.
    let old : Faults = faults (g.P.Port.read_faults c.args.port.now) (g.P.Port.write_faults c.args.port.now) (g.H.Shelf.faults c.args.shelf.now) in
    let new : Faults = faults (g.P.Port.read_faults c.peak_within.new.port) (g.P.Port.write_faults c.peak_within.new.port) (g.H.Shelf.faults c.args.shelf.now) in
    let peak : Asks (command.Peak c.in-Ok-Peak.flow c.in-Ok-Peak.params) (texts c.args.words.now) = subst (λ k. Asks k (texts c.args.words.now)) c.in-Ok-Peak.field-0-is c.in-Ok-Peak.ensures.command in
    subst (λ k. HasCauses k c.peak_within.result old new) (asks_once (command.Peak c.in-Ok-Peak.flow c.in-Ok-Peak.params) asked (texts c.args.words.now) peak asks)
    (c.peak_within.ensures.read_fault, c.peak_within.ensures.write_fault)

pub returns-in-Ok-Peak-clause-gives_back : goal.returns-in-Ok-Peak-clause-gives_back
returns-in-Ok-Peak-clause-gives_back g c = λ told options asks.
    let old : Moment = moment (g.P.Port.history c.args.port.now) (g.P.Port.left c.args.port.now) (g.P.Port.read_faults c.args.port.now) (g.P.Port.write_faults c.args.port.now) in
    let new : Moment = moment (g.P.Port.history c.peak_within.new.port) (g.P.Port.left c.peak_within.new.port) (g.P.Port.read_faults c.peak_within.new.port) (g.P.Port.write_faults c.peak_within.new.port) in
    let peak : Asks (command.Peak c.in-Ok-Peak.flow c.in-Ok-Peak.params) (texts c.args.words.now) = subst (λ k. Asks k (texts c.args.words.now)) c.in-Ok-Peak.field-0-is c.in-Ok-Peak.ensures.command in
    no_peak options (texts c.args.words.now) c.args.limit c.peak_within.result old new c.in-Ok-Peak.flow c.in-Ok-Peak.params peak asks

pub take_within-requires-clause-bound : goal.take_within-requires-clause-bound
take_within-requires-clause-bound g c =
    let take : Asks (command.Take c.in-Ok-Take.options) (texts c.args.words.now) = subst (λ k. Asks k (texts c.args.words.now)) c.in-Ok-Take.field-0-is c.in-Ok-Take.ensures.command in
    subst (λ (k : Config). k.bound ≤ 2 ^ 30) (sym c.configured.ensures) (has_bound c.in-Ok-Take.options (texts c.args.words.now) take)

pub take_within-requires-clause-base : goal.take_within-requires-clause-base
take_within-requires-clause-base g c =
    let take : Asks (command.Take c.in-Ok-Take.options) (texts c.args.words.now) = subst (λ k. Asks k (texts c.args.words.now)) c.in-Ok-Take.field-0-is c.in-Ok-Take.ensures.command in
    subst (λ (k : Config). k.sample_base ≤ 1) (sym c.configured.ensures) (has_base c.in-Ok-Take.options (texts c.args.words.now) take)

pub take_within-requires-clause-timescale : goal.take_within-requires-clause-timescale
take_within-requires-clause-timescale g c =
    let take : Asks (command.Take c.in-Ok-Take.options) (texts c.args.words.now) = subst (λ k. Asks k (texts c.args.words.now)) c.in-Ok-Take.field-0-is c.in-Ok-Take.ensures.command in
    subst (λ (k : Config). 1 ≤ k.timescale) (sym c.configured.ensures) (has_timescale c.in-Ok-Take.options (texts c.args.words.now) take)

pub returns-in-Ok-Take-clause-promise : goal.returns-in-Ok-Take-clause-promise
returns-in-Ok-Take-clause-promise g c = λ told asked asks.
    let old : Moment = moment (g.P.Port.history c.args.port.now) (g.P.Port.left c.args.port.now) (g.P.Port.read_faults c.args.port.now) (g.P.Port.write_faults c.args.port.now) in
    let new : Moment = moment (g.P.Port.history c.take_within.new.port) (g.P.Port.left c.take_within.new.port) (g.P.Port.read_faults c.take_within.new.port) (g.P.Port.write_faults c.take_within.new.port) in
    let take : Asks (command.Take c.in-Ok-Take.options) (texts c.args.words.now) = subst (λ k. Asks k (texts c.args.words.now)) c.in-Ok-Take.field-0-is c.in-Ok-Take.ensures.command in
    subst (λ k. Promises k c.args.limit c.take_within.result old new) (asks_once (command.Take c.in-Ok-Take.options) asked (texts c.args.words.now) take asks)
    (subst (λ (k : Config). Takes k c.args.limit c.take_within.result old new) c.configured.ensures (c.take_within.ensures.takes told))

pub returns-in-Ok-Take-clause-causes : goal.returns-in-Ok-Take-clause-causes
returns-in-Ok-Take-clause-causes g c = λ asked asks.
    let old : Faults = faults (g.P.Port.read_faults c.args.port.now) (g.P.Port.write_faults c.args.port.now) (g.H.Shelf.faults c.args.shelf.now) in
    let new : Faults = faults (g.P.Port.read_faults c.take_within.new.port) (g.P.Port.write_faults c.take_within.new.port) (g.H.Shelf.faults c.args.shelf.now) in
    let take : Asks (command.Take c.in-Ok-Take.options) (texts c.args.words.now) = subst (λ k. Asks k (texts c.args.words.now)) c.in-Ok-Take.field-0-is c.in-Ok-Take.ensures.command in
    subst (λ k. HasCauses k c.take_within.result old new) (asks_once (command.Take c.in-Ok-Take.options) asked (texts c.args.words.now) take asks)
    (c.take_within.ensures.read_fault, c.take_within.ensures.write_fault)

pub returns-in-Ok-Take-clause-gives_back : goal.returns-in-Ok-Take-clause-gives_back
returns-in-Ok-Take-clause-gives_back g c = λ told asked asks.
    let old : Moment = moment (g.P.Port.history c.args.port.now) (g.P.Port.left c.args.port.now) (g.P.Port.read_faults c.args.port.now) (g.P.Port.write_faults c.args.port.now) in
    let new : Moment = moment (g.P.Port.history c.take_within.new.port) (g.P.Port.left c.take_within.new.port) (g.P.Port.read_faults c.take_within.new.port) (g.P.Port.write_faults c.take_within.new.port) in
    let take : Asks (command.Take c.in-Ok-Take.options) (texts c.args.words.now) = subst (λ k. Asks k (texts c.args.words.now)) c.in-Ok-Take.field-0-is c.in-Ok-Take.ensures.command in
    subst (λ (o : TakeOptions). GivesBack (config_of o) c.args.limit c.take_within.result old new) (take_once c.in-Ok-Take.options asked (texts c.args.words.now) take asks)
    (given_back c.take_gives_back.ensures (config_of c.in-Ok-Take.options) c.args.limit c.take_within.result old new
    (subst (λ (k : Config). Takes k c.args.limit c.take_within.result old new) c.configured.ensures (c.take_within.ensures.takes told)))

pub returns-in-Ok-Make-clause-promise : goal.returns-in-Ok-Make-clause-promise
returns-in-Ok-Make-clause-promise g c = λ told asked asks.
    let old : Moment = moment (g.P.Port.history c.args.port.now) (g.P.Port.left c.args.port.now) (g.P.Port.read_faults c.args.port.now) (g.P.Port.write_faults c.args.port.now) in
    let new : Moment = moment (g.P.Port.history c.make_within.new.port) (g.P.Port.left c.make_within.new.port) (g.P.Port.read_faults c.make_within.new.port) (g.P.Port.write_faults c.make_within.new.port) in
    let make : Asks (command.Make c.in-Ok-Make.seed) (texts c.args.words.now) = subst (λ k. Asks k (texts c.args.words.now)) c.in-Ok-Make.field-0-is c.in-Ok-Make.ensures.command in
    subst (λ k. Promises k c.args.limit c.make_within.result old new) (asks_once (command.Make c.in-Ok-Make.seed) asked (texts c.args.words.now) make asks) (c.make_within.ensures.makes told)

pub returns-in-Ok-Expand-clause-promise : goal.returns-in-Ok-Expand-clause-promise
returns-in-Ok-Expand-clause-promise g c = λ told asked asks.
    let old : Moment = moment (g.P.Port.history c.args.port.now) (g.P.Port.left c.args.port.now) (g.P.Port.read_faults c.args.port.now) (g.P.Port.write_faults c.args.port.now) in
    let new : Moment = moment (g.P.Port.history c.expand_within.new.port) (g.P.Port.left c.expand_within.new.port) (g.P.Port.read_faults c.expand_within.new.port) (g.P.Port.write_faults c.expand_within.new.port) in
    let expand : Asks command.Expand (texts c.args.words.now) = subst (λ k. Asks k (texts c.args.words.now)) c.in-Ok-Expand.field-0-is c.in-Ok-Expand.ensures.command in
    subst (λ k. Promises k c.args.limit c.expand_within.result old new) (asks_once command.Expand asked (texts c.args.words.now) expand asks) (c.expand_within.ensures.expands told)

pub returns-in-Ok-Expand-clause-causes : goal.returns-in-Ok-Expand-clause-causes
returns-in-Ok-Expand-clause-causes g c = λ asked asks.
    let old : Faults = faults (g.P.Port.read_faults c.args.port.now) (g.P.Port.write_faults c.args.port.now) (g.H.Shelf.faults c.args.shelf.now) in
    let new : Faults = faults (g.P.Port.read_faults c.expand_within.new.port) (g.P.Port.write_faults c.expand_within.new.port) (g.H.Shelf.faults c.args.shelf.now) in
    let expand : Asks command.Expand (texts c.args.words.now) = subst (λ k. Asks k (texts c.args.words.now)) c.in-Ok-Expand.field-0-is c.in-Ok-Expand.ensures.command in
    subst (λ k. HasCauses k c.expand_within.result old new) (asks_once command.Expand asked (texts c.args.words.now) expand asks)
    (c.expand_within.ensures.read_fault, c.expand_within.ensures.write_fault)

pub returns-in-Ok-Expand-clause-gives_back : goal.returns-in-Ok-Expand-clause-gives_back
returns-in-Ok-Expand-clause-gives_back g c = λ told options asks.
    let old : Moment = moment (g.P.Port.history c.args.port.now) (g.P.Port.left c.args.port.now) (g.P.Port.read_faults c.args.port.now) (g.P.Port.write_faults c.args.port.now) in
    let new : Moment = moment (g.P.Port.history c.expand_within.new.port) (g.P.Port.left c.expand_within.new.port) (g.P.Port.read_faults c.expand_within.new.port) (g.P.Port.write_faults c.expand_within.new.port) in
    let expand : Asks command.Expand (texts c.args.words.now) = subst (λ k. Asks k (texts c.args.words.now)) c.in-Ok-Expand.field-0-is c.in-Ok-Expand.ensures.command in
    no_expand options (texts c.args.words.now) c.args.limit c.expand_within.result old new expand asks

pub squeeze_within-requires-clause-context : goal.squeeze_within-requires-clause-context
squeeze_within-requires-clause-context g c =
    let squeeze : Asks (command.Squeeze c.in-Ok-Squeeze.context c.in-Ok-Squeeze.full_every) (texts c.args.words.now) = subst (λ k. Asks k (texts c.args.words.now)) c.in-Ok-Squeeze.field-0-is c.in-Ok-Squeeze.ensures.command in
    squeeze.1.short

pub squeeze_within-requires-clause-every : goal.squeeze_within-requires-clause-every
squeeze_within-requires-clause-every g c =
    let squeeze : Asks (command.Squeeze c.in-Ok-Squeeze.context c.in-Ok-Squeeze.full_every) (texts c.args.words.now) = subst (λ k. Asks k (texts c.args.words.now)) c.in-Ok-Squeeze.field-0-is c.in-Ok-Squeeze.ensures.command in
    squeeze.1.low

pub returns-in-Ok-Squeeze-clause-promise : goal.returns-in-Ok-Squeeze-clause-promise
returns-in-Ok-Squeeze-clause-promise g c = λ told asked asks.
    let old : Moment = moment (g.P.Port.history c.args.port.now) (g.P.Port.left c.args.port.now) (g.P.Port.read_faults c.args.port.now) (g.P.Port.write_faults c.args.port.now) in
    let new : Moment = moment (g.P.Port.history c.squeeze_within.new.port) (g.P.Port.left c.squeeze_within.new.port) (g.P.Port.read_faults c.squeeze_within.new.port) (g.P.Port.write_faults c.squeeze_within.new.port) in
    let squeeze : Asks (command.Squeeze c.in-Ok-Squeeze.context c.in-Ok-Squeeze.full_every) (texts c.args.words.now) = subst (λ k. Asks k (texts c.args.words.now)) c.in-Ok-Squeeze.field-0-is c.in-Ok-Squeeze.ensures.command in
    subst (λ k. Promises k c.args.limit c.squeeze_within.result old new) (asks_once (command.Squeeze c.in-Ok-Squeeze.context c.in-Ok-Squeeze.full_every) asked (texts c.args.words.now) squeeze asks) (c.squeeze_within.ensures.squeezes told)

pub returns-in-Ok-Squeeze-clause-causes : goal.returns-in-Ok-Squeeze-clause-causes
returns-in-Ok-Squeeze-clause-causes g c = λ asked asks.
    let old : Faults = faults (g.P.Port.read_faults c.args.port.now) (g.P.Port.write_faults c.args.port.now) (g.H.Shelf.faults c.args.shelf.now) in
    let new : Faults = faults (g.P.Port.read_faults c.squeeze_within.new.port) (g.P.Port.write_faults c.squeeze_within.new.port) (g.H.Shelf.faults c.args.shelf.now) in
    let squeeze : Asks (command.Squeeze c.in-Ok-Squeeze.context c.in-Ok-Squeeze.full_every) (texts c.args.words.now) = subst (λ k. Asks k (texts c.args.words.now)) c.in-Ok-Squeeze.field-0-is c.in-Ok-Squeeze.ensures.command in
    subst (λ k. HasCauses k c.squeeze_within.result old new) (asks_once (command.Squeeze c.in-Ok-Squeeze.context c.in-Ok-Squeeze.full_every) asked (texts c.args.words.now) squeeze asks)
    (c.squeeze_within.ensures.read_fault, c.squeeze_within.ensures.write_fault)

pub returns-in-Ok-Squeeze-clause-gives_back : goal.returns-in-Ok-Squeeze-clause-gives_back
returns-in-Ok-Squeeze-clause-gives_back g c = λ told options asks.
    let old : Moment = moment (g.P.Port.history c.args.port.now) (g.P.Port.left c.args.port.now) (g.P.Port.read_faults c.args.port.now) (g.P.Port.write_faults c.args.port.now) in
    let new : Moment = moment (g.P.Port.history c.squeeze_within.new.port) (g.P.Port.left c.squeeze_within.new.port) (g.P.Port.read_faults c.squeeze_within.new.port) (g.P.Port.write_faults c.squeeze_within.new.port) in
    let squeeze : Asks (command.Squeeze c.in-Ok-Squeeze.context c.in-Ok-Squeeze.full_every) (texts c.args.words.now) = subst (λ k. Asks k (texts c.args.words.now)) c.in-Ok-Squeeze.field-0-is c.in-Ok-Squeeze.ensures.command in
    no_squeeze options (texts c.args.words.now) c.args.limit c.squeeze_within.result old new c.in-Ok-Squeeze.context c.in-Ok-Squeeze.full_every squeeze asks

pub pace_within-requires : goal.pace_within-requires
pace_within-requires g c =
    let pace : Asks (command.Pace c.in-Ok-Pace.step) (texts c.args.words.now) = subst (λ k. Asks k (texts c.args.words.now)) c.in-Ok-Pace.field-0-is c.in-Ok-Pace.ensures.command in
    pace.2

pub returns-in-Ok-Pace-clause-promise : goal.returns-in-Ok-Pace-clause-promise
returns-in-Ok-Pace-clause-promise g c = λ told asked asks.
    let old : Moment = moment (g.P.Port.history c.args.port.now) (g.P.Port.left c.args.port.now) (g.P.Port.read_faults c.args.port.now) (g.P.Port.write_faults c.args.port.now) in
    let new : Moment = moment (g.P.Port.history c.pace_within.new.port) (g.P.Port.left c.pace_within.new.port) (g.P.Port.read_faults c.pace_within.new.port) (g.P.Port.write_faults c.pace_within.new.port) in
    let pace : Asks (command.Pace c.in-Ok-Pace.step) (texts c.args.words.now) = subst (λ k. Asks k (texts c.args.words.now)) c.in-Ok-Pace.field-0-is c.in-Ok-Pace.ensures.command in
    subst (λ k. Promises k c.args.limit c.pace_within.result old new) (asks_once (command.Pace c.in-Ok-Pace.step) asked (texts c.args.words.now) pace asks) (c.pace_within.ensures.reads told)

pub returns-in-Ok-Pace-clause-causes : goal.returns-in-Ok-Pace-clause-causes
returns-in-Ok-Pace-clause-causes g c = λ asked asks.
    let old : Faults = faults (g.P.Port.read_faults c.args.port.now) (g.P.Port.write_faults c.args.port.now) (g.H.Shelf.faults c.args.shelf.now) in
    let new : Faults = faults (g.P.Port.read_faults c.pace_within.new.port) (g.P.Port.write_faults c.pace_within.new.port) (g.H.Shelf.faults c.pace_within.new.shelf) in
    let pace : Asks (command.Pace c.in-Ok-Pace.step) (texts c.args.words.now) = subst (λ k. Asks k (texts c.args.words.now)) c.in-Ok-Pace.field-0-is c.in-Ok-Pace.ensures.command in
    subst (λ k. HasCauses k c.pace_within.result old new) (asks_once (command.Pace c.in-Ok-Pace.step) asked (texts c.args.words.now) pace asks)
    (c.pace_within.ensures.read_fault, c.pace_within.ensures.write_fault)

pub returns-in-Ok-Pace-clause-gives_back : goal.returns-in-Ok-Pace-clause-gives_back
returns-in-Ok-Pace-clause-gives_back g c = λ told options asks.
    let old : Moment = moment (g.P.Port.history c.args.port.now) (g.P.Port.left c.args.port.now) (g.P.Port.read_faults c.args.port.now) (g.P.Port.write_faults c.args.port.now) in
    let new : Moment = moment (g.P.Port.history c.pace_within.new.port) (g.P.Port.left c.pace_within.new.port) (g.P.Port.read_faults c.pace_within.new.port) (g.P.Port.write_faults c.pace_within.new.port) in
    let pace : Asks (command.Pace c.in-Ok-Pace.step) (texts c.args.words.now) = subst (λ k. Asks k (texts c.args.words.now)) c.in-Ok-Pace.field-0-is c.in-Ok-Pace.ensures.command in
    no_pace options (texts c.args.words.now) c.args.limit c.pace_within.result old new c.in-Ok-Pace.step pace asks

pub returns-in-Err-clause-only_usage : goal.returns-in-Err-clause-only_usage
returns-in-Err-clause-only_usage g c = λ index wrong. ap (λ i. status.Usage i) (wrong_once IsCommand (texts c.args.words.now) c.in-Err.index index c.in-Err.ensures.wrong wrong)

pub returns-in-Err-clause-gives_back : goal.returns-in-Err-clause-gives_back
returns-in-Err-clause-gives_back g c = λ told options asks.
    let old : Moment = moment (g.P.Port.history c.args.port.now) (g.P.Port.left c.args.port.now) (g.P.Port.read_faults c.args.port.now) (g.P.Port.write_faults c.args.port.now) in
    no_command options (texts c.args.words.now) c.args.limit (status.Usage c.in-Err.index) old old c.in-Err.index c.in-Err.ensures.wrong asks

pub returns-in-Ok-Pace-clause-paces : goal.returns-in-Ok-Pace-clause-paces
returns-in-Ok-Pace-clause-paces g c = λ told shelved name step low high is.
    let old : Moment = moment (g.P.Port.history c.args.port.now) (g.P.Port.left c.args.port.now) (g.P.Port.read_faults c.args.port.now) (g.P.Port.write_faults c.args.port.now) in
    let new : Moment = moment (g.P.Port.history c.pace_within.new.port) (g.P.Port.left c.pace_within.new.port) (g.P.Port.read_faults c.pace_within.new.port) (g.P.Port.write_faults c.pace_within.new.port) in
    let file = g.H.Shelf.file c.args.shelf.now in
    let pace : Asks (command.Pace c.in-Ok-Pace.step) (texts c.args.words.now) = subst (λ k. Asks k (texts c.args.words.now)) c.in-Ok-Pace.field-0-is c.in-Ok-Pace.ensures.command in
    let same : c.in-Ok-Pace.step ≡ step = pace_once c.in-Ok-Pace.step step (texts c.args.words.now) pace (name, is, low, high) in
    let named : c.as_str-in-Ok-Pace.result.now ≡ name =
    let count : length (texts c.args.words.now) ≡ 4 = ap length is in
    c.as_str-in-Ok-Pace.ensures.value ∙ word_of 0 _ _ (sym (word_at c.args.words.now 1 c.index-words-1-in-Ok-Pace.result (omega (arith, count, length-map c.args.words.now string_bytes)) c.index-words-1-in-Ok-Pace.is) ∙ ap (λ x. drop 1 x) is) in
    subst (λ (s : ℕ). Paces file name s c.pace_within.result old new) same
    (subst (λ (n : List ℕ). Paces file n c.in-Ok-Pace.step c.pace_within.result old new) named (c.pace_within.ensures.paces told shelved))

pub returns-in-Err-clause-sends : goal.returns-in-Err-clause-sends
returns-in-Err-clause-sends g c = λ told shelved name is. absurd (c.in-Err.ensures.wrong.none (command.Mux, (name, is)))

pub returns-in-Err-clause-tries : goal.returns-in-Err-clause-tries
returns-in-Err-clause-tries g c = λ told shelved plan list is. absurd (c.in-Err.ensures.wrong.none (command.Trial, (plan, list, is)))

pub returns-in-Err-clause-paces : goal.returns-in-Err-clause-paces
returns-in-Err-clause-paces g c = λ told shelved name step low high is. absurd (c.in-Err.ensures.wrong.none (command.Pace step, (name, is, low, high)))
