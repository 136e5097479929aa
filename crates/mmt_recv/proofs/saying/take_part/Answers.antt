use Rattle.std.proofs.Common.{ap, sym, ◌∙◌}
use Rattle.std.specs.Prelude.{option_map, option_to_list}
use Rattle.std.specs.List.{flat_map}
use Rattle.mmt_runs.specs.Messages.{message_of}
use Rattle.mmt_naming.specs.Findings.{findings_of_joined}
use Rattle.mmt_recv.proofs.Said.{learned_silent, noted_silent}
use Rattle.mmt_recv.proofs.saying.take_part.Goals as goal

pub returns-in-None-clause-names : goal.returns-in-None-clause-names
returns-in-None-clause-names g c =
    learned_silent _ _ _
    (ap (λ ms. flat_map (findings_of_joined c.args.by.now.timescale c.args.by.now.tuned) ms) (sym (c.whole_message.ensures.message ∙ ap (λ o. option_to_list (option_map message_of o)) c.in-None.is)))

pub returns-in-None-clause-put : goal.returns-in-None-clause-put
returns-in-None-clause-put g c = λ told.
    noted_silent _ _ _ _ _
    (ap (λ ms. flat_map (findings_of_joined c.args.by.now.timescale c.args.by.now.tuned) ms) (sym (c.whole_message.ensures.message ∙ ap (λ o. option_to_list (option_map message_of o)) c.in-None.is)))
