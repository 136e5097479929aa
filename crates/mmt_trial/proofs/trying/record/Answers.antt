use Rattle.std.proofs.Common.{inl, List, ℕ, ◌++◌, map, refl, ap, sym, ◌∙◌}
use Rattle.mmt_io.specs.History.{Event}
use Rattle.mmt_io.specs.History.Event.{Out}
use Rattle.mmt_send.specs.Files.{files_on}
use Rattle.mmt_send.specs.Writes.{pieces}
use Rattle.mmt_sent.specs.Stream.{stream}
use Rattle.mmt_trial.proofs.Heard.{recorded}
use Rattle.mmt_trial.proofs.trying.record.Goals as goal

pub send-requires-clause-cast : goal.send-requires-clause-cast
send-requires-clause-cast g c = inl c.requires.cast

pub returns-in-Ok-clause-sent : goal.returns-in-Ok-clause-sent
returns-in-Ok-clause-sent g c = λ t.
    let packets = stream c.args.programme.now c.args.cast.now (files_on (g.H.Shelf.file c.args.shelf.now) c.args.programme.now) in
    recorded c.send.new.port packets (c.in-Ok.ensures.done t refl ∙ ap (λ (p : List (List ℕ)). map Out p ++ pieces packets) c.new-sent.ensures)
