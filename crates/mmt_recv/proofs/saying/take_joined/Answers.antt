use Rattle.std.proofs.Common.{ap, ◌∙◌}
use Rattle.mmt_runs.specs.Messages.{message_of}
use Rattle.mmt_naming.specs.Lines.{learned_by, lines_of}
use Rattle.mmt_naming.proofs.One.{learned_none, lines_remark, on_ok}
use Rattle.mmt_recv.proofs.Lines.{put_same}
use Rattle.mmt_recv.proofs.Said.{too_long}
use Rattle.mmt_recv.proofs.saying.take_joined.Goals as goal

pub returns-then-length-gt-LONGEST-clause-names : goal.returns-then-length-gt-LONGEST-clause-names
returns-then-length-gt-LONGEST-clause-names g c =
    on_ok c.tell.result
    (learned_none c.args.by.now.clock.0 c.args.names.now
    ∙ ap (λ fs. learned_by c.args.by.now.clock.0 c.args.names.now fs) (too_long c.args.by.now.timescale c.args.by.now.tuned (message_of c.args.parts) c.length-length.result c.length-length.ensures c.if-length-gt-LONGEST.true))

pub returns-then-length-gt-LONGEST-clause-put : goal.returns-then-length-gt-LONGEST-clause-put
returns-then-length-gt-LONGEST-clause-put g c = λ told.
    put_same _ _ _ _ _
    (lines_remark c.args.by.now.place c.args.by.now.clock.0 c.args.names.now.entries _
    ∙ ap (λ fs. lines_of c.args.by.now.place c.args.by.now.clock.0 c.args.names.now.entries fs) (too_long c.args.by.now.timescale c.args.by.now.tuned (message_of c.args.parts) c.length-length.result c.length-length.ensures c.if-length-gt-LONGEST.true))
    (c.tell.ensures.put told)
