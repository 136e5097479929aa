use Rattle.std.proofs.Common.{sym, subst}
use Rattle.std.specs.Prelude.{IsTrue}
use Rattle.mmt_gateway.proofs.Sending.{puts_both, puts_and_start, puts_start}
use Rattle.mmt_gateway.proofs.gathered.Gathered.send.Goals as goal

pub returns-in-Err-clause-put : goal.returns-in-Err-clause-put
returns-in-Err-clause-put g c = λ told.
    puts_start _ _ c.args.self.now.out.items c.args.self.now.notes.items (c.in-Err.ensures.put told)

pub returns-in-Ok-note-clause-put : goal.returns-in-Ok-note-clause-put
returns-in-Ok-note-clause-put g c = λ told.
    puts_both _ _ _ c.args.self.now.out.items c.args.self.now.notes.items (c.in-Ok.ensures.put told)
    (c.in-Ok-note.ensures.put (subst IsTrue (sym c.write.ensures.sends.telling) told))

pub returns-in-Err-note-clause-put : goal.returns-in-Err-note-clause-put
returns-in-Err-note-clause-put g c = λ told.
    puts_and_start _ _ _ c.args.self.now.out.items c.args.self.now.notes.items (c.in-Ok.ensures.put told)
    (c.in-Err-note.ensures.put (subst IsTrue (sym c.write.ensures.sends.telling) told))
