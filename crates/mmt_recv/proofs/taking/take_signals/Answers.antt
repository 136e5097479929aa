use Rattle.std.proofs.Common.{sym, subst}
use Rattle.mmt_packet.specs.Spelling.{view}
use Rattle.mmt_tune.specs.Tuning.{HeardAt}
use Rattle.mmt_io.specs.Output.{only_noted, Puts, PutsPrefix}
use Rattle.mmt_recv.specs.Taking.{rules_at}
use Rattle.mmt_pool.specs.Doing.{of_packet}
use Rattle.mmt_recv.proofs.Begun.{signalling_shut}
use Rattle.mmt_recv.proofs.Taken.{left_put, left_takes, signals_lines, signals_opened, signals_pass, signals_shut, takes_none, takes_signals, unopened}
use Rattle.mmt_recv.proofs.taking.take_signals.Goals as goal

pub returns-in-Ok-tell-clause-takes : goal.returns-in-Ok-tell-clause-takes
returns-in-Ok-tell-clause-takes g c =
    let h : HeardAt = record { place = c.args.by.now.place; packet = view c.args.packet.now } in
    takes_none (rules_at c.args.by.now c.args.pool.now.bound) c.args.pool.now c.args.names.now h (unopened (rules_at c.args.by.now c.args.pool.now.bound) _ h (signals_shut h _ c.requires.kind c.requires.id c.in-Err.ensures.exact)) c.requires.within

pub returns-in-Ok-tell-clause-outcome : goal.returns-in-Ok-tell-clause-outcome
returns-in-Ok-tell-clause-outcome g c =
    let h : HeardAt = record { place = c.args.by.now.place; packet = view c.args.packet.now } in
    sym (unopened (rules_at c.args.by.now c.args.pool.now.bound) _ h (signals_shut h _ c.requires.kind c.requires.id c.in-Err.ensures.exact))

pub keep-requires-clause-opened : goal.keep-requires-clause-opened
keep-requires-clause-opened g c = signals_opened (record { place = c.args.by.now.place; packet = view c.args.packet.now }) _ c.requires.kind c.requires.id c.in-Ok.ensures.exact

pub returns-in-Err-keep-clause-takes : goal.returns-in-Err-keep-clause-takes
returns-in-Err-keep-clause-takes g c =
    left_takes c.args.by.now.timescale c.args.by.now.tuned c.args.by.now.clock.0 c.args.pool.now c.args.names.now (record { place = c.args.by.now.place; packet = view c.args.packet.now }) c.keep.new.pool _ _
    c.in-Err-keep.ensures.keeps c.leave_out.ensures.memory

pub returns-in-Err-keep-clause-put : goal.returns-in-Err-keep-clause-put
returns-in-Err-keep-clause-put g c = λ told.
    left_put c.args.by.now.timescale c.args.by.now.tuned c.args.by.now.clock.0 c.args.pool.now c.args.names.now.entries (record { place = c.args.by.now.place; packet = view c.args.packet.now }) c.keep.new.pool _ _ _ _
    (signals_pass (record { place = c.args.by.now.place; packet = view c.args.packet.now }) _ c.requires.kind c.requires.id c.in-Ok.ensures.exact)
    c.in-Err-keep.ensures.keeps c.leave_out.ensures.memory (c.leave_out.ensures.put told)

pub returns-in-Ok-take_signals_of-clause-takes : goal.returns-in-Ok-take_signals_of-clause-takes
returns-in-Ok-take_signals_of-clause-takes g c =
    takes_signals c.args.by.now.timescale c.args.by.now.tuned c.args.by.now.clock.0 c.args.pool.now c.args.names.now (record { place = c.args.by.now.place; packet = view c.args.packet.now }) c.keep.new.pool c.take_signals_of.new.names _ _
    c.requires.kind c.in-Ok.ensures.exact c.in-Ok-keep.ensures.keeps.0 (c.in-Ok-keep.ensures.keeps.1 c.args.by.now.tuned.window) c.in-Ok-take_signals_of.ensures.names

pub returns-in-Ok-take_signals_of-clause-put : goal.returns-in-Ok-take_signals_of-clause-put
returns-in-Ok-take_signals_of-clause-put g c = λ told.
    subst (λ x. Puts (g.P.Port.history c.args.port.now) (g.P.Port.history c.take_signals_of.new.port) (only_noted x))
    (signals_lines c.args.by.now.timescale c.args.by.now.tuned c.args.by.now.clock.0 c.args.pool.now c.args.names.now.entries (record { place = c.args.by.now.place; packet = view c.args.packet.now }) c.keep.new.pool _ _
    c.requires.kind c.requires.id c.in-Ok.ensures.exact c.in-Ok-keep.ensures.keeps.0 (c.in-Ok-keep.ensures.keeps.1 c.args.by.now.tuned.window) c.args.at c.requires.place)
    (c.in-Ok-take_signals_of.ensures.put told)

pub returns-in-Err-take_signals_of-clause-put : goal.returns-in-Err-take_signals_of-clause-put
returns-in-Err-take_signals_of-clause-put g c = λ told.
    subst (λ x. PutsPrefix (g.P.Port.history c.args.port.now) (g.P.Port.history c.take_signals_of.new.port) (only_noted x))
    (signals_lines c.args.by.now.timescale c.args.by.now.tuned c.args.by.now.clock.0 c.args.pool.now c.args.names.now.entries (record { place = c.args.by.now.place; packet = view c.args.packet.now }) c.keep.new.pool _ _
    c.requires.kind c.requires.id c.in-Ok.ensures.exact c.in-Ok-keep.ensures.keeps.0 (c.in-Ok-keep.ensures.keeps.1 c.args.by.now.tuned.window) c.args.at c.requires.place)
    (c.in-Err-take_signals_of.ensures.put told)

pub keep-requires-clause-shut : goal.keep-requires-clause-shut
keep-requires-clause-shut g c = λ e. signalling_shut (of_packet c.args.packet.now) c.requires.kind
