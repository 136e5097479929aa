use Rattle.std.proofs.Common.{sym}
use Rattle.mmt_packet.specs.Spelling.{view}
use Rattle.mmt_tune.specs.Tuning.{HeardAt}
use Rattle.mmt_recv.specs.Taking.{rules_at}
use Rattle.mmt_pool.specs.Doing.{of_packet}
use Rattle.mmt_recv.proofs.Begun.{media_shut_by}
use Rattle.mmt_recv.proofs.Taken.{left_put, left_takes, media_opened, media_passes, media_shut, media_silent, takes_media, takes_none, unopened}
use Rattle.mmt_recv.proofs.taking.take_media.Goals as goal

pub keep-requires-clause-opened : goal.keep-requires-clause-opened
keep-requires-clause-opened g c = media_opened (record { place = c.args.by.now.place; packet = view c.args.packet.now }) _ c.requires.kind c.in-Ok.ensures.exact

pub returns-in-Ok-keep-clause-takes : goal.returns-in-Ok-keep-clause-takes
returns-in-Ok-keep-clause-takes g c =
    takes_media c.args.by.now.timescale c.args.by.now.tuned c.args.by.now.clock.0 c.args.pool.now c.args.names.now (record { place = c.args.by.now.place; packet = view c.args.packet.now }) c.keep.new.pool _ c.requires.kind c.in-Ok.ensures.exact
    (c.in-Ok-keep.ensures.keeps.1 c.args.by.now.tuned.window)

pub returns-in-Ok-keep-clause-put : goal.returns-in-Ok-keep-clause-put
returns-in-Ok-keep-clause-put g c = λ told.
    media_silent c.args.by.now.timescale c.args.by.now.tuned c.args.by.now.clock.0 c.args.pool.now c.args.names.now.entries (record { place = c.args.by.now.place; packet = view c.args.packet.now }) c.keep.new.pool _ c.requires.kind c.in-Ok.ensures.exact
    (c.in-Ok-keep.ensures.keeps.1 c.args.by.now.tuned.window) _

pub returns-in-Err-keep-clause-takes : goal.returns-in-Err-keep-clause-takes
returns-in-Err-keep-clause-takes g c =
    left_takes c.args.by.now.timescale c.args.by.now.tuned c.args.by.now.clock.0 c.args.pool.now c.args.names.now (record { place = c.args.by.now.place; packet = view c.args.packet.now }) c.keep.new.pool _ _
    c.in-Err-keep.ensures.keeps c.leave_out.ensures.memory

pub returns-in-Err-keep-clause-put : goal.returns-in-Err-keep-clause-put
returns-in-Err-keep-clause-put g c = λ told.
    left_put c.args.by.now.timescale c.args.by.now.tuned c.args.by.now.clock.0 c.args.pool.now c.args.names.now.entries (record { place = c.args.by.now.place; packet = view c.args.packet.now }) c.keep.new.pool _ _ _ _
    (media_passes (record { place = c.args.by.now.place; packet = view c.args.packet.now }) _ c.requires.kind c.in-Ok.ensures.exact)
    c.in-Err-keep.ensures.keeps c.leave_out.ensures.memory (c.leave_out.ensures.put told)

pub returns-in-Ok-tell-clause-takes : goal.returns-in-Ok-tell-clause-takes
returns-in-Ok-tell-clause-takes g c =
    let h : HeardAt = record { place = c.args.by.now.place; packet = view c.args.packet.now } in
    takes_none (rules_at c.args.by.now c.args.pool.now.bound) c.args.pool.now c.args.names.now h (unopened (rules_at c.args.by.now c.args.pool.now.bound) _ h (media_shut h _ c.requires.kind c.in-Err.ensures.exact)) c.requires.within

pub returns-in-Ok-tell-clause-outcome : goal.returns-in-Ok-tell-clause-outcome
returns-in-Ok-tell-clause-outcome g c =
    let h : HeardAt = record { place = c.args.by.now.place; packet = view c.args.packet.now } in
    sym (unopened (rules_at c.args.by.now c.args.pool.now.bound) _ h (media_shut h _ c.requires.kind c.in-Err.ensures.exact))

pub keep-requires-clause-shut : goal.keep-requires-clause-shut
keep-requires-clause-shut g c = λ e. media_shut_by (of_packet c.args.packet.now) _ c.requires.kind c.in-Ok.ensures.exact (c.may_begin-begins.ensures e)
