use Rattle.std.proofs.Common.{◌+◌, ap, arith}
use Rattle.mmt_packet.specs.Spelling.{view}
use Rattle.mmt_tune.specs.Tuning.{HeardAt}
use Rattle.mmt_recv.specs.Taking.{rules_at}
use Rattle.mmt_recv.proofs.Heads.{head_is, head_small}
use Rattle.mmt_recv.proofs.Taken.{elsewhere_shut, generic_shut, outcome_unopened, takes_shut}
use Rattle.mmt_recv.proofs.taking.take_packet.Goals as goal

pub take_media-requires-clause-place : goal.take_media-requires-clause-place
take_media-requires-clause-place g c = ap (λ n. c.args.by.now.place + n) (head_is (view c.args.packet.now) c.header_length.result c.header_length.ensures)

pub take_media-requires-clause-small : goal.take_media-requires-clause-small
take_media-requires-clause-small g c =
    omega (arith, c.requires.place, head_is (view c.args.packet.now) c.header_length.result c.header_length.ensures, head_small (view c.args.packet.now) c.requires.fits)

pub take_signals-requires-clause-place : goal.take_signals-requires-clause-place
take_signals-requires-clause-place g c = ap (λ n. c.args.by.now.place + n) (head_is (view c.args.packet.now) c.header_length.result c.header_length.ensures)

pub take_signals-requires-clause-small : goal.take_signals-requires-clause-small
take_signals-requires-clause-small g c =
    omega (arith, c.requires.place, head_is (view c.args.packet.now) c.header_length.result c.header_length.ensures, head_small (view c.args.packet.now) c.requires.fits)

pub returns-in-Generic-clause-takes : goal.returns-in-Generic-clause-takes
returns-in-Generic-clause-takes g c =
    let h : HeardAt = record { place = c.args.by.now.place; packet = view c.args.packet.now } in
    takes_shut (rules_at c.args.by.now c.args.pool.now.bound) c.args.pool.now c.args.names.now h c.pass_by.result (generic_shut h c.in-Generic.is) c.requires.within

pub returns-in-Generic-clause-outcome : goal.returns-in-Generic-clause-outcome
returns-in-Generic-clause-outcome g c =
    let h : HeardAt = record { place = c.args.by.now.place; packet = view c.args.packet.now } in
    outcome_unopened (rules_at c.args.by.now c.args.pool.now.bound) _ h c.pass_by.result (generic_shut h c.in-Generic.is) c.pass_by.ensures.outcome

pub returns-else-packet-eq0-clause-takes : goal.returns-else-packet-eq0-clause-takes
returns-else-packet-eq0-clause-takes g c =
    let h : HeardAt = record { place = c.args.by.now.place; packet = view c.args.packet.now } in
    takes_shut (rules_at c.args.by.now c.args.pool.now.bound) c.args.pool.now c.args.names.now h c.pass_by-else-packet-eq0.result (elsewhere_shut h c.in-Signalling.is c.if-packet-eq0.false) c.requires.within

pub returns-else-packet-eq0-clause-outcome : goal.returns-else-packet-eq0-clause-outcome
returns-else-packet-eq0-clause-outcome g c =
    let h : HeardAt = record { place = c.args.by.now.place; packet = view c.args.packet.now } in
    outcome_unopened (rules_at c.args.by.now c.args.pool.now.bound) _ h c.pass_by-else-packet-eq0.result (elsewhere_shut h c.in-Signalling.is c.if-packet-eq0.false) c.pass_by-else-packet-eq0.ensures.outcome
