use Rattle.std.proofs.Common.{refl}
use Rattle.mmt_model.specs.Delivery.{newest_first, onto}
use Rattle.mmt_stream.specs.declared.end.StreamEnd.TheVariants as end
use Rattle.mmt_gateway.specs.Passing.{expanding}
use Rattle.mmt_gateway.specs.PassingGrows.{expanding_grows}
use Rattle.mmt_cli.specs.Moments.{Moment, moment}
use Rattle.mmt_cli.proofs.Quiet.{not_begun}
use Rattle.mmt_cli.proofs.gateway.expand_within.Goals as goal

pub stream-requires-clause-new : goal.stream-requires-clause-new
unfolding newest_first onto
stream-requires-clause-new g c = (c.in-Ok.ensures.heard, c.in-Ok.ensures.none)

pub returns-in-Ok-clause-expands : goal.returns-in-Ok-clause-expands
returns-in-Ok-clause-expands g c = λ told.
    record { end = c.stream.result; told = c.from.ensures; does = c.stream.ensures.does told }

pub returns-in-Err-clause-expands : goal.returns-in-Err-clause-expands
returns-in-Err-clause-expands g c = λ told.
    let old : Moment = moment (g.P.Port.history c.args.port.now) (g.P.Port.left c.args.port.now) (g.P.Port.read_faults c.args.port.now) (g.P.Port.write_faults c.args.port.now) in
    record { end = end.OutOfMemory; told = refl; does = not_begun expanding c.args.limit old.history old.left old.reads old.writes expanding_grows }
