use Rattle.std.proofs.Common.{refl, subst}
use Rattle.mmt_model.specs.Delivery.{newest_first, onto}
use Rattle.mmt_stream.specs.Streaming.{Does}
use Rattle.mmt_stream.specs.declared.end.StreamEnd.TheVariants as end
use Rattle.mmt_gate.specs.Flows.{Options, headers}
use Rattle.mmt_gateway.specs.Passing.{squeezing}
use Rattle.mmt_gateway.specs.PassingGrows.{squeezing_grows}
use Rattle.mmt_cli.specs.Gateways.{options_of}
use Rattle.mmt_cli.specs.Moments.{Moment, moment}
use Rattle.mmt_cli.proofs.Quiet.{not_begun}
use Rattle.mmt_cli.proofs.gateway.squeeze_within.Goals as goal

pub stream-requires-clause-new : goal.stream-requires-clause-new
unfolding newest_first onto headers
stream-requires-clause-new g c = (c.in-Ok.ensures.squeezed, c.in-Ok.ensures.none)

pub returns-in-Ok-clause-squeezes : goal.returns-in-Ok-clause-squeezes
returns-in-Ok-clause-squeezes g c = λ told.
    let old : Moment = moment (g.P.Port.history c.args.port.now) (g.P.Port.left c.args.port.now) (g.P.Port.read_faults c.args.port.now) (g.P.Port.write_faults c.args.port.now) in
    let new : Moment = moment (g.P.Port.history c.stream.new.port) (g.P.Port.left c.stream.new.port) (g.P.Port.read_faults c.stream.new.port) (g.P.Port.write_faults c.stream.new.port) in
    record {
      end = c.stream.result;
      told = c.from.ensures;
      does = subst (λ (o : Options). Does (squeezing o) c.args.limit c.stream.result old.history new.history old.left new.left old.reads new.reads old.writes new.writes)
          c.in-Ok.ensures.options (c.stream.ensures.does told);
    }

pub returns-in-Err-clause-squeezes : goal.returns-in-Err-clause-squeezes
returns-in-Err-clause-squeezes g c = λ told.
    let old : Moment = moment (g.P.Port.history c.args.port.now) (g.P.Port.left c.args.port.now) (g.P.Port.read_faults c.args.port.now) (g.P.Port.write_faults c.args.port.now) in
    record {
      end = end.OutOfMemory;
      told = refl;
      does = not_begun (squeezing (options_of c.args.context c.args.full_every)) c.args.limit old.history old.left old.reads old.writes (squeezing_grows (options_of c.args.context c.args.full_every));
    }
