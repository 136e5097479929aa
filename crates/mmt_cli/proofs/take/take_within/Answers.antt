use Rattle.std.proofs.Common.{refl, subst, sym}
use Rattle.mmt_stream.specs.Streaming.{Does}
use Rattle.mmt_stream.specs.declared.end.StreamEnd.TheVariants as end
use Rattle.mmt_recv.specs.Receiving.{Stands}
use Rattle.mmt_take.specs.Taking.{taking}
use Rattle.mmt_take.specs.TakingGrows.{taking_grows, placed_none}
use Rattle.mmt_cli.specs.Moments.{Moment, moment}
use Rattle.mmt_cli.proofs.Quiet.{not_begun}
use Rattle.mmt_cli.proofs.take.take_within.Goals as goal

pub stream-requires-clause-new : goal.stream-requires-clause-new
stream-requires-clause-new g c = (subst (λ l. Stands c.in-Ok.command l) (sym placed_none) c.in-Ok.ensures.stands, refl)

pub returns-in-Ok-clause-takes : goal.returns-in-Ok-clause-takes
returns-in-Ok-clause-takes g c = λ told.
    let old : Moment = moment (g.P.Port.history c.args.port.now) (g.P.Port.left c.args.port.now) (g.P.Port.read_faults c.args.port.now) (g.P.Port.write_faults c.args.port.now) in
    let new : Moment = moment (g.P.Port.history c.stream.new.port) (g.P.Port.left c.stream.new.port) (g.P.Port.read_faults c.stream.new.port) (g.P.Port.write_faults c.stream.new.port) in
    record {
      end = c.stream.result;
      told = c.from.ensures;
      does = subst (λ k. Does (taking k) c.args.limit c.stream.result old.history new.history old.left new.left old.reads new.reads old.writes new.writes) c.in-Ok.ensures.config (c.stream.ensures.does told);
    }

pub returns-in-Err-clause-takes : goal.returns-in-Err-clause-takes
returns-in-Err-clause-takes g c = λ told.
    let old : Moment = moment (g.P.Port.history c.args.port.now) (g.P.Port.left c.args.port.now) (g.P.Port.read_faults c.args.port.now) (g.P.Port.write_faults c.args.port.now) in
    record {
      end = end.OutOfMemory;
      told = refl;
      does = not_begun (taking c.args.config) c.args.limit old.history old.left old.reads old.writes (taking_grows c.args.config);
    }
